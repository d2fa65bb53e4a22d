-- Which lists of parts are formulas, and else the first fault.
use Rattle.std.specs.Prelude.{ℕ, ◌+◌, List, [], ◌∷◌, ◌++◌, Result, Ok, Err, if◌then◌else◌}
use Rattle.formula_tree.specs.declared.function.Function.{Function as AtFunction}
use Rattle.formula_tree.specs.declared.ast.Op.{Op}
use Rattle.formula_tree.specs.declared.ast.Op.TheVariants.{Add, Sub}
use Rattle.formula_tree.specs.Table.{counts_of, takes}
use Rattle.formula_text.specs.declared.fault.ParseFault.{ParseFault}
use Rattle.formula_text.specs.declared.fault.ParseFault.TheVariants.{ArgCount, Ended, Unexpected}
use Rattle.formula_text.specs.declared.lexeme.LexemeKind.{LexemeKind}
use Rattle.formula_text.specs.declared.lexeme.LexemeKind.TheVariants.{Bad, Cell, Close, Comma, Constant, Function, Infix, Not, Num, Open, Span, Str, Unclosed}
use Rattle.formula_text.specs.declared.lexeme.Lexeme.{Lexeme}
use Rattle.formula_text.specs.declared.parse.Bracket.{Bracket}
use Rattle.formula_text.specs.declared.parse.Bracket.TheVariants.{Plain, Call}
use Rattle.formula_text.specs.Tokens.{Token, number, text, place, places, constant, called, opening, closing, comma, front_minus, front_not, infix_op}

-- the tokens of parts, or why they are no formula
abbrev pub Verdict : Type 0
Verdict = Result (List Token) ParseFault

-- these tokens, and then the others
abbrev pub after : List Token → Verdict → Verdict
after front (Ok ts) = Ok (front ++ ts)
after front (Err f) = Err f

-- the open brackets, the innermost first; a function's has so many complete arguments
abbrev pub Brackets : Type 0
Brackets = List Bracket

-- the bracket that the next closing one closes; where none is open it is as within round brackets
abbrev pub innermost : Brackets → Bracket
innermost [] = Plain
innermost (b ∷ bs) = b

-- the text is at its end
abbrev pub at_end : Brackets → Verdict
at_end [] = Ok []
at_end (b ∷ bs) = Err Ended

-- a closing bracket where an operand is wanted: complete arguments are counted
abbrev pub missing : ℕ → Bracket → ParseFault
missing at Plain = Unexpected at
missing at (Call f n) = if takes (counts_of f) n then Unexpected at else ArgCount at

-- an operator where an operand is wanted: a plus or a minus stands in front, and no other does
abbrev pub front_row : Op → ℕ → Brackets → (Brackets → Verdict) → Verdict
front_row Add at bs operand = operand bs
front_row Sub at bs operand = after (front_minus ∷ []) (operand bs)
front_row other at bs operand = Err (Unexpected at)

-- one row of the table where an operand is wanted
abbrev pub operand_row : LexemeKind → ℕ → Brackets → (Brackets → Verdict) → (Brackets → Verdict)
    → (AtFunction → Brackets → Verdict) → Verdict
operand_row (Num v) at bs operand operator bracket = after (number v ∷ []) (operator bs)
operand_row (Str t) at bs operand operator bracket = after (text t ∷ []) (operator bs)
operand_row (Cell r) at bs operand operator bracket = after (place r ∷ []) (operator bs)
operand_row (Span a b) at bs operand operator bracket = after (places a b ∷ []) (operator bs)
operand_row (Constant f) at bs operand operator bracket = after (constant f ∷ []) (operator bs)
operand_row (Function f) at bs operand operator bracket = after (called f ∷ []) (bracket f bs)
operand_row (Infix op) at bs operand operator bracket = front_row op at bs operand
operand_row Not at bs operand operator bracket = after (front_not ∷ []) (operand bs)
operand_row Open at bs operand operator bracket = after (opening ∷ []) (operand (Plain ∷ bs))
operand_row Close at bs operand operator bracket = Err (missing at (innermost bs))
operand_row Comma at bs operand operator bracket = Err (Unexpected at)
operand_row Unclosed at bs operand operator bracket = Err Ended
operand_row (Bad f) at bs operand operator bracket = Err f

-- a comma stands in a function's brackets alone
abbrev pub comma_row : ℕ → Brackets → (Brackets → Verdict) → Verdict
comma_row at [] operand = Err (Unexpected at)
comma_row at (Plain ∷ bs) operand = Err (Unexpected at)
comma_row at (Call f n ∷ bs) operand = after (comma ∷ []) (operand (Call f (n + 1) ∷ bs))

-- a closing bracket, at which a function has one more complete argument
abbrev pub close_row : ℕ → Brackets → (Brackets → Verdict) → Verdict
close_row at [] operator = Err (Unexpected at)
close_row at (Plain ∷ bs) operator = after (closing ∷ []) (operator bs)
close_row at (Call f n ∷ bs) operator =
    if takes (counts_of f) (n + 1) then after (closing ∷ []) (operator bs) else Err (ArgCount at)

-- where an operator is wanted; any other part is refused
abbrev pub operator_row : LexemeKind → ℕ → Brackets → (Brackets → Verdict) → (Brackets → Verdict) → Verdict
operator_row (Infix op) at bs operand operator = after (infix_op op ∷ []) (operand bs)
operator_row Comma at bs operand operator = comma_row at bs operand
operator_row Close at bs operand operator = close_row at bs operator
operator_row (Bad f) at bs operand operator = Err f
operator_row other at bs operand operator = Err (Unexpected at)

-- where a function's opening bracket is wanted; any other part is refused
abbrev pub bracket_row : LexemeKind → ℕ → Verdict → Verdict
bracket_row Open at operand = operand
bracket_row (Bad f) at operand = Err f
bracket_row other at operand = Err (Unexpected at)

-- the tokens, where these brackets are open and an operand, an operator or a function's bracket is wanted, or the first
-- fault
abbrev mutual
  pub operand_first : List Lexeme → Brackets → Verdict
  operand_first [] bs = Err Ended
  operand_first (l ∷ ls) bs = operand_row l.kind l.at bs (operand_first ls) (operator_first ls) (bracket_first ls)

  pub operator_first : List Lexeme → Brackets → Verdict
  operator_first [] bs = at_end bs
  operator_first (l ∷ ls) bs = operator_row l.kind l.at bs (operand_first ls) (operator_first ls)

  pub bracket_first : List Lexeme → AtFunction → Brackets → Verdict
  bracket_first [] f bs = Err Ended
  bracket_first (l ∷ ls) f bs = bracket_row l.kind l.at (operand_first ls (Call f 0 ∷ bs))
