-- What the parser finds.
use Rattle.std.specs.Prelude.{◌≡◌, ℕ, ◌+◌, [], ◌∷◌, ◌++◌, ◌<◌, ◌≤◌, true, Bool, false, List, length, Ok, Err, ◌⊎◌}
use Rattle.formula_tree.specs.declared.function.Function.{Function as AtFunction}
use Rattle.formula_tree.specs.declared.ast.Op.{Op}
use Rattle.formula_tree.specs.View.{listed}
use Rattle.formula_tree.specs.Table.{counts_of, takes}
use Rattle.formula_tree.specs.Tree.{Tree, num, str, cell, span, group, neg, not, binary, call, Trees, no_trees, trees}
use Rattle.formula_tree.specs.Shape.{count, every, every_one, is_bracketed, lowest, top}
use Rattle.formula_text.specs.declared.fault.ParseFault.{ParseFault}
use Rattle.formula_text.specs.declared.fault.ParseFault.TheVariants.{Memory}
use Rattle.formula_text.specs.declared.lexeme.LexemeKind.{LexemeKind}
use Rattle.formula_text.specs.declared.lexeme.LexemeKind.TheVariants.{Comma}
use Rattle.formula_text.specs.declared.lexeme.Lexeme.{Lexeme}
use Rattle.formula_text.specs.declared.parse.Bracket.{Bracket}
use Rattle.formula_text.specs.declared.parse.Bracket.TheVariants.{Plain, Call}
use Rattle.formula_text.specs.Tokens.{Token, tokens, called, closing, comma}
use Rattle.formula_text.specs.Accepts.{after, bracket_first, front_row, innermost, operand_first, operator_first, Brackets}
use Rattle.formula_text.specs.inner.Levels.{next_level}

-- whether a call with arguments has as many as its function takes
abbrev pub takes_these : AtFunction → Trees → Bool
takes_these f no_trees = true
takes_these f (trees t ts) = takes (counts_of f) (count (trees t ts))

-- whether a node, if it is a call, has as many arguments as its function takes
abbrev pub is_called : Tree → Bool
is_called (num v) = true
is_called (str t) = true
is_called (cell r) = true
is_called (span a b) = true
is_called (group a) = true
is_called (neg a) = true
is_called (not a) = true
is_called (binary op a b) = true
is_called (call f ts) = takes_these f ts

-- a tree is read from the front of the parts, whose operators outside brackets bind at least so tightly
pub record Reads (ls : List Lexeme) (least : ℕ) (t : Tree) (rest : List Lexeme) : Type 0 where
  pub spelled : (bs : Brackets) → operand_first ls bs ≡ after (tokens t) (operator_first rest bs)
  pub well : every is_bracketed t ≡ true
  pub counted : every is_called t ≡ true
  pub tight : least ≤ top t
  pub ended : next_level rest < least
  pub edge : next_level rest ≤ lowest t
  pub shorter : length rest < length ls

-- the same of one operand
pub record ReadsOperand (ls : List Lexeme) (t : Tree) (rest : List Lexeme) : Type 0 where
  pub spelled : (bs : Brackets) → operand_first ls bs ≡ after (tokens t) (operator_first rest bs)
  pub well : every is_bracketed t ≡ true
  pub counted : every is_called t ≡ true
  pub tight : top t ≡ 8
  pub edge : next_level rest ≤ lowest t
  pub shorter : length rest < length ls

-- a tree is read so far, and an operator may follow
pub record Grown (ls : List Lexeme) (least : ℕ) (t : Tree) (rest : List Lexeme) : Type 0 where
  pub spelled : (bs : Brackets) → operand_first ls bs ≡ after (tokens t) (operator_first rest bs)
  pub well : every is_bracketed t ≡ true
  pub counted : every is_called t ≡ true
  pub tight : least ≤ top t
  pub edge : next_level rest ≤ lowest t
  pub shorter : length rest < length ls

-- a function's arguments are read, from its opening bracket on
pub record ReadsCall (ls : List Lexeme) (f : AtFunction) (t : Tree) (rest : List Lexeme) : Type 0 where
  pub spelled :
      (bs : Brackets) → after (called f ∷ []) (bracket_first ls f bs) ≡ after (tokens t) (operator_first rest bs)
  pub well : every is_bracketed t ≡ true
  pub counted : every is_called t ≡ true
  pub tight : top t ≡ 8
  pub edge : next_level rest ≤ lowest t
  pub shorter : length rest < length ls

-- an operator in front is read with its operand
pub record ReadsSigned (op : Op) (at : ℕ) (ls : List Lexeme) (t : Tree) (rest : List Lexeme) : Type 0 where
  pub spelled : (bs : Brackets) → front_row op at bs (operand_first ls) ≡ after (tokens t) (operator_first rest bs)
  pub well : every is_bracketed t ≡ true
  pub counted : every is_called t ≡ true
  pub tight : top t ≡ 8
  pub edge : next_level rest ≤ lowest t
  pub shorter : length rest < length ls

-- the tokens of further arguments
abbrev pub commaed : List Tree → List Token
commaed [] = []
commaed (t ∷ ts) = comma ∷ (tokens t ++ commaed ts)

-- the tokens of arguments, with commas between them
abbrev pub joined : List Tree → List Token
joined [] = []
joined (t ∷ ts) = tokens t ++ commaed ts

-- these arguments are read so far, of which the last may be followed by another
pub record Listed (ls : List Lexeme) (f : AtFunction) (count : ℕ) (ts : List Tree) (rest : List Lexeme) : Type 0 where
  pub spelled : (bs : Brackets) → bracket_first ls f bs ≡ after (joined ts) (operator_first rest (Call f count ∷ bs))
  pub well : every_one is_bracketed (listed ts) ≡ true
  pub counted : every_one is_called (listed ts) ≡ true
  pub many : length ts ≡ count + 1
  pub ended : next_level rest ≡ 0
  pub shorter : count + length rest < length ls

-- memory ran out, or it is the first fault in this bracket
abbrev pub IsFault : List Lexeme → Bracket → ParseFault → Type 0
IsFault ls inside f = (f ≡ Memory) ⊎ ((bs : Brackets) → innermost bs ≡ inside → operand_first ls bs ≡ Err f)

-- the same from a function's opening bracket on
abbrev pub IsCallFault : List Lexeme → AtFunction → ParseFault → Type 0
IsCallFault ls function f = (f ≡ Memory) ⊎ ((bs : Brackets) → bracket_first ls function bs ≡ Err f)

-- the same from an operator in front on
abbrev pub IsSignedFault : Op → ℕ → List Lexeme → Bracket → ParseFault → Type 0
IsSignedFault op at ls inside f =
    (f ≡ Memory) ⊎ ((bs : Brackets) → innermost bs ≡ inside → front_row op at bs (operand_first ls) ≡ Err f)

-- a function's bracket opens, and the rest follows it
pub record Opens (ls : List Lexeme) (f : AtFunction) (rest : List Lexeme) : Type 0 where
  pub spelled : (bs : Brackets) → bracket_first ls f bs ≡ operand_first rest (Call f 0 ∷ bs)
  pub shorter : length rest < length ls

-- a bracket closes, and the rest follows it
pub record Closes (ls : List Lexeme) (rest : List Lexeme) : Type 0 where
  pub spelled : (bs : Brackets) → operator_first ls (Plain ∷ bs) ≡ after (closing ∷ []) (operator_first rest bs)
  pub shorter : length rest < length ls

-- no operator and no closing bracket follows an operand inside a bracket
abbrev pub NoOperator : List Lexeme → ParseFault → Type 0
NoOperator ls f = (bs : Brackets) → operator_first ls (Plain ∷ bs) ≡ Err f

-- another argument follows
pub record Continues (ls rest : List Lexeme) : Type 0 where
  pub spelled :
      (f : AtFunction) (n : ℕ) (bs : Brackets)
      → operator_first ls (Call f n ∷ bs) ≡ after (comma ∷ []) (operand_first rest (Call f (n + 1) ∷ bs))
  pub shorter : length rest < length ls

-- the last argument, behind so many, is followed by the closing bracket
pub record Completes (ls : List Lexeme) (f : AtFunction) (n : ℕ) (rest : List Lexeme) : Type 0 where
  pub spelled : (bs : Brackets) → operator_first ls (Call f n ∷ bs) ≡ after (closing ∷ []) (operator_first rest bs)
  pub taken : takes (counts_of f) (n + 1) ≡ true
  pub shorter : length rest < length ls

-- whether a part is a comma
abbrev pub is_comma : LexemeKind → Bool
is_comma Comma = true
is_comma other = false

-- whether a comma stands first
abbrev pub comma_first : List Lexeme → Bool
comma_first [] = false
comma_first (l ∷ ls) = is_comma l.kind
