-- A tree grows by an operator and what stands on its right.
use Rattle.std.proofs.Common.{◌≡◌, ℕ, ◌+◌, ◌≤◌, Bool, true, ◌&&◌, nat_le, nat_lt, List, [], ◌∷◌, ◌++◌, drop, Ok, Err}
use Rattle.std.proofs.Common.{Some, refl, sym, ap, ◌∙◌, arith, append_assoc, length-drop}
use Rattle.std.proofs.lemmas.Bool.Decides.{nat_tests}
use Rattle.formula_tree.specs.declared.ast.Op.{Op}
use Rattle.formula_tree.specs.Tree.{Tree, binary}
use Rattle.formula_tree.specs.Shape.{level, top, lowest}
use Rattle.formula_text.specs.declared.lexeme.LexemeKind.{LexemeKind}
use Rattle.formula_text.specs.declared.lexeme.LexemeKind.TheVariants.{Bad, Cell, Close, Comma, Constant, Function}
use Rattle.formula_text.specs.declared.lexeme.LexemeKind.TheVariants.{Infix, Not, Num, Open, Span, Str, Unclosed}
use Rattle.formula_text.specs.declared.lexeme.Lexeme.{Lexeme}
use Rattle.formula_text.specs.Tokens.{Token, tokens, infix_op}
use Rattle.formula_text.specs.Accepts.{Brackets, Verdict, after, operand_first, operator_first, operator_row}
use Rattle.formula_text.specs.inner.Levels.{operator_in, operator_of, level_of, next_level}
use Rattle.formula_text.specs.inner.Reads.{Reads, Grown}

-- tokens behind others are those of both joined
pub after-after : (xs ys : List Token) (v : Verdict) → after xs (after ys v) ≡ after (xs ++ ys) v
after-after xs ys (Ok ts) = ap Ok (sym (append_assoc xs ys ts))
after-after xs ys (Err f) = refl

operator_step : (k : LexemeKind) (op : Op) → operator_in k ≡ Some op
    → (at : ℕ) (bs : Brackets) (operand operator : Brackets → Verdict) →
    operator_row k at bs operand operator ≡ after (infix_op op ∷ []) (operand bs)
operator_step (Infix o) op h at bs operand operator = cc
operator_step (Num v) op h at bs operand operator = cc
operator_step (Str v) op h at bs operand operator = cc
operator_step (Cell r) op h at bs operand operator = cc
operator_step (Span a b) op h at bs operand operator = cc
operator_step (Constant f) op h at bs operand operator = cc
operator_step (Function f) op h at bs operand operator = cc
operator_step Not op h at bs operand operator = cc
operator_step Open op h at bs operand operator = cc
operator_step Close op h at bs operand operator = cc
operator_step Comma op h at bs operand operator = cc
operator_step Unclosed op h at bs operand operator = cc
operator_step (Bad f) op h at bs operand operator = cc

operator_taken : (ls : List Lexeme) (op : Op) (bs : Brackets) → operator_of ls ≡ Some op
    → operator_first ls bs ≡ after (infix_op op ∷ []) (operand_first (drop 1 ls) bs)
operator_taken [] op bs h = cc
operator_taken (l ∷ ls) op bs h = operator_step l.kind op h l.at bs (operand_first ls) (operator_first ls)

well_grown : (l m t : ℕ) (a b : Bool) → a ≡ true → b ≡ true → l ≤ m → l + 1 ≤ t
    → ((nat_le l m && nat_lt l t) && (a && b)) ≡ true
well_grown l m t a b p q h k = grind (arith, nat_tests)

both : (a b : Bool) → a ≡ true → b ≡ true → (true && (a && b)) ≡ true
both a b p q = grind arith

-- with an operator that binds tightly enough, and its right operand, the tree that is read so far grows
pub grown : (ls : List Lexeme) (least : ℕ) (left right : Tree) (rest others : List Lexeme) (op : Op)
    → Grown ls least left rest → operator_of rest ≡ Some op → least ≤ level op
    → Reads (drop 1 rest) (level op + 1) right others → Grown ls least (binary op left right) others
grown ls least left right rest others op g h low r =
    let e : next_level rest ≡ level op = ap level_of h in
    record {
      spelled = λ bs.
          g.spelled bs
          ∙ ap (after (tokens left)) (operator_taken rest op bs h ∙ ap (after (infix_op op ∷ [])) (r.spelled bs))
          ∙ ap (after (tokens left)) (after-after (infix_op op ∷ []) (tokens right) (operator_first others bs))
          ∙ after-after (tokens left) (infix_op op ∷ tokens right) (operator_first others bs);
      well = well_grown (level op) (lowest left) (top right) _ _ g.well r.well (omega (arith, e, g.edge)) r.tight;
      counted = both _ _ g.counted r.counted;
      tight = low;
      edge = omega arith;
      shorter = omega (arith, g.shorter, r.shorter, length-drop 1 rest);
    }
