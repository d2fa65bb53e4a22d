-- The tree of a text that is accepted is a formula's.
use Rattle.std.proofs.Common.{◌≡◌, ℕ, suc, ◌+◌, ◌*◌, ◌≤◌, Bool, true, false, cond, ◌&&◌, nat_le, List, [], ◌∷◌, ◌++◌}
use Rattle.std.proofs.Common.{length, Ok, Err, refl, subst, arith, length-append}
use Rattle.std.proofs.lemmas.Bool.Decides.{nat_tests}
use Rattle.std.proofs.lemmas.Bool.{and_from, and_parts}
use Rattle.std.specs.List.{list_all}
use Rattle.formula_tree.specs.declared.function.Function.{Function as AtFunction}
use Rattle.formula_tree.specs.declared.ast.Op.{Op}
use Rattle.formula_tree.specs.declared.ast.Op.TheVariants.{Pow, Mul, Div, Add, Sub, Eq, Ne, Lt, Gt, Le, Ge, And, Or}
use Rattle.formula_tree.specs.declared.ast.Op.TheVariants.{Join}
use Rattle.formula_tree.specs.Tree.{Tree, num, str, cell, span, group, neg, not, binary, call, Trees, no_trees, trees}
use Rattle.formula_tree.specs.Table.{call_size, counts_of, counts_size, takes}
use Rattle.formula_tree.specs.declared.table.Counts.{Counts}
use Rattle.formula_tree.specs.declared.table.Counts.TheVariants.{Exactly, AtLeast}
use Rattle.formula_tree.specs.Shape.{all_sizes, depth, every, every_one, greatest_depth, is_bracketed, is_fine}
use Rattle.formula_tree.specs.Shape.{is_short, nodes_size, not_negative, IsFormula}
use Rattle.formula_text.specs.declared.fault.ParseFault.{ParseFault}
use Rattle.formula_text.specs.declared.lexeme.LexemeKind.{LexemeKind}
use Rattle.formula_text.specs.declared.lexeme.LexemeKind.TheVariants.{Bad, Cell, Close, Comma, Constant, Function}
use Rattle.formula_text.specs.declared.lexeme.LexemeKind.TheVariants.{Infix, Not, Num, Open, Span, Str, Unclosed}
use Rattle.formula_text.specs.declared.lexeme.Lexeme.{Lexeme}
use Rattle.formula_text.specs.declared.parse.Bracket.TheVariants.{Plain, Call}
use Rattle.formula_text.specs.Tokens.{Token, tokens, more_tokens, number, text, place, places, constant, called}
use Rattle.formula_text.specs.Tokens.{opening, closing, comma, front_minus, front_not, infix_op}
use Rattle.formula_text.specs.Accepts.{after, bracket_first, bracket_row, close_row, comma_row, front_row}
use Rattle.formula_text.specs.Accepts.{operand_first, operand_row, operator_first, operator_row, Brackets, Verdict}
use Rattle.formula_tree.specs.Shape.{has_no_quote}
use Rattle.formula_text.specs.inner.Fine.{are_fine, is_fine_kind, is_fine_token}
use Rattle.formula_text.specs.inner.Reads.{is_called}

-- so few tokens, and each keeps what the parts keep
abbrev Fine : ℕ → Verdict → Type 0
Fine n (Ok ts) = (length ts ≤ n) × (list_all is_fine_token ts ≡ true)
Fine n (Err f) = Unit {0}

one_more : (x : Token) (n : ℕ) (v : Verdict) → is_fine_token x ≡ true → Fine n v → Fine (suc n) (after (x ∷ []) v)
one_more x n (Ok ts) p h = (omega (arith, h.0), and_from _ _ p h.1)
one_more x n (Err f) p h = tt

no_more : (n : ℕ) (v : Verdict) → Fine n v → Fine (suc n) v
no_more n (Ok ts) h = (omega (arith, h.0), h.1)
no_more n (Err f) h = tt

front_fine : (op : Op) (at : ℕ) (bs : Brackets) (n : ℕ) (operand : Brackets → Verdict)
    → ((b : Brackets) → Fine n (operand b)) → Fine (suc n) (front_row op at bs operand)
front_fine Add at bs n operand h = no_more n (operand bs) (h bs)
front_fine Sub at bs n operand h = one_more front_minus n (operand bs) refl (h bs)
front_fine Pow at bs n operand h = tt
front_fine Mul at bs n operand h = tt
front_fine Div at bs n operand h = tt
front_fine Eq at bs n operand h = tt
front_fine Ne at bs n operand h = tt
front_fine Lt at bs n operand h = tt
front_fine Gt at bs n operand h = tt
front_fine Le at bs n operand h = tt
front_fine Ge at bs n operand h = tt
front_fine And at bs n operand h = tt
front_fine Or at bs n operand h = tt
front_fine Join at bs n operand h = tt

operand_fine : (k : LexemeKind) (at : ℕ) (bs : Brackets) (n : ℕ) (operand operator : Brackets
    → Verdict) (bracket : AtFunction → Brackets → Verdict) →
    is_fine_kind k ≡ true → ((b : Brackets) → Fine n (operand b)) → ((b : Brackets) → Fine n (operator b))
    → ((f : AtFunction) (b : Brackets) → Fine n (bracket f b)) →
    Fine (suc n) (operand_row k at bs operand operator bracket)
operand_fine (Num v) at bs n operand operator bracket p h g q = one_more (number v) n (operator bs) p (g bs)
operand_fine (Str t) at bs n operand operator bracket p h g q = one_more (text t) n (operator bs) p (g bs)
operand_fine (Cell r) at bs n operand operator bracket p h g q = one_more (place r) n (operator bs) refl (g bs)
operand_fine (Span a b) at bs n operand operator bracket p h g q = one_more (places a b) n (operator bs) refl (g bs)
operand_fine (Constant f) at bs n operand operator bracket p h g q = one_more (constant f) n (operator bs) p (g bs)
operand_fine (Function f) at bs n operand operator bracket p h g q = one_more (called f) n (bracket f bs) refl (q f bs)
operand_fine (Infix op) at bs n operand operator bracket p h g q = front_fine op at bs n operand h
operand_fine Not at bs n operand operator bracket p h g q = one_more front_not n (operand bs) refl (h bs)
operand_fine Open at bs n operand operator bracket p h g q =
    one_more opening n (operand (Plain ∷ bs)) refl (h (Plain ∷ bs))
operand_fine Close at bs n operand operator bracket p h g q = tt
operand_fine Comma at bs n operand operator bracket p h g q = tt
operand_fine Unclosed at bs n operand operator bracket p h g q = tt
operand_fine (Bad f) at bs n operand operator bracket p h g q = tt

comma_fine : (at : ℕ) (bs : Brackets) (n : ℕ) (operand : Brackets → Verdict) → ((b : Brackets) → Fine n (operand b))
    → Fine (suc n) (comma_row at bs operand)
comma_fine at [] n operand h = tt
comma_fine at (Plain ∷ bs) n operand h = tt
comma_fine at (Call f m ∷ bs) n operand h =
    one_more comma n (operand (Call f (m + 1) ∷ bs)) refl (h (Call f (m + 1) ∷ bs))

closed_if : (b : Bool) (n : ℕ) (v : Verdict) (f : ParseFault) → Fine n v → Fine n (cond b v (Err f))
closed_if true n v f h = h
closed_if false n v f h = tt

close_fine : (at : ℕ) (bs : Brackets) (n : ℕ) (operator : Brackets → Verdict) → ((b : Brackets) → Fine n (operator b))
    → Fine (suc n) (close_row at bs operator)
close_fine at [] n operator h = tt
close_fine at (Plain ∷ bs) n operator h = one_more closing n (operator bs) refl (h bs)
close_fine at (Call f m ∷ bs) n operator h = closed_if (takes (counts_of f) (m + 1)) (suc n)
    (after (closing ∷ []) (operator bs)) _ (one_more closing n (operator bs) refl (h bs))

operator_fine : (k : LexemeKind) (at : ℕ) (bs : Brackets) (n : ℕ) (operand operator : Brackets → Verdict) →
    ((b : Brackets) → Fine n (operand b)) → ((b : Brackets) → Fine n (operator b))
    → Fine (suc n) (operator_row k at bs operand operator)
operator_fine (Infix op) at bs n operand operator h g = one_more (infix_op op) n (operand bs) refl (h bs)
operator_fine Comma at bs n operand operator h g = comma_fine at bs n operand h
operator_fine Close at bs n operand operator h g = close_fine at bs n operator g
operator_fine (Num v) at bs n operand operator h g = tt
operator_fine (Str t) at bs n operand operator h g = tt
operator_fine (Cell r) at bs n operand operator h g = tt
operator_fine (Span a b) at bs n operand operator h g = tt
operator_fine (Constant f) at bs n operand operator h g = tt
operator_fine (Function f) at bs n operand operator h g = tt
operator_fine Not at bs n operand operator h g = tt
operator_fine Open at bs n operand operator h g = tt
operator_fine Unclosed at bs n operand operator h g = tt
operator_fine (Bad f) at bs n operand operator h g = tt

bracket_fine : (k : LexemeKind) (at n : ℕ) (v : Verdict) → Fine n v → Fine (suc n) (bracket_row k at v)
bracket_fine Open at n v h = no_more n v h
bracket_fine (Num w) at n v h = tt
bracket_fine (Str t) at n v h = tt
bracket_fine (Cell r) at n v h = tt
bracket_fine (Span a b) at n v h = tt
bracket_fine (Constant f) at n v h = tt
bracket_fine (Function f) at n v h = tt
bracket_fine (Infix op) at n v h = tt
bracket_fine Not at n v h = tt
bracket_fine Close at n v h = tt
bracket_fine Comma at n v h = tt
bracket_fine Unclosed at n v h = tt
bracket_fine (Bad f) at n v h = tt

at_end_fine : (bs : Brackets) → Fine 0 (operator_first [] bs)
at_end_fine [] = (omega arith, refl)
at_end_fine (b ∷ bs) = tt

mutual
  operands_fine : (ls : List Lexeme) → are_fine ls ≡ true → (bs : Brackets) → Fine (length ls) (operand_first ls bs)
  operands_fine [] p bs = tt
  operands_fine (l ∷ ls) p bs =
      operand_fine l.kind l.at bs (length ls) (operand_first ls) (operator_first ls) (bracket_first ls) (and_parts
      (is_fine_kind l.kind) (are_fine ls) p).0 (operands_fine ls (and_parts (is_fine_kind l.kind) (are_fine ls) p).1)
      (operators_fine ls (and_parts (is_fine_kind l.kind) (are_fine ls) p).1)
      (brackets_fine ls (and_parts (is_fine_kind l.kind) (are_fine ls) p).1)

  operators_fine : (ls : List Lexeme) → are_fine ls ≡ true → (bs : Brackets) → Fine (length ls) (operator_first ls bs)
  operators_fine [] p bs = at_end_fine bs
  operators_fine (l ∷ ls) p bs =
      operator_fine l.kind l.at bs (length ls) (operand_first ls) (operator_first ls)
      (operands_fine ls (and_parts (is_fine_kind l.kind) (are_fine ls) p).1)
      (operators_fine ls (and_parts (is_fine_kind l.kind) (are_fine ls) p).1)

  brackets_fine : (ls : List Lexeme) → are_fine ls ≡ true → (f : AtFunction) (bs : Brackets)
      → Fine (length ls) (bracket_first ls f bs)
  brackets_fine [] p f bs = tt
  brackets_fine (l ∷ ls) p f bs = bracket_fine l.kind l.at (length ls) (operand_first ls (Call f 0 ∷ bs))
      (operands_fine ls (and_parts (is_fine_kind l.kind) (are_fine ls) p).1 (Call f 0 ∷ bs))

-- the tokens of a text that is accepted
pub few_and_fine : (ls : List Lexeme) (ts : List Token) → are_fine ls ≡ true → operand_first ls [] ≡ Ok ts
    → (length ts ≤ length ls) × (list_all is_fine_token ts ≡ true)
few_and_fine ls ts p h = subst (Fine (length ls)) h (operands_fine ls p [])

all_parts : (xs ys : List Token) → list_all is_fine_token (xs ++ ys) ≡ true
    → (list_all is_fine_token xs ≡ true) × (list_all is_fine_token ys ≡ true)
all_parts [] ys p = (refl, p)
all_parts (x ∷ xs) ys p =
    let rest = all_parts xs ys (and_parts (is_fine_token x) (list_all is_fine_token (xs ++ ys)) p).1 in
    (and_from _ _ (and_parts (is_fine_token x) (list_all is_fine_token (xs ++ ys)) p).0 rest.0, rest.1)

-- what a tree takes for its tokens
record Bounded (t : Tree) : Type 0 where
  fine : every is_fine t ≡ true
  sized : nodes_size t ≤ 242 * length (tokens t)
  shallow : depth t ≤ length (tokens t)

record AllBounded (ts : Trees) : Type 0 where
  fine : every_one is_fine ts ≡ true
  sized : all_sizes ts ≤ 242 * length (more_tokens ts)
  shallow : greatest_depth ts ≤ length (more_tokens ts)

three_or_nine : (b : Bool) → cond b 3 9 ≤ 9
three_or_nine true = omega arith
three_or_nine false = omega arith

size_small : (c : Counts) → counts_size c ≤ 2
size_small (Exactly wanted) = omega arith
size_small (AtLeast least) = omega arith

call_small : (f : AtFunction) → call_size f ≤ 2
call_small f = size_small (counts_of f)

length_part : (n : ℕ) → nat_le n 240 ≡ true → n + 2 ≤ 242
length_part n p = grind (arith, nat_tests)

mutual
  bounded : (t : Tree) → list_all is_fine_token (tokens t) ≡ true → every is_bracketed t ≡ true
      → every is_called t ≡ true → Bounded t
  bounded (num v) p w c = record {
    fine = (and_parts (not_negative v) true p).0;
    sized = omega (arith, three_or_nine (is_short v));
    shallow = omega arith;
  }
  bounded (str t) p w c =
      let q = (and_parts (has_no_quote t && nat_le (length t) 240) true p).0 in
      record {
        fine = (and_parts (has_no_quote t) (nat_le (length t) 240) q).0;
        sized = omega (
          arith,
          length_part (length t) (and_parts (has_no_quote t) (nat_le (length t) 240) q).1,
        );
        shallow = omega arith;
      }
  bounded (cell r) p w c = record { fine = refl; sized = omega arith; shallow = omega arith }
  bounded (span a b) p w c = record { fine = refl; sized = omega arith; shallow = omega arith }
  bounded (group a) p w c =
      let r = bounded a (all_parts (tokens a) (closing ∷ []) p).0 w c in
      let e = length-append (tokens a) (closing ∷ []) in
      record { fine = r.fine; sized = omega (arith, r.sized, e); shallow = omega (arith, r.shallow, e) }
  bounded (neg a) p w c =
      let r = bounded a p (and_parts (is_bracketed (neg a)) (every is_bracketed a) w).1 c in
      record {
        fine = and_from _ _ (and_from _ _ (and_parts (is_bracketed (neg a)) (every is_bracketed a) w).0 refl) r.fine;
        sized = omega (arith, r.sized);
        shallow = omega (arith, r.shallow);
      }
  bounded (not a) p w c =
      let r = bounded a p (and_parts (is_bracketed (not a)) (every is_bracketed a) w).1 c in
      record {
        fine = and_from _ _ (and_from _ _ (and_parts (is_bracketed (not a)) (every is_bracketed a) w).0 refl) r.fine;
        sized = omega (arith, r.sized);
        shallow = omega (arith, r.shallow);
      }
  bounded (binary op a b) p w c =
      let ps = all_parts (tokens a) (infix_op op ∷ tokens b) p in
      let ws = (and_parts (is_bracketed (binary op a b)) (every is_bracketed a && every is_bracketed b) w).1 in
      let r = bounded a ps.0 (and_parts (every is_bracketed a) (every is_bracketed b) ws).0
      (and_parts (every is_called a) (every is_called b) c).0 in
      let s = bounded b ps.1 (and_parts (every is_bracketed a) (every is_bracketed b) ws).1
      (and_parts (every is_called a) (every is_called b) c).1 in
      let e = length-append (tokens a) (infix_op op ∷ tokens b) in
      record {
        fine = and_from _ _ (and_from _ _ (and_parts (is_bracketed (binary op a b))
            (every is_bracketed a && every is_bracketed b) w).0 refl) (and_from _ _ r.fine s.fine);
        sized = omega (arith, r.sized, s.sized, e);
        shallow = omega (arith, r.shallow, s.shallow, e);
      }
  bounded (call f no_trees) p w c =
      record {
        fine = and_from _ _ (and_from _ _ (and_parts (takes (counts_of f) 0) true p).0 refl) refl;
        sized = omega (arith, call_small f);
        shallow = omega arith;
      }
  bounded (call f (trees a rest)) p w c =
      let ps = all_parts (tokens a) (more_tokens rest) p in
      let cs = (and_parts (is_called (call f (trees a rest))) (every is_called a && every_one is_called rest) c).1 in
      let r = bounded a ps.0 (and_parts (every is_bracketed a) (every_one is_bracketed rest) w).0
      (and_parts (every is_called a) (every_one is_called rest) cs).0 in
      let s = all_bounded rest ps.1 (and_parts (every is_bracketed a) (every_one is_bracketed rest) w).1
      (and_parts (every is_called a) (every_one is_called rest) cs).1 in
      let e = length-append (tokens a) (more_tokens rest) in
      record {
        fine = and_from _ _ (and_from _ _ (and_parts (is_called (call f (trees a rest)))
            (every is_called a && every_one is_called rest) c).0 refl) (and_from _ _ r.fine s.fine);
        sized = omega (arith, r.sized, s.sized, e, call_small f);
        shallow = omega (arith, r.shallow, s.shallow, e);
      }

  all_bounded : (ts : Trees) → list_all is_fine_token (more_tokens ts) ≡ true → every_one is_bracketed ts ≡ true
      → every_one is_called ts ≡ true → AllBounded ts
  all_bounded no_trees p w c = record { fine = refl; sized = omega arith; shallow = omega arith }
  all_bounded (trees a rest) p w c =
      let ps = all_parts (tokens a) (more_tokens rest) p in
      let r = bounded a ps.0 (and_parts (every is_bracketed a) (every_one is_bracketed rest) w).0
      (and_parts (every is_called a) (every_one is_called rest) c).0 in
      let s = all_bounded rest ps.1 (and_parts (every is_bracketed a) (every_one is_bracketed rest) w).1
      (and_parts (every is_called a) (every_one is_called rest) c).1 in
      let e = length-append (tokens a) (more_tokens rest) in
      record {
        fine = and_from _ _ r.fine s.fine;
        sized = omega (arith, r.sized, s.sized, e);
        shallow = omega (arith, r.shallow, s.shallow, e);
      }

few_bytes : (n m : ℕ) → n ≤ 242 * m → m ≤ 240 → nat_le (1 + n) 65520 ≡ true
few_bytes n m p q = grind (arith, nat_tests)

-- what at most 240 parts spell is a formula's
pub is_formula : (ls : List Lexeme) (t : Tree) → length ls ≤ 240 → are_fine ls ≡ true
    → operand_first ls [] ≡ Ok (tokens t) → every is_bracketed t ≡ true → every is_called t ≡ true → IsFormula t
is_formula ls t n p h w c =
    let ts = few_and_fine ls (tokens t) p h in
    let b = bounded t ts.1 w c in
    record {
      shallow = omega (arith, n, ts.0, b.shallow);
      shaped = and_from _ _ b.fine (few_bytes (nodes_size t) (length (tokens t)) b.sized (omega (arith, n, ts.0)));
    }
