-- The text of a formula is read as the formula.
use Rattle.std.specs.Char.{is_ascii_alphabetic}
use Rattle.std.proofs.Common.{◌≡◌, ℕ, ◌+◌, ◌≤◌, Bool, true, false, ◌&&◌, ◌||◌, cond, ◌==◌, List, [], ◌∷◌, ◌++◌, length}
use Rattle.std.proofs.Common.{get_or, Ok, Err, refl, sym, ap, ◌∙◌, subst, arith, append_assoc, append-nil}
use Rattle.std.proofs.Common.{length-append, pos, negsuc}
use Rattle.std.specs.Prelude.{codes}
use Rattle.std.proofs.lemmas.Bool.Decides.{nat_tests}
use Rattle.std.proofs.lemmas.Bool.{and_parts, false≢true}
use Rattle.fixed_value.specs.Written.{short}
use Rattle.grid_address.specs.Place.{InSheet, Place}
use Rattle.range_names.specs.Names.{AreKeys, NameMap}
use Rattle.formula_tree.specs.declared.function.Function.{Function as AtFunction}
use Rattle.formula_tree.specs.Ranges.{is_ranged, is_reference}
use Rattle.formula_tree.specs.Shape.{count, every, every_one, is_bracketed, is_counted, is_fine, is_plain}
use Rattle.formula_tree.specs.Table.{counts_of, takes}
use Rattle.formula_tree.specs.Tree.{Tree, num, str, cell, span, group, neg, not as negation, binary, call, Trees}
use Rattle.formula_tree.specs.Tree.{no_trees, trees}
use Rattle.formula_tree.proofs.Nodes.{fine_counted, weaker}
use Rattle.formula_text.specs.declared.fault.ParseFault.TheVariants.{ArgCount}
use Rattle.formula_text.specs.declared.parse.Bracket.TheVariants.{Plain, Call}
use Rattle.formula_text.specs.declared.lexeme.LexemeKind.TheVariants.{Cell, Constant, Function, Num, Span, Str}
use Rattle.formula_text.specs.declared.lexeme.LexemeKind.{LexemeKind}
use Rattle.formula_text.specs.declared.lexeme.Lexeme.{Lexeme}
use Rattle.formula_text.specs.Accepts.{Brackets, Verdict, after, bracket_first, operand_first, operator_first}
use Rattle.formula_text.specs.Functions.{name_of}
use Rattle.formula_text.specs.Lexed.{lexed}
use Rattle.formula_text.specs.Printed.{cell_text, more_text, op_text, printed, sign_for, span_text, text_of}
use Rattle.formula_text.specs.Texts.{Spells}
use Rattle.formula_text.specs.Tokens.{Token, called, closing, comma, front_minus, front_not, infix_op, more_tokens}
use Rattle.formula_text.specs.Tokens.{opening, tokens}
use Rattle.formula_text.proofs.Cuts.{part_cut, IsPart, Starts, Stops}
use Rattle.formula_text.proofs.FunctionsRead.{function_part, kind_of, some_taken}
use Rattle.formula_text.proofs.Grows.{after-after}
use Rattle.formula_text.proofs.LiteralsRead.{number_part, text_part}
use Rattle.formula_text.proofs.PlacesRead.{cell_part, span_part}
use Rattle.formula_text.proofs.SignsRead.{close_cut, comma_cut, minus_read, not_read, op_read, op_stops, open_cut}
use Rattle.formula_text.proofs.SignsRead.{plus_read}

module _ (names : NameMap) (at_cell : Place) (keyed : AreKeys names) (inside : InSheet at_cell) where
  abbrev parts : ℕ → List ℕ → List Lexeme
  parts at bytes = lexed names at_cell 0 at bytes

  number_small : (n : ℕ) → is_ranged (num (pos n)) ≡ true → n ≤ 999999999999999
  number_small n h = grind (arith, nat_tests, h)

  plain : (t : Tree) → is_fine t ≡ true → is_plain t ≡ true
  plain t h = (and_parts (is_counted t) (is_plain t) (and_parts (is_bracketed t) (is_counted t && is_plain t) h).1).1

  number_leaf : (n : ℕ) → is_ranged (num (pos n)) ≡ true → IsPart names at_cell (short (pos n) 6) (Num (pos n))
  number_leaf n h = number_part names at_cell n (number_small n h)

  span_leaf : (a b : _) → is_ranged (span a b) ≡ true → IsPart names at_cell (span_text names at_cell a b) (Span a b)
  span_leaf a b h = span_part names at_cell a b keyed inside (and_parts (is_reference a) (is_reference b) h).0
      (and_parts (is_reference a) (is_reference b) h).1

  -- the first byte of a tree's text
  pub text_starts : (t : Tree) (rest : List ℕ) → every is_fine t ≡ true → every is_ranged t ≡ true
      → Starts (get_or (text_of names at_cell t ++ rest) 0 0)
  text_starts (num (pos n)) rest f r = (number_leaf n r).first rest
  text_starts (num (negsuc n)) rest f r = absurd (false≢true (plain (num (negsuc n)) f))
  text_starts (str t) rest f r = record { space = refl; equal = refl; greater = refl }
  text_starts (cell x) rest f r = (cell_part names at_cell x keyed inside r).first rest
  text_starts (span a b) rest f r = (span_leaf a b r).first rest
  text_starts (group a) rest f r = record { space = refl; equal = refl; greater = refl }
  text_starts (neg a) rest f r = record { space = refl; equal = refl; greater = refl }
  text_starts (negation a) rest f r = record { space = refl; equal = refl; greater = refl }
  text_starts (binary op a b) rest f r =
      subst (λ (l : List ℕ). Starts (get_or l 0 0))
      (sym (append_assoc (text_of names at_cell a) (op_text op ++ text_of names at_cell b) rest)) (
      text_starts a ((op_text op ++ text_of names at_cell b) ++ rest) (and_parts (every is_fine a) (every is_fine b)
      (and_parts (is_fine (binary op a b)) _ f).1).0 (and_parts (every is_ranged a) (every is_ranged b) r).0)
  text_starts (call f no_trees) rest g r = record { space = refl; equal = refl; greater = refl }
  text_starts (call f (trees a ts)) rest g r = record { space = refl; equal = refl; greater = refl }

  -- what is expected behind the text of a tree
  abbrev behind : List Token → ℕ → List ℕ → Brackets → Verdict
  behind ts at rest bs = after ts (operator_first (parts at rest) bs)

  -- a leaf
  leaf : (bytes rest : List ℕ) (kind : LexemeKind) (at : ℕ) (bs : Brackets)
      → IsPart names at_cell bytes kind → Stops rest → operand_first (parts at (bytes ++ rest)) bs
      ≡ operand_first (record { at = at; kind = kind } ∷ parts (at + length bytes) rest) bs
  leaf bytes rest kind at bs part stops =
      ap (λ ls. operand_first ls bs) (part_cut names at_cell bytes rest kind at part stops)

  -- a function without arguments is a constant, and no function takes none or more
  no_args : (f : AtFunction) → takes (counts_of f) 0 ≡ true → kind_of f ≡ Constant f
  no_args f h = rw h refl

  some_args : (f : AtFunction) (n : ℕ) → takes (counts_of f) (1 + n) ≡ true → kind_of f ≡ Function f
  some_args f n h = (let none = some_taken f n h in rw none refl)

  bracket_open : (f : AtFunction) (rest : List ℕ) (at : ℕ) (bs : Brackets)
      → bracket_first (parts at (40 ∷ rest)) f bs ≡ operand_first (parts (at + 1) rest) (Call f 0 ∷ bs)
  bracket_open f rest at bs = ap (λ ls. bracket_first ls f bs) (open_cut names at_cell rest at)

  comma_stops : (rest : List ℕ) → Stops (44 ∷ rest)
  comma_stops rest = record { word = refl; point = refl }

  close_stops : (rest : List ℕ) → Stops (41 ∷ rest)
  close_stops rest = record { word = refl; point = refl }

  more_stops : (ts : Trees) (rest : List ℕ) → Stops (more_text names at_cell ts ++ rest)
  more_stops no_trees rest = close_stops rest
  more_stops (trees a ts) rest = comma_stops ((text_of names at_cell a ++ more_text names at_cell ts) ++ rest)

  mutual
    -- a tree's text, with bytes behind it that stop a part, is read as the tree's tokens and what stands behind
    pub read_again : (t : Tree) (rest : List ℕ) (at : ℕ) (bs : Brackets) → every is_fine t ≡ true
        → every is_ranged t ≡ true → Stops rest → operand_first (parts at (text_of names at_cell t ++ rest)) bs
        ≡ behind (tokens t) (at + length (text_of names at_cell t)) rest bs
    read_again (num (pos n)) rest at bs f r stops =
        leaf (short (pos n) 6) rest (Num (pos n)) at bs (number_leaf n r) stops
    read_again (num (negsuc n)) rest at bs f r stops = absurd (false≢true (plain (num (negsuc n)) f))
    read_again (str t) rest at bs f r stops =
        leaf (codes "\"" ++ (t ++ codes "\"")) rest (Str t) at bs (text_part names at_cell t r (plain (str t) f)) stops
    read_again (cell x) rest at bs f r stops =
        leaf (cell_text names at_cell x) rest (Cell x) at bs (cell_part names at_cell x keyed inside r) stops
    read_again (span a b) rest at bs f r stops =
        leaf (span_text names at_cell a b) rest (Span a b) at bs (span_leaf a b r) stops
    read_again (group a) rest at bs f r stops =
        let inner : List ℕ = text_of names at_cell a in
        let end : at + 1 + length inner + 1 ≡ at + length (40 ∷ (inner ++ 41 ∷ [])) =
        omega (arith, length-append inner (41 ∷ [])) in
        ap (λ ls. operand_first ls bs) (open_cut names at_cell ((inner ++ 41 ∷ []) ++ rest) at)
        ∙ ap (λ (l : List ℕ). after (opening ∷ []) (operand_first (parts (at + 1) l) (Plain ∷ bs)))
        (append_assoc inner (41 ∷ []) rest)
        ∙ ap (after (opening ∷ [])) (
        read_again a (41 ∷ rest) (at + 1) (Plain ∷ bs) (and_parts (is_fine (group a)) (every is_fine a) f).1 r
        (close_stops rest)
        ∙ ap (λ ls. after (tokens a) (operator_first ls (Plain ∷ bs)))
        (close_cut names at_cell rest (at + 1 + length inner))
        ∙ after-after (tokens a) (closing ∷ []) (operator_first (parts (at + 1 + length inner + 1) rest) bs))
        ∙ after-after (opening ∷ []) (tokens a ++ closing ∷ [])
        (operator_first (parts (at + 1 + length inner + 1) rest) bs)
        ∙ ap (λ k. behind (opening ∷ (tokens a ++ closing ∷ [])) k rest bs) end
    read_again (neg a) rest at bs f r stops =
        let inner : List ℕ = text_of names at_cell a in
        minus_read names at_cell (inner ++ rest) at bs ∙ ap (after (front_minus ∷ []))
        (read_again a rest (at + 1) bs (and_parts (is_fine (neg a)) (every is_fine a) f).1 r stops)
        ∙ after-after (front_minus ∷ []) (tokens a) (operator_first (parts (at + 1 + length inner) rest) bs)
        ∙ ap (λ k. behind (front_minus ∷ tokens a) k rest bs)
        (let e : at + 1 + length inner ≡ at + length (45 ∷ inner) = omega arith in e)
    read_again (negation a) rest at bs f r stops =
        let inner : List ℕ = text_of names at_cell a in
        not_read names at_cell (inner ++ rest) at bs ∙ ap (after (front_not ∷ []))
        (read_again a rest (at + 5) bs (and_parts (is_fine (negation a)) (every is_fine a) f).1 r stops)
        ∙ after-after (front_not ∷ []) (tokens a) (operator_first (parts (at + 5 + length inner) rest) bs)
        ∙ ap (λ k. behind (front_not ∷ tokens a) k rest bs)
        (let e : at + 5 + length inner ≡ at + length (codes "#NOT#" ++ inner) = omega arith in e)
    read_again (binary op a b) rest at bs f r stops =
        let one : List ℕ = text_of names at_cell a in
        let two : List ℕ = text_of names at_cell b in
        let fs = (and_parts (is_fine (binary op a b)) (every is_fine a && every is_fine b) f).1 in
        let mid : ℕ = at + length one in
        let end : mid + length (op_text op) + length two ≡ at + length (one ++ (op_text op ++ two)) =
        omega (arith, length-append one (op_text op ++ two), length-append (op_text op) two) in
        ap (λ (l : List ℕ). operand_first (parts at l) bs)
        (append_assoc one (op_text op ++ two) rest ∙ ap (λ (l : List ℕ). one ++ l) (append_assoc (op_text op) two rest))
        ∙ read_again a (op_text op ++ (two ++ rest)) at bs (and_parts (every is_fine a) (every is_fine b) fs).0
        (and_parts (every is_ranged a) (every is_ranged b) r).0 (op_stops op (two ++ rest))
        ∙ ap (after (tokens a)) (
        op_read names at_cell op (two ++ rest) mid bs (text_starts b rest
        (and_parts (every is_fine a) (every is_fine b) fs).1 (and_parts (every is_ranged a) (every is_ranged b) r).1)
        ∙ ap (after (infix_op op ∷ [])) (read_again b rest (mid + length (op_text op)) bs (and_parts (every is_fine a)
        (every is_fine b) fs).1 (and_parts (every is_ranged a) (every is_ranged b) r).1 stops)
        ∙ after-after (infix_op op ∷ []) (tokens b)
        (operator_first (parts (mid + length (op_text op) + length two) rest) bs))
        ∙ after-after (tokens a) (infix_op op ∷ tokens b)
        (operator_first (parts (mid + length (op_text op) + length two) rest) bs)
        ∙ ap (λ k. behind (tokens a ++ (infix_op op ∷ tokens b)) k rest bs) end
    read_again (call f no_trees) rest at bs g r stops =
        let none = fine_counted (call f no_trees) (and_parts (is_fine (call f no_trees)) true g).0 in
        leaf (codes "@" ++ name_of f) rest (kind_of f) at bs (function_part names at_cell f) stops
        ∙ ap (λ k. operand_first (record { at = at; kind = k } ∷ parts (at + length (codes "@" ++ name_of f)) rest) bs)
        (no_args f none)
    read_again (call f (trees a ts)) rest at bs g r stops =
        let name : List ℕ = codes "@" ++ name_of f in
        let one : List ℕ = text_of names at_cell a in
        let more : List ℕ = more_text names at_cell ts in
        let gs = (and_parts (is_fine (call f (trees a ts))) (every is_fine a && every_one is_fine ts) g).1 in
        let taken : takes (counts_of f) (1 + count ts) ≡ true = fine_counted (call f (trees a ts))
        (and_parts (is_fine (call f (trees a ts))) (every is_fine a && every_one is_fine ts) g).0 in
        let begin : ℕ = at + length name + 1 in
        let last : ℕ = begin + length one + length more in
        let end : last ≡ at + length (name ++ (40 ∷ (one ++ more))) =
        omega (arith, length-append name (40 ∷ (one ++ more)), length-append one more) in
        ap (λ (l : List ℕ). operand_first (parts at l) bs) (append_assoc name (40 ∷ (one ++ more)) rest)
        ∙ leaf name (40 ∷ ((one ++ more) ++ rest)) (kind_of f) at bs (function_part names at_cell f)
        (record { word = refl; point = refl })
        ∙ ap (λ k. operand_first (record { at = at; kind = k } ∷ parts (at + length name)
        (40 ∷ ((one ++ more) ++ rest))) bs) (some_args f (count ts) taken)
        ∙ ap (after (called f ∷ [])) (
        bracket_open f ((one ++ more) ++ rest) (at + length name) bs
        ∙ ap (λ (l : List ℕ). operand_first (parts begin l) (Call f 0 ∷ bs)) (append_assoc one more rest)
        ∙ read_again a (more ++ rest) begin (Call f 0 ∷ bs) (and_parts (every is_fine a) (every_one is_fine ts) gs).0
        (and_parts (every is_ranged a) (every_one is_ranged ts) r).0 (more_stops ts rest)
        ∙ ap (after (tokens a)) (more_again ts rest (begin + length one) f 0 bs (and_parts (every is_fine a)
        (every_one is_fine ts) gs).1 (and_parts (every is_ranged a) (every_one is_ranged ts) r).1 taken)
        ∙ after-after (tokens a) (more_tokens ts) (operator_first (parts last rest) bs))
        ∙ after-after (called f ∷ []) (tokens a ++ more_tokens ts) (operator_first (parts last rest) bs)
        ∙ ap (λ k. behind (called f ∷ (tokens a ++ more_tokens ts)) k rest bs) end

    more_again : (ts : Trees) (rest : List ℕ) (at : ℕ) (f : AtFunction) (n : ℕ) (bs : Brackets)
        → every_one is_fine ts ≡ true → every_one is_ranged ts ≡ true → takes (counts_of f) (n + 1 + count ts) ≡ true
        → operator_first (parts at (more_text names at_cell ts ++ rest)) (Call f n ∷ bs)
        ≡ behind (more_tokens ts) (at + length (more_text names at_cell ts)) rest bs
    more_again no_trees rest at f n bs g r h =
        let taken : takes (counts_of f) (n + 1) ≡ true =
        ap (takes (counts_of f)) (let e : n + 1 ≡ n + 1 + 0 = omega arith in e) ∙ h in
        ap (λ ls. operator_first ls (Call f n ∷ bs)) (close_cut names at_cell rest at)
        ∙ ap (λ c. cond c (after (closing ∷ []) (operator_first (parts (at + 1) rest) bs)) (Err (ArgCount at))) taken
    more_again (trees a ts) rest at f n bs g r h =
        let one : List ℕ = text_of names at_cell a in
        let more : List ℕ = more_text names at_cell ts in
        let last : ℕ = at + 1 + length one + length more in
        let taken : takes (counts_of f) (n + 1 + 1 + count ts) ≡ true =
        ap (takes (counts_of f)) (let e : n + 1 + 1 + count ts ≡ n + 1 + (1 + count ts) = omega arith in e) ∙ h in
        let end : last ≡ at + length (44 ∷ (one ++ more)) = omega (arith, length-append one more) in
        ap (λ ls. operator_first ls (Call f n ∷ bs)) (comma_cut names at_cell ((one ++ more) ++ rest) at)
        ∙ ap (λ (l : List ℕ). after (comma ∷ []) (operand_first (parts (at + 1) l) (Call f (n + 1) ∷ bs)))
        (append_assoc one more rest)
        ∙ ap (after (comma ∷ [])) (
        read_again a (more ++ rest) (at + 1) (Call f (n + 1) ∷ bs) (and_parts (every is_fine a)
        (every_one is_fine ts) g).0 (and_parts (every is_ranged a) (every_one is_ranged ts) r).0 (more_stops ts rest)
        ∙ ap (after (tokens a)) (more_again ts rest (at + 1 + length one) f (n + 1) bs (and_parts (every is_fine a)
        (every_one is_fine ts) g).1 (and_parts (every is_ranged a) (every_one is_ranged ts) r).1 taken)
        ∙ after-after (tokens a) (more_tokens ts) (operator_first (parts last rest) bs))
        ∙ after-after (comma ∷ []) (tokens a ++ more_tokens ts) (operator_first (parts last rest) bs)
        ∙ ap (λ k. behind (comma ∷ (tokens a ++ more_tokens ts)) k rest bs) end

  -- the text of a formula spells it
  pub spelled : (t : Tree) → every is_fine t ≡ true → every is_ranged t ≡ true → length (printed names at_cell t) ≤ 240
      → Spells names at_cell (printed names at_cell t) t
  spelled t f r short =
      let bytes : List ℕ = text_of names at_cell t in
      let again : (at : ℕ) → operand_first (parts at bytes) [] ≡ Ok (tokens t) =
      λ at. ap (λ l. operand_first (parts at l) []) (sym (append-nil bytes))
      ∙ read_again t [] at [] f r (record { word = refl; point = refl }) ∙ ap Ok (append-nil (tokens t)) in (
        short,
        record {
          same = behind_sign bytes (again 0) (again 1);
          well = weaker is_fine is_bracketed
              (λ x h. (and_parts (is_bracketed x) (is_counted x && is_plain x) h).0) t f;
        },
      )
    where
      signed : (c : Bool) (bytes : List ℕ) (v : Verdict) → operand_first (parts 0 bytes) [] ≡ v
          → operand_first (parts 1 bytes) [] ≡ v → operand_first (parts 0 (cond c (codes "+") [] ++ bytes)) [] ≡ v
      signed true bytes v zeroth first = plus_read names at_cell bytes 0 [] ∙ first
      signed false bytes v zeroth first = zeroth

      behind_sign : (bytes : List ℕ) {v : Verdict} → operand_first (parts 0 bytes) [] ≡ v
          → operand_first (parts 1 bytes) [] ≡ v → operand_first (parts 0 (sign_for bytes ++ bytes)) [] ≡ v
      behind_sign [] zeroth first = zeroth
      behind_sign (b ∷ bs) {v} zeroth first = signed (is_ascii_alphabetic b || b == 34) (b ∷ bs) v zeroth first
