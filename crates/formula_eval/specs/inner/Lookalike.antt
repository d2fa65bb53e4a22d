-- Lookups over values that agree in the range.
use Rattle.std.specs.Prelude.{◌≡◌, ℕ, zero, suc, ◌+◌, ◌≤◌, ◌<◌, ◌==◌, nat_lt, not, position, refl, ℤ, pos, Bool, true, false, cond, Option, Some, None, List, [], ◌∷◌, length}
use Rattle.std.specs.List.{prefix_len}
use Rattle.std.proofs.Common.{ap, ◌∙◌, arith}
use Rattle.std.proofs.lemmas.Bool.Decides.{nat_tests}
use Rattle.grid_address.specs.Place.{height_of, is_within, spanned, width_of, Extent, Place}
use Rattle.at_functions.specs.Numbers.{count_of}
use Rattle.formula_tree.specs.declared.value.Value.{Value}
use Rattle.formula_tree.specs.declared.value.Value.TheVariants as value
use Rattle.formula_parts.specs.declared.argument.Operand.{Operand}
use Rattle.formula_parts.specs.declared.argument.Operand.TheVariants as operand
use Rattle.formula_eval.specs.inner.Agreement.{Agree, AgreeIn}
use Rattle.formula_parts.specs.Lookups.{by_number, by_passed, by_place, by_text, depth_of, firsts, index_value, is_label, line_cell, lines_of, looked_up, lookup_value, on_place, passes, place_by, place_in}
use Rattle.value_functions.specs.Values.{counted, number_in, on_number, stop_two, unless_stopped}

corner : (s : Extent) (row col : ℕ) → row < height_of s → col < width_of s →
    is_within s (record { row = s.first.row + row; col = s.first.col + col }) ≡ true
corner s row col h g =
    let r : s.first.row + row ≤ s.last.row = omega (arith, h) in
    let c : s.first.col + col ≤ s.last.col = omega (arith, g) in
    grind (arith, nat_tests, r, c)

line_inside : (across : Bool) (s : Extent) (line k : ℕ) → line < lines_of across s → k < depth_of across s →
    is_within s (line_cell across s line k) ≡ true
line_inside true s line k h g = corner s k line g h
line_inside false s line k h g = corner s line k h g

at_most : (c : Bool) (n m : ℕ) → n ≤ m → cond c (1 + n) 0 ≤ suc m
at_most true n m h = omega (arith, h)
at_most false n m h = omega arith

prefix_most : (p : Value → Bool) (xs : List Value) → prefix_len p xs ≤ length xs
prefix_most p [] = omega arith
prefix_most p (x ∷ xs) = at_most (p x) (prefix_len p xs) (length xs) (prefix_most p xs)

if_there : (k n line : ℕ) (c : Bool) → nat_lt k n ≡ c → cond c (Some k) None ≡ Some line → line < n
if_there k n line true test is = (let same : k ≡ line = cc in grind (arith, nat_tests, test, same))
if_there k n line false test is = absurd cc

position_in : (p : Value → Bool) (xs : List Value) (line : ℕ) → position p xs ≡ Some line → line < length xs
position_in p xs line is =
    if_there (prefix_len (λ x. not (p x)) xs) (length xs) line (nat_lt (prefix_len (λ x. not (p x)) xs) (length xs))
    refl is

if_small : (k count line : ℕ) (c : Bool) → nat_lt k count ≡ c → cond c (Some k) None ≡ Some line → line < count
if_small k count line true test is = (let same : k ≡ line = cc in grind (arith, nat_tests, test, same))
if_small k count line false test is = absurd cc

place_small : (o : Option ℕ) (count k : ℕ) → place_by o count ≡ Some k → k < count
place_small None count k is = absurd cc
place_small (Some n) count k is = if_small n count k (nat_lt n count) refl is

same_number : (o : Option ℤ) (f g : ℤ → Value) → ((x : ℤ) → f x ≡ g x) → on_number o f ≡ on_number o g
same_number None f g h = refl
same_number (Some x) f g h = h x

same_place_for : (o : Option ℕ) (f g : ℕ → Value) → ((k : ℕ) → o ≡ Some k → f k ≡ g k) → on_place o f ≡ on_place o g
same_place_for None f g h = refl
same_place_for (Some k) f g h = h k refl

module _ (v w : Place → Value) (across : Bool) (s : Extent) (agree : Agree s v w) where
  same_firsts : (line count : ℕ) → line + count ≤ lines_of across s → 0 < depth_of across s →
      firsts v across s line count ≡ firsts w across s line count
  same_firsts line zero h some = refl
  same_firsts line (suc count) h some =
      let here : v (line_cell across s line 0) ≡ w (line_cell across s line 0) =
      agree (line_cell across s line 0) (line_inside across s line 0 (omega (arith, h)) some) in
      let more = same_firsts (line + 1) count (omega (arith, h)) some in
      λ i. here i ∷ more i

  firsts_long : (line count : ℕ) → length (firsts v across s line count) ≡ count
  firsts_long line zero = refl
  firsts_long line (suc count) = ap suc (firsts_long (line + 1) count)

  same_passed : (k passed : ℕ) → passed ≤ lines_of across s → k < depth_of across s →
      by_passed v across s k passed ≡ by_passed w across s k passed
  same_passed k zero h g = refl
  same_passed k (suc passed) h g =
      agree (line_cell across s passed k) (line_inside across s passed k (omega (arith, h)) g)

  same_by_number : (k : ℕ) (x : ℤ) → k < depth_of across s → by_number v across s k x ≡ by_number w across s k x
  same_by_number k x g =
      let all = same_firsts 0 (lines_of across s) (omega arith) (omega (arith, g)) in
      let most : prefix_len (passes x) (firsts v across s 0 (lines_of across s)) ≤ lines_of across s =
      omega (
        arith,
        prefix_most (passes x) (firsts v across s 0 (lines_of across s)),
        firsts_long 0 (lines_of across s),
      ) in
      same_passed k (prefix_len (passes x) (firsts v across s 0 (lines_of across s))) most g
      ∙ ap (λ (l : List Value). by_passed w across s k (prefix_len (passes x) l)) all

  same_by_place : (k : ℕ) (o : Option ℕ) → ((line : ℕ) → o ≡ Some line → line < lines_of across s) →
      k < depth_of across s → by_place v across s k o ≡ by_place w across s k o
  same_by_place k None h g = refl
  same_by_place k (Some line) h g =
      ap (λ x. cond (k == 0) (counted line) x)
      (agree (line_cell across s line k) (line_inside across s line k (h line refl) g))

  same_by_text : (k : ℕ) (t : List ℕ) → k < depth_of across s → by_text v across s k t ≡ by_text w across s k t
  same_by_text k t g =
      let all = same_firsts 0 (lines_of across s) (omega arith) (omega (arith, g)) in
      same_by_place k (position (is_label t) (firsts v across s 0 (lines_of across s)))
      (λ line is. omega (
        arith,
        position_in (is_label t) (firsts v across s 0 (lines_of across s)) line is,
        firsts_long 0 (lines_of across s),
      )) g
      ∙ ap (λ (l : List Value). by_place w across s k (position (is_label t) l)) all

  same_looked_up : (k : ℕ) (x : Value) → k < depth_of across s → looked_up v across s k x ≡ looked_up w across s k x
  same_looked_up k (value.Str t) g = same_by_text k t g
  same_looked_up k (value.Num x) g = same_by_number k x g
  same_looked_up k value.Blank g = same_by_number k (pos 0) g
  same_looked_up k value.Err g = refl
  same_looked_up k value.Na g = refl

  pub same_in : (x n : Value) →
      unless_stopped (stop_two x n) (on_number (number_in n)
      (λ k. on_place (place_in k (depth_of across s)) (λ k. looked_up v across s k x))) ≡
      unless_stopped (stop_two x n) (on_number (number_in n)
      (λ k. on_place (place_in k (depth_of across s)) (λ k. looked_up w across s k x)))
  same_in x n =
      ap (unless_stopped (stop_two x n)) (same_number (number_in n) _ _
      (λ y. same_place_for (place_in y (depth_of across s)) _ _
      (λ k is. same_looked_up k x (place_small (count_of y) (depth_of across s) k is))))

pub same_lookup : (v w : Place → Value) (across : Bool) (x : Value) (o : Operand) (n : Value) → AgreeIn o v w →
    lookup_value v across x o n ≡ lookup_value w across x o n
same_lookup v w across x operand.Other n agree = refl
same_lookup v w across x (operand.Cell p) n agree = same_in v w across (spanned p p) agree x n
same_lookup v w across x (operand.Span s) n agree = same_in v w across s agree x n

index_in : (v w : Place → Value) (s : Extent) → Agree s v w → (col row : Value) →
    unless_stopped (stop_two col row) (on_number (number_in col)
    (λ c. on_number (number_in row) (λ r. on_place (place_in c (width_of s))
    (λ c. on_place (place_in r (height_of s)) (λ r. v (line_cell false s r c)))))) ≡
    unless_stopped (stop_two col row) (on_number (number_in col)
    (λ c. on_number (number_in row) (λ r. on_place (place_in c (width_of s))
    (λ c. on_place (place_in r (height_of s)) (λ r. w (line_cell false s r c))))))
index_in v w s agree col row =
    ap (unless_stopped (stop_two col row)) (same_number (number_in col) _ _ (λ x. same_number (number_in row) _ _ (λ y.
    same_place_for (place_in x (width_of s)) _ _ (λ c at_col. same_place_for (place_in y (height_of s)) _ _ (λ r at_row.
    agree (line_cell false s r c) (line_inside false s r c (place_small (count_of y) (height_of s) r at_row)
    (place_small (count_of x) (width_of s) c at_col)))))))

pub same_index : (v w : Place → Value) (o : Operand) (col row : Value) → AgreeIn o v w →
    index_value v o col row ≡ index_value w o col row
same_index v w operand.Other col row agree = refl
same_index v w (operand.Cell p) col row agree = index_in v w (spanned p p) agree col row
same_index v w (operand.Span s) col row agree = index_in v w s agree col row
