-- A total goes on where a cell that was blank takes a value, wherever in its range the cell stands.
use Rattle.std.proofs.Common.{◌≡◌, ℕ, zero, suc, ◌+◌, ◌-◌, ◌≤◌, ◌<◌, List, [], ◌∷◌, ◌++◌, length, fold, refl, sym}
use Rattle.std.proofs.Common.{ap, subst, ◌∙◌, append_assoc, arith}
use Rattle.std.specs.Prelude.{Bool, true, false, ◌||◌, ℤ, pos, ◌+ℤ◌, Option, None, Some, cond, if◌then◌else◌}
use Rattle.std.specs.Int.RustNames.{int_lt}
use Rattle.std.specs.List.{list_any}
use Rattle.std.proofs.lemmas.Bool.Decides.{nat_tests}
use Rattle.std.specs.Int.{int_max, int_min}
use Rattle.std.proofs.lemmas.Int.{clamps, ints}
use Rattle.std.proofs.lemmas.List.{append-nil}
use Rattle.grid_address.specs.Place.{height_of, is_within, same_place, width_of, Extent, Place}
use Rattle.formula_tree.specs.declared.value.Value.{Value}
use Rattle.formula_tree.specs.declared.value.Value.TheVariants as value
use Rattle.formula_parts.specs.declared.items.Item.{Item}
use Rattle.formula_parts.specs.declared.items.Item.TheVariants as item
use Rattle.formula_parts.specs.declared.totals.Total.{Total}
use Rattle.formula_parts.specs.Lists.{in_range, is_err, is_na, items_in, larger, size_of, smaller}
use Rattle.formula_parts.specs.Outlook.{block_cells, cells_of, row_cells}
use Rattle.formula_parts.specs.inner.Totals.{IsTotal}
use Rattle.formula_parts.proofs.Blocks.{place}
use Rattle.formula_parts.proofs.Keeping.{block_same, row_same}
use Rattle.formula_parts.proofs.Totalled.{items_append, parted, same_cell}

module _ {X Y : Type 0} (f : Y → X → Y) (swap : (s : Y) (a b : X) → f (f s a) b ≡ f (f s b) a) (x : X) where
  at_front : (s : Y) (l : List X) → f (fold f s l) x ≡ fold f (f s x) l
  at_front s [] = refl
  at_front s (y ∷ l) = at_front (f s y) l ∙ ap (λ t. fold f t l) (swap s y x)

  at_end : (s : Y) (l : List X) → fold f s (l ++ x ∷ []) ≡ f (fold f s l) x
  at_end s [] = refl
  at_end s (y ∷ l) = at_end (f s y) l

  -- what stands behind comes to the same inside
  folded : (s : Y) (front back : List X) → fold f s ((front ++ back) ++ x ∷ []) ≡ fold f s (front ++ x ∷ back)
  folded s [] back = at_end s back ∙ at_front s back
  folded s (y ∷ front) back = folded (f s y) front back

any_of : {X : Type 0} (test : X → Bool) (x : X) (front back : List X)
    → list_any test ((front ++ back) ++ x ∷ []) ≡ list_any test (front ++ x ∷ back)
any_of test x [] [] = refl
any_of test x [] (y ∷ back) =
    ap (λ b. test y || b) (any_of test x [] back) ∙ turned (test y) (test x) (list_any test back)
  where
    turned : (a b c : Bool) → (a || (b || c)) ≡ (b || (a || c))
    turned a b c = grind arith
any_of test x (y ∷ front) back = ap (λ b. test y || b) (any_of test x front back)

length_of : {X : Type 0} (x : X) (front back : List X)
    → length ((front ++ back) ++ x ∷ []) ≡ length (front ++ x ∷ back)
length_of x [] [] = refl
length_of x [] (y ∷ back) = ap suc (length_of x [] back)
length_of x (y ∷ front) back = ap suc (length_of x front back)

summed : (s : ℤ) (a b : Item) → (s +ℤ size_of a) +ℤ size_of b ≡ (s +ℤ size_of b) +ℤ size_of a
summed s a b = turned s (size_of a) (size_of b)
  where
    turned : (s a b : ℤ) → (s +ℤ a) +ℤ b ≡ (s +ℤ b) +ℤ a
    turned s a b = omega (arith, ints)

least_two : (x y : ℤ) → int_min x y ≡ int_min y x
least_two x y = omega (arith, ints, clamps)

least_three : (x y z : ℤ) → int_min (int_min x y) z ≡ int_min (int_min x z) y
least_three x y z = omega (arith, ints, clamps)

greatest_two : (x y : ℤ) → int_max y x ≡ int_max x y
greatest_two x y = omega (arith, ints, clamps)

greatest_three : (x y z : ℤ) → int_max z (int_max y x) ≡ int_max y (int_max z x)
greatest_three x y z = omega (arith, ints, clamps)

chosen : (t : Bool) (x y : ℤ) → (if t then Some x else Some y) ≡ Some (cond t x y)
chosen true x y = refl
chosen false x y = refl

smaller_is : (x : ℤ) (a : Item) → smaller (Some x) a ≡ Some (int_min x (size_of a))
smaller_is x a = chosen (int_lt (size_of a) x) (size_of a) x

larger_is : (x : ℤ) (a : Item) → larger (Some x) a ≡ Some (int_max (size_of a) x)
larger_is x a = chosen (int_lt x (size_of a)) (size_of a) x

least : (o : Option ℤ) (a b : Item) → smaller (smaller o a) b ≡ smaller (smaller o b) a
least None a b =
    smaller_is (size_of a) b ∙ ap Some (least_two (size_of a) (size_of b)) ∙ sym (smaller_is (size_of b) a)
least (Some x) a b =
    ap (λ o. smaller o b) (smaller_is x a) ∙ smaller_is (int_min x (size_of a)) b
    ∙ ap Some (least_three x (size_of a) (size_of b))
    ∙ sym (ap (λ o. smaller o a) (smaller_is x b) ∙ smaller_is (int_min x (size_of b)) a)

greatest : (o : Option ℤ) (a b : Item) → larger (larger o a) b ≡ larger (larger o b) a
greatest None a b =
    larger_is (size_of a) b ∙ ap Some (greatest_two (size_of a) (size_of b)) ∙ sym (larger_is (size_of b) a)
greatest (Some x) a b =
    ap (λ o. larger o b) (larger_is x a) ∙ larger_is (int_max (size_of a) x) b
    ∙ ap Some (greatest_three x (size_of a) (size_of b))
    ∙ sym (ap (λ o. larger o a) (larger_is x b) ∙ larger_is (int_max (size_of b) x) a)

-- a total is one of the items in whatever order they stand
one_inside : (t : Total) (x : Item) (front back : List Item) → IsTotal t ((front ++ back) ++ x ∷ [])
    → IsTotal t (front ++ x ∷ back)
one_inside t x front back is = record {
  counted = is.counted ∙ length_of x front back;
  summed = is.summed ∙ folded (λ total i. total +ℤ size_of i) summed x (pos 0) front back;
  least = is.least ∙ folded smaller least x None front back;
  greatest = is.greatest ∙ folded larger greatest x None front back;
  errs = is.errs ∙ any_of is_err x front back;
  nas = is.nas ∙ any_of is_na x front back;
}

-- the items of two parts of a row
row_parted : (values : Place → Value) (row col a b : ℕ)
    → items_in values (row_cells row col (a + b))
    ≡ items_in values (row_cells row col a) ++ items_in values (row_cells row (col + a) b)
row_parted values row col zero b =
    ap (λ n. items_in values (row_cells row col n)) (let e : 0 + b ≡ b = omega arith in e)
    ∙ ap (λ c. items_in values (row_cells row c b)) (let e : col ≡ col + 0 = omega arith in e)
row_parted values row col (suc a) b =
    let first = in_range (values (place row col)) in
    let left = items_in values (row_cells row (col + 1) a) in
    ap (λ n. items_in values (row_cells row col n)) (let e : suc a + b ≡ suc (a + b) = omega arith in e)
    ∙ ap (λ (l : List Item). first ++ l) (row_parted values row (col + 1) a b)
    ∙ sym (append_assoc first left (items_in values (row_cells row (col + 1 + a) b)))
    ∙ ap (λ c. items_in values (row_cells row col (suc a)) ++ items_in values (row_cells row c b))
    (let e : col + 1 + a ≡ col + suc a = omega arith in e)

-- the items above and before a cell of a range, and those behind and below it
front : (Place → Value) → Extent → ℕ → ℕ → List Item
front values s a p =
    items_in values (block_cells s.first.row s.first.col a (width_of s))
    ++ items_in values (row_cells (s.first.row + a) s.first.col p)

back : (Place → Value) → Extent → ℕ → ℕ → ℕ → ℕ → List Item
back values s a b p q =
    items_in values (row_cells (s.first.row + a) (s.first.col + p + 1) q)
    ++ items_in values (block_cells (s.first.row + a + 1) s.first.col b (width_of s))

regrouped : (a b x c d : List Item) → a ++ ((b ++ (x ++ c)) ++ d) ≡ (a ++ b) ++ (x ++ (c ++ d))
regrouped a b x c d =
    ap (λ (l : List Item). a ++ l)
    (append_assoc b (x ++ c) d ∙ ap (λ (l : List Item). b ++ l) (append_assoc x c d))
    ∙ sym (append_assoc a b (x ++ (c ++ d)))

-- the items of a range, about one of its cells
about : (values : Place → Value) (s : Extent) (a b p q : ℕ) → height_of s ≡ a + suc b → width_of s ≡ p + suc q
    → items_in values (cells_of s)
    ≡ front values s a p ++ (in_range (values (place (s.first.row + a) (s.first.col + p))) ++ back values s a b p q)
unfolding front back
about values s a b p q height width =
    let row = s.first.row in
    let col = s.first.col in
    let above = items_in values (block_cells row col a (width_of s)) in
    let below = items_in values (block_cells (row + a + 1) col b (width_of s)) in
    ap (λ n. items_in values (block_cells row col n (width_of s))) height
    ∙ parted values row col a (suc b) (width_of s)
    ∙ ap (λ (l : List Item). above ++ l)
    (items_append values (row_cells (row + a) col (width_of s)) (block_cells (row + a + 1) col b (width_of s))
    ∙ ap (λ (l : List Item). l ++ below) (ap (λ n. items_in values (row_cells (row + a) col n)) width
    ∙ row_parted values (row + a) col p (suc q)))
    ∙ regrouped above (items_in values (row_cells (row + a) col p)) (in_range (values (place (row + a) (col + p))))
    (items_in values (row_cells (row + a) (col + p + 1) q)) below

other_row : (c : Place) (row col : ℕ) → (row ≡ c.row → ⊥) → same_place (place row col) c ≡ false
other_row c row col differs = grind (arith, nat_tests)

other_col : (c : Place) (row col : ℕ) → (col ≡ c.col → ⊥) → same_place (place row col) c ≡ false
other_col c row col differs = grind (arith, nat_tests)

module _ (values others : Place → Value) (s : Extent) (c : Place)
    (same : (d : Place) → same_place d c ≡ false → others d ≡ values d) (a b p q : ℕ) (row : c.row ≡ s.first.row + a)
    (col : c.col ≡ s.first.col + p) where
  same_front : front others s a p ≡ front values s a p
  unfolding front
  same_front = λ i.
      block_same values others s.first.row s.first.col a (width_of s)
      (λ r k up down left right. same (place r k) (other_row c r k (λ e. omega (arith, e, row, down)))) i
      ++ row_same values others (s.first.row + a) s.first.col p
      (λ k left right. same (place (s.first.row + a) k)
      (other_col c (s.first.row + a) k (λ e. omega (arith, e, col, right)))) i

  same_back : back others s a b p q ≡ back values s a b p q
  unfolding back
  same_back = λ i.
      row_same values others (s.first.row + a) (s.first.col + p + 1) q
      (λ k left right. same (place (s.first.row + a) k)
      (other_col c (s.first.row + a) k (λ e. omega (arith, e, col, left)))) i
      ++ block_same values others (s.first.row + a + 1) s.first.col b (width_of s)
      (λ r k up down left right. same (place r k) (other_row c r k (λ e. omega (arith, e, row, up)))) i

-- the total goes on with the item of a cell of its range that was blank
pub grown : (values others : Place → Value) (s : Extent) (c : Place) (x : Item) (t new : Total)
    → is_within s c ≡ true → values c ≡ value.Blank → in_range (others c) ≡ x ∷ []
    → ((d : Place) → same_place d c ≡ false → others d ≡ values d)
    → ((l : List Item) → IsTotal t l → IsTotal new (l ++ x ∷ []))
    → IsTotal t (items_in values (cells_of s)) → IsTotal new (items_in others (cells_of s))
grown values others s c x t new within blank takes same more is =
    let above : s.first.row ≤ c.row = grind (arith, nat_tests) in
    let below : c.row ≤ s.last.row = grind (arith, nat_tests) in
    let left : s.first.col ≤ c.col = grind (arith, nat_tests) in
    let right : c.col ≤ s.last.col = grind (arith, nat_tests) in
    let a = c.row - s.first.row in
    let b = s.last.row - c.row in
    let p = c.col - s.first.col in
    let q = s.last.col - c.col in
    let row : c.row ≡ s.first.row + a = omega (arith, above) in
    let col : c.col ≡ s.first.col + p = omega (arith, left) in
    let height : height_of s ≡ a + suc b = omega (arith, above, below) in
    let width : width_of s ≡ p + suc q = omega (arith, left, right) in
    let here : c ≡ place (s.first.row + a) (s.first.col + p) = same_cell c _ _ row col in
    let before = front values s a p in
    let behind = back values s a b p q in
    let old : IsTotal t (before ++ behind) = subst (IsTotal t) (about values s a b p q height width
    ∙ ap (λ v. before ++ (in_range v ++ behind)) (sym (ap values here) ∙ blank)) is in
    let now : items_in others (cells_of s) ≡ before ++ x ∷ behind =
    about others s a b p q height width
    ∙ (λ i. same_front values others s c same a b p q row col i
    ++ ((ap (λ (d : Place). in_range (others d)) (sym here) ∙ takes) i
    ++ same_back values others s c same a b p q row col i)) in
    subst (IsTotal new) (sym now) (one_inside new x before behind (more (before ++ behind) old))
