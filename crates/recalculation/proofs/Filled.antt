-- The filled cells of a span, found among the cells that are kept.
use Rattle.std.specs.Prelude.{ℕ, zero, suc, ◌≡◌, ◌+◌, ◌-◌, ◌<◌, Bool, ◌&&◌, ◌||◌, true, false, nat_eq, nat_le, nat_lt}
use Rattle.std.specs.Prelude.{refl, List, [], ◌∷◌, ◌++◌, Option, None, Some}
use Rattle.std.specs.Cmp.{nat_cmp_is}
use Rattle.std.specs.FinMap.{get}
use Rattle.std.specs.List.{filter, AllByRecursion}
use Rattle.std.specs.List.Sorted.{IsStrictlySortedBy}
use Rattle.std.specs.Ordering.{nat_cmp, ordering_then}
use Rattle.std.specs.declared.cmp.Ordering.TheVariants.{Less, Equal}
use Rattle.std.proofs.Common.{sym, ◌∙◌, ap, arith, inl, inr}
use Rattle.std.proofs.lemmas.Bool.{cases_Bool, false_from_ne_true, true≢false}
use Rattle.std.proofs.lemmas.Bool.Decides.{nat_tests}
use Rattle.std.proofs.lemmas.List.Folds.{list_any-append}
use Rattle.std.proofs.lemmas.List.Kept.{IsStrictlySortedBy-filter}
use Rattle.std.proofs.Math.Bool.{and-true}
use Rattle.grid_address.proofs.Places.{same_place_is}
use Rattle.grid_address.specs.Place.{height_of, is_within, place_cmp, same_place, width_of, Extent, Place}
use Rattle.formula_tree.specs.Values.{is_filled}
use Rattle.formula_parts.specs.Outlook.{block_cells, cells_of, row_cells}
use Rattle.natural_order.proofs.Cut.{filter_passes, has-filter}
use Rattle.cell_maps.specs.Sets.{has}
use Rattle.sheet_store.proofs.RowOrder.{same_members}
use Rattle.sheet_store.specs.Grid.{any_state, cells_within, value_at, value_of, Grid}
use Rattle.sheet_store.specs.State.{CellState}
use Rattle.recalculation.specs.inner.Laws.{has_picked, passes_at, Ascends}
use Rattle.recalculation.proofs.Ascending.{picked_ascends}

-- a filtered list has what passes of the list
pub has_filtered : (p : Place → Bool) (xs : List Place) (d : Place)
    → has same_place (filter p xs) d ≡ (p d && has same_place xs d)
has_filtered p xs d = elim (cases_Bool (p d)) [
  | inl t ↦ has-filter same_place same_place_is p d t xs ∙ sym (ap (λ b. b && has same_place xs d) t)
  | inr f ↦ false_from_ne_true _ (λ m. true≢false (sym (filter_passes same_place same_place_is p xs d m) ∙ f))
      ∙ sym (ap (λ b. b && has same_place xs d) f)
]

-- a place comes before all of a list
abbrev pub Before : Place → List Place → Type 0
Before x ys = AllByRecursion (λ y. place_cmp x y ≡ Less) ys

has_row : (row col n : ℕ) (d : Place)
    → has same_place (row_cells row col n) d ≡ (nat_eq d.row row && (nat_le col d.col && nat_lt d.col (col + n)))
has_row row col zero d = none (nat_eq d.row row) d.col col
  where
    none : (b : Bool) (x c : ℕ) → false ≡ (b && (nat_le c x && nat_lt x (c + 0)))
    none b x c = grind (arith, nat_tests)
has_row row col (suc n) d = ap (λ b. same_place d (record { row = row; col = col }) || b) (has_row row (col + 1) n d)
    ∙ joined (nat_eq d.row row) d.col col n
  where
    joined : (b : Bool) (x c n : ℕ) → ((b && nat_eq x c) || (b && (nat_le (c + 1) x && nat_lt x (c + 1 + n))))
        ≡ (b && (nat_le c x && nat_lt x (c + suc n)))
    joined true x c n = grind (arith, nat_tests)
    joined false x c n = refl

has_block : (row col rows cols : ℕ) (d : Place) → has same_place (block_cells row col rows cols) d
    ≡ ((nat_le row d.row && nat_lt d.row (row + rows)) && (nat_le col d.col && nat_lt d.col (col + cols)))
has_block row col zero cols d = none (nat_le col d.col && nat_lt d.col (col + cols)) d.row row
  where
    none : (b : Bool) (x c : ℕ) → false ≡ ((nat_le c x && nat_lt x (c + 0)) && b)
    none b x c = grind (arith, nat_tests)
has_block row col (suc rows) cols d =
    list_any-append (same_place d) (row_cells row col cols) (block_cells (row + 1) col rows cols)
    ∙ (λ i. has_row row col cols d i || has_block (row + 1) col rows cols d i)
    ∙ joined (nat_le col d.col && nat_lt d.col (col + cols)) d.row row rows
  where
    joined : (b : Bool) (x c n : ℕ) → ((nat_eq x c && b) || ((nat_le (c + 1) x && nat_lt x (c + 1 + n)) && b))
        ≡ ((nat_le c x && nat_lt x (c + suc n)) && b)
    joined true x c n = grind (arith, nat_tests)
    joined false x c n = grind (arith, nat_tests)

-- the cells of a span are those that lie in it
pub has_cells : (s : Extent) (d : Place) → has same_place (cells_of s) d ≡ is_within s d
has_cells s d = has_block s.first.row s.first.col (height_of s) (width_of s) d
    ∙ (λ i. ends d.row s.first.row s.last.row i && ends d.col s.first.col s.last.col i)
  where
    ends : (x a b : ℕ) → (nat_le a x && nat_lt x (a + (b + 1 - a))) ≡ (nat_le a x && nat_le x b)
    ends x a b = grind (arith, nat_tests)

-- in a row the left cell comes first
pub less_col : (x y : Place) → x.row ≡ y.row → x.col < y.col → place_cmp x y ≡ Less
less_col x y r h = (λ i. ordering_then (rows i) (cols i))
  where
    rows : nat_cmp x.row y.row ≡ Equal
    rows = sym (nat_cmp_is x.row y.row Equal r)

    cols : nat_cmp x.col y.col ≡ Less
    cols = sym (nat_cmp_is x.col y.col Less h)

-- a cell of a row above comes first
pub less_row : (x y : Place) → x.row < y.row → place_cmp x y ≡ Less
less_row x y h = ap (λ o. ordering_then o (nat_cmp x.col y.col)) (sym (nat_cmp_is x.row y.row Less h))

before_row : (x : Place) (row col n : ℕ) → x.row ≡ row → x.col < col → Before x (row_cells row col n)
before_row x row col zero r h = tt
before_row x row col (suc n) r h =
    (less_col x (record { row = row; col = col }) r h, before_row x row (col + 1) n r (omega arith))

below_row : (x : Place) (row col n : ℕ) → x.row < row → Before x (row_cells row col n)
below_row x row col zero h = tt
below_row x row col (suc n) h = (less_row x (record { row = row; col = col }) h, below_row x row (col + 1) n h)

before_both : (x : Place) (xs ys : List Place) → Before x xs → Before x ys → Before x (xs ++ ys)
before_both x [] ys a b = b
before_both x (z ∷ xs) ys a b = (a.0, before_both x xs ys a.1 b)

below_block : (x : Place) (row col rows cols : ℕ) → x.row < row → Before x (block_cells row col rows cols)
below_block x row col zero cols h = tt
below_block x row col (suc rows) cols h = before_both x (row_cells row col cols) (block_cells (row + 1) col rows cols)
    (below_row x row col cols h) (below_block x (row + 1) col rows cols (omega arith))

-- a row, and what comes below it
row_ascends : (row col n : ℕ) (ys : List Place) → ((x : Place) → x.row ≡ row → Before x ys) → Ascends ys
    → Ascends (row_cells row col n ++ ys)
unfolding IsStrictlySortedBy
row_ascends row col zero ys h s = s
row_ascends row col (suc n) ys h s =
    let x : Place = record { row = row; col = col } in (
      before_both x (row_cells row (col + 1) n) ys (before_row x row (col + 1) n refl (omega arith)) (h x refl),
      row_ascends row (col + 1) n ys h s,
    )

block_ascends : (row col rows cols : ℕ) → Ascends (block_cells row col rows cols)
unfolding IsStrictlySortedBy
block_ascends row col zero cols = tt
block_ascends row col (suc rows) cols = row_ascends row col cols (block_cells (row + 1) col rows cols)
    (λ x e. below_block x (row + 1) col rows cols (let k = e in omega arith)) (block_ascends (row + 1) col rows cols)

-- the cells of a span stand in row order
pub span_ascends : (s : Extent) → Ascends (cells_of s)
span_ascends s = block_ascends s.first.row s.first.col (height_of s) (width_of s)

-- the filled cells among those that are kept are those of the span
pub filled_is : (g : Grid) (s : Extent) → filter (λ (c : Place). is_filled (value_at g c)) (cells_within g s)
    ≡ filter (λ (c : Place). is_filled (value_at g c)) (cells_of s)
filled_is g s = same_members _ _
    (IsStrictlySortedBy-filter place_cmp (λ c. is_filled (value_at g c)) (cells_within g s)
    (picked_ascends any_state g s))
    (IsStrictlySortedBy-filter place_cmp (λ c. is_filled (value_at g c)) (cells_of s) (span_ascends s))
    (λ d. has_filtered (λ c. is_filled (value_at g c)) (cells_within g s) d
    ∙ ap (λ b. is_filled (value_at g d) && b) (has_picked any_state g s d) ∙ told d (get g.cells d)
    ∙ sym (has_filtered (λ c. is_filled (value_at g c)) (cells_of s) d
    ∙ ap (λ b. is_filled (value_at g d) && b) (has_cells s d)))
  where
    told : (d : Place) (o : Option CellState) → (is_filled (value_of o) && passes_at
        (λ e. is_within s e.0 && any_state e.1) d o) ≡ (is_filled (value_of o) && is_within s d)
    told d None = refl
    told d (Some x) = ap (λ b. is_filled x.value && b) (and-true (is_within s d))
