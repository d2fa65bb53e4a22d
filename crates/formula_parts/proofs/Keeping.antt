-- A total that is kept: it holds while none of its cells changes, and a range with more rows begins with it.
use Rattle.std.proofs.Common.{◌≡◌, ℕ, zero, suc, ◌+◌, ◌≤◌, ◌<◌, List, ◌++◌, Some, None, inl, inr, refl, sym, ap, subst}
use Rattle.std.proofs.Common.{◌∙◌, arith}
use Rattle.std.specs.Prelude.{true, false, Option, IfSome}
use Rattle.std.proofs.lemmas.Bool.{cases_Bool, true≢false}
use Rattle.std.proofs.lemmas.Bool.Decides.{nat_tests}
use Rattle.grid_address.specs.Place.{height_of, is_within, same_place, width_of, Extent, Place}
use Rattle.formula_tree.specs.declared.value.Value.{Value}
use Rattle.formula_parts.specs.declared.items.Item.{Item}
use Rattle.formula_parts.specs.declared.kept.Running.{Running}
use Rattle.formula_parts.specs.inner.Kept.{IsRunning}
use Rattle.formula_parts.specs.Lists.{in_range, items_in}
use Rattle.formula_parts.specs.Outlook.{block_cells, cells_of, row_cells}
use Rattle.formula_parts.specs.inner.Totals.{so_far, IsTotal}
use Rattle.formula_parts.proofs.Blocks.{place}
use Rattle.formula_parts.proofs.Totalled.{items_append}

-- the items of a row hang on the values of its cells alone
pub row_same : (values others : Place → Value) (row col count : ℕ)
    → ((k : ℕ) → col ≤ k → k < col + count → others (place row k) ≡ values (place row k))
    → items_in others (row_cells row col count) ≡ items_in values (row_cells row col count)
row_same values others row col zero same = refl
row_same values others row col (suc count) same =
    ap (λ v. in_range v ++ items_in others (row_cells row (col + 1) count)) (same col (omega arith) (omega arith))
    ∙ ap (λ (l : List Item). in_range (values (place row col)) ++ l)
    (row_same values others row (col + 1) count (λ k low high. same k (omega (arith, low)) (omega (arith, high))))

-- so do those of a block
pub block_same : (values others : Place → Value) (row col rows cols : ℕ)
    → ((r k : ℕ) → row ≤ r → r < row + rows → col ≤ k → k < col + cols → others (place r k) ≡ values (place r k))
    → items_in others (block_cells row col rows cols) ≡ items_in values (block_cells row col rows cols)
block_same values others row col zero cols same = refl
block_same values others row col (suc rows) cols same =
    items_append others (row_cells row col cols) (block_cells (row + 1) col rows cols)
    ∙ ap (λ (l : List Item). l ++ items_in others (block_cells (row + 1) col rows cols))
    (row_same values others row col cols (λ k low high. same row k (omega arith) (omega arith) low high))
    ∙ ap (λ (l : List Item). items_in values (row_cells row col cols) ++ l) (block_same values others (row + 1) col rows
    cols (λ r k above below left right. same r k (omega (arith, above)) (omega (arith, below)) left right))
    ∙ sym (items_append values (row_cells row col cols) (block_cells (row + 1) col rows cols))

-- a cell of a span is none outside it
pub other : (s : Extent) (c : Place) (r k : ℕ) → is_within s c ≡ false → s.first.row ≤ r → r < s.first.row + height_of s
    → s.first.col ≤ k → k < s.first.col + width_of s → same_place (place r k) c ≡ false
other s c r k outside above below left right = elim (cases_Bool (same_place (place r k) c)) [
  | inl same ↦
      let row : r ≡ c.row = grind (arith, nat_tests) in
      let col : k ≡ c.col = grind (arith, nat_tests) in
      let bottom : c.row ≤ s.last.row = omega (arith, row, above, below) in
      let side : c.col ≤ s.last.col = omega (arith, col, left, right) in
      let within : is_within s c ≡ true = grind (arith, nat_tests) in
      absurd (true≢false (sym within ∙ outside))
  | inr differs ↦ differs
]

-- the items of a span hang on no cell outside it
pub stays : (values others : Place → Value) (s : Extent) (c : Place) → is_within s c ≡ false
    → ((d : Place) → same_place d c ≡ false → others d ≡ values d)
    → items_in values (cells_of s) ≡ items_in others (cells_of s)
stays values others s c outside same =
    sym (block_same values others s.first.row s.first.col (height_of s) (width_of s)
    (λ r k above below left right. same (place r k) (other s c r k outside above below left right)))

-- the items of a span are those of the first rows of one that begins with it
pub goes_on : (values : Place → Value) (s t : Extent) → s.first.row ≡ t.first.row → s.first.col ≡ t.first.col
    → width_of s ≡ width_of t → items_in values (cells_of s) ≡ so_far values t (height_of s)
goes_on values s t row col width =
    ap (λ r. items_in values (block_cells r s.first.col (height_of s) (width_of s))) row
    ∙ ap (λ k. items_in values (block_cells t.first.row k (height_of s) (width_of s))) col
    ∙ ap (λ w. items_in values (block_cells t.first.row t.first.col (height_of s) w)) width

-- a total that is kept is one still where the cell that changes isn't in its range
pub running_stays : (values others : Place → Value) (kept : Option Running) (c : Place)
    → IfSome kept (λ r. is_within r.span c ≡ false) → ((d : Place) → same_place d c ≡ false → others d ≡ values d)
    → IfSome kept (IsRunning values) → IfSome kept (IsRunning others)
running_stays values others None c outside same is = tt
running_stays values others (Some r) c outside same is =
    subst (IsTotal r.total) (stays values others r.span c outside same) is
