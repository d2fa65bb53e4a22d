use Rattle.std.proofs.Common.{◌≡◌, ◌≤◌, ◌<◌, ◌+◌, ◌-◌, ℕ, false, true, Some}
use Rattle.std.specs.Prelude.{nat_eq, slice_get, take}
use Rattle.cell_maps.specs.Sets.{has}
use Rattle.grid_address.specs.Place.{same_place, Place}
use Rattle.session_core.proofs.rows.insert_cells.Given as goal

abbrev pub invariant-loop-cell : goal.invariant-loop-cell
invariant-loop-cell l = record {
  stay : (n : ℕ) → slice_get l.lines n ≡ Some false → slice_get l.initial.lines n ≡ Some false;
  told : (n : ℕ) → 4 ≤ n → n < 24 → slice_get l.lines n ≡ Some false → (c : Place)
      → has same_place (take l.cell-index l.cells) c ≡ true → nat_eq c.row (l.first + (n - 4)) ≡ false;
}
