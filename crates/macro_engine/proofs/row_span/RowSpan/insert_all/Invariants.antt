use Rattle.std.proofs.Common.{◌≡◌, ℕ, true}
use Rattle.std.specs.Prelude.{take}
use Rattle.cell_maps.specs.Sets.{has}
use Rattle.grid_address.specs.Place.{same_place, Place}
use Rattle.macro_engine.specs.RowSpans.{is_in}
use Rattle.macro_engine.proofs.row_span.RowSpan.insert_all.Given as goal

abbrev pub invariant-loop-cell : goal.invariant-loop-cell
invariant-loop-cell l = record {
  cells : (c : Place) → has same_place (take l.cell-index l.cells) c ≡ true → is_in l.self c.row ≡ true;
  others : (k : ℕ) → is_in l.initial.self k ≡ true → is_in l.self k ≡ true;
}
