use Rattle.std.specs.Prelude.{◌≡◌, true, take}
use Rattle.cell_maps.specs.Sets.{has}
use Rattle.edit_log.specs.Changes.{all_changed, is_noted}
use Rattle.grid_address.specs.Place.{same_place, Place}
use Rattle.edit_log.proofs.log.EditLog.note_all.Given as goal

abbrev pub invariant-loop-cell : goal.invariant-loop-cell
invariant-loop-cell l = record {
  before : all_changed l.store.cells l.self ≡ all_changed l.store.cells l.fn.self;
  noted : (c : Place) → has same_place (take l.cell-index l.cells) c ≡ true → is_noted l.self c ≡ true;
}
