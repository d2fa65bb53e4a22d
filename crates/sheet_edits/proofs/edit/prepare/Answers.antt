use Rattle.sheet_edits.proofs.Dirtied.{reached_along, upward_along}
use Rattle.std.specs.Prelude.{[], ◌∷◌}
use Rattle.grid_address.specs.Place.{same_place}
use Rattle.cell_maps.specs.Sets.{has}
use Rattle.sheet_edits.specs.Edits.{just}
use Rattle.sheet_edits.proofs.edit.prepare.Goals as goal

pub insert_reached-requires : goal.insert_reached-requires
insert_reached-requires c = upward_along c.args.graph.now c.offer.new.graph c.offer.ensures.formulas
    (has same_place c.args.dirty.now.keys) c.requires.upward

pub returns-clause-dirty : goal.returns-clause-dirty
returns-clause-dirty c =
    reached_along c.args.graph.now c.offer.new.graph c.offer.ensures.formulas (c.args.cell ∷ []) (just c.args.cell)
    c.args.dirty.now.keys c.insert_reached.new.dirty.keys c.in_ok-insert_reached.ensures.dirty
