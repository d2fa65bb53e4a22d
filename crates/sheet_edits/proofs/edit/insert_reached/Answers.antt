use Rattle.std.specs.Prelude.{◌≡◌, ◌||◌, [], ◌∷◌, List}
use Rattle.std.proofs.Common.{ap, subst, sym, ◌∙◌}
use Rattle.grid_address.specs.Place.{same_place, Place}
use Rattle.cell_maps.specs.Sets.{has}
use Rattle.sheet_edits.proofs.Dirtied.{with_cell, with_reached}
use Rattle.sheet_edits.specs.Edits.{just}
use Rattle.sheet_edits.specs.inner.Settling.{WithReached}
use Rattle.sheet_edits.proofs.edit.insert_reached.Goals as goal

pub returns-then-is_known-clause-dirty : goal.returns-then-is_known-clause-dirty
returns-then-is_known-clause-dirty c =
    let old : List Place = c.args.dirty.now.keys in
    subst (λ (ks : List Place). WithReached c.args.graph.now (c.args.cell ∷ []) (just c.args.cell) old ks)
    (sym c.in_ok-insert.ensures.keys)
    (with_cell c.args.graph.now c.args.cell old c.requires (c.in_ok-is_known.ensures c.if-is_known.true))

pub returns-clause-dirty : goal.returns-clause-dirty
returns-clause-dirty c =
    let old : List Place = c.args.dirty.now.keys in
    let mid : List Place = c.insert_all.new.set.keys in
    subst (λ (ks : List Place). WithReached c.args.graph.now (c.args.cell ∷ []) (just c.args.cell) old ks)
    (sym c.in_ok-insert-2.ensures.keys)
    (with_reached c.args.graph.now c.args.cell old mid c.in_ok-reached.reached
    (λ x. c.in_ok-insert_all.ensures.members x
    ∙ ap (λ ks. has same_place old x || has same_place ks x) c.as_slice.ensures)
    c.in_ok-reached.ensures.list)
