use Rattle.std.specs.Prelude.{◌&&◌, ◌||◌, List}
use Rattle.std.specs.FinMap.{get}
use Rattle.std.proofs.Common.{ap, ◌∙◌}
use Rattle.grid_address.specs.Place.{same_place, Place}
use Rattle.cell_maps.specs.Sets.{has}
use Rattle.sheet_edits.proofs.Overlaid.{reached_all}
use Rattle.sheet_edits.specs.inner.Putting.{gives_formula}
use Rattle.sheet_edits.proofs.many.prepare_all.Goals as goal

pub returns-clause-dirty : goal.returns-clause-dirty
returns-clause-dirty c =
    let cells : List Place = c.args.cells.now in
    let old : List Place = c.args.dirty.now.keys in
    reached_all c.args.graph.now c.offer_all.new.graph c.offer_all.ensures.formulas cells
    (λ x. has same_place cells x && gives_formula (get c.args.changes.now x)) old c.insert_all.new.set.keys
    c.in_ok-reached.reached c.insert_given.new.dirty.keys
    (λ x. c.in_ok-insert_all.ensures.members x
    ∙ ap (λ ks. has same_place old x || has same_place ks x) c.as_slice-2.ensures)
    (λ x. c.in_ok-insert_given.ensures.members x ∙ ap (λ l. has same_place c.insert_all.new.set.keys x
    || (has same_place l x && gives_formula (get c.args.changes.now x))) c.as_slice-3.ensures)
    c.in_ok-reached.ensures
