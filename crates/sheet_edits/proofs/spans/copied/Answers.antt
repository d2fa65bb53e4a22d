use Rattle.std.specs.Prelude.{take, List, Some}
use Rattle.std.specs.FinMap.{get, insert}
use Rattle.std.proofs.Common.{ap, arith, subst, ◌∙◌}
use Rattle.std.proofs.lemmas.List.{take_all}
use Rattle.std.proofs.lemmas.Option.{same_Some}
use Rattle.grid_address.specs.Place.{same_place, Place}
use Rattle.cell_maps.specs.Sets.{has}
use Rattle.sheet_store.specs.Grid.{IsSound}
use Rattle.sheet_edits.proofs.Listed.{given_more, is_among}
use Rattle.sheet_edits.proofs.Sound.{copied_sound, given_sound}
use Rattle.sheet_edits.proofs.Spanned.{nothing_given}
use Rattle.sheet_edits.specs.Spans.{copied_state, source_of, AreGiven}
use Rattle.sheet_edits.proofs.spans.copied.Goals as goal

pub loop-cell-init : goal.loop-cell-init
loop-cell-init c = nothing_given c.in_ok-changes.changes c.in_ok-changes.ensures

pub loop-cell-preserved : goal.loop-cell-preserved
loop-cell-preserved c = given_more c.args.cells.now c.loop-cell.cell-index c.cell-item.result
    c.cell-item.is c.loop-cell-test.true c.loop-cell.changes c.set.new.self
    (λ x. Some (copied_state (get c.args.store.now.cells (source_of c.args.from c.args.first x))))
    (c.in_ok-set.ensures ∙ ap (λ s. insert c.loop-cell.changes c.cell-item.result s) (c.in_ok-state.ensures
    ∙ ap (λ p. copied_state (get c.args.store.now.cells p)) c.source_of.ensures)) c.loop-cell.invariant

pub source_of-requires-clause-row : goal.source_of-requires-clause-row
source_of-requires-clause-row c = (c.requires c.cell-item.result
    (is_among c.args.cells.now c.loop-cell.cell-index c.cell-item.result c.cell-item.is c.loop-cell-test.true)).0

pub source_of-requires-clause-col : goal.source_of-requires-clause-col
source_of-requires-clause-col c = (c.requires c.cell-item.result
    (is_among c.args.cells.now c.loop-cell.cell-index c.cell-item.result c.cell-item.is c.loop-cell-test.true)).1

pub returns-clause-given : goal.returns-clause-given
returns-clause-given c = subst (λ (cs : List Place). AreGiven c.loop-cell.changes (has same_place cs)
    (λ x. Some (copied_state (get c.args.store.now.cells (source_of c.args.from c.args.first x)))))
    (take_all c.loop-cell.cell-index c.args.cells.now (omega (arith, c.loop-cell-test.false))) c.loop-cell.invariant

pub returns-clause-sound : goal.returns-clause-sound
returns-clause-sound c = given_sound c.loop-cell.changes (has same_place (take c.loop-cell.cell-index c.args.cells.now))
    (λ x. Some (copied_state (get c.args.store.now.cells (source_of c.args.from c.args.first x)))) c.loop-cell.invariant
    (λ x s e. subst IsSound (same_Some _ s e)
    (copied_sound c.args.store.now.cells c.are_held.ensures (source_of c.args.from c.args.first x)))
