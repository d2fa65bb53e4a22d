use Rattle.std.specs.Prelude.{true}
use Rattle.std.specs.FinMap.{get}
use Rattle.std.proofs.Common.{ap, subst, sym, ◌∙◌}
use Rattle.grid_address.specs.Place.{same_place}
use Rattle.depend_graph.specs.Network.{Network}
use Rattle.cell_maps.specs.Sets.{has}
use Rattle.recalculation.specs.Reading.{is_formula_at, Matches}
use Rattle.sheet_store.specs.Grid.{put_state, Grid}
use Rattle.sheet_edits.proofs.Dirtied.{dirtied_settled, matches_settled}
use Rattle.sheet_edits.proofs.Undone.{back_is, formula_there, is_there}
use Rattle.sheet_edits.specs.inner.Undoing.{put_back}
use Rattle.sheet_edits.proofs.line.write_evaluated.Goals as goal

pub evaluate_at-requires : goal.evaluate_at-requires
evaluate_at-requires g c = ap (λ (x : Grid). is_formula_at x c.args.cell) c.in-Ok.ensures.store
    ∙ formula_there c.args.parts.now.store.now c.args.cell c.args.state c.requires.kept c.requires.formula

pub put_back-requires-clause-there : goal.put_back-requires-clause-there
put_back-requires-clause-there g c = λ h. is_there c.args.parts.now.store.now c.args.cell c.args.state c.requires.kept
    (sym (ap (λ (x : Grid). get x.cells c.args.cell) (c.in-Err-evaluate_at.ensures.err ∙ c.in-Ok.ensures.store)) ∙ h)

pub returns-in-Ok-evaluate_at-clause-dirty : goal.returns-in-Ok-evaluate_at-clause-dirty
returns-in-Ok-evaluate_at-clause-dirty g c =
    dirtied_settled c.args.parts.now.store.now c.args.cell c.args.state (λ _. c.requires.kept)
    c.args.parts.now.graph.now c.prepare.new.graph c.requires.matches c.prepare.ensures.formulas
    c.args.parts.now.dirty.now.keys c.prepare.new.dirty.keys
    c.requires.only c.in-Ok.ensures.dirty
    true c.requires.formula (has same_place c.settle.new.dirty.keys) c.settle.ensures.dirty

pub returns-in-Ok-evaluate_at-clause-matches : goal.returns-in-Ok-evaluate_at-clause-matches
returns-in-Ok-evaluate_at-clause-matches g c =
    subst (λ (n : Network). Matches n (put_state c.args.parts.now.store.now c.args.cell c.args.state))
    (sym c.settle.ensures.graph)
    (matches_settled c.args.parts.now.store.now c.args.cell c.args.state (λ _. c.requires.kept)
    c.args.parts.now.graph.now c.prepare.new.graph c.requires.matches c.prepare.ensures.formulas c.in-Ok.ensures.offer
    true c.requires.formula)

pub returns-in-Err-evaluate_at-clause-store_err : goal.returns-in-Err-evaluate_at-clause-store_err
returns-in-Err-evaluate_at-clause-store_err g c =
    c.put_back.ensures
    ∙ ap (λ (x : Grid). put_back x c.args.cell c.in_ok-old.old)
    (c.in-Err-evaluate_at.ensures.err ∙ c.in-Ok.ensures.store)
    ∙ back_is c.args.parts.now.store.now c.args.cell c.args.state c.in_ok-old.old (sym c.in_ok-old.ensures.state)
