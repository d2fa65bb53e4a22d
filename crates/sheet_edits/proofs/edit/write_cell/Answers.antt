use Rattle.std.specs.Prelude.{◌≡◌, false, List, Result, Ok, Err, OnOk}
use Rattle.std.proofs.Common.{subst, sym, ◌∙◌}
use Rattle.grid_address.specs.Place.{same_place, Place}
use Rattle.depend_graph.specs.Network.{Network}
use Rattle.cell_maps.specs.Sets.{has}
use Rattle.recalculation.specs.Reading.{Matches}
use Rattle.sheet_store.specs.Grid.{is_formula, Grid}
use Rattle.sheet_edits.proofs.Dirtied.{dirtied_alone, dirtied_settled, matches_settled}
use Rattle.sheet_edits.specs.Edits.{just, AreDirtied}
use Rattle.sheet_edits.specs.inner.Settling.{settled}
use Rattle.sheet_edits.proofs.edit.write_cell.Goals as goal

-- what holds where there was memory leads on there
on_ok_by : {T E : Type 0} (r : Result T E) {P Q : Type 0} → (P → Q) → OnOk r P → OnOk r Q
on_ok_by (Ok x) tells p = tells p
on_ok_by (Err e) tells p = tt

pub returns-then-is_alone-clause-dirty : goal.returns-then-is_alone-clause-dirty
returns-then-is_alone-clause-dirty c =
    let old : List Place = c.args.dirty.now.keys in
    let other : is_formula c.args.state.content ≡ false =
    sym c.is_formula-holds_formula.ensures ∙ c.is_alone.ensures.formula c.if-is_alone.true in
    on_ok_by c.write_alone.result
    (λ put. subst (λ (g : Grid). AreDirtied g (has same_place old) (just c.args.cell) (has same_place old)) (sym put)
    (dirtied_alone c.args.store.now c.args.cell c.args.state other c.args.graph.now c.requires.matches old
    (c.is_alone.ensures.dirty c.if-is_alone.true) (c.is_alone.ensures.unread c.if-is_alone.true)))
    c.write_alone.ensures.store

pub returns-in-Ok-clause-dirty : goal.returns-in-Ok-clause-dirty
returns-in-Ok-clause-dirty c =
    let old : List Place = c.args.dirty.now.keys in
    let mid : List Place = c.prepare.new.dirty.keys in
    subst (λ (g : Grid). AreDirtied g (has same_place old) (just c.args.cell) (has same_place c.settle.new.dirty.keys))
    (sym c.in-Ok.ensures.store)
    (dirtied_settled c.args.store.now c.args.cell c.args.state c.requires.kept c.args.graph.now c.prepare.new.graph
    c.requires.matches c.prepare.ensures.formulas old mid c.requires.only c.in-Ok.ensures.dirty
    c.is_formula-holds_formula.result (sym c.is_formula-holds_formula.ensures)
    (has same_place c.settle.new.dirty.keys) c.settle.ensures.dirty)

pub returns-in-Ok-clause-matches : goal.returns-in-Ok-clause-matches
returns-in-Ok-clause-matches c =
    subst (λ (n : Network). Matches n c.prepare.new.store) (sym c.settle.ensures.graph)
    (subst (λ (g : Grid). Matches (settled c.is_formula-holds_formula.result c.prepare.new.graph c.args.cell) g)
    (sym c.in-Ok.ensures.store)
    (matches_settled c.args.store.now c.args.cell c.args.state c.requires.kept c.args.graph.now c.prepare.new.graph
    c.requires.matches c.prepare.ensures.formulas c.in-Ok.ensures.offer c.is_formula-holds_formula.result
    (sym c.is_formula-holds_formula.ensures)))
