use Rattle.std.specs.Prelude.{◌≡◌, None, Some}
use Rattle.std.proofs.Common.{ap, sym, ◌∙◌}
use Rattle.std.specs.FinMap.{get}
use Rattle.sheet_store.specs.Grid.{formatted, Cells, Grid}
use Rattle.sheet_store.proofs.Held.{blank_there}
use Rattle.sheet_store.proofs.store.Store.is_blank.Goals as goal

pub returns-in-Some-clause-blank : goal.returns-in-Some-clause-blank
returns-in-Some-clause-blank c = λ blank f.
    (let old : Cells = c.self.inside.cells in
    let s = c.in-Some.state.now in
    let found : get old c.args.cell ≡ Some s = sym c.in-Some.ensures in
    let now : get c.args.self.now.cells c.args.cell ≡ Some s =
    ap (λ (g : Grid). get g.cells c.args.cell) (sym c.self.view_is) ∙ found in
    ap (λ o. formatted o f) now
    ∙ blank_there s f (sym c.is_blank.ensures ∙ blank) (c.self.invariant.held c.args.cell s found).sound)

pub returns-in-Some-clause-filled : goal.returns-in-Some-clause-filled
returns-in-Some-clause-filled c = λ filled.
    (let s = c.in-Some.state.now in
    let found : get c.args.self.now.cells c.args.cell ≡ Some s =
    ap (λ (g : Grid). get g.cells c.args.cell) (sym c.self.view_is) ∙ sym c.in-Some.ensures in
    (s, found, sym c.is_blank.ensures ∙ filled))

pub returns-in-None-clause-blank : goal.returns-in-None-clause-blank
returns-in-None-clause-blank c = λ blank f.
    (let none : get c.args.self.now.cells c.args.cell ≡ None =
    ap (λ (g : Grid). get g.cells c.args.cell) (sym c.self.view_is) ∙ sym c.in-None.ensures in
    ap (λ o. formatted o f) none)
