use Rattle.std.proofs.Common.{◌∷◌, ap, drop, sym, ◌∙◌}
use Rattle.std.specs.FinMap.{entries}
use Rattle.cell_maps.specs.Filled.{filled}
use Rattle.grid_address.specs.Place.{Place}
use Rattle.sheet_store.specs.State.{CellState}
use Rattle.sheet_store.specs.inner.Scan.{left_from}
use Rattle.sheet_store.proofs.Behind.{left_here, left_next}
use Rattle.sheet_store.proofs.HeldOrder.{on_run, on_search}
use Rattle.sheet_store.proofs.entries.Entries.next.Goals as goal

pub returns-in-Some-clause-some : goal.returns-in-Some-clause-some
returns-in-Some-clause-some c =
    let e = c.self.inside in
    sym c.self.view_is
    ∙ on_run e.is_run (c.in-Some.entry.0, c.in-Some.entry.1.now) (filled (drop e.at e.held.now))
    (filled (drop c.in-Some.entry.2 e.held.now)) (left_from e.from (entries e.store.now.cells)) c.if-self.true
    c.in-Some.ensures.some

pub returns-in-Some-get-clause-some : goal.returns-in-Some-get-clause-some
returns-in-Some-get-clause-some c =
    let e = c.self.inside in
    let m = e.store.now.cells in
    let place = c.in-Some-from.place in
    let next = c.place_after-self-inside.result in
    let entry : Place × CellState = (place, c.in-Some-get.state.now) in
    sym c.self.view_is
    ∙ on_search e.is_run entry (left_from e.from (entries m)) (left_from next (entries m))
    (filled (drop e.at e.held.now)) c.if-self.false
    (ap (λ o. left_from o (entries m)) c.in-Some-from.is
    ∙ left_here m c.are_held.ensures place c.in-Some-get.state.now (sym c.in-Some-get.ensures)
    ∙ ap (λ l. entry ∷ l) (left_next m c.are_held.ensures e.last place next c.self.invariant.1
    c.place_after-self-inside.ensures.some c.place_after-self-inside.ensures.none))

pub returns-in-Some-first_from-clause-some : goal.returns-in-Some-first_from-clause-some
returns-in-Some-first_from-clause-some c =
    let e = c.self.inside in
    let m = e.store.now.cells in
    let place = c.in-Some-first_from.entry.0 in
    let next = c.place_after-self-inside-in-Some-first_from.result in
    let entry : Place × CellState = (place, c.in-Some-first_from.entry.1.now) in
    sym c.self.view_is
    ∙ on_search e.is_run entry (left_from e.from (entries m)) (left_from next (entries m))
    (filled (drop e.at e.held.now)) c.if-self.false
    (ap (λ o. left_from o (entries m)) c.in-Some-from.is ∙ c.in-Some-first_from.ensures.some
    ∙ ap (λ l. entry ∷ l) (left_next m c.are_held.ensures e.last place next c.self.invariant.1
    c.place_after-self-inside-in-Some-first_from.ensures.some
    c.place_after-self-inside-in-Some-first_from.ensures.none))
