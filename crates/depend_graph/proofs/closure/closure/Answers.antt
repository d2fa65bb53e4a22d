use Rattle.std.proofs.Common.{ap, sym, ◌∙◌}
use Rattle.std.proofs.lemmas.Result.{IfOk-weaker}
use Rattle.cell_maps.specs.Sets.{has}
use Rattle.grid_address.specs.Place.{same_place}
use Rattle.depend_graph.proofs.Growth.{spread, spread_unread}
use Rattle.depend_graph.proofs.closure.closure.Goals as goal

pub returns-then-are_unread : goal.returns-then-are_unread
returns-then-are_unread c =
    IfOk-weaker c.formulas_among.result _ _ (λ l h x.
    let alone = spread_unread c.args.graph.now c.args.cells.now (c.are_unread.ensures c.if-are_unread.true) x in (
      (λ m. alone.0 ((h x).0 m)),
      (λ s. (h x).1 (alone.1 s)),
    )) c.formulas_among.ensures

pub returns : goal.returns
returns c = λ x.
    let left = c.in_ok-left.ensures x in
    let list = c.in_ok-list.ensures x in
    let same = ap (λ xs. has same_place xs x) c.as_slice.ensures.value in
    let is = spread c.args.graph.now c.args.cells.now x in (
      (λ h. let k = list.0 h in is.0 (left.0 (sym same ∙ k.0), λ _. k.1)),
      (λ h. let w = is.1 h in list.1 (same ∙ left.1 w.0, h.formula)),
    )
