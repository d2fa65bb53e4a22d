use Rattle.std.proofs.Common.{ap, sym, ◌∙◌}
use Rattle.std.specs.FinMap.{entries}
use Rattle.sheet_store.proofs.Behind.{left_here, left_over_none, left_past}
use Rattle.sheet_store.specs.inner.Scan.{left_from}
use Rattle.sheet_store.proofs.entries.first_from.Goals as goal

pub returns-in-Some-get-clause-some : goal.returns-in-Some-get-clause-some
returns-in-Some-get-clause-some c =
    let m = c.args.store.now.cells in
    sym c.loop-next.invariant.left ∙ ap (λ o. left_from o (entries m)) c.in-Some.is
    ∙ left_here m c.are_held.ensures c.in-Some.place c.in-Some-get.state.now (sym c.in-Some-get.ensures)

pub loop-next-preserved : goal.loop-next-preserved
loop-next-preserved c =
    let m = c.args.store.now.cells in
    let place = c.in-Some.place in
    record {
      edge = c.edge_at.ensures.edge;
      left =
          sym (left_past m c.are_held.ensures place c.place_past-next.result c.place_past-next.ensures.some
          c.place_past-next.ensures.none)
          ∙ sym (left_over_none m c.are_held.ensures place (sym c.in-None.ensures))
          ∙ sym (ap (λ o. left_from o (entries m)) c.in-Some.is) ∙ c.loop-next.invariant.left;
    }
