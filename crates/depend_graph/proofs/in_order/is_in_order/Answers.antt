use Rattle.std.specs.Prelude.{ℕ, suc, ◌≡◌, ◌≤◌, ◌-◌, true, List, length}
use Rattle.std.proofs.Common.{arith, rules, subst, sym}
use Rattle.grid_address.specs.Place.{Place}
use Rattle.depend_graph.proofs.Marked.{goes_more, marked_more, whole_rest}
use Rattle.depend_graph.specs.InOrder.{is_volatile_at, StandsFirst}
use Rattle.depend_graph.specs.inner.Marked.{AreMarked}
use Rattle.depend_graph.specs.Network.{reads}
use Rattle.depend_graph.proofs.in_order.is_in_order.Goals as goal

pub stands_first-requires : goal.stands_first-requires
stands_first-requires c =
    let cells : List Place = c.args.cells.now in
    let n : ℕ = c.back.next - 1 in
    let e : c.back.next ≡ suc n = let h = c.back-test.true in omega (arith, h) in
    subst (AreMarked c.put_mark.new.self c.put.new.self) (sym (whole_rest cells n))
    (marked_more cells c.back.next n c.index-cells-next.result c.back.marked c.put_mark.new.self c.back.hull
    c.put.new.self e c.back.invariant.within c.index-cells-next.is c.is_on_sheet.ensures c.back.invariant.marked
    c.in_ok-put_mark.ensures c.put.ensures.kept c.put.ensures.here)

pub back-preserved : goal.back-preserved
back-preserved c =
    let cells : List Place = c.args.cells.now in
    let n : ℕ = c.back.next - 1 in
    let e : c.back.next ≡ suc n = let h = c.back-test.true in omega (arith, h) in
    let yes : c.stands_first.result ≡ true = search rules in
    let within : n ≤ length cells = let h = c.back.invariant.within in omega (arith, h) in
    record {
      within = within;
      marked = marked_more cells c.back.next n c.index-cells-next.result c.back.marked c.put_mark.new.self c.back.hull
          c.put.new.self e c.back.invariant.within c.index-cells-next.is c.is_on_sheet.ensures c.back.invariant.marked
          c.in_ok-put_mark.ensures c.put.ensures.kept c.put.ensures.here;
      goes = goes_more c.args.graph.now cells c.back.next n c.index-cells-next.result e c.back.invariant.within
          c.index-cells-next.is
          (subst (λ (l : List Place). StandsFirst (is_volatile_at c.args.graph.now) (reads c.args.graph.now) l
          c.index-cells-next.result) (whole_rest cells n) (c.stands_first.ensures yes)) c.back.invariant.goes;
    }
