use Rattle.std.proofs.Common.{◌-◌, arith, length, refl}
use Rattle.sheet_store.proofs.HeldOrder.{all_in_order, front_more, none_in_order}
use Rattle.sheet_store.proofs.held_order.is_in_order.Goals as goal

pub loop-at-init : goal.loop-at-init
loop-at-init c = record {
  within = omega arith;
  ordered = none_in_order c.args.held.now (length c.args.held.now) refl;
}

pub loop-at-preserved : goal.loop-at-preserved
loop-at-preserved c = record {
  within = omega (arith, c.loop-at.invariant.within);
  ordered = front_more c.args.held.now (c.loop-at.at - 1) c.loop-at.at c.index-held-place.result c.in-Some.number
      c.loop-at.least (omega (arith, c.loop-at-test.true)) c.loop-at.invariant.within c.index-held-place.is
      c.in-Some.ensures c.loop-at.invariant.ordered;
}

pub returns : goal.returns
returns c = λ t. all_in_order c.args.held.now c.loop-at.at c.loop-at.least (omega (arith, c.loop-at-test.false))
    c.loop-at.invariant.ordered
