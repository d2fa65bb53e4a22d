use Rattle.wk1_formula.proofs.Gatherings.{last_taken}
use Rattle.wk1_formula.proofs.gather.take_last.Goals as goal

pub loop-turn-preserved : goal.loop-turn-preserved
loop-turn-preserved c =
    last_taken _ _ _ _ _ c.in-Some.item _ _ c.in-Some.ensures.items c.in_ok-push-in-Some.ensures.items
    c.loop-turn.invariant
