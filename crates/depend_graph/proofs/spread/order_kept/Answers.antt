use Rattle.std.proofs.Common.{subst, sym, ◌∙◌}
use Rattle.depend_graph.specs.InOrder.{GoesInOrder}
use Rattle.depend_graph.proofs.spread.order_kept.Goals as goal

pub returns-then-are_same : goal.returns-then-are_same
returns-then-are_same c = λ g k o. subst (GoesInOrder g)
    (sym c.as_slice.ensures ∙ c.are_same.ensures c.if-are_same.true) ((k c.in-Some.spread c.in-Some.is).order o)
