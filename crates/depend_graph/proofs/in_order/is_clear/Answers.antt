use Rattle.depend_graph.proofs.Marked.{apart_none}
use Rattle.depend_graph.proofs.in_order.is_clear.Goals as goal

pub returns-then-is_apart : goal.returns-then-is_apart
returns-then-is_apart c =
    λ _ d m. apart_none c.args.span c.args.hull.now d (c.requires d m).1.1 (c.is_apart.ensures c.if-is_apart.true d)
