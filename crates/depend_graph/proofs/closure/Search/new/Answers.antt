use Rattle.std.proofs.Common.{ap, ◌∙◌, ◌++◌}
use Rattle.depend_graph.proofs.Searched.{searched_none}
use Rattle.depend_graph.proofs.closure.Search.new.Goals as goal

pub returns : goal.returns
returns c = λ g.
    searched_none g c.args.cells.now _ c.new.ensures c.new-2.ensures.items c.new-3.ensures.items
    (c.in_ok-push_all.ensures ∙ ap (λ xs. xs ++ c.args.cells.now) c.new-stack.ensures.items)
