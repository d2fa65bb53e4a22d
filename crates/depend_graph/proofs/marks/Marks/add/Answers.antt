use Rattle.std.specs.Prelude.{List}
use Rattle.std.proofs.Common.{ap, ◌∙◌}
use Rattle.cell_maps.specs.Numbers.{number_at}
use Rattle.depend_graph.proofs.Few.{put_last}
use Rattle.depend_graph.specs.inner.Marked.{mark_among}
use Rattle.depend_graph.specs.declared.marks.Marked.{Marked}
use Rattle.depend_graph.proofs.marks.Marks.add.Goals as goal

pub returns-then-len-lt-FEW : goal.returns-then-len-lt-FEW
returns-then-len-lt-FEW c = λ d _.
    let elsewhere = number_at c.args.self.now.table d in
    ap (λ (xs : List Marked). mark_among xs elsewhere d) c.in_ok-push.ensures.items
    ∙ put_last c.args.self.now.few.items c.args.cell c.args.mark elsewhere d c.requires
