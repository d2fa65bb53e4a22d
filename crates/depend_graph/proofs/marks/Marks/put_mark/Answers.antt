use Rattle.std.specs.Prelude.{List}
use Rattle.std.proofs.Common.{arith, subst}
use Rattle.cell_maps.specs.Numbers.{number_at}
use Rattle.depend_graph.proofs.Few.{put_here, stands_within}
use Rattle.depend_graph.specs.inner.Marked.{StandsAt}
use Rattle.depend_graph.specs.declared.marks.Marked.{Marked}
use Rattle.depend_graph.proofs.marks.Marks.put_mark.Goals as goal

pub index_mut-requires : goal.index_mut-requires
index_mut-requires c =
    let below = stands_within c.as_slice.result.now c.in-Some.at c.args.cell c.in-Some.ensures.some in
    let len = c.as_slice.ensures.len in
    omega (arith, below, len)

pub returns-in-Some : goal.returns-in-Some
returns-in-Some c = λ d _.
    put_here c.args.self.now.few.items c.in-Some.at c.args.cell c.args.mark (number_at c.args.self.now.table d) d
    (subst (λ (xs : List Marked). StandsAt xs c.in-Some.at c.args.cell) c.as_slice.ensures.value c.in-Some.ensures.some)
