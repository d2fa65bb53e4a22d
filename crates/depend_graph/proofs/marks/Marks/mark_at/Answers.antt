use Rattle.std.specs.Prelude.{List}
use Rattle.std.proofs.Common.{ap, arith, subst, sym, ◌∙◌}
use Rattle.cell_maps.specs.Numbers.{number_at}
use Rattle.depend_graph.proofs.Few.{mark_here, none_among, stands_within}
use Rattle.depend_graph.specs.inner.Marked.{is_among, StandsAt}
use Rattle.depend_graph.specs.declared.marks.Marked.{Marked}
use Rattle.depend_graph.proofs.marks.Marks.mark_at.Goals as goal

pub index-requires : goal.index-requires
index-requires c =
    let below = stands_within c.as_slice.result.now c.in-Some.at c.args.cell c.in-Some.ensures.some in
    let len = c.as_slice.ensures.len in
    omega (arith, below, len)

pub returns-in-Some : goal.returns-in-Some
returns-in-Some c = sym (mark_here c.args.self.now.few.items c.in-Some.at c.args.cell c.index.result.now
    (number_at c.args.self.now.table c.args.cell)
    (subst (λ (xs : List Marked). StandsAt xs c.in-Some.at c.args.cell) c.as_slice.ensures.value c.in-Some.ensures.some)
    c.index.ensures)

pub returns-in-None : goal.returns-in-None
returns-in-None c = c.number_at.ensures
    ∙ sym (none_among c.args.self.now.few.items (number_at c.args.self.now.table c.args.cell) c.args.cell
    (ap (λ (xs : List Marked). is_among xs c.args.cell) (sym c.as_slice.ensures.value) ∙ c.in-None.ensures.none))
