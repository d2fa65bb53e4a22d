use Rattle.std.proofs.Common.{sym, ◌∙◌}
use Rattle.depend_graph.proofs.Few.{stands}
use Rattle.depend_graph.proofs.marks.place_among.Goals as goal

pub returns-then-eq-clause-some : goal.returns-then-eq-clause-some
returns-then-eq-clause-some c = stands c.args.few.now c.places.at c.index-few-at.result c.args.cell c.places-test.true
    (sym c.eq.ensures ∙ c.if-eq.true) c.places.invariant.before
