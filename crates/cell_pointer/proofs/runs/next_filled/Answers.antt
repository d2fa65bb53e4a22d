use Rattle.std.proofs.Common.{◌∙◌, sym}
use Rattle.cell_pointer.specs.Moves.{ahead}
use Rattle.cell_pointer.proofs.Running.{next_at_edge, next_is_further, next_is_here}
use Rattle.cell_pointer.proofs.runs.next_filled.Goals as goal

pub returns-then-is_filled : goal.returns-then-is_filled
returns-then-is_filled c =
    sym (c.loop-next.invariant
    ∙ next_is_here c.args.cells.now c.loop-next.here c.in-Some.next (ahead c.args.arrow c.loop-next.here)
    (ahead c.args.arrow c.in-Some.next) c.in-Some.ensures.some (sym c.is_filled.ensures ∙ c.if-is_filled.true))

pub loop-next-preserved : goal.loop-next-preserved
loop-next-preserved c =
    c.loop-next.invariant ∙ next_is_further c.args.cells.now c.loop-next.here c.in-Some.next
    (ahead c.args.arrow c.loop-next.here) (ahead c.args.arrow c.in-Some.next) c.in-Some.ensures.some
    (sym c.is_filled.ensures ∙ c.if-is_filled.false)

pub returns : goal.returns
returns c =
    sym (c.loop-next.invariant
    ∙ next_at_edge c.args.cells.now c.loop-next.here (ahead c.args.arrow c.loop-next.here) c.in_default.ensures.none)
