use Rattle.std.proofs.Common.{◌∙◌, sym}
use Rattle.cell_pointer.specs.Moves.{ahead}
use Rattle.cell_pointer.proofs.Running.{run_at_edge, run_goes_on, run_stops}
use Rattle.cell_pointer.proofs.runs.run_end.Goals as goal

pub returns-then-not-is_filled : goal.returns-then-not-is_filled
returns-then-not-is_filled c =
    sym (c.loop-next.invariant
    ∙ run_stops c.args.cells.now c.loop-next.here c.in-Some.next (ahead c.args.arrow c.loop-next.here)
    (ahead c.args.arrow c.in-Some.next) c.in-Some.ensures.some (sym c.is_filled.ensures ∙ c.if-not-is_filled.true))

pub loop-next-preserved : goal.loop-next-preserved
loop-next-preserved c =
    c.loop-next.invariant ∙ run_goes_on c.args.cells.now c.loop-next.here c.in-Some.next
    (ahead c.args.arrow c.loop-next.here) (ahead c.args.arrow c.in-Some.next) c.in-Some.ensures.some
    (sym c.is_filled.ensures ∙ c.if-not-is_filled.false)

pub returns : goal.returns
returns c =
    sym (c.loop-next.invariant
    ∙ run_at_edge c.args.cells.now c.loop-next.here (ahead c.args.arrow c.loop-next.here) c.in_default.ensures.none)
