use Rattle.std.proofs.Common.{arith}
use Rattle.screen_show.proofs.LineSets.{copying_starts, copying_more, copying_ends}
use Rattle.screen_show.proofs.screen.Screen.copy_lines.Goals as goal

pub loop-row-init : goal.loop-row-init
loop-row-init c = record {
  within = c.next_from-row.ensures.within.1;
  copying =
      copying_starts c.args.lines.now c.args.self.now c.args.from.now c.requires _ c.next_from-row.ensures.passed
      c.is_whole.ensures.lines;
}

pub loop-row-preserved : goal.loop-row-preserved
loop-row-preserved c = record {
  within = c.next_from-row-in-loop-row.ensures.within.1;
  copying =
      rw (c.copy_line.ensures)
      (copying_more c.args.lines.now c.args.self.now c.args.from.now c.requires c.loop-row.row _ _ (omega arith)
      c.next_from-row-in-loop-row.ensures.within.0
      c.next_from-row-in-loop-row.ensures.passed c.is_whole-2.ensures.lines c.loop-row.invariant.copying);
}

pub returns : goal.returns
returns c =
    copying_ends c.args.lines.now c.args.self.now c.args.from.now c.requires c.loop-row.row _ (omega arith)
    c.is_whole-2.ensures.lines c.loop-row.invariant.copying
