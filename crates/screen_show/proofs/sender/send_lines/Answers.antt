use Rattle.std.proofs.Common.{rules, arith, ◌+◌}
use Rattle.screen_show.proofs.ScreenSending.{screen_starts, screen_more, screen_passes, screen_ends, screen_untold}
use Rattle.screen_show.proofs.sender.send_lines.Goals as goal

pub loop-row-init : goal.loop-row-init
loop-row-init g c = record {
  within = c.next_from-row.ensures.within.1;
  lines =
      screen_passes c.args.lines.now c.args.before.now c.args.after.now c.is_whole.ensures c.is_whole-2.ensures
      c.requires
      0 _ _ _ (omega arith) c.next_from-row.ensures.within.1 c.next_from-row.ensures.passed
      (screen_starts c.args.before.now c.args.after.now _ c.takes_lines-whole.ensures.sound);
  kind = search rules;
  faults = search rules;
}

pub send_line-requires-clause-untold : goal.send_line-requires-clause-untold
send_line-requires-clause-untold g c = λ whole. screen_untold c.loop-row.row c.args.before.now c.args.after.now _ _
    c.loop-row.invariant.lines (c.takes_lines-whole.ensures.untold whole)

pub loop-row-preserved : goal.loop-row-preserved
loop-row-preserved g c = record {
  within = c.next_from-row-in-loop-row.ensures.within.1;
  lines =
      screen_passes c.args.lines.now c.args.before.now c.args.after.now c.is_whole.ensures c.is_whole-2.ensures
      c.requires
      (c.loop-row.row + 1) _ _ _ c.next_from-row-in-loop-row.ensures.within.0
      c.next_from-row-in-loop-row.ensures.within.1 c.next_from-row-in-loop-row.ensures.passed
      (screen_more c.loop-row.row c.args.before.now c.args.after.now c.line.result.now c.line-in-loop-row.result.now
      (omega arith)
      c.line.ensures.screen c.line-in-loop-row.ensures.screen c.line.ensures.line c.line-in-loop-row.ensures.line
      c.line.ensures.width c.line-in-loop-row.ensures.width
      _ _ _ c.in_ok-send_line.field-0 c.in_ok-send_line.ensures.shown c.loop-row.invariant.lines);
  kind = search rules;
  faults = search rules;
}

pub returns-clause-shown : goal.returns-clause-shown
returns-clause-shown g c =
    screen_ends c.loop-row.row c.args.before.now c.args.after.now _ _ _ _ c.is_whole.ensures c.is_whole-2.ensures
    c.takes_lines-whole.ensures.sound (omega arith) c.loop-row.invariant.lines c.end_frame.ensures.shown
