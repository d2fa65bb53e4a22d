use Rattle.std.proofs.Common.{rules, ◌≡◌, ◌≤◌, ◌<◌, ◌+◌, length, arith, ap, ◌∙◌, drop, take}
use Rattle.std.proofs.lemmas.List.{length-drop}
use Rattle.screen_show.specs.inner.Patches.{differing_front}
use Rattle.screen_show.proofs.LineSending.{line_begins, line_put, line_stretch, line_whole, rests_differ, rests_equal}
use Rattle.screen_show.proofs.sender.send_line.Goals as goal

pub returns-then-whole-clause-shown : goal.returns-then-whole-clause-shown
returns-then-whole-clause-shown g c =
    line_whole c.args.row c.args.before.now c.args.after.now _ _ _ (c.requires.untold c.if-whole.true)
    c.put_run.ensures.shown

pub loop-col-init : goal.loop-col-init
loop-col-init g c = record {
  within = omega (arith, c.equal_len-col.ensures.within, c.requires.before_width);
  differs = λ below. c.equal_len-col.ensures.whole (omega (arith, below, c.requires.before_width));
  line =
      line_begins c.equal_len-col.result c.args.row c.args.before.now c.args.after.now _ (omega arith)
      c.requires.before_width c.requires.after_width
      (omega (arith, c.equal_len-col.ensures.within, c.requires.before_width)) c.equal_len-col.ensures.equal
      c.requires.sound;
  kind = search rules;
  faults = search rules;
}

pub loop-col-preserved : goal.loop-col-preserved
loop-col-preserved g c =
    let n = c.differing_len-len.result in
    let k = c.equal_len-col-in-loop-col.result in
    let before_long = ap length c.rest-in-loop-col-3.ensures ∙ length-drop (c.loop-col.col + n) c.args.before.now in
    let is : n ≡ differing_front (drop c.loop-col.col c.args.before.now) (drop c.loop-col.col c.args.after.now) =
    c.differing_len-len.ensures.front ∙ ap (λ xs. differing_front xs c.rest-in-loop-col.result.now) c.rest.ensures
    ∙ ap (λ ys. differing_front (drop c.loop-col.col c.args.before.now) ys) c.rest-in-loop-col.ensures in
    let more : 0 < n = omega (arith, is, c.loop-col.invariant.differs (omega arith)) in
    let below : c.loop-col.col + n ≤ 80 =
    omega (
      arith,
      length-drop c.loop-col.col c.args.before.now,
      ap length c.rest.ensures,
      c.differing_len-len.ensures.within,
    ) in
    let within : c.loop-col.col + n + k ≤ 80 =
    omega (arith, below, before_long, c.equal_len-col-in-loop-col.ensures.within, c.requires.before_width) in
    let put =
    line_put c.args.row c.loop-col.col c.args.before.now c.args.after.now c.requires.before_width
    c.requires.after_width _ _ _ n c.front.result.now c.in_ok-put_run.field-0
    is more below (omega arith) c.requires.sound
    (c.front.ensures ∙ ap (take n) c.rest-in-loop-col-2.ensures)
    c.in_ok-put_run.ensures.shown c.loop-col.invariant.line in
    record {
      within = within;
      differs =
          λ further. rests_differ (c.loop-col.col + n) k c.args.before.now c.args.after.now
          c.rest-in-loop-col-3.result.now c.rest-in-loop-col-4.result.now
          c.rest-in-loop-col-3.ensures c.rest-in-loop-col-4.ensures c.equal_len-col-in-loop-col.ensures.whole
          (omega (arith, further, c.requires.before_width));
      line =
          line_stretch k c.args.row (c.loop-col.col + n) c.args.before.now c.args.after.now _ _ c.requires.before_width
          c.requires.after_width within
          (rests_equal (c.loop-col.col + n) k c.args.before.now c.args.after.now c.rest-in-loop-col-3.result.now
          c.rest-in-loop-col-4.result.now
          c.rest-in-loop-col-3.ensures c.rest-in-loop-col-4.ensures c.equal_len-col-in-loop-col.ensures.equal) put;
      kind = search rules;
      faults = search rules;
    }
