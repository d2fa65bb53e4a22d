use Rattle.std.proofs.Common.{◌≡◌, take, sym, ◌∙◌, arith}
use Rattle.print_report.specs.Lines.{trimmed}
use Rattle.print_report.proofs.Lining.{all_kept, none_taken, one_dropped}
use Rattle.print_report.proofs.lines.trimmed.Goals.{then-loop-end-test+else-text-end-eq32, else-loop-end-test}
use Rattle.print_report.proofs.lines.trimmed.Goals as goal

pub loop-end-preserved : goal.loop-end-preserved
loop-end-preserved c = (
  omega (arith, c.loop-end.invariant.0),
  c.loop-end.invariant.1
      ∙ one_dropped c.args.text.now c.loop-end.end 0 c.loop-end.invariant.0 (omega (arith, c.loop-end-test.true))
      c.if-text-end-eq32.true,
)

pub returns : goal.returns
returns c =
    let kept : trimmed (take c.loop-end.end c.args.text.now)
    ≡ take c.loop-end.end c.args.text.now = elim c.loop-end-test.branch [
      | then-loop-end-test+else-text-end-eq32 w ↦
          all_kept c.args.text.now c.loop-end.end 0 c.loop-end.invariant.0 (omega (arith, w.loop-end-test.true))
          w.if-text-end-eq32.false
      | else-loop-end-test w ↦ none_taken c.args.text.now c.loop-end.end (omega (arith, w.loop-end-test.false))
    ] in
    c.split_at.ensures.front ∙ sym (c.loop-end.invariant.1 ∙ kept)
