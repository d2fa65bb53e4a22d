use Rattle.std.proofs.Common.{sym, ap, ◌∙◌, arith}
use Rattle.text_channel.proofs.Lining.{one_more, whole_rest}
use Rattle.text_channel.specs.Lines.{ending_of}
use Rattle.text_channel.proofs.lines.line_length.Goals as goal

pub loop-at-preserved : goal.loop-at-preserved
loop-at-preserved c =
    let more =
    one_more c.args.bytes.now c.loop-at.at (omega (arith, c.loop-at-test.true))
    (sym (ap ending_of (whole_rest c.args.bytes.now c.loop-at.at))
    ∙ sym c.ending_of.ensures.ending ∙ c.if-ending_of-eq0.true) in (
      omega (arith, c.if-at-le-MAX_LEN.true),
      omega (arith, c.loop-at-test.true),
      omega (arith, c.loop-at.invariant.2, more),
    )
