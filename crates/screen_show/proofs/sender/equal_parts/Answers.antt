use Rattle.std.proofs.Common.{◌≡◌, ◌∙◌, arith, rules, sym}
use Rattle.screen_show.proofs.Fronts.{take_further}
use Rattle.screen_show.proofs.sender.equal_parts.Goals as goal

pub loop-len-preserved : goal.loop-len-preserved
loop-len-preserved c =
    let same : c.part.result.now ≡ c.part-in-loop-len.result.now = search rules in
    record {
      within = omega arith;
      equal =
          take_further c.loop-len.len 8 c.args.before.now c.args.after.now c.loop-len.invariant.equal
          (sym c.part.ensures ∙ same ∙ c.part-in-loop-len.ensures);
    }
