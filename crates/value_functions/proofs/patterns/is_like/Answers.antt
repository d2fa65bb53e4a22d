use Rattle.std.proofs.Common.{sym, ◌∙◌, refl}
use Rattle.value_functions.proofs.Bytes.{at_both}
use Rattle.value_functions.proofs.patterns.is_like.Goals as goal

pub returns : goal.returns
returns c =
    sym (at_both c.args.pattern.now c.args.text.now c.loop-at.at _ c.loop-at-test.false c.loop-at.invariant.0 refl)
    ∙ c.loop-at.invariant.1
