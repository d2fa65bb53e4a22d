use Rattle.std.proofs.Common.{arith, rules, sym, ◌∙◌}
use Rattle.fixed_value.proofs.Powers.{ends_none}
use Rattle.fixed_value.proofs.power.powered.Goals as goal

pub returns-in_err-power : goal.returns-in_err-power
returns-in_err-power c =
    c.from_residual.ensures
    ∙ sym (ends_none c.args.x c.loop.power c.loop.counter c.args.count (omega arith) c.loop.invariant (search rules))
