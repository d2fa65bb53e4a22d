use Rattle.std.proofs.Common.{arith, sym, ◌∙◌}
use Rattle.fixed_value.proofs.Exact.{signed_fits, whole_fits}
use Rattle.fixed_value.proofs.digits.front_len.Goals as goal

pub returns-then-size-ge1000000-clause-least : goal.returns-then-size-ge1000000-clause-least
returns-then-size-ge1000000-clause-least c places some =
    omega (
      arith,
      c.requires,
      signed_fits c.args.value places c.size_of-size.ensures.most some (sym c.is_minus.ensures ∙ c.if-is_minus.true)
          (omega (arith, c.size_of-size.ensures.size, c.if-size-ge1000000.true)),
    )

pub returns-else-is_minus-clause-least : goal.returns-else-is_minus-clause-least
returns-else-is_minus-clause-least c places some =
    omega (arith, c.requires, whole_fits c.args.value places c.size_of-size.ensures.most some)
