use Rattle.std.proofs.Common.{◌/◌, ap, ◌∙◌, arith, length}
use Rattle.fixed_value.specs.Written.{fixed_digits, without_zeros}
use Rattle.fixed_value.proofs.Exact.{whole_fits}
use Rattle.fixed_value.proofs.digits.whole_len.Goals as goal

pub returns-clause-len : goal.returns-clause-len
returns-clause-len c =
    c.count_digits.ensures.len ∙ ap (λ n. length (without_zeros (fixed_digits 10 (n / 1000000)))) c.size_of.ensures.size

pub returns-clause-least : goal.returns-clause-least
returns-clause-least c places some =
    (let is = returns-clause-len c in omega (arith, is, whole_fits c.args.value places c.size_of.ensures.most some))
