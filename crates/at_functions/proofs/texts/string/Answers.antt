use Rattle.std.proofs.Common.{arith, sym, subst, ◌∙◌}
use Rattle.at_functions.proofs.Written.{written_large, AllLarge}
use Rattle.at_functions.proofs.texts.string.Goals as goal

pub copy_of-requires : goal.copy_of-requires
copy_of-requires c = (
  omega (arith, c.bytes.ensures.length),
  subst AllLarge (sym (c.bytes.ensures.bytes ∙ c.write_decimal-digits.ensures))
      (written_large c.args.number c.in-Some.places),
)
