use Rattle.fixed_value.proofs.Kept.{zero_kept}
use Rattle.fixed_value.proofs.digits.rounds_to_zero.Goals as goal

pub returns : goal.returns
returns c =
    zero_kept c.args.value c.args.places c.min.result c.scaled.result c.scaled.ensures.size c.min.ensures
    c.scaled.ensures.value
