use Rattle.std.proofs.Common.{ap, ◌∙◌, None, cond}
use Rattle.std.specs.Ordering.{eq_by_cmp}
use Rattle.range_names.specs.Names.{name_cmp}
use Rattle.range_names.specs.inner.Spots.{kept_at}
use Rattle.range_names.proofs.spots.take_spot.Goals as goal

pub returns : goal.returns
returns c q =
    c.remove.ensures.updates.0 q
    ∙ ap (λ s. cond (eq_by_cmp name_cmp s q) None (kept_at c.args.spots.now.entries q)) c.spot_of.ensures
