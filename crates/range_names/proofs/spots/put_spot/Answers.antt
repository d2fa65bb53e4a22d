use Rattle.std.proofs.Common.{◌≡◌, ap, sym, ◌∙◌, true, Some, cond}
use Rattle.std.specs.Prelude.{◌&&◌}
use Rattle.std.specs.Ordering.{eq_by_cmp}
use Rattle.range_names.specs.Names.{is_plain, name_cmp, name_in}
use Rattle.range_names.specs.inner.Spots.{kept_at, spot_of}
use Rattle.range_names.proofs.spots.put_spot.Goals as goal

pub returns-in-Ok-clause-ok : goal.returns-in-Ok-clause-ok
returns-in-Ok-clause-ok c q =
    let plain : is_plain (name_in c.args.key) ≡ true =
    ap is_plain (sym c.name_in.ensures.name) ∙ sym c.is_plain.ensures ∙ c.if-not-is_plain.false in
    c.in-Ok.ensures.updates.0 q
    ∙ ap (λ s. cond (eq_by_cmp name_cmp s q) (Some c.args.key) (kept_at c.args.spots.now.entries q)) c.spot_of.ensures
    ∙ ap (λ b. cond (b && eq_by_cmp name_cmp (spot_of c.args.span c.args.key) q) (Some c.args.key)
    (kept_at c.args.spots.now.entries q)) (sym plain)
