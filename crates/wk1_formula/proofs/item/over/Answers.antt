use Rattle.std.proofs.Common.{ap, ◌∙◌, refl}
use Rattle.wk1_formula.specs.inner.Items.{built}
use Rattle.wk1_formula.proofs.Gatherings.{for_none, for_some, some_gone}
use Rattle.wk1_formula.proofs.Operands.{over_made, IsOver}
use Rattle.wk1_formula.proofs.item.over.Goals as goal

pub returns-in-Some : goal.returns-in-Some
returns-in-Some c t p fit =
    over_made c.args.one c.args.item _ t (record {
      depth_is = c.deeper-depth.ensures;
      size_is = c.larger-size.ensures;
      top_is = refl;
      edge_is = c.edge_of-edge.ensures;
    })
    (for_some _ _ (c.build.ensures ∙ ap (built c.args.one) (p.there _ (c.in_ok-inner.ensures.some _ c.in-Some.is))))
    (λ e. some_gone _ _ e) p fit

pub returns-in-None : goal.returns-in-None
returns-in-None c t p fit =
    over_made c.args.one c.args.item _ t (record {
      depth_is = c.deeper-depth.ensures;
      size_is = c.larger-size.ensures;
      top_is = refl;
      edge_is = c.edge_of-edge.ensures;
    })
    (for_none _) (λ _. c.in_ok-inner.ensures.none c.in-None.is) p fit
