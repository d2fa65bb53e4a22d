use Rattle.std.proofs.Common.{◌+◌, ap, ◌∙◌}
use Rattle.std.specs.Prelude.{min}
use Rattle.wk1_formula.proofs.Operands.{between_made, IsBetween}
use Rattle.wk1_formula.proofs.item.between.Goals as goal

pub returns : goal.returns
returns c a b p q left right =
    between_made c.args.op c.args.left c.args.right _ a b (record {
      depth_is = c.deeper-depth.ensures ∙ ap (λ n. min (n + 1) 257) c.max.ensures;
      size_is = c.larger-size.ensures ∙ ap (λ n. min (n + 1) 65520) c.larger.ensures;
      top_is = c.level-top.ensures;
      edge_is = c.min-edge.ensures ∙ ap (min c.args.right.edge) c.level-top.ensures;
    })
    (λ e is. c.in_ok-expr.ensures.some e is a b p.there q.there) c.in_ok-expr.ensures.none p q left right
