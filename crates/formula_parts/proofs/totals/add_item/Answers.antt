use Rattle.std.proofs.Common.{rules}
use Rattle.formula_parts.proofs.Totalled.{size_put}
use Rattle.formula_parts.proofs.totals.add_item.Goals as goal

pub returns : goal.returns
returns c =
    λ _. size_put c.args.total.now _ c.args.item c.as_addend-addend.result.size c.as_addend-addend.result.is_err
    c.as_addend-addend.result.is_na c.as_addend-addend.ensures.size c.as_addend-addend.ensures.err
    c.as_addend-addend.ensures.na (search rules) (search rules) c.smaller-least.ensures c.larger-greatest.ensures
    c.either-has_err.ensures c.either-has_na.ensures
