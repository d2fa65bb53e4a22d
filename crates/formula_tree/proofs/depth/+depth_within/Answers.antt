use Rattle.std.proofs.Common.{◌≡◌, ◌+◌, ◌-◌, nat_le, sym, ap, ◌∙◌, map, arith}
use Rattle.std.proofs.lemmas.Bool.Decides.{nat_tests}
use Rattle.formula_tree.specs.View.{tree_of, listed}
use Rattle.formula_tree.specs.Shape.{depth, greatest_depth}
use Rattle.formula_tree.proofs.Rows.{tree_of-Call, deep_listed, suc_le, one_deep}
use Rattle.formula_tree.proofs.depth.+depth_within.Goals as goal

pub depth_within-returns-then-limit-eq0 : goal.depth_within-returns-then-limit-eq0
depth_within-returns-then-limit-eq0 t c = let h = one_deep (tree_of c.args.expr.now) in grind (arith, nat_tests)

pub depth_within-returns-in-Call : goal.depth_within-returns-in-Call
depth_within-returns-in-Call t c =
    let less = c.args.limit - 1 in
    let e : less + 1 ≡ c.args.limit = omega arith in
    c.are_within.ensures ∙ deep_listed less c.deref-in-Call.result.now
    ∙ ap (λ es. nat_le (greatest_depth (listed (map tree_of es))) less) c.deref-in-Call.ensures.value
    ∙ sym (suc_le (greatest_depth (listed (map tree_of c.in-Call.args.items.items))) less)
    ∙ ap (nat_le (1 + greatest_depth (listed (map tree_of c.in-Call.args.items.items)))) e
    ∙ ap (λ x. nat_le (depth x) c.args.limit) (sym (tree_of-Call c.in-Call.field-0 c.in-Call.args))
    ∙ ap (λ x. nat_le (depth (tree_of x)) c.args.limit) (sym c.in-Call.is)
