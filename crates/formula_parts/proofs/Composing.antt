-- The numbers of negations and calls, by those of their parts.
use Rattle.std.proofs.Common.{◌≡◌, ℕ, ◌≤◌, ◌<◌, false, List, [], ◌∷◌, length, get_or, map, Some, None, sym, ap, ◌∙◌}
use Rattle.std.proofs.Common.{arith}
use Rattle.std.specs.Prelude.{ℤ, neg_ℤ, Option, IfSome}
use Rattle.grid_address.specs.Place.{width_of, Extent, Place}
use Rattle.formula_tree.specs.Tree.{Tree, neg}
use Rattle.formula_tree.specs.View.{listed, tree_of}
use Rattle.formula_tree.specs.declared.ast.Expr.{Expr}
use Rattle.formula_tree.specs.declared.ast.Expr.TheVariants.{Call}
use Rattle.formula_tree.specs.declared.ast.ExprList.{ExprList}
use Rattle.formula_tree.specs.declared.function.Function.{Function}
use Rattle.formula_tree.specs.declared.function.Function.TheVariants as function
use Rattle.formula_tree.specs.declared.value.Value.TheVariants as value
use Rattle.formula_tree.proofs.Rows.{tree_of-Call}
use Rattle.value_functions.specs.Operators.{negated}
use Rattle.formula_parts.specs.Lookups.{by_number, lookup_value, on_place, on_range, place_in, range_of}
use Rattle.formula_parts.specs.inner.Numbers.{IsCallNumber, IsNumber}
use Rattle.formula_parts.specs.Outlook.{Sight}
use Rattle.formula_parts.specs.Parts.{arguments_by, call_value, operand_of, value_by}
use Rattle.formula_parts.specs.Scenes.{outlook_of}

-- where an expression is a number, its negation is the opposite
pub in_neg : (t a : Tree) (at : Place) (sight : Sight) (x : ℤ) → t ≡ neg a → IsNumber a at sight x
    → IsNumber t at sight (neg_ℤ x)
unfolding negated
in_neg t a at sight x is part = λ d s. ap (λ u. value_by d u at (outlook_of sight s)) is ∙ ap negated (part d s)

-- where a call of a function is a number, so is the expression that calls it
pub in_call : (e : Expr) (f : Function) (args : ExprList) (es : List Expr) (at : Place) (sight : Sight)
    (found : Option ℤ) → e ≡ Call f args → es ≡ args.items.items
    → IfSome found (IsCallNumber f (listed (map tree_of es)) at sight) → IfSome found (IsNumber (tree_of e) at sight)
in_call e f args es at sight None is items so = tt
in_call e f args es at sight (Some n) is items so = λ d s.
    ap (λ x. value_by d (tree_of x) at (outlook_of sight s)) is
    ∙ ap (λ t. value_by d t at (outlook_of sight s)) (tree_of-Call f args)
    ∙ ap (λ l. call_value d f (outlook_of sight s) (arguments_by d (listed (map tree_of l)) at (outlook_of sight s)))
    (sym items)
    ∙ so d s

-- a list of three
pub three : {X : Type 0} (l : List X) (x y z : X) → 3 ≤ length l → length l < 4 → x ≡ get_or l 0 x → y ≡ get_or l 1 y
    → z ≡ get_or l 2 z → l ≡ x ∷ y ∷ z ∷ []
three [] x y z some few a b c = absurd (omega arith)
three (p ∷ []) x y z some few a b c = absurd (omega arith)
three (p ∷ q ∷ []) x y z some few a b c = absurd (omega arith)
three (p ∷ q ∷ r ∷ []) x y z some few a b c = λ i. sym a i ∷ sym b i ∷ sym c i ∷ []
three (p ∷ q ∷ r ∷ s ∷ l) x y z some few a b c = absurd (omega arith)

-- VLOOKUP of a number in a range
pub in_lookup : (es : List Expr) (x r n : Expr) (at : Place) (sight : Sight) (s : Extent) (number place : ℤ) (k : ℕ)
    (found : Option ℤ) → es ≡ x ∷ r ∷ n ∷ [] → range_of (operand_of (tree_of r) at) ≡ Some s
    → IsNumber (tree_of x) at sight number → IsNumber (tree_of n) at sight place → place_in place (width_of s) ≡ Some k
    → IfSome found (λ m. by_number sight.values false s k number ≡ value.Num m)
    → IfSome found (IsCallNumber function.VLookup (listed (map tree_of es)) at sight)
in_lookup es x r n at sight s number place k None are range left right told by = tt
in_lookup es x r n at sight s number place k (Some m) are range left right told by = λ d c.
    ap (λ (l : List Expr). call_value d function.VLookup (outlook_of sight c)
    (arguments_by d (listed (map tree_of l)) at (outlook_of sight c))) are
    ∙ ap (λ v. lookup_value sight.values false v (operand_of (tree_of r) at)
    (value_by d (tree_of n) at (outlook_of sight c))) (left d c)
    ∙ ap (lookup_value sight.values false (value.Num number) (operand_of (tree_of r) at)) (right d c)
    ∙ ap (λ o. on_range o (λ t. on_place (place_in place (width_of t)) (λ j. by_number sight.values false t j number)))
    range
    ∙ ap (λ o. on_place o (λ j. by_number sight.values false s j number)) told
    ∙ by
