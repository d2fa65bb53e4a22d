-- The arguments of a call, as a list.
use Rattle.std.proofs.Common.{◌≡◌, ℕ, zero, suc, ◌+◌, ◌≤◌, ◌<◌, true, ◌&&◌, nat_le, max, map, get_or, take, List, []}
use Rattle.std.proofs.Common.{◌∷◌, refl, ap, ◌∙◌, sym, arith}
use Rattle.std.specs.List.{list_all, list_any}
use Rattle.std.specs.Prelude.{flat_map, ◌++◌, ◌||◌, length}
use Rattle.grid_address.specs.Place.{Place}
use Rattle.formula_tree.specs.Spans.{any_volatile, is_volatile, spans_of, spans_of_all}
use Rattle.std.proofs.lemmas.Bool.Decides.{nat_tests}
use Rattle.std.proofs.lemmas.List.{length-map}
use mathlib.Core.Former.{Count}
use Rattle.formula_tree.specs.declared.function.Function.{Function}
use Rattle.formula_tree.specs.declared.ast.ExprList.{ExprList}
use Rattle.formula_tree.specs.declared.ast.Expr.{Expr, Row_of-Expr, end_of-Expr, more_of-Expr, items-the_row-Expr}
use Rattle.formula_tree.specs.declared.ast.Expr.{items_hidden-the_row-Expr-0}
use Rattle.formula_tree.specs.declared.ast.Expr.TheVariants.{Call', Call}
use Rattle.formula_tree.specs.Tree.{Tree, num, str, cell, span, group, neg, not, binary, call, trees}
use Rattle.formula_tree.specs.View.{tree_of, row_trees, listed}
use Rattle.formula_tree.specs.inner.Nodes.{all_nodes, nodes}
use Rattle.formula_tree.specs.Shape.{count, depth, greatest_depth}

abbrev row_of : Expr → (n : Count) × Row_of-Expr n
row_of (Call' _ _ row) = (_, row)
row_of _ = (_, end_of-Expr)

row_is : (n : _) (row : Row_of-Expr n) → row_trees row ≡ listed (map tree_of (items-the_row-Expr n row))
row_is n end_of-Expr = refl
row_is n (more_of-Expr e rest) = ap (trees (tree_of e)) (row_is _ rest)

-- the tree of a call
pub tree_of-Call : (f : Function) (args : ExprList)
    → tree_of (Call f args) ≡ call f (listed (map tree_of args.items.items))
tree_of-Call f args =
    let row = row_of (Call f args) in
    ap (call f) (row_is row.0 row.1 ∙ ap (λ es. listed (map tree_of es)) (items_hidden-the_row-Expr-0 args.items))

-- a list of trees has as many arguments
pub counted_list : (ts : List Tree) → count (listed ts) ≡ length ts
counted_list [] = refl
counted_list (t ∷ ts) = omega (arith, counted_list ts)

-- a list of expressions too
pub count_listed : (es : List Expr) → length es ≡ count (listed (map tree_of es))
count_listed es = sym (counted_list (map tree_of es) ∙ length-map es tree_of)

-- whether one of them is volatile
pub volatile_listed : (es : List Expr)
    → list_any (λ e. is_volatile (tree_of e)) es ≡ any_volatile (listed (map tree_of es))
volatile_listed [] = refl
volatile_listed (e ∷ es) = ap (λ b. is_volatile (tree_of e) || b) (volatile_listed es)

max_le : (a b c : ℕ) → nat_le (max a b) c ≡ (nat_le a c && nat_le b c)
max_le a b c = grind (arith, nat_tests)

zero_le : (c : ℕ) → nat_le 0 c ≡ true
zero_le c = grind (arith, nat_tests)

-- one more on both sides changes no comparison
pub suc_le : (a c : ℕ) → nat_le (1 + a) (c + 1) ≡ nat_le a c
suc_le a c = grind (arith, nat_tests)

-- whether all of them are within a depth
pub deep_listed : (limit : ℕ) (es : List Expr)
    → list_all (λ e. nat_le (depth (tree_of e)) limit) es ≡ nat_le (greatest_depth (listed (map tree_of es))) limit
deep_listed limit [] = sym (zero_le limit)
deep_listed limit (e ∷ es) =
    ap (λ b. nat_le (depth (tree_of e)) limit && b) (deep_listed limit es) ∙ sym (max_le _ _ limit)

-- a tree is at least one deep
pub one_deep : (t : Tree) → 1 ≤ depth t
one_deep (num v) = omega arith
one_deep (str v) = omega arith
one_deep (cell v) = omega arith
one_deep (span a b) = omega arith
one_deep (group a) = omega arith
one_deep (neg a) = omega arith
one_deep (not a) = omega arith
one_deep (binary op a b) = omega arith
one_deep (call f args) = omega arith

-- the spans that they read
pub spans_listed : (at : Place) (es : List Expr)
    → flat_map (λ e. spans_of (tree_of e) at) es ≡ spans_of_all (listed (map tree_of es)) at
spans_listed at [] = refl
spans_listed at (e ∷ es) = ap (λ l. spans_of (tree_of e) at ++ l) (spans_listed at es)

-- the nodes of an argument are among those of all
pub fewer_nodes : (es : List Expr) (i : ℕ) (d : Expr) → i < length es
    → nodes (tree_of (get_or es i d)) ≤ all_nodes (listed (map tree_of es))
fewer_nodes [] i d h = absurd (omega arith)
fewer_nodes (x ∷ xs) zero d h = omega arith
fewer_nodes (x ∷ xs) (suc i) d h = omega (arith, fewer_nodes xs i d (omega arith))

-- one more expression of a list
pub one_taken : (es : List Expr) (i : ℕ) (d : Expr) → i < length es
    → map tree_of (take (suc i) es) ≡ map tree_of (take i es) ++ (tree_of (get_or es i d) ∷ [])
one_taken [] i d h = absurd (omega arith)
one_taken (x ∷ xs) zero d h = refl
one_taken (x ∷ xs) (suc i) d h = ap (λ l. tree_of x ∷ l) (one_taken xs i d (omega arith))
