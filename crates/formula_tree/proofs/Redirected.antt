-- A tree whose references lead elsewhere is a formula's tree, as it was.
use Rattle.std.proofs.Common.{◌≡◌, ◌+◌, ◌≤◌, ℕ, Bool, true, false, ◌&&◌, nat_le, nat_lt, min, max, List, [], ◌∷◌}
use Rattle.std.proofs.Common.{Option, Some, None, map, refl, sym, ap, ◌∙◌, arith}
use Rattle.std.specs.List.{list_all}
use Rattle.std.proofs.lemmas.Bool.Decides.{nat_tests}
use Rattle.grid_address.specs.Axes.{Reference}
use Rattle.formula_tree.specs.declared.function.Function.{Function}
use Rattle.formula_tree.specs.declared.ast.ExprList.{ExprList}
use Rattle.formula_tree.specs.declared.ast.Expr.{Expr}
use Rattle.formula_tree.specs.declared.ast.Expr.TheVariants.{Call}
use Rattle.formula_tree.specs.declared.function.Function.TheVariants as function
use Rattle.formula_tree.specs.Tree.{Tree, num, str, cell, span, group, neg, not, binary, call, Trees, no_trees, trees}
use Rattle.formula_tree.specs.Ranges.{is_ranged}
use Rattle.formula_tree.specs.Redirected.{all_redirected, cell_or_error, error_call, redirected, span_or_error}
use Rattle.formula_tree.specs.Shape.{all_sizes, code_size, count, depth, every, every_one, greatest_depth, is_fine}
use Rattle.formula_tree.specs.Shape.{level, lowest, nodes_size, top, IsFormula}
use Rattle.formula_tree.specs.Table.{counts_of, takes}
use Rattle.formula_tree.specs.View.{tree_of, trees_in, listed}
use Rattle.formula_tree.proofs.Rows.{tree_of-Call}

-- a call without arguments
pub no_arguments : (f : Function) (args : ExprList) → trees_in args ≡ [] → tree_of (Call f args) ≡ call f no_trees
no_arguments f args none = tree_of-Call f args ∙ ap (λ ts. call f (listed ts)) none

abbrev New : Type 0
New = Reference → Option Reference

depth_cell : (o : Option Reference) → depth (cell_or_error o) ≡ 1
depth_cell (Some r) = refl
depth_cell None = refl

depth_span : (o p : Option Reference) → depth (span_or_error o p) ≡ 1
depth_span (Some a) (Some b) = refl
depth_span (Some a) None = refl
depth_span None p = refl

mutual
  depth_kept : (new : New) (t : Tree) → depth (redirected new t) ≡ depth t
  depth_kept new (num v) = refl
  depth_kept new (str v) = refl
  depth_kept new (cell r) = depth_cell (new r)
  depth_kept new (span a b) = depth_span (new a) (new b)
  depth_kept new (group a) = ap (λ k. 1 + k) (depth_kept new a)
  depth_kept new (neg a) = ap (λ k. 1 + k) (depth_kept new a)
  depth_kept new (not a) = ap (λ k. 1 + k) (depth_kept new a)
  depth_kept new (binary op a b) = λ i. 1 + max (depth_kept new a i) (depth_kept new b i)
  depth_kept new (call f ts) = ap (λ k. 1 + k) (depths_kept new ts)

  depths_kept : (new : New) (ts : Trees) → greatest_depth (all_redirected new ts) ≡ greatest_depth ts
  depths_kept new no_trees = refl
  depths_kept new (trees a ts) = λ i. max (depth_kept new a i) (depths_kept new ts i)

top_cell : (o : Option Reference) → top (cell_or_error o) ≡ 8
top_cell (Some r) = refl
top_cell None = refl

top_span : (o p : Option Reference) → top (span_or_error o p) ≡ 8
top_span (Some a) (Some b) = refl
top_span (Some a) None = refl
top_span None p = refl

top_kept : (new : New) (t : Tree) → top (redirected new t) ≡ top t
top_kept new (num v) = refl
top_kept new (str v) = refl
top_kept new (cell r) = top_cell (new r)
top_kept new (span a b) = top_span (new a) (new b)
top_kept new (group a) = refl
top_kept new (neg a) = refl
top_kept new (not a) = refl
top_kept new (binary op a b) = refl
top_kept new (call f ts) = refl

lowest_cell : (o : Option Reference) → lowest (cell_or_error o) ≡ 8
lowest_cell (Some r) = refl
lowest_cell None = refl

lowest_span : (o p : Option Reference) → lowest (span_or_error o p) ≡ 8
lowest_span (Some a) (Some b) = refl
lowest_span (Some a) None = refl
lowest_span None p = refl

lowest_kept : (new : New) (t : Tree) → lowest (redirected new t) ≡ lowest t
lowest_kept new (num v) = refl
lowest_kept new (str v) = refl
lowest_kept new (cell r) = lowest_cell (new r)
lowest_kept new (span a b) = lowest_span (new a) (new b)
lowest_kept new (group a) = refl
lowest_kept new (neg a) = ap (λ k. min k 6) (lowest_kept new a)
lowest_kept new (not a) = ap (λ k. min k 2) (lowest_kept new a)
lowest_kept new (binary op a b) = ap (λ k. min k (level op)) (lowest_kept new b)
lowest_kept new (call f ts) = refl

count_kept : (new : New) (ts : Trees) → count (all_redirected new ts) ≡ count ts
count_kept new no_trees = refl
count_kept new (trees a ts) = ap (λ k. 1 + k) (count_kept new ts)

-- @ERR takes no arguments
error_counted : takes (counts_of function.Err) 0 ≡ true
error_counted = refl

error_fine : every is_fine error_call ≡ true
error_fine = ap (λ b. (true && (b && true)) && true) error_counted

fine_cell : (o : Option Reference) → every is_fine (cell_or_error o) ≡ true
fine_cell (Some r) = refl
fine_cell None = error_fine

fine_span : (o p : Option Reference) → every is_fine (span_or_error o p) ≡ true
fine_span (Some a) (Some b) = refl
fine_span (Some a) None = error_fine
fine_span None p = error_fine

mutual
  fine_kept : (new : New) (t : Tree) → every is_fine (redirected new t) ≡ every is_fine t
  fine_kept new (num v) = refl
  fine_kept new (str v) = refl
  fine_kept new (cell r) = fine_cell (new r)
  fine_kept new (span a b) = fine_span (new a) (new b)
  fine_kept new (group a) = ap (λ b. (true && (true && true)) && b) (fine_kept new a)
  fine_kept new (neg a) = λ i. (nat_lt 6 (top_kept new a i) && (true && true)) && fine_kept new a i
  fine_kept new (not a) = λ i. (nat_lt 2 (top_kept new a i) && (true && true)) && fine_kept new a i
  fine_kept new (binary op a b) =
      λ i. ((nat_le (level op) (lowest_kept new a i) && nat_lt (level op) (top_kept new b i)) && (true && true))
      && (fine_kept new a i && fine_kept new b i)
  fine_kept new (call f ts) =
      λ i. (true && (takes (counts_of f) (count_kept new ts i) && true)) && all_fine_kept new ts i

  all_fine_kept : (new : New) (ts : Trees) → every_one is_fine (all_redirected new ts) ≡ every_one is_fine ts
  all_fine_kept new no_trees = refl
  all_fine_kept new (trees a ts) = λ i. fine_kept new a i && all_fine_kept new ts i

size_cell : (o : Option Reference) → nodes_size (cell_or_error o) ≤ 5
size_cell (Some r) = omega arith
size_cell None = omega arith

size_span : (o p : Option Reference) → nodes_size (span_or_error o p) ≤ 9
size_span (Some a) (Some b) = omega arith
size_span (Some a) None = omega arith
size_span None p = omega arith

mutual
  no_longer : (new : New) (t : Tree) → nodes_size (redirected new t) ≤ nodes_size t
  no_longer new (num v) = omega arith
  no_longer new (str v) = omega arith
  no_longer new (cell r) = size_cell (new r)
  no_longer new (span a b) = size_span (new a) (new b)
  no_longer new (group a) = omega (arith, no_longer new a)
  no_longer new (neg a) = omega (arith, no_longer new a)
  no_longer new (not a) = omega (arith, no_longer new a)
  no_longer new (binary op a b) = omega (arith, no_longer new a, no_longer new b)
  no_longer new (call f ts) = omega (arith, none_longer new ts)

  none_longer : (new : New) (ts : Trees) → all_sizes (all_redirected new ts) ≤ all_sizes ts
  none_longer new no_trees = omega arith
  none_longer new (trees a ts) = omega (arith, no_longer new a, none_longer new ts)

both : (a b c d : Bool) → (a && b) ≡ true → c ≡ a → (b ≡ true → d ≡ true) → (c && d) ≡ true
both true true c d h e f = rw (e, f refl) refl
both true false c d h e f = absurd cc
both false b c d h e f = absurd cc

shorter : (a b : ℕ) → a ≤ b → nat_le (1 + b) 65520 ≡ true → nat_le (1 + a) 65520 ≡ true
shorter a b less h = grind (arith, nat_tests, less, h)

-- a formula with other references is a formula
pub formula_kept : (new : New) (t : Tree) → IsFormula t → IsFormula (redirected new t)
formula_kept new t is = record {
  shallow = omega (arith, depth_kept new t, is.shallow);
  shaped =
      both (every is_fine t) (nat_le (code_size t) 65520) (every is_fine (redirected new t))
      (nat_le (code_size (redirected new t)) 65520) is.shaped (fine_kept new t)
      (shorter (nodes_size (redirected new t)) (nodes_size t) (no_longer new t));
}

all_listed : (new : New) (es : List Expr)
    → listed (map (λ e. redirected new (tree_of e)) es) ≡ all_redirected new (listed (map tree_of es))
all_listed new [] = refl
all_listed new (e ∷ es) = ap (trees (redirected new (tree_of e))) (all_listed new es)

-- a call whose arguments were redirected
pub call_redirected : (new : New) (f : Function) (args list : ExprList)
    → trees_in list ≡ map (λ e. redirected new (tree_of e)) args.items.items
    → tree_of (Call f list) ≡ redirected new (tree_of (Call f args))
call_redirected new f args list is =
    tree_of-Call f list ∙ ap (λ ts. call f (listed ts)) is ∙ ap (call f) (all_listed new args.items.items)
    ∙ ap (redirected new) (sym (tree_of-Call f args))

every_listed : (es : List Expr)
    → list_all (λ e. every is_ranged (tree_of e)) es ≡ every_one is_ranged (listed (map tree_of es))
every_listed [] = refl
every_listed (e ∷ es) = ap (λ b. every is_ranged (tree_of e) && b) (every_listed es)

call_every : (f : Function) (args : ExprList)
    → every is_ranged (tree_of (Call f args)) ≡ list_all (λ e. every is_ranged (tree_of e)) args.items.items
call_every f args = ap (every is_ranged) (tree_of-Call f args) ∙ sym (every_listed args.items.items)

-- a call with other arguments has its references in the sheet where they have
pub call_ranged : (f g : Function) (args list : ExprList)
    → (list_all (λ e. every is_ranged (tree_of e)) args.items.items ≡ true
    → list_all (λ e. every is_ranged (tree_of e)) list.items.items ≡ true)
    → every is_ranged (tree_of (Call f args)) ≡ true → every is_ranged (tree_of (Call g list)) ≡ true
call_ranged f g args list kept before = call_every g list ∙ kept (sym (call_every f args) ∙ before)
