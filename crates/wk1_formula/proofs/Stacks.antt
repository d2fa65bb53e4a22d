-- The arguments of a call on a stack.
use Rattle.std.proofs.Common.{◌≡◌, ◌≤◌, true, nat_le, List, [], ◌∷◌, ◌++◌, length, reverse, refl, ap, ◌∙◌, sym}
use Rattle.std.proofs.Common.{append_assoc, arith, length-append}
use Rattle.std.specs.Prelude.{Some}
use Rattle.std.proofs.lemmas.Bool.Decides.{nat_tests}
use Rattle.std.proofs.lemmas.List.{drop_at, length-reverse, reverse-append, reverse-reverse, take_at}
use Rattle.formula_tree.specs.inner.Nodes.{listed_parts}
use Rattle.formula_tree.specs.Shape.{count}
use Rattle.formula_tree.specs.Tree.{Tree, call, Trees, no_trees, trees}
use Rattle.formula_tree.specs.View.{listed}
use Rattle.wk1_formula.specs.Stack.{called}
use Rattle.formula_tree.specs.declared.function.Function.{Function}

-- the stack on which trees were put from the left
abbrev pub piled : Trees → List Tree → List Tree
piled no_trees stack = stack
piled (trees t ts) stack = piled ts (t ∷ stack)

piled_is : (ts : Trees) (stack : List Tree) → piled ts stack ≡ reverse (listed_parts ts) ++ stack
piled_is no_trees stack = refl
piled_is (trees t ts) stack =
    piled_is ts (t ∷ stack) ∙ sym (append_assoc (reverse (listed_parts ts)) (t ∷ []) stack)
    ∙ ap (λ l. l ++ stack) (sym (reverse-append (t ∷ []) (listed_parts ts)))

listed_back : (ts : Trees) → listed (listed_parts ts) ≡ ts
listed_back no_trees = refl
listed_back (trees t ts) = ap (trees t) (listed_back ts)

count_is : (ts : Trees) → count ts ≡ length (listed_parts ts)
count_is no_trees = refl
count_is (trees t ts) = omega (arith, count_is ts)

-- a call takes the arguments that were put
pub called_piled : (f : Function) (ts : Trees) (stack : List Tree)
    → called f (count ts) (piled ts stack) ≡ Some (call f ts ∷ stack)
called_piled f ts stack =
    let args = reverse (listed_parts ts) in
    let len : length args ≡ count ts = length-reverse (listed_parts ts) ∙ sym (count_is ts) in
    let long : count ts ≤ length (args ++ stack) = omega (arith, len, length-append args stack) in
    let enough : nat_le (count ts) (length (args ++ stack)) ≡ true = grind (arith, nat_tests, long) in
    ap (called f (count ts)) (piled_is ts stack)
    ∙ rw (
      enough,
      take_at args stack (count ts) len,
      drop_at args stack (count ts) len,
      reverse-reverse (listed_parts ts),
      listed_back ts,
    ) refl
