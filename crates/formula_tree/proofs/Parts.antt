-- A tree by its top and its parts.
use Rattle.std.proofs.Common.{◌≡◌, ◌+◌, ◌<◌, ℕ, Bool, true, false, ◌&&◌, nat_le, List, [], ◌∷◌, ◌++◌, refl, sym}
use Rattle.std.proofs.Common.{ap, ◌∙◌, arith}
use Rattle.std.specs.Prelude.{sum_by}
use Rattle.std.specs.List.{list_all}
use Rattle.std.proofs.lemmas.Bool.Decides.{nat_tests}
use Rattle.std.proofs.lemmas.List.Folds.{list_all-append}
use Rattle.std.proofs.lemmas.List.Sums.{sum_by-append}
use Rattle.std.proofs.Math.Bool.{and-false}
use Rattle.formula_tree.specs.Tree.{Tree, num, str, cell, span, group, neg, not, binary, call, Trees, no_trees, trees}
use Rattle.formula_tree.specs.inner.Nodes.{all_nodes, listed_parts, nodes, parts}
use Rattle.formula_tree.specs.Shape.{all_sizes, code_size, every, every_one, has_shape, is_fine, node_size, nodes_size}
use Rattle.formula_tree.specs.View.{listed}

-- each node of each tree passes a test
abbrev pub all_pass : (Tree → Bool) → List Tree → Bool
all_pass test ts = list_all (every test) ts

-- every tree of a list is fine
abbrev pub all_fine : List Tree → Bool
all_fine ts = list_all (every is_fine) ts

with_true : (a b : Bool) → (a && b) ≡ (a && (b && true))
with_true true true = refl
with_true true false = refl
with_true false b = refl

with_two : (a b c : Bool) → (a && (b && c)) ≡ (a && (b && (c && true)))
with_two true true true = refl
with_two true true false = refl
with_two true false c = refl
with_two false b c = refl

alone : (a : Bool) → a ≡ (a && true)
alone true = refl
alone false = refl

every_listed : (test : Tree → Bool) (ts : Trees) → every_one test ts ≡ list_all (every test) (listed_parts ts)
every_listed test no_trees = refl
every_listed test (trees t ts) = ap (λ b. every test t && b) (every_listed test ts)

-- a test of a whole tree is one of its root and of its parts
pub split : (test : Tree → Bool) (t : Tree) → every test t ≡ (test t && list_all (every test) (parts t))
split test (num v) = alone (test (num v))
split test (str v) = alone (test (str v))
split test (cell v) = alone (test (cell v))
split test (span v w) = alone (test (span v w))
split test (group a) = with_true (test (group a)) (every test a)
split test (neg a) = with_true (test (neg a)) (every test a)
split test (not a) = with_true (test (not a)) (every test a)
split test (binary op a b) = with_two (test (binary op a b)) (every test a) (every test b)
split test (call f ts) = ap (λ b. test (call f ts) && b) (every_listed test ts)

nodes_listed : (ts : Trees) → all_nodes ts ≡ sum_by nodes (listed_parts ts)
nodes_listed no_trees = refl
nodes_listed (trees t ts) = omega (arith, nodes_listed ts, sum_by-append nodes (t ∷ []) (listed_parts ts))

-- a tree has one node more than its parts together
pub larger : (t : Tree) → nodes t ≡ 1 + sum_by nodes (parts t)
larger (num v) = refl
larger (str v) = refl
larger (cell v) = refl
larger (span v w) = refl
larger (group a) = omega arith
larger (neg a) = omega arith
larger (not a) = omega arith
larger (binary op a b) = omega arith
larger (call f ts) = ap (λ k. 1 + k) (nodes_listed ts)

sizes_listed : (ts : Trees) → all_sizes ts ≡ sum_by nodes_size (listed_parts ts)
sizes_listed no_trees = refl
sizes_listed (trees t ts) = omega (arith, sizes_listed ts, sum_by-append nodes_size (t ∷ []) (listed_parts ts))

-- its size is its root's and its parts'
pub own_size : (t : Tree) → nodes_size t ≡ node_size t + sum_by nodes_size (parts t)
own_size (num v) = omega arith
own_size (str v) = omega arith
own_size (cell v) = omega arith
own_size (span v w) = omega arith
own_size (group a) = omega arith
own_size (neg a) = omega arith
own_size (not a) = omega arith
own_size (binary op a b) = omega arith
own_size (call f ts) = omega (arith, sizes_listed ts)

-- the parts of a list are the list
pub parts_listed : (ts : List Tree) → listed_parts (listed ts) ≡ ts
parts_listed [] = refl
parts_listed (t ∷ ts) = ap (λ l. t ∷ l) (parts_listed ts)

-- one turn of a walk over the parts
pub fewer : (below : List Tree) (t : Tree) → sum_by nodes (below ++ parts t) < sum_by nodes (below ++ t ∷ [])
fewer below t = omega (arith, sum_by-append nodes below (parts t), sum_by-append nodes below (t ∷ []), larger t)

last_passes : (a f p : Bool) → f ≡ true → (a && p) ≡ (a && ((f && p) && true))
last_passes true true true h = refl
last_passes true true false h = refl
last_passes false f p h = refl
last_passes true false p h = cc

-- a root that passes leaves its parts to be tested
pub passes_on : (test : Tree → Bool) (below : List Tree) (t : Tree) → test t ≡ true
    → all_pass test (below ++ parts t) ≡ all_pass test (below ++ t ∷ [])
passes_on test below t h =
    list_all-append (every test) below (parts t)
    ∙ last_passes (all_pass test below) (test t) (all_pass test (parts t)) h
    ∙ ap (λ b. all_pass test below && (b && true)) (sym (split test t))
    ∙ sym (list_all-append (every test) below (t ∷ []))

not_fine : (a f p : Bool) → f ≡ false → (a && ((f && p) && true)) ≡ false
not_fine true false p h = refl
not_fine false false p h = refl
not_fine a true p h = absurd cc

-- one node that isn't fine
pub unfit : (below : List Tree) (t whole : Tree) → is_fine t ≡ false → all_fine (below ++ t ∷ []) ≡ every is_fine whole
    → has_shape whole ≡ false
unfit below t whole h is =
    let wrong : all_fine (below ++ t ∷ []) ≡ false =
    list_all-append (every is_fine) below (t ∷ []) ∙ ap (λ b. all_fine below && (b && true)) (split is_fine t)
    ∙ not_fine (all_fine below) (is_fine t) (all_fine (parts t)) h in
    let none : every is_fine whole ≡ false = sym is ∙ wrong in
    rw none refl

-- what the nodes on the stack take, and those that were seen
abbrev pub left_size : ℕ → List Tree → ℕ
left_size code stack = code + sum_by nodes_size stack

-- a root that is counted leaves its parts to be counted
pub as_long : (below : List Tree) (t : Tree) (code : ℕ)
    → left_size (code + node_size t) (below ++ parts t) ≡ left_size code (below ++ t ∷ [])
as_long below t code =
    omega (arith, sum_by-append nodes_size below (parts t), sum_by-append nodes_size below (t ∷ []), own_size t)

-- too much code
pub too_long : (below : List Tree) (t whole : Tree) (code : ℕ) → 65520 < code + node_size t
    → left_size code (below ++ t ∷ []) ≡ code_size whole → has_shape whole ≡ false
too_long below t whole code over is =
    let much : 65520 < code_size whole = omega (arith, over, is, sum_by-append nodes_size below (t ∷ []), own_size t) in
    let test : nat_le (code_size whole) 65520 ≡ false = grind (arith, nat_tests, much) in
    ap (λ b. every is_fine whole && b) test ∙ and-false (every is_fine whole)
