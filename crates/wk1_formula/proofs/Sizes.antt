-- A tree's code has as many bytes as is counted of the tree.
use Rattle.std.proofs.Common.{◌≡◌, ℕ, ◌+◌, List, [], ◌∷◌, ◌++◌, length, refl, ap, ◌∙◌, arith, inl, inr, length-append}
use Rattle.std.specs.Prelude.{ℤ, ◌==◌, if◌then◌else◌}
use Rattle.std.proofs.lemmas.Bool.{cases_Bool}
use Rattle.std.proofs.lemmas.Grind.{flat_map-append}
use Rattle.std.proofs.lemmas.List.{append-nil}
use Rattle.grid_address.specs.Place.{Place}
use Rattle.formula_tree.specs.Shape.{all_sizes, code_size, count, is_short, node_size, nodes_size}
use Rattle.formula_tree.specs.Table.{call_size, counts_of, counts_size}
use Rattle.formula_tree.specs.Tree.{Tree, num, str, cell, span, group, neg, not, binary, call, Trees, no_trees, trees}
use Rattle.wk1_formula.specs.Codes.{brackets, function, minus, negation, operator, postfix, postfix_all, Code}
use Rattle.wk1_formula.specs.Written.{bytes_of, code_of, function_bytes, number_bytes, spelled}
use Rattle.formula_tree.specs.declared.function.Function.{Function}
use Rattle.wk1_formula.specs.FunctionCodes as table
use Rattle.formula_tree.specs.declared.table.Counts.{Counts}
use Rattle.formula_tree.specs.declared.table.Counts.TheVariants.{Exactly, AtLeast}

joined : (p : Place) (cs ds : List Code) → length (spelled p (cs ++ ds)) ≡ length (spelled p cs) + length (spelled p ds)
joined p cs ds = ap length (flat_map-append (bytes_of p) cs ds) ∙ length-append (spelled p cs) (spelled p ds)

one : (p : Place) (c : Code) → length (spelled p (c ∷ [])) ≡ length (bytes_of p c)
one p c = ap length (append-nil (bytes_of p c))

number_size : (v : ℤ) → length (number_bytes v) ≡ node_size (num v)
number_size v = elim (cases_Bool (is_short v)) [ inl e ↦ rw e refl | inr e ↦ rw e refl ]

sized : (c : Counts) (code n : ℕ) → length (if counts_size c == 2 then code ∷ n ∷ [] else code ∷ []) ≡ counts_size c
sized (Exactly k) code n = refl
sized (AtLeast k) code n = refl

function_size : (f : Function) (n : ℕ) → length (function_bytes f n) ≡ call_size f
function_size f n = sized (counts_of f) (table.code_of f) n

mutual
  nodes_long : (p : Place) (t : Tree) → length (spelled p (postfix t)) ≡ nodes_size t
  nodes_long p (num v) = ap length (append-nil (number_bytes v)) ∙ number_size v
  nodes_long p (str t) = omega (arith, ap length (append-nil (6 ∷ (t ++ 0 ∷ []))), length-append t (0 ∷ []))
  nodes_long p (cell r) = refl
  nodes_long p (span a b) = refl
  nodes_long p (group a) = omega (arith, joined p (postfix a) (brackets ∷ []), nodes_long p a, one p brackets)
  nodes_long p (neg a) = omega (arith, joined p (postfix a) (minus ∷ []), nodes_long p a, one p minus)
  nodes_long p (not a) = omega (arith, joined p (postfix a) (negation ∷ []), nodes_long p a, one p negation)
  nodes_long p (binary op a b) =
      omega (
        arith,
        joined p (postfix a) (postfix b ++ operator op ∷ []),
        joined p (postfix b) (operator op ∷ []),
        nodes_long p a,
        nodes_long p b,
        one p (operator op),
      )
  nodes_long p (call f ts) =
      omega (
        arith,
        joined p (postfix_all ts) (function f (count ts) ∷ []),
        all_long p ts,
        one p (function f (count ts)),
        function_size f (count ts),
      )

  all_long : (p : Place) (ts : Trees) → length (spelled p (postfix_all ts)) ≡ all_sizes ts
  all_long p no_trees = refl
  all_long p (trees t ts) = omega (arith, joined p (postfix t) (postfix_all ts), nodes_long p t, all_long p ts)

-- a tree's code has as many bytes as are counted of the tree
pub code_long : (t : Tree) (p : Place) → length (code_of t p) ≡ code_size t
code_long t p = omega (arith, length-append (spelled p (postfix t)) (3 ∷ []), nodes_long p t)
