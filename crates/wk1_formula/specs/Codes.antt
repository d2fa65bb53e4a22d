-- A tree as a list of codes: each operator, function and bracket stands behind its operands.
use Rattle.std.specs.Prelude.{ℕ, ℤ, List, [], ◌∷◌, ◌++◌}
use Rattle.grid_address.specs.Axes.{Reference}
use Rattle.formula_tree.specs.declared.ast.Op.{Op}
use Rattle.formula_tree.specs.declared.function.Function.{Function}
use Rattle.formula_tree.specs.Shape.{count}
use Rattle.formula_tree.specs.Tree.{Tree, num, str, cell, span, group, neg, not, binary, call, Trees, no_trees, trees}

-- a code with what stands behind it in the bytes; a function stands with the number of its arguments
pub data Code : Type 0 where
  number : ℤ → Code
  error : Code
  missing : Code
  reference : Reference → Code
  range : Reference → Reference → Code
  text : List ℕ → Code
  brackets : Code
  minus : Code
  plus : Code
  negation : Code
  operator : Op → Code
  function : Function → ℕ → Code

-- the codes of a tree
abbrev mutual
  pub postfix : Tree → List Code
  postfix (num v) = number v ∷ []
  postfix (str t) = text t ∷ []
  postfix (cell r) = reference r ∷ []
  postfix (span a b) = range a b ∷ []
  postfix (group a) = postfix a ++ brackets ∷ []
  postfix (neg a) = postfix a ++ minus ∷ []
  postfix (not a) = postfix a ++ negation ∷ []
  postfix (binary op a b) = postfix a ++ (postfix b ++ operator op ∷ [])
  postfix (call f ts) = postfix_all ts ++ function f (count ts) ∷ []

  pub postfix_all : Trees → List Code
  postfix_all no_trees = []
  postfix_all (trees t ts) = postfix t ++ postfix_all ts
