-- The tokens of a tree.
use Rattle.std.specs.Prelude.{ℕ, ℤ, List, [], ◌∷◌, ◌++◌}
use Rattle.grid_address.specs.Axes.{Reference}
use Rattle.formula_tree.specs.declared.ast.Op.{Op}
use Rattle.formula_tree.specs.declared.function.Function.{Function as AtFunction}
use Rattle.formula_tree.specs.Tree.{Tree, num, str, cell, span, group, neg, not, binary, call, Trees, no_trees, trees}

-- a function that takes arguments is a token with its opening bracket
pub data Token : Type 0 where
  number : ℤ → Token
  text : List ℕ → Token
  place : Reference → Token
  places : Reference → Reference → Token
  constant : AtFunction → Token
  called : AtFunction → Token
  opening : Token
  closing : Token
  comma : Token
  front_minus : Token
  front_not : Token
  infix_op : Op → Token

-- the tokens of a tree, from left to right
abbrev mutual
  pub tokens : Tree → List Token
  tokens (num v) = number v ∷ []
  tokens (str t) = text t ∷ []
  tokens (cell r) = place r ∷ []
  tokens (span a b) = places a b ∷ []
  tokens (group a) = opening ∷ (tokens a ++ closing ∷ [])
  tokens (neg a) = front_minus ∷ tokens a
  tokens (not a) = front_not ∷ tokens a
  tokens (binary op a b) = tokens a ++ (infix_op op ∷ tokens b)
  tokens (call f no_trees) = constant f ∷ []
  tokens (call f (trees a rest)) = called f ∷ (tokens a ++ more_tokens rest)

  -- behind an argument
  pub more_tokens : Trees → List Token
  more_tokens no_trees = closing ∷ []
  more_tokens (trees a rest) = comma ∷ (tokens a ++ more_tokens rest)
