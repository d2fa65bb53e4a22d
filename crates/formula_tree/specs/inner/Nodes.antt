-- A tree by its top and its parts.
use Rattle.std.specs.Prelude.{ℕ, ◌+◌, List, [], ◌∷◌}
use Rattle.formula_tree.specs.Tree.{Tree, num, str, cell, span, group, neg, not, binary, call, Trees, no_trees, trees}

-- the arguments of a call as a list
abbrev pub listed_parts : Trees → List Tree
listed_parts no_trees = []
listed_parts (trees t ts) = t ∷ listed_parts ts

-- the trees right below the top, from left to right
abbrev pub parts : Tree → List Tree
parts (num v) = []
parts (str t) = []
parts (cell r) = []
parts (span a b) = []
parts (group a) = a ∷ []
parts (neg a) = a ∷ []
parts (not a) = a ∷ []
parts (binary op a b) = a ∷ b ∷ []
parts (call f ts) = listed_parts ts

-- how many nodes there are
abbrev mutual
  pub nodes : Tree → ℕ
  nodes (num v) = 1
  nodes (str v) = 1
  nodes (cell v) = 1
  nodes (span v w) = 1
  nodes (group a) = 1 + nodes a
  nodes (neg a) = 1 + nodes a
  nodes (not a) = 1 + nodes a
  nodes (binary op a b) = 1 + nodes a + nodes b
  nodes (call f ts) = 1 + all_nodes ts

  pub all_nodes : Trees → ℕ
  all_nodes no_trees = 0
  all_nodes (trees a rest) = nodes a + all_nodes rest
