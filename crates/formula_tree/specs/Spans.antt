-- What a formula reads.
use Rattle.std.specs.Prelude.{Bool, false, ◌||◌, List, [], ◌∷◌, ◌++◌}
use Rattle.grid_address.specs.Place.{Place, Extent}
use Rattle.grid_address.specs.Place.{spanned}
use Rattle.grid_address.specs.Leads.{resolve}
use Rattle.formula_tree.specs.Table.{is_volatile_function}
use Rattle.formula_tree.specs.Tree.{Tree, num, str, cell, span, group, neg, not, binary, call, Trees, no_trees, trees}

-- the spans of the references, from left to right
abbrev mutual
  pub spans_of : Tree → Place → List Extent
  spans_of (num v) at = []
  spans_of (str t) at = []
  spans_of (cell r) at = spanned (resolve r at) (resolve r at) ∷ []
  spans_of (span a b) at = spanned (resolve a at) (resolve b at) ∷ []
  spans_of (group a) at = spans_of a at
  spans_of (neg a) at = spans_of a at
  spans_of (not a) at = spans_of a at
  spans_of (binary op a b) at = spans_of a at ++ spans_of b at
  spans_of (call f ts) at = spans_of_all ts at

  pub spans_of_all : Trees → Place → List Extent
  spans_of_all no_trees at = []
  spans_of_all (trees a ts) at = spans_of a at ++ spans_of_all ts at

-- whether a function whose value changes by itself is called
abbrev mutual
  pub is_volatile : Tree → Bool
  is_volatile (group a) = is_volatile a
  is_volatile (neg a) = is_volatile a
  is_volatile (not a) = is_volatile a
  is_volatile (binary op a b) = is_volatile a || is_volatile b
  is_volatile (call f ts) = is_volatile_function f || any_volatile ts
  is_volatile _ = false

  pub any_volatile : Trees → Bool
  any_volatile no_trees = false
  any_volatile (trees a ts) = is_volatile a || any_volatile ts
