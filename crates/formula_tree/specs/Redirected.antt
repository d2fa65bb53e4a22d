-- A tree whose references lead elsewhere.
use Rattle.std.specs.Prelude.{Option, Some, None}
use Rattle.grid_address.specs.Axes.{Reference}
use Rattle.formula_tree.specs.declared.function.Function.TheVariants as function
use Rattle.formula_tree.specs.Tree.{Tree, num, str, cell, span, group, neg, not, binary, call, Trees, no_trees, trees}

-- the call of @ERR
abbrev pub error_call : Tree
error_call = call function.Err no_trees

-- a reference to a cell, or @ERR where the cell is lost
abbrev pub cell_or_error : Option Reference → Tree
cell_or_error (Some r) = cell r
cell_or_error None = error_call

-- a span by its corners, or @ERR where a corner is lost
abbrev pub span_or_error : Option Reference → Option Reference → Tree
span_or_error (Some a) (Some b) = span a b
span_or_error (Some a) None = error_call
span_or_error None b = error_call

-- the tree with each reference in the place of the old one, and all else as it was
abbrev mutual
  pub redirected : (Reference → Option Reference) → Tree → Tree
  redirected new (num v) = num v
  redirected new (str t) = str t
  redirected new (cell r) = cell_or_error (new r)
  redirected new (span a b) = span_or_error (new a) (new b)
  redirected new (group a) = group (redirected new a)
  redirected new (neg a) = neg (redirected new a)
  redirected new (not a) = not (redirected new a)
  redirected new (binary op a b) = binary op (redirected new a) (redirected new b)
  redirected new (call f ts) = call f (all_redirected new ts)

  pub all_redirected : (Reference → Option Reference) → Trees → Trees
  all_redirected new no_trees = no_trees
  all_redirected new (trees a ts) = trees (redirected new a) (all_redirected new ts)
