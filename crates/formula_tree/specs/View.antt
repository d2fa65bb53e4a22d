-- The tree that the program's value stands for.
use Rattle.std.specs.Prelude.{List, [], ◌∷◌, map}
use Rattle.formula_tree.specs.declared.ast.ExprList.{ExprList}
use Rattle.formula_tree.specs.declared.ast.Expr.{Expr, Row_of-Expr, end_of-Expr, more_of-Expr}
use Rattle.formula_tree.specs.declared.ast.Expr.TheVariants.{Num, Str, Cell, Span, Group', Neg', Not', Binary', Call'}
use Rattle.formula_tree.specs.Tree.{Tree, num, str, cell, span, group, neg, not, binary, call, Trees, no_trees, trees}

-- the tree without the boxes of operands and the lists of arguments
abbrev mutual
  pub tree_of : Expr → Tree
  tree_of (Num v) = num v
  tree_of (Str t) = str t
  tree_of (Cell r) = cell r
  tree_of (Span a b) = span a b
  tree_of (Group' p a) = group (tree_of a)
  tree_of (Neg' p a) = neg (tree_of a)
  tree_of (Not' p a) = not (tree_of a)
  tree_of (Binary' op p a q b) = binary op (tree_of a) (tree_of b)
  tree_of (Call' f shape args) = call f (row_trees args)

  pub row_trees : {m : _} → Row_of-Expr m → Trees
  row_trees end_of-Expr = no_trees
  row_trees (more_of-Expr e rest) = trees (tree_of e) (row_trees rest)

-- the trees of a list
abbrev pub listed : List Tree → Trees
listed [] = no_trees
listed (t ∷ ts) = trees t (listed ts)

-- the trees of the program's list
abbrev pub trees_in : ExprList → List Tree
trees_in list = map tree_of list.items.items
