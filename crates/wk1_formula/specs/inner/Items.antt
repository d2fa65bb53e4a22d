-- What the program keeps of the trees on a stack.
use Rattle.std.specs.Prelude.{ℕ, ◌≡◌, ◌<◌, min, Bool, true, nat_lt, None, List, [], ◌∷◌, ⊤}
use Rattle.std.specs.Option.{ForSome}
use Rattle.formula_tree.specs.Shape.{depth, every, is_fine, lowest, nodes_size, top}
use Rattle.formula_tree.specs.Tree.{group, neg, not, Tree}
use Rattle.formula_tree.specs.View.{tree_of}
use Rattle.wk1_formula.specs.declared.item.Item.{Item}
use Rattle.wk1_formula.specs.declared.item.One.{One}
use Rattle.wk1_formula.specs.declared.item.One.TheVariants.{Group, Neg, Not}

-- the tree is there, unless it is deeper than a formula's
pub record IsItem (i : Item) (t : Tree) : Type 0 where
  pub depth_is : i.depth ≡ min (depth t) 257
  pub size_is : i.size ≡ min (nodes_size t) 65520
  pub top_is : i.top ≡ top t
  pub edge_is : i.edge ≡ lowest t
  pub fine : every is_fine t ≡ true
  pub there : ForSome i.expr (λ e. tree_of e ≡ t)
  pub gone : i.expr ≡ None → 256 < depth t

-- each item is that of its tree
abbrev pub AreItems : List Item → List Tree → Type 0
AreItems [] [] = ⊤
AreItems [] (t ∷ ts) = ⊥
AreItems (i ∷ is) [] = ⊥
AreItems (i ∷ is) (t ∷ ts) = IsItem i t × AreItems is ts

-- a bracket, a minus or a NOT over a tree
abbrev pub built : One → Tree → Tree
built Group t = group t
built Neg t = neg t
built Not t = not t

-- whether the tree may stand under it
abbrev pub fits : One → Tree → Bool
fits Group t = true
fits Neg t = nat_lt 6 (top t)
fits Not t = nat_lt 2 (top t)

-- the least level on the right edge, with what stands over it
abbrev pub edge_of : One → ℕ → ℕ
edge_of Group edge = 8
edge_of Neg edge = min edge 6
edge_of Not edge = min edge 2
