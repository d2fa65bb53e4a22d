-- The items of operands, and of what stands over them or between them.
use Rattle.std.proofs.Common.{◌≡◌, ℕ, ◌+◌, ◌<◌, true, min, max, nat_le, refl, subst, arith, inl, inr}
use Rattle.std.specs.Option.{ForSome}
use Rattle.std.specs.Prelude.{nat_lt, None, ◌⊎◌, if◌then◌else◌}
use Rattle.formula_tree.specs.Shape.{depth, level, lowest, nodes_size, top}
use Rattle.formula_tree.specs.Tree.{Tree, binary, group}
use Rattle.formula_tree.specs.View.{tree_of}
use Rattle.formula_tree.specs.declared.ast.Op.{Op}
use Rattle.wk1_formula.specs.inner.Items.{built, edge_of, fits, IsItem}
use Rattle.wk1_formula.specs.Stack.{front_operand, left_operand, right_operand}
use Rattle.wk1_formula.specs.declared.item.Item.{Item}
use Rattle.wk1_formula.specs.declared.item.One.{One}
use Rattle.wk1_formula.specs.declared.item.One.TheVariants.{Group, Neg, Not}

-- what is counted of a tree under something, up to the most
pub record IsOver (one : One) (i new : Item) : Type 0 where
  pub depth_is : new.depth ≡ min (i.depth + 1) 257
  pub size_is : new.size ≡ min (i.size + 1) 65520
  pub top_is : new.top ≡ 8
  pub edge_is : new.edge ≡ edge_of one i.edge

-- one level more, up to the most
one_deeper : (n m d : ℕ) → n ≡ min (m + 1) 257 → m ≡ min d 257 → n ≡ min (1 + d) 257
one_deeper n m d e f = omega (arith, e, f)

-- one byte more, up to the most
one_larger : (n m s : ℕ) → n ≡ min (m + 1) 65520 → m ≡ min s 65520 → n ≡ min (1 + s) 65520
one_larger n m s e f = omega (arith, e, f)

-- a tree that isn't kept is too deep
too_deep : {A : Type 0} (n d : ℕ) → n ≡ min (1 + d) 257 → (A → 256 < d) → A ⊎ (256 < n) → 256 < 1 + d
too_deep n d e gone (inl a) = omega (arith, gone a)
too_deep n d e gone (inr h) = omega (arith, e, h)

-- the item of a bracket, a minus or a NOT over a tree
pub over_made : (one : One) (i new : Item) (t : Tree) → IsOver one i new
    → ForSome new.expr (λ e. tree_of e ≡ built one t)
    → (new.expr ≡ None → (i.expr ≡ None) ⊎ (256 < new.depth)) → IsItem i t → fits one t ≡ true
    → IsItem new (built one t)
over_made Group i new t o there gone p fit =
    let deep = one_deeper new.depth i.depth (depth t) o.depth_is p.depth_is in
    record {
      depth_is = deep;
      size_is = one_larger new.size i.size (nodes_size t) o.size_is p.size_is;
      top_is = o.top_is;
      edge_is = o.edge_is;
      fine = p.fine;
      there = there;
      gone = λ e. too_deep new.depth (depth t) deep p.gone (gone e);
    }
over_made Neg i new t o there gone p fit =
    let deep = one_deeper new.depth i.depth (depth t) o.depth_is p.depth_is in
    record {
      depth_is = deep;
      size_is = one_larger new.size i.size (nodes_size t) o.size_is p.size_is;
      top_is = o.top_is;
      edge_is = rw (← p.edge_is) o.edge_is;
      fine = rw (fit, p.fine) refl;
      there = there;
      gone = λ e. too_deep new.depth (depth t) deep p.gone (gone e);
    }
over_made Not i new t o there gone p fit =
    let deep = one_deeper new.depth i.depth (depth t) o.depth_is p.depth_is in
    record {
      depth_is = deep;
      size_is = one_larger new.size i.size (nodes_size t) o.size_is p.size_is;
      top_is = o.top_is;
      edge_is = rw (← p.edge_is) o.edge_is;
      fine = rw (fit, p.fine) refl;
      there = there;
      gone = λ e. too_deep new.depth (depth t) deep p.gone (gone e);
    }

-- what is counted of two trees with an operator between them, up to the most
pub record IsBetween (op : Op) (i j new : Item) : Type 0 where
  pub depth_is : new.depth ≡ min (max i.depth j.depth + 1) 257
  pub size_is : new.size ≡ min (min (i.size + j.size) 65520 + 1) 65520
  pub top_is : new.top ≡ level op
  pub edge_is : new.edge ≡ min j.edge (level op)

-- one level more than the deeper of two, up to the most
deeper_two : (n k m a b : ℕ) → n ≡ min (max k m + 1) 257 → k ≡ min a 257 → m ≡ min b 257 → n ≡ min (1 + max a b) 257
deeper_two n k m a b e f g = omega (arith, e, f, g)

-- one byte more than two have, up to the most
larger_two : (n k m a b : ℕ) → n ≡ min (min (k + m) 65520 + 1) 65520 → k ≡ min a 65520 → m ≡ min b 65520
    → n ≡ min (1 + (a + b)) 65520
larger_two n k m a b e f g = omega (arith, e, f, g)

-- one of two trees that isn't kept is too deep
deep_two : {A B : Type 0} (a b : ℕ) → (A → 256 < a) → (B → 256 < b) → A ⊎ B → 256 < max a b
deep_two a b p q (inl x) = omega (arith, p x)
deep_two a b p q (inr y) = omega (arith, q y)

-- the item of an operator between two trees
pub between_made : (op : Op) (i j new : Item) (a b : Tree) → IsBetween op i j new
    → ForSome new.expr (λ e. tree_of e ≡ binary op a b)
    → (new.expr ≡ None → ((i.expr ≡ None) ⊎ (j.expr ≡ None)) ⊎ (256 < new.depth)) → IsItem i a → IsItem j b
    → nat_le (level op) (lowest a) ≡ true → nat_lt (level op) (top b) ≡ true → IsItem new (binary op a b)
between_made op i j new a b o there gone p q left right =
    let deep = deeper_two new.depth i.depth j.depth (depth a) (depth b) o.depth_is p.depth_is q.depth_is in
    record {
      depth_is = deep;
      size_is = larger_two new.size i.size j.size (nodes_size a) (nodes_size b) o.size_is p.size_is q.size_is;
      top_is = o.top_is;
      edge_is = rw (← q.edge_is) o.edge_is;
      fine = rw (left, right, p.fine, q.fine) refl;
      there = there;
      gone =
          λ e. too_deep new.depth (max (depth a) (depth b)) deep (deep_two (depth a) (depth b) p.gone q.gone) (gone e);
    }

-- an operand that a minus or a NOT holds, or one with a bracket round it
pub front_held : (least : ℕ) (i j : Item) (t : Tree) → IsItem i t → IsItem j (if nat_lt least i.top then t else group t)
    → IsItem j (front_operand least t)
front_held least i j t p h = subst (λ n. IsItem j (if nat_lt least n then t else group t)) p.top_is h

-- a left operand that an operator holds, or one with a bracket round it
pub left_held : (op : Op) (n : ℕ) (i j : Item) (t : Tree) → n ≡ level op → IsItem i t
    → IsItem j (if nat_le n i.edge then t else group t) → IsItem j (left_operand op t)
left_held op n i j t e p h =
    subst (λ k. IsItem j (if nat_le k (lowest t) then t else group t)) e
    (subst (λ k. IsItem j (if nat_le n k then t else group t)) p.edge_is h)

-- a right operand that an operator holds, or one with a bracket round it
pub right_held : (op : Op) (n : ℕ) (i j : Item) (t : Tree) → n ≡ level op → IsItem i t
    → IsItem j (if nat_lt n i.top then t else group t) → IsItem j (right_operand op t)
right_held op n i j t e p h =
    subst (λ k. IsItem j (if nat_lt k (top t) then t else group t)) e
    (subst (λ k. IsItem j (if nat_lt n k then t else group t)) p.top_is h)
