-- Tests that each node of a tree passes.
use Rattle.std.proofs.Common.{◌≡◌, Bool, true, ◌&&◌, refl}
use Rattle.std.proofs.lemmas.Bool.{and_from, and_parts}
use Rattle.formula_tree.specs.Tree.{Tree, num, str, cell, span, group, neg, not, binary, call, Trees, no_trees, trees}
use Rattle.formula_tree.specs.Shape.{every, every_one, is_bracketed, is_counted, is_fine, is_plain}

mutual
  -- a test that follows from another
  pub weaker : (p q : Tree → Bool) → ((t : Tree) → p t ≡ true → q t ≡ true) → (t : Tree) → every p t ≡ true
      → every q t ≡ true
  weaker p q h (num v) e = h (num v) e
  weaker p q h (str v) e = h (str v) e
  weaker p q h (cell v) e = h (cell v) e
  weaker p q h (span v w) e = h (span v w) e
  weaker p q h (group a) e =
      (let x = and_parts (p (group a)) (every p a) e in and_from _ _ (h (group a) x.0) (weaker p q h a x.1))
  weaker p q h (neg a) e =
      (let x = and_parts (p (neg a)) (every p a) e in and_from _ _ (h (neg a) x.0) (weaker p q h a x.1))
  weaker p q h (not a) e =
      (let x = and_parts (p (not a)) (every p a) e in and_from _ _ (h (not a) x.0) (weaker p q h a x.1))
  weaker p q h (binary op a b) e =
      let x = and_parts (p (binary op a b)) (every p a && every p b) e in
      let y = and_parts (every p a) (every p b) x.1 in
      and_from _ _ (h (binary op a b) x.0) (and_from _ _ (weaker p q h a y.0) (weaker p q h b y.1))
  weaker p q h (call f ts) e =
      (let x = and_parts (p (call f ts)) (every_one p ts) e in
      and_from _ _ (h (call f ts) x.0) (weaker_each p q h ts x.1))

  -- where each node of some trees passes a test, it passes a weaker one
  pub weaker_each : (p q : Tree → Bool) → ((t : Tree) → p t ≡ true → q t ≡ true) → (ts : Trees) → every_one p ts ≡ true
      → every_one q ts ≡ true
  weaker_each p q h no_trees e = refl
  weaker_each p q h (trees t ts) e =
      (let x = and_parts (every p t) (every_one p ts) e in and_from _ _ (weaker p q h t x.0) (weaker_each p q h ts x.1))

-- a node that is fine has a number of arguments that its function takes
pub fine_counted : (t : Tree) → is_fine t ≡ true → is_counted t ≡ true
fine_counted t e =
    (and_parts (is_counted t) (is_plain t) (and_parts (is_bracketed t) (is_counted t && is_plain t) e).1).0
