use Rattle.std.proofs.Common.{◌≡◌, ◌+◌, ◌++◌, ◌∷◌, [], true, map, sym, ap, ◌∙◌, arith, inl, inr, Bor}
use Rattle.std.specs.Prelude.{sum_by}
use Rattle.std.proofs.lemmas.List.{map-append}
use Rattle.formula_tree.specs.declared.ast.Expr.{Expr}
use Rattle.formula_tree.specs.Tree.{Tree}
use Rattle.formula_tree.specs.View.{tree_of}
use Rattle.formula_tree.specs.inner.Nodes.{nodes, parts}
use Rattle.formula_tree.specs.Ranges.{is_ranged}
use Rattle.formula_tree.specs.Shape.{is_fine}
use Rattle.formula_tree.proofs.Parts.{all_fine, all_pass, as_long, fewer, left_size, passes_on, too_long, unfit}
use Rattle.formula_tree.proofs.walk.has_shape.Goals as goal

abbrev seen : Bor Expr → Tree
seen e = tree_of e.now

pub loop-next-smaller : goal.loop-next-smaller
loop-next-smaller c =
    let below = map seen c.pop.new.self.items in
    let t = tree_of c.in-Some.next.now in
    let e1 : map seen c.spread.new.stack.items ≡ below ++ parts t = c.in_ok-spread.ensures in
    let e2 : map seen c.loop-next.stack.items ≡ below ++ t ∷ [] =
    ap (map seen) c.in-Some.ensures.items ∙ map-append seen c.pop.new.self.items (c.in-Some.next ∷ []) in
    omega (arith, fewer below t, ap (sum_by nodes) e1, ap (sum_by nodes) e2)

pub loop-next-preserved : goal.loop-next-preserved
loop-next-preserved c =
    let below = map seen c.pop.new.self.items in
    let t = tree_of c.in-Some.next.now in
    let e1 : map seen c.spread.new.stack.items ≡ below ++ parts t = c.in_ok-spread.ensures in
    let e2 : map seen c.loop-next.stack.items ≡ below ++ t ∷ [] =
    ap (map seen) c.in-Some.ensures.items ∙ map-append seen c.pop.new.self.items (c.in-Some.next ∷ []) in
    let fine : is_fine t ≡ true = sym c.is_fine.ensures ∙ c.if-not-is_fine.false in (
      ap all_fine e1 ∙ passes_on is_fine below t fine ∙ ap all_fine (sym e2) ∙ c.loop-next.invariant.0,
      ap (left_size (c.loop-next.code + c.node_size-code.result)) e1
          ∙ ap (λ k. left_size (c.loop-next.code + k) (below ++ parts t)) c.node_size-code.ensures.size
          ∙ as_long below t c.loop-next.code ∙ ap (left_size c.loop-next.code) (sym e2) ∙ c.loop-next.invariant.1,
      omega (arith, c.if-code-gt-MOST_CODE.false),
      ap (all_pass is_ranged) e1 ∙ passes_on is_ranged below t c.is_ranged.ensures ∙ ap (all_pass is_ranged) (sym e2)
          ∙ c.loop-next.invariant.3,
    )

pub returns-then-not-is_fine-clause-shape : goal.returns-then-not-is_fine-clause-shape
returns-then-not-is_fine-clause-shape c =
    let below = map seen c.pop.new.self.items in
    let t = tree_of c.in-Some.next.now in
    let e2 : map seen c.loop-next.stack.items ≡ below ++ t ∷ [] =
    ap (map seen) c.in-Some.ensures.items ∙ map-append seen c.pop.new.self.items (c.in-Some.next ∷ []) in
    let whole = tree_of c.args.expr.now in
    let code = c.loop-next.code in
    let size = c.node_size-code.ensures.size in
    elim c.then-not-is_fine.either [
      | inl not ↦
          sym (unfit below t whole (sym c.is_fine.ensures ∙ not) (ap all_fine (sym e2) ∙ c.loop-next.invariant.0))
      | inr over ↦
          sym (too_long below t whole code (omega (arith, over.1, size))
          (ap (left_size code) (sym e2) ∙ c.loop-next.invariant.1))
    ]
