use Rattle.std.proofs.Common.{◌≡◌, ℕ, List, suc, ◌+◌, ◌++◌, ◌∷◌, [], codes, map, take, refl, sym, ap, ◌∙◌, arith}
use Rattle.formula_tree.specs.declared.ast.Expr.{Expr}
use Rattle.formula_tree.specs.inner.Nodes.{all_nodes, nodes}
use Rattle.formula_tree.specs.View.{listed, tree_of, trees_in}
use Rattle.formula_tree.proofs.Rows.{fewer_nodes, one_taken, tree_of-Call}
use Rattle.formula_text.specs.Functions.{name_of}
use Rattle.formula_text.specs.Printed.{op_text, text_of}
use Rattle.formula_text.specs.inner.Calls.{call_text, end_of, mark_before, opened}
use Rattle.formula_text.proofs.Pieces.{put_as, three_put, two_put}
use Rattle.formula_text.proofs.Calls.{all_taken, begun, begun_more, call_is, comma_next, ended}
use Rattle.formula_text.proofs.printing.+print.Goals as goal

pub put_tree-returns-in-Str : goal.put_tree-returns-in-Str
put_tree-returns-in-Str g t c =
    put_as (three_put c.args.out.now c.put-in-Str.new.out c.put-in-Str-2.new.out c.put-in-Str-3.new.out
    (34 ∷ []) c.in-Str.text (34 ∷ []) c.put-in-Str.ensures
    (put_as c.put-in-Str-2.ensures c.bytes-in-Str.ensures.value) c.put-in-Str-3.ensures)
    (ap (λ e. text_of c.args.names.now c.args.at (tree_of e)) (sym c.in-Str.is))

pub put_tree-returns-in-Group : goal.put_tree-returns-in-Group
put_tree-returns-in-Group g t c =
    let text : Expr → List ℕ = λ e. text_of c.args.names.now c.args.at (tree_of e) in
    put_as (three_put c.args.out.now c.put-in-Group.new.out c.put_tree.new.out c.put-in-Group-2.new.out
    (40 ∷ []) (text c.in-Group.inner.value) (41 ∷ []) c.put-in-Group.ensures
    (put_as c.put_tree.ensures (ap text c.deref.ensures)) c.put-in-Group-2.ensures)
    (ap text (sym c.in-Group.is))

pub put_tree-returns-in-Neg : goal.put_tree-returns-in-Neg
put_tree-returns-in-Neg g t c =
    let text : Expr → List ℕ = λ e. text_of c.args.names.now c.args.at (tree_of e) in
    put_as (two_put c.args.out.now c.put-in-Neg.new.out c.put_tree-in-Neg.new.out (45 ∷ []) (text c.in-Neg.inner.value)
    c.put-in-Neg.ensures (put_as c.put_tree-in-Neg.ensures (ap text c.deref-in-Neg.ensures)))
    (ap text (sym c.in-Neg.is))

pub put_tree-returns-in-Not : goal.put_tree-returns-in-Not
put_tree-returns-in-Not g t c =
    let text : Expr → List ℕ = λ e. text_of c.args.names.now c.args.at (tree_of e) in
    put_as (two_put c.args.out.now c.put-in-Not.new.out c.put_tree-in-Not.new.out (codes "#NOT#") (text
    c.in-Not.inner.value) c.put-in-Not.ensures (put_as c.put_tree-in-Not.ensures (ap text c.deref-in-Not.ensures)))
    (ap text (sym c.in-Not.is))

pub put_tree-returns-in-Binary : goal.put_tree-returns-in-Binary
put_tree-returns-in-Binary g t c =
    let text : Expr → List ℕ = λ e. text_of c.args.names.now c.args.at (tree_of e) in
    put_as (three_put c.args.out.now c.put_tree-in-Binary.new.out c.put-in-Binary.new.out c.put_tree-in-Binary-2.new.out
    (text c.in-Binary.left.value) (op_text c.in-Binary.op) (text c.in-Binary.right.value)
    (put_as c.put_tree-in-Binary.ensures (ap text c.deref-in-Binary.ensures)) (put_as c.put-in-Binary.ensures
    c.op_text.ensures) (put_as c.put_tree-in-Binary-2.ensures (ap text c.deref-in-Binary-2.ensures)))
    (ap text (sym c.in-Binary.is))

pub put_tree-returns-in-Call : goal.put_tree-returns-in-Call
put_tree-returns-in-Call g t c =
    let names = c.args.names.now in
    let at = c.args.at in
    let f = c.in-Call.function in
    put_as c.put_call.ensures (ap (λ es. call_text names at f (map tree_of es)) c.items.ensures
    ∙ call_is names at f (trees_in c.in-Call.arguments)
    ∙ ap (text_of names at) (sym (tree_of-Call f c.in-Call.arguments))
    ∙ ap (λ e. text_of names at (tree_of e)) (sym c.in-Call.is))

pub put_tree-put_call-requires : goal.put_tree-put_call-requires
put_tree-put_call-requires g t c κs within =
    let f = c.in-Call.function in
    let args = c.in-Call.arguments in
    let n : nodes (tree_of c.args.expr.now) ≡ 1 + all_nodes (listed (trees_in args)) =
    ap (λ e. nodes (tree_of e)) c.in-Call.is ∙ ap nodes (tree_of-Call f args) in
    let m : all_nodes (listed (map tree_of c.items.result.now)) ≡ all_nodes (listed (trees_in args)) =
    ap (λ es. all_nodes (listed (map tree_of es))) c.items.ensures in
    (omega (arith, n, m, c.decreases), within)

pub put_call-loop-argument-init : goal.put_call-loop-argument-init
put_call-loop-argument-init g t c =
    let f = c.args.function in (
      put_as (two_put c.args.out.now c.put.new.out c.put-2.new.out (codes "@") (name_of f) c.put.ensures
          (put_as c.put-2.ensures c.name_of.ensures)) (begun f),
      refl,
    )

pub put_call-put_tree-requires : goal.put_call-put_tree-requires
put_call-put_tree-requires g t c κs within =
    let item = c.argument-item.result in
    let few = fewer_nodes c.args.arguments.now c.loop-argument.argument-index item c.loop-argument-test.true in
    let same = ap (λ e. nodes (tree_of e)) c.argument-item.is in
    (omega (arith, few, same, c.decreases), within)

pub put_call-loop-argument-preserved : goal.put_call-loop-argument-preserved
put_call-loop-argument-preserved g t c =
    let names = c.args.names.now in
    let at = c.args.at in
    let f = c.args.function in
    let es = c.args.arguments.now in
    let i = c.loop-argument.argument-index in
    let item = c.argument-item.result in
    let ts = map tree_of (take i es) in
    let next : map tree_of (take (i + 1) es) ≡ ts ++ tree_of item ∷ [] =
    ap (λ n. map tree_of (take n es)) (let q : i + 1 ≡ suc i = omega arith in q)
    ∙ one_taken es i item c.loop-argument-test.true ∙ ap (λ e. ts ++ tree_of e ∷ []) (sym c.argument-item.is) in
    let front = codes "@" ++ (name_of f ++ opened names at ts) in (
      put_as (three_put c.args.out.now c.loop-argument.out c.put-in-loop-argument.new.out c.put_tree.new.out front
          (mark_before ts) (text_of names at (tree_of item)) c.loop-argument.invariant.0
          (put_as c.put-in-loop-argument.ensures c.loop-argument.invariant.1) c.put_tree.ensures)
          (begun_more names at f ts (tree_of item)
          ∙ ap (λ xs. codes "@" ++ (name_of f ++ opened names at xs)) (sym next)),
      sym (comma_next ts (tree_of item)) ∙ ap mark_before (sym next),
    )

pub put_call-returns : goal.put_call-returns
put_call-returns g t c =
    let names = c.args.names.now in
    let at = c.args.at in
    let f = c.args.function in
    let es = c.args.arguments.now in
    let ts = map tree_of es in
    let all : take c.loop-argument.argument-index es ≡ es =
    all_taken es c.loop-argument.argument-index (omega (arith, c.loop-argument-test.false)) in
    let front = codes "@" ++ (name_of f ++ opened names at ts) in
    put_as (two_put c.args.out.now c.loop-argument.out c.put-3.new.out front (end_of ts)
    (put_as c.loop-argument.invariant.0 (ap (λ xs. codes "@" ++ (name_of f ++ opened names at (map tree_of xs))) all))
    (put_as c.put-3.ensures c.end_of.ensures)) (ended names at f ts)
