use Rattle.std.proofs.Common.{◌≡◌, ◌≤◌, ◌+◌, ◌++◌, OnOk, true, flat_map, length, map, sym, ap, ◌∙◌, subst, append_assoc}
use Rattle.std.proofs.Common.{arith}
use Rattle.std.specs.List.{list_all}
use Rattle.std.proofs.lemmas.Bool.{and_parts}
use Rattle.formula_tree.specs.inner.Nodes.{all_nodes, nodes}
use Rattle.formula_tree.specs.Shape.{count, every, every_one, is_counted}
use Rattle.formula_tree.specs.Table.{counts_of, takes}
use Rattle.formula_tree.specs.Tree.{call}
use Rattle.formula_tree.specs.View.{listed, tree_of, trees_in}
use Rattle.formula_tree.proofs.Rows.{count_listed, fewer_nodes, tree_of-Call}
use Rattle.wk1_formula.specs.Codes.{postfix, postfix_all}
use Rattle.wk1_formula.specs.Written.{function_bytes, spelled}
use Rattle.wk1_formula.proofs.Trees.{each_passes, every_listed, few_arguments, function_last, spelled_listed}
use Rattle.wk1_formula.proofs.write.+put_tree.Goals as goal

pub put_tree-put_trees-requires : goal.put_tree-put_trees-requires
put_tree-put_trees-requires t c =
    let f = c.in-Call.function in
    let args = c.in-Call.args in
    let n : nodes (tree_of c.args.expr.now) ≡ 1 + all_nodes (listed (trees_in args)) =
    ap (λ e. nodes (tree_of e)) c.in-Call.is ∙ ap nodes (tree_of-Call f args) in
    let m : all_nodes (listed (map tree_of c.items.result.now)) ≡ all_nodes (listed (trees_in args)) =
    ap (λ es. all_nodes (listed (map tree_of es))) c.items.ensures in
    let whole : every is_counted (call f (listed (trees_in args))) ≡ true =
    sym (ap (λ e. every is_counted (tree_of e)) c.in-Call.is ∙ ap (every is_counted) (tree_of-Call f args))
    ∙ c.requires in
    let each : every_one is_counted (listed (trees_in args)) ≡ true =
    (and_parts (is_counted (call f (listed (trees_in args))))
    (every_one is_counted (listed (trees_in args))) whole).1 in (
      omega (arith, n, m, c.decreases),
      ap (list_all (λ e. every is_counted (tree_of e))) c.items.ensures ∙ every_listed is_counted args.items.items
          ∙ each,
    )

pub put_tree-overflow_cast-items : goal.put_tree-overflow_cast-items
put_tree-overflow_cast-items t c =
    let f = c.in-Call.function in
    let args = c.in-Call.args in
    let whole : every is_counted (call f (listed (trees_in args))) ≡ true =
    sym (ap (λ e. every is_counted (tree_of e)) c.in-Call.is ∙ ap (every is_counted) (tree_of-Call f args))
    ∙ c.requires in
    let taken : takes (counts_of f) (count (listed (trees_in args))) ≡ true = (and_parts _ _ whole).0 in
    let few : count (listed (trees_in args)) ≤ 255 = few_arguments f _ taken in
    let same : length c.items-in-Call.result.now ≡ count (listed (trees_in args)) =
    ap length c.items-in-Call.ensures ∙ count_listed args.items.items in
    omega (arith, few, same)

pub put_tree-returns-in_ok-put_trees-in-Call : goal.put_tree-returns-in_ok-put_trees-in-Call
put_tree-returns-in_ok-put_trees-in-Call t c =
    let f = c.in-Call.function in
    let args = c.in-Call.args in
    let at = c.args.at in
    let ts = listed (trees_in args) in
    let whole : every is_counted (call f ts) ≡ true =
    sym (ap (λ e. every is_counted (tree_of e)) c.in-Call.is ∙ ap (every is_counted) (tree_of-Call f args))
    ∙ c.requires in
    let taken : takes (counts_of f) (count ts) ≡ true = (and_parts _ _ whole).0 in
    let few : count ts ≤ 255 = few_arguments f _ taken in
    let same : length c.items-in-Call.result.now ≡ count ts =
    ap length c.items-in-Call.ensures ∙ count_listed args.items.items in
    let before : c.put_trees.new.into.items ≡ c.args.into.now.items ++ spelled at (postfix_all ts) =
    c.in_ok-put_trees-in-Call.ensures
    ∙ ap (λ es. c.args.into.now.items ++ flat_map (λ e. spelled at (postfix (tree_of e))) es) c.items.ensures
    ∙ ap (λ l. c.args.into.now.items ++ l) (spelled_listed at args.items.items) in
    let end : postfix (tree_of c.args.expr.now) ≡ postfix (call f ts) =
    ap (λ e. postfix (tree_of e)) c.in-Call.is ∙ ap postfix (tree_of-Call f args) in
    let joined : c.put_trees.new.into.items ++ function_bytes f (length c.items-in-Call.result.now)
    ≡ c.args.into.now.items ++ spelled at (postfix (tree_of c.args.expr.now)) =
    ap (λ l. l ++ function_bytes f (length c.items-in-Call.result.now)) before
    ∙ append_assoc c.args.into.now.items (spelled at (postfix_all ts))
    (function_bytes f (length c.items-in-Call.result.now))
    ∙ ap (λ n. c.args.into.now.items ++ (spelled at (postfix_all ts) ++ function_bytes f n)) same
    ∙ ap (λ l. c.args.into.now.items ++ l) (sym (function_last at (postfix_all ts) f (count ts)))
    ∙ ap (λ p. c.args.into.now.items ++ spelled at p) (sym end) in
    subst (λ l. OnOk c.put_function.result (c.put_function.new.into.items ≡ l)) joined c.put_function.ensures

pub put_trees-put_tree-requires : goal.put_trees-put_tree-requires
put_trees-put_tree-requires t c =
    let few = fewer_nodes c.args.args.now c.loop-arg.arg-index c.arg-item.result c.loop-arg-test.true in
    let same = ap (λ e. nodes (tree_of e)) c.arg-item.is in (
      omega (arith, few, same, c.decreases),
      ap (λ e. every is_counted (tree_of e)) c.arg-item.is
          ∙ each_passes (λ e. every is_counted (tree_of e)) c.args.args.now c.loop-arg.arg-index c.arg-item.result
          c.requires c.loop-arg-test.true,
    )
