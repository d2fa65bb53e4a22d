use Rattle.std.proofs.Common.{◌≡◌, arith, length, rules, sym, true, vec_len, ◌∙◌, ℕ}
use Rattle.std.proofs.lemmas.Bool.{eqb-true}
use Rattle.std.proofs.lemmas.List.{nil_from_length}
use Rattle.depend_graph.proofs.Searched.{searched_all}
use Rattle.depend_graph.proofs.closure.within.Goals as goal

pub steps-preserved : goal.steps-preserved
steps-preserved c = c.in_ok-step.ensures.searched c.args.cells.now c.steps.invariant

pub returns : goal.returns
returns c =
    let over : c.is_empty.result ≡ true = search rules in
    let last : ◌≡◌ {A = ℕ} (vec_len c.steps.search.stack) 0 =
    eqb-true (vec_len c.steps.search.stack) 0 (sym c.is_empty.ensures ∙ over) in
    let ok = c.steps.search.stack.ok.0 in
    let none : length c.steps.search.stack.items ≡ 0 = omega (arith, last, ok) in
    λ x. searched_all c.args.graph.now c.args.cells.now c.steps.search c.steps.invariant
    (nil_from_length c.steps.search.stack.items none) x
