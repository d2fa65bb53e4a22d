use Rattle.std.proofs.Common.{◌≡◌, arith, refl, rules, sym, ◌∙◌, ℕ}
use Rattle.depend_graph.proofs.Searched.{entered, entered_less, left_now, passed}
use Rattle.depend_graph.proofs.closure.Search.step.Goals as goal

pub returns-in_ok-enter-in-0-clause-searched : goal.returns-in_ok-enter-in-0-clause-searched
returns-in_ok-enter-in-0-clause-searched c = λ cells h.
    let e = c.in_ok-enter-in-0.ensures in
    entered c.args.graph.now cells c.args.self.now c.enter.new.self c.pop.new.self.items c.in-Some.cell h
    c.in-Some.ensures.items c.is_on_sheet.ensures
    (sym c.mark_at.ensures ∙ c.in-0.is) e.marks e.met e.left e.stack

pub returns-in_ok-enter-in-0-clause-less : goal.returns-in_ok-enter-in-0-clause-less
returns-in_ok-enter-in-0-clause-less c = λ cells h.
    let e = c.in_ok-enter-in-0.ensures in
    entered_less c.args.graph.now cells c.args.self.now c.enter.new.self c.pop.new.self.items c.in-Some.cell h
    c.in-Some.ensures.items c.is_on_sheet.ensures
    (entered c.args.graph.now cells c.args.self.now c.enter.new.self c.pop.new.self.items c.in-Some.cell h
    c.in-Some.ensures.items c.is_on_sheet.ensures
    (sym c.mark_at.ensures ∙ c.in-0.is) e.marks e.met e.left e.stack)
    e.met e.stack

pub returns-in_ok-leave-in-1-clause-searched : goal.returns-in_ok-leave-in-1-clause-searched
returns-in_ok-leave-in-1-clause-searched c = λ cells h.
    let e = c.in_ok-leave-in-1.ensures in
    left_now c.args.graph.now cells c.args.self.now c.leave.new.self c.pop.new.self.items c.in-Some.cell h
    c.in-Some.ensures.items c.is_on_sheet.ensures
    (λ z. let k : ◌≡◌ {A = ℕ} 1 0 = sym c.in-1.is ∙ c.mark_at.ensures ∙ z in omega (arith, k)) e.marks e.met
    e.left e.stack

pub returns-in_default-mark_at-clause-searched : goal.returns-in_default-mark_at-clause-searched
returns-in_default-mark_at-clause-searched c = λ cells h.
    let some : c.mark_at.result ≡ 0 → ⊥ = search rules in
    let gone : c.mark_at.result ≡ 1 → ⊥ = search rules in
    passed c.args.graph.now cells c.args.self.now _ c.pop.new.self.items c.in-Some.cell h c.in-Some.ensures.items
    c.is_on_sheet.ensures
    (λ z. some (c.mark_at.ensures ∙ z)) (λ z. gone (c.mark_at.ensures ∙ z)) refl refl refl refl
