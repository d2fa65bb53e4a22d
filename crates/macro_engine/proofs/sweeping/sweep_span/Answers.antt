use Rattle.std.specs.Prelude.{ℕ, ◌≡◌, ◌+◌, ◌-◌, suc}
use Rattle.std.proofs.Common.{arith, subst, sym, ◌∙◌}
use Rattle.macro_engine.proofs.Passes.{last_pass, no_pass, one_pass}
use Rattle.macro_engine.specs.Changes.{swept_within}
use Rattle.work_sheet.specs.Did.{Did}
use Rattle.work_sheet.specs.Seen.{of_worksheet}
use Rattle.macro_engine.proofs.sweeping.sweep_span.Goals as goal

pub returns-then-branch : goal.returns-then-branch
returns-then-branch c =
    let rest : ℕ = c.args.sweep.now.most - (c.loop-pass.pass + 1) in
    let more : c.args.sweep.now.most - c.loop-pass.pass ≡ suc rest = let h = c.loop-pass-test.true in omega arith in
    c.loop-pass.invariant c.recalc_span.new.self c.recalc_span.new.tally.count
    (subst (λ (k : ℕ). Did (swept_within k c.args.scene.now c.args.sweep.now (of_worksheet c.loop-pass.sheet))
    c.loop-pass.sheet c.recalc_span.new.self c.loop-pass.tally.count c.recalc_span.new.tally.count)
    (sym more)
    (last_pass rest c.args.scene.now c.args.sweep.now c.loop-pass.sheet c.recalc_span.new.self c.loop-pass.tally.count
    c.recalc_span.new.tally.count
    c.in_ok-recalc_span.ensures.did (sym c.in_ok-is_met.ensures ∙ c.if-branch.true)))

pub loop-pass-preserved : goal.loop-pass-preserved
loop-pass-preserved c =
    let rest : ℕ = c.args.sweep.now.most - (c.loop-pass.pass + 1) in
    let more : c.args.sweep.now.most - c.loop-pass.pass ≡ suc rest = let h = c.loop-pass-test.true in omega arith in
    λ b o did. c.loop-pass.invariant b o
    (subst (λ (k : ℕ). Did (swept_within k c.args.scene.now c.args.sweep.now (of_worksheet c.loop-pass.sheet))
    c.loop-pass.sheet b c.loop-pass.tally.count o)
    (sym more)
    (one_pass rest c.args.scene.now c.args.sweep.now c.loop-pass.sheet c.recalc_span.new.self c.loop-pass.tally.count
    c.recalc_span.new.tally.count
    c.in_ok-recalc_span.ensures.did b o (sym c.in_ok-is_met.ensures ∙ c.if-branch.false) did))

pub returns : goal.returns
returns c =
    let none : c.args.sweep.now.most - c.loop-pass.pass ≡ 0 = let h = c.loop-pass-test.false in omega arith in
    c.loop-pass.invariant c.loop-pass.sheet c.loop-pass.tally.count
    (subst (λ (k : ℕ). Did (swept_within k c.args.scene.now c.args.sweep.now (of_worksheet c.loop-pass.sheet))
    c.loop-pass.sheet c.loop-pass.sheet c.loop-pass.tally.count c.loop-pass.tally.count)
    (sym none) (no_pass c.args.scene.now c.args.sweep.now c.loop-pass.sheet c.loop-pass.tally.count))
