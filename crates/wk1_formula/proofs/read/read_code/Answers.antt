use Rattle.std.proofs.Common.{◌≡◌, ◌≤◌, Bool, length, drop, reverse, ap, ◌∙◌, sym, subst, arith}
use Rattle.wk1_formula.specs.declared.front.Front.{Front}
use Rattle.wk1_formula.specs.Reading.{faulty, finish, front_of, left_out, too_large, whole}
use Rattle.wk1_formula.specs.Stack.{Gives}
use Rattle.wk1_formula.specs.inner.Steps.{HasStepped, IsSound}
use Rattle.wk1_formula.specs.inner.Views.{seen, seen_code}
use Rattle.wk1_formula.proofs.Ends.{goes_on, is_faulty, is_finish, is_lacking, is_large, is_outside}
use Rattle.wk1_formula.proofs.read.read_code.Goals as goal

pub loop-at-preserved : goal.loop-at-preserved
loop-at-preserved c =
    let code = c.args.code.now in
    let at = c.loop-at.at in
    let g = c.loop-at.invariant in
    let found = seen_code c.in-Whole.found in
    let front : front_of (drop at code) ≡ whole found c.in-Whole.size =
    ap front_of (sym c.bytes_from.ensures.rest) ∙ sym c.in-Ok.ensures.front ∙ ap seen c.in-Whole.is in
    let sound =
    subst (λ (f : Front). IsSound (seen f) (length c.bytes_from.result.now)) c.in-Whole.is c.in-Ok.ensures.sound in
    let rest : length c.bytes_from.result.now ≡ length (drop at code) = ap length c.bytes_from.ensures.rest in
    let within : c.in-Whole.size ≤ length (drop at code) = omega (arith, sound.2, rest) in
    let went =
    subst (λ (b : Bool). HasStepped found b (reverse c.step.new.stack.items) g.trees) c.in-Ok-true.field-0-test
    (c.in-Ok-true.ensures g.trees g.items) in
    goes_on code at c.loop-at.stack.items g c.loop-at-test.true found c.in-Whole.size c.step.new.stack.items went.0
    front sound.1 within went.1 went.2

pub returns-in-Ok-false : goal.returns-in-Ok-false
returns-in-Ok-false c =
    let code = c.args.code.now in
    let at = c.loop-at.at in
    let g = c.loop-at.invariant in
    let found = seen_code c.in-Whole.found in
    let front : front_of (drop at code) ≡ whole found c.in-Whole.size =
    ap front_of (sym c.bytes_from.ensures.rest) ∙ sym c.in-Ok.ensures.front ∙ ap seen c.in-Whole.is in
    let sound =
    subst (λ (f : Front). IsSound (seen f) (length c.bytes_from.result.now)) c.in-Whole.is c.in-Ok.ensures.sound in
    let rest : length c.bytes_from.result.now ≡ length (drop at code) = ap length c.bytes_from.ensures.rest in
    let within : c.in-Whole.size ≤ length (drop at code) = omega (arith, sound.2, rest) in
    let went =
    subst (λ (b : Bool). HasStepped found b (reverse c.step.new.stack.items) g.trees) c.in-Ok-false.field-0-test
    (c.in-Ok-false.ensures g.trees g.items) in
    is_lacking code at c.loop-at.stack.items g c.loop-at-test.true found c.in-Whole.size front sound.1 within went

pub returns-in-Finish : goal.returns-in-Finish
returns-in-Finish c =
    let code = c.args.code.now in
    let at = c.loop-at.at in
    let g = c.loop-at.invariant in
    let front : front_of (drop at code) ≡ finish =
    ap front_of (sym c.bytes_from.ensures.rest) ∙ sym c.in-Ok.ensures.front ∙ ap seen c.in-Finish.is in
    subst (Gives c.finished.result) (sym (is_finish code at c.loop-at.stack.items g c.loop-at-test.true front))
    (c.finished.ensures g.trees g.items)

pub returns-in-Faulty : goal.returns-in-Faulty
returns-in-Faulty c =
    let front : front_of (drop c.loop-at.at c.args.code.now) ≡ faulty =
    ap front_of (sym c.bytes_from.ensures.rest) ∙ sym c.in-Ok.ensures.front ∙ ap seen c.in-Faulty.is in
    is_faulty c.args.code.now c.loop-at.at c.loop-at.stack.items c.loop-at.invariant c.loop-at-test.true front

pub returns-in-LeftOut : goal.returns-in-LeftOut
returns-in-LeftOut c =
    let front : front_of (drop c.loop-at.at c.args.code.now) ≡ left_out c.in-LeftOut.function =
    ap front_of (sym c.bytes_from.ensures.rest) ∙ sym c.in-Ok.ensures.front ∙ ap seen c.in-LeftOut.is in
    is_outside c.args.code.now c.loop-at.at c.loop-at.stack.items c.loop-at.invariant c.loop-at-test.true
    c.in-LeftOut.function front

pub returns-in-TooLarge : goal.returns-in-TooLarge
returns-in-TooLarge c =
    let front : front_of (drop c.loop-at.at c.args.code.now) ≡ too_large =
    ap front_of (sym c.bytes_from.ensures.rest) ∙ sym c.in-Ok.ensures.front ∙ ap seen c.in-TooLarge.is in
    is_large c.args.code.now c.loop-at.at c.loop-at.stack.items c.loop-at.invariant c.loop-at-test.true front
