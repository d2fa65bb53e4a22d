use Rattle.std.proofs.Common.{◌≡◌, ◌≤◌, ℕ, ◌+◌, ◌-◌, ap, sym, ◌∙◌, arith}
use Rattle.grid_address.specs.Place.{Place}
use Rattle.cell_pointer.specs.Moves.{stepped_times}
use Rattle.cell_pointer.specs.Steps.{stepped}
use Rattle.cell_pointer.proofs.Running.{no_more, one_more}
use Rattle.cell_pointer.proofs.moves.stepped_times.Goals as goal

pub loop-step-preserved : goal.loop-step-preserved
loop-step-preserved c =
    let left : ℕ = c.args.count - c.loop-step._step in
    let next : Place = stepped c.args.arrow c.args.cells.now c.loop-step.here in
    let some : 1 ≤ left = omega (arith, c.loop-step-test.true) in
    let less : left - 1 ≡ c.args.count - (c.loop-step._step + 1) = omega arith in
    c.loop-step.invariant ∙ one_more left c.args.arrow c.args.cells.now c.loop-step.here some
    ∙ ap (λ (n : ℕ). stepped_times n c.args.arrow c.args.cells.now next) less
    ∙ ap (stepped_times (c.args.count - (c.loop-step._step + 1)) c.args.arrow c.args.cells.now)
    (sym c.stepped-here.ensures)

pub returns : goal.returns
returns c =
    let all : c.args.count - c.loop-step._step ≡ 0 = omega (arith, c.loop-step-test.false) in
    sym (c.loop-step.invariant
    ∙ no_more (c.args.count - c.loop-step._step) c.args.arrow c.args.cells.now c.loop-step.here all)
