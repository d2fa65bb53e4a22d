use Rattle.std.proofs.Common.{◌≡◌, ◌≤◌, ◌<◌, ◌+◌, ◌-◌, ◌++◌, ℕ, List, Option, Some, length, ap, ◌∙◌, arith}
use Rattle.fixed_value.specs.Written.{written}
use Rattle.cell_format.specs.Numbers.{fitting, placed}
use Rattle.cell_format.proofs.Fitting.{fits_here, fitting_below, past_here}
use Rattle.cell_format.proofs.numbers.put_fewer.Goals as goal

pub returns-then-bytes-room : goal.returns-then-bytes-room
returns-then-bytes-room c =
    let room = c.saturating_sub-room.result in
    let places = c.args.most - c.loop-less.less in
    let here : places + 1 ≡ c.args.most + 1 - c.loop-less.less = omega arith in
    let len : length (written c.args.value places) ≤ room =
    omega (arith, c.if-bytes-room.true, ap length (c.bytes.ensures.bytes ∙ c.write_decimal.ensures)) in
    c.put_right.ensures
    ∙ ap (λ (line : List ℕ). line ++ placed (Some c.bytes-then-bytes-room.result.now) c.args.width)
    c.loop-less.invariant.0
    ∙ ap (λ (t : Option (List ℕ)). c.args.into.now ++ placed t c.args.width)
    (ap (λ (l : List ℕ). Some l) (c.bytes-then-bytes-room.ensures.bytes ∙ c.write_short.ensures)
    ∙ fits_here places room c.args.value len ∙ ap (λ k. fitting_below k c.args.value room) here
    ∙ c.loop-less.invariant.1 ∙ ap (λ r. fitting c.args.most c.args.value r) c.saturating_sub-room.ensures)

pub loop-less-preserved : goal.loop-less-preserved
loop-less-preserved c =
    let room = c.saturating_sub-room.result in
    let places = c.args.most - c.loop-less.less in
    let less : c.args.most + 1 - (c.loop-less.less + 1) ≡ places = omega arith in
    let here : places + 1 ≡ c.args.most + 1 - c.loop-less.less = omega arith in
    let past : room < length (written c.args.value places) =
    omega (arith, c.if-bytes-room.false, ap length (c.bytes.ensures.bytes ∙ c.write_decimal.ensures)) in (
      c.loop-less.invariant.0,
      ap (λ k. fitting_below k c.args.value room) less ∙ past_here places room c.args.value past
          ∙ ap (λ k. fitting_below k c.args.value room) here ∙ c.loop-less.invariant.1,
    )
