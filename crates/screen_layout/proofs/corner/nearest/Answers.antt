use Rattle.std.proofs.Common.{◌≡◌, ℕ, suc, ◌+◌, ◌-◌, ap, sym, ◌∙◌, arith}
use Rattle.screen_layout.specs.Corner.{nearest, wide}
use Rattle.work_sheet.specs.Seen.{of_worksheet, Sheet}
use Rattle.screen_layout.proofs.Nearing.{nearest_here, nearest_last, nearest_later, wide_first}
use Rattle.screen_layout.proofs.corner.nearest.Goals as goal

pub returns-then-rest-from-clause-column : goal.returns-then-rest-from-clause-column
returns-then-rest-from-clause-column c =
    let s : Sheet = of_worksheet c.args.sheet.now in
    let further : ℕ = c.args.pointer - c.loop-col.col in
    sym (c.loop-col.invariant.column
    ∙ nearest_here s further c.loop-col.col (omega arith)
    (omega (arith, c.loop-col.invariant.rest, c.if-rest-from.true)))

pub overflow_sub-rest : goal.overflow_sub-rest
overflow_sub-rest c =
    let s : Sheet = of_worksheet c.args.sheet.now in
    let further : ℕ = c.args.pointer - c.loop-col.col in
    let more : further + 1 ≡ suc further = omega arith in
    omega (
      arith,
      c.loop-col.invariant.rest,
      c.shown_width-rest.ensures.width,
      ap (λ (n : ℕ). wide s n c.loop-col.col) more,
      wide_first s further c.loop-col.col,
    )

pub loop-col-preserved : goal.loop-col-preserved
loop-col-preserved c =
    let s : Sheet = of_worksheet c.args.sheet.now in
    let col : ℕ = c.loop-col.col in
    let further : ℕ = c.args.pointer - col in
    let more : further + 1 ≡ suc further = omega arith in
    let less : further ≡ c.args.pointer - (col + 1) + 1 = omega arith in
    let one : further - 1 ≡ c.args.pointer - (col + 1) = omega arith in
    record {
      rest = omega (
        arith,
        c.loop-col.invariant.rest,
        c.shown_width-rest.ensures.width,
        ap (λ (n : ℕ). wide s n col) more,
        wide_first s further col,
        ap (λ (n : ℕ). wide s n (col + 1)) less,
      );
      column =
          c.loop-col.invariant.column
          ∙ nearest_later s further col (omega arith) (omega (arith, c.loop-col.invariant.rest, c.if-rest-from.false))
          ∙ ap (λ (n : ℕ). nearest s n (col + 1)) one;
    }

pub returns-clause-column : goal.returns-clause-column
returns-clause-column c =
    let s : Sheet = of_worksheet c.args.sheet.now in
    let last : c.args.pointer ≡ c.loop-col.col = omega arith in
    let none : c.args.pointer - c.loop-col.col ≡ 0 = omega arith in
    last ∙ sym (c.loop-col.invariant.column ∙ nearest_last s (c.args.pointer - c.loop-col.col) c.loop-col.col none)
