use Rattle.std.proofs.Common.{◌≡◌, ℕ, ◌+◌, ◌-◌, ap, sym, ◌∙◌, arith}
use Rattle.screen_layout.specs.Corner.{wide}
use Rattle.work_sheet.specs.Seen.{of_worksheet, Sheet}
use Rattle.screen_layout.proofs.Nearing.{wide_more, wide_none}
use Rattle.screen_layout.proofs.corner.wide.Goals as goal

pub loop-col-init : goal.loop-col-init
loop-col-init c =
    let none : c.from-col.result - c.args.first ≡ 0 = omega (arith, c.from-col.ensures) in
    record {
      sum =
          sym (ap (λ (n : ℕ). wide (of_worksheet c.args.sheet.now) n c.args.first) none
          ∙ wide_none (of_worksheet c.args.sheet.now) c.args.first);
      most = omega arith;
    }

pub loop-col-preserved : goal.loop-col-preserved
loop-col-preserved c =
    let s : Sheet = of_worksheet c.args.sheet.now in
    let first : ℕ = c.args.first in
    let col : ℕ = c.loop-col.col in
    let next : col + 1 - first ≡ col - first + 1 = omega (arith, c.from-col.ensures) in
    let at : first + (col - first) ≡ col = omega (arith, c.from-col.ensures) in
    record {
      sum = omega (
        arith,
        c.loop-col.invariant.sum,
        c.shown_width-sum.ensures.width,
        wide_more s (col - first) first,
        ap (λ (n : ℕ). wide s n first) next,
        ap (λ (x : ℕ). wide s 1 x) at,
      );
      most = omega (arith, c.loop-col.invariant.most, c.shown_width-sum.ensures.most, next);
    }
