use Rattle.std.specs.Prelude.{take}
use Rattle.std.specs.List.{IsDistinct}
use Rattle.std.proofs.Common.{arith, ap, sym, subst, ◌∙◌}
use Rattle.std.proofs.lemmas.Bool.{false≢true}
use Rattle.std.proofs.lemmas.List.{take_all}
use Rattle.grid_address.specs.Place.{same_place}
use Rattle.edit_log.proofs.AtOnce.{below_next, distinct_next, none_twice}
use Rattle.edit_log.proofs.runs.is_run.Goals as goal

pub loop-cell-init : goal.loop-cell-init
loop-cell-init c = record { below = λ x h. absurd (false≢true h); once = none_twice }

pub loop-cell-preserved : goal.loop-cell-preserved
loop-cell-preserved c = record {
  below = below_next c.args.cells.now c.loop-cell.cell-index c.cell-item.result c.cell-item.is c.loop-cell-test.true
      c.loop-cell.least c.rank-rank.result c.rank-rank.ensures.rank c.if-rank-least.false
      c.loop-cell.invariant.below;
  once = distinct_next c.args.cells.now c.loop-cell.cell-index c.cell-item.result c.cell-item.is c.loop-cell-test.true
      c.loop-cell.least c.rank-rank.result c.rank-rank.ensures.rank c.if-rank-least.false
      c.loop-cell.invariant.below c.loop-cell.invariant.once;
}

pub returns : goal.returns
returns c = λ t. subst (IsDistinct same_place)
    (take_all c.loop-cell.cell-index c.args.cells.now (omega (arith, c.loop-cell-test.false)))
    c.loop-cell.invariant.once
