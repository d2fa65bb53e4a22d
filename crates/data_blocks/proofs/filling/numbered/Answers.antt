use Rattle.std.proofs.Common.{◌++◌, ◌∷◌, [], ◌∙◌, ap, arith}
use Rattle.std.proofs.lemmas.List.{drop_all}
use Rattle.data_blocks.proofs.Reached.{filled_from, from_number, went_on, without_cell, without_number}
use Rattle.data_blocks.proofs.filling.numbered.Goals as goal
use Rattle.data_blocks.proofs.filling.numbered.Goals.{else-loop-cell-test, then-loop-cell-test+in_default}

pub loop-cell-init : goal.loop-cell-init
loop-cell-init c =
    ap (λ w. w ++ filled_from c.args.step c.args.stop c.first-next.result c.args.cells.now) c.new-writes.ensures
    ∙ ap (λ o. filled_from c.args.step c.args.stop o c.args.cells.now) c.first-next.ensures

pub loop-cell-preserved : goal.loop-cell-preserved
loop-cell-preserved c =
    went_on c.args.step c.args.stop c.loop-cell.writes c.push.new.self c.loop-cell.next c.reached-next.result
    c.add.result c.in-Some.number c.cell-item.result c.cell-item.result c.args.cells.now c.loop-cell.cell-index _
    c.in-Some.is c.loop-cell-test.true c.cell-item.is c.add.ensures c.reached-next.ensures
    (c.in_ok-push.ensures.ok ∙ ap (λ w. c.loop-cell.writes ++ w ∷ []) c.written.ensures) c.loop-cell.invariant

pub returns : goal.returns
returns c = elim c.loop-cell-test.branch [
  | else-loop-cell-test w ↦
      without_cell c.args.step c.args.stop c.loop-cell.writes c.loop-cell.next _ _
      (drop_all c.loop-cell.cell-index c.args.cells.now (omega (arith, w.loop-cell-test.false))) c.loop-cell.invariant
      ∙ from_number c.args.step c.args.stop c.args.start c.args.cells.now
  | then-loop-cell-test+in_default w ↦
      without_number c.args.step c.args.stop c.loop-cell.writes c.loop-cell.next _ _ w.in_default.is
      c.loop-cell.invariant
      ∙ from_number c.args.step c.args.stop c.args.start c.args.cells.now
]
