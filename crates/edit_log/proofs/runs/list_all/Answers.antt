use Rattle.std.specs.Prelude.{take}
use Rattle.std.proofs.Common.{arith, ap, sym, ◌∙◌}
use Rattle.edit_log.proofs.AtOnce.{front_listed, key_all, key_more}
use Rattle.edit_log.specs.Changes.{cells_of}
use Rattle.edit_log.proofs.runs.list_all.Goals as goal

pub loop-place-init : goal.loop-place-init
loop-place-init c = c.requires.first ∙ ap (λ n. take n (cells_of c.args.changes.now)) (sym c.len-place.ensures.len)

pub returns-in_err-insert-clause-listed : goal.returns-in_err-insert-clause-listed
returns-in_err-insert-clause-listed c = front_listed c.insert.new.self.keys c.args.changes.now c.loop-place.place
    (c.in_err-insert.ensures.err ∙ c.loop-place.invariant) c.requires.once

pub loop-place-preserved : goal.loop-place-preserved
loop-place-preserved c = key_more c.args.changes.now c.loop-place.place c.index-changes-place.result
    c.index-changes-place.is c.loop-place-test.true c.requires.once c.loop-place.cells.keys c.insert.new.self.keys
    c.cell.result c.loop-place.invariant c.cell.ensures c.in_ok-insert.ensures.ok

pub returns-clause-listed : goal.returns-clause-listed
returns-clause-listed c = front_listed c.loop-place.cells.keys c.args.changes.now c.loop-place.place
    c.loop-place.invariant c.requires.once

pub returns-clause-all : goal.returns-clause-all
returns-clause-all c = key_all c.args.changes.now c.loop-place.place c.loop-place.cells.keys c.loop-place.invariant
    (omega (arith, c.loop-place-test.false))
