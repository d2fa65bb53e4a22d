use Rattle.std.proofs.Common.{ap, refl, ◌∙◌}
use Rattle.sheet_run.specs.Run.{Outside}
use Rattle.sheet_run.proofs.Endings.{by_lengths, finish, leaves_unless, nine, ran_out}
use Rattle.sheet_run.proofs.runs.run_session.Goals as goal

pub drive-ending-requires-clause-fresh : goal.drive-ending-requires-clause-fresh
drive-ending-requires-clause-fresh g c = c.requires.fresh

pub drive-ending-requires-clause-room : goal.drive-ending-requires-clause-room
drive-ending-requires-clause-room g c = c.requires.room

pub drive-ending-requires-clause-untold : goal.drive-ending-requires-clause-untold
drive-ending-requires-clause-untold g c = c.sending_to-sending.ensures.untold

pub returns-in-NoMemory-clause-ran : goal.returns-in-NoMemory-clause-ran
returns-in-NoMemory-clause-ran g c before begun =
    nine _ _ _ _ c.tell_memory.ensures.status
    (ran_out c.args.options.now c.bounds.result begun.start begun.first c.args.session.now c.drive-ending.new.session _
    _ _ c.bounds.ensures begun.opened begun.begins c.in-NoMemory.ensures.driven c.tell_memory.ensures.tried)

pub returns-clause-ran : goal.returns-clause-ran
returns-clause-ran g c before begun =
    finish c.args.options.now c.bounds.result begun.start begun.first c.args.session.now c.drive-ending.new.session
    c.drive-ending.result _ _ _ _ _ _ _ _ c.bounds.ensures begun.opened begun.begins
    (leaves_unless c.drive-ending.result c.in_default.not-NoMemory) c.drive-ending.ensures.driven
    c.work_on_all.ensures.passed refl
    (by_lengths _ _ c.args.outside.now.failed.now.items c.work_on_all.new.failed.items c.len-failed_before.result
    c.len.result before.failed (ap (λ (x : Outside). x.failed) begun.opened.now_is)
    (c.len-failed_before.ensures ∙ c.args.outside.now.failed.now.ok.0) (c.len.ensures ∙ c.work_on_all.new.failed.ok.0))
    c.tell.ensures
