use Rattle.std.proofs.Common.{rules, ◌∙◌}
use Rattle.session_core.proofs.machine.Machine.point_at.Goals as goal

-- the settings of the sheet are those that were set
pub returns-clause-state : goal.returns-clause-state
returns-clause-state c =
    rw (c.set_settings.ensures 0).sheet (rw (c.set_settings.ensures 0).history (search rules))

pub returns-clause-work : goal.returns-clause-work
returns-clause-work c = (c.set_settings.ensures c.self.inside.tally.count).work ∙ (search rules)

pub returns-clause-sheet : goal.returns-clause-sheet
returns-clause-sheet c = (c.args.pointer, rw (c.set_settings.ensures 0).sheet (search rules))
