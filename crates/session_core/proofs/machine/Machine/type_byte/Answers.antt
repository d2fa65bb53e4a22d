use Rattle.std.proofs.Common.{rules}
use Rattle.session_core.proofs.machine.Machine.type_byte.Goals as goal

-- the pointer stays
pub returns-clause-sheet : goal.returns-clause-sheet
returns-clause-sheet c = (c.args.self.now.state.desk.sheet.settings.pointer, search rules)
