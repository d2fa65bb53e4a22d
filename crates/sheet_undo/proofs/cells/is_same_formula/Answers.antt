use Rattle.std.proofs.Common.{sym}
use Rattle.sheet_undo.proofs.Tests.{same_codes}
use Rattle.sheet_undo.proofs.cells.is_same_formula.Goals as goal

pub returns-then-is_known_as : goal.returns-then-is_known_as
returns-then-is_known_as c =
    sym (same_codes c.args.one.now c.args.other.now c.args.at (c.is_known_as.ensures c.if-is_known_as.true))
