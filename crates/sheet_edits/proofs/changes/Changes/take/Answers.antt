use Rattle.std.proofs.Common.{subst, sym}
use Rattle.sheet_edits.proofs.Plain.{plain_removed}
use Rattle.sheet_edits.specs.inner.Putting.{GivePlain}
use Rattle.sheet_edits.proofs.changes.Changes.take.Goals as goal

pub invariant_of-self : goal.invariant_of-self
invariant_of-self c = λ h. subst GivePlain (sym c.take.ensures.rest)
    (plain_removed c.self.inside.states c.args.cell (c.self.invariant h))
