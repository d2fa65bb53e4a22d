use Rattle.sheet_edits.proofs.Plain.{plain_empty}
use Rattle.sheet_edits.proofs.changes.Changes.new.Goals as goal

pub invariant_of-result : goal.invariant_of-result
invariant_of-result c = λ h. plain_empty c.new.result c.new.ensures
