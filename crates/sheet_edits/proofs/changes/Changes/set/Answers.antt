use Rattle.std.proofs.Common.{subst, sym, ◌∙◌}
use Rattle.std.proofs.lemmas.Bool.{true≢false}
use Rattle.sheet_edits.proofs.Plain.{plain_inserted}
use Rattle.sheet_edits.specs.inner.Putting.{GivePlain}
use Rattle.sheet_edits.proofs.changes.Changes.set.Goals as goal
use Rattle.sheet_edits.proofs.changes.Changes.set.Goals.{then-self, else-self}

pub invariant_of-self-2 : goal.invariant_of-self-2
invariant_of-self-2 c = λ h. subst GivePlain (sym c.in_ok-insert.ensures.ok) (elim c.if-self.branch [
  | then-self w ↦ absurd (true≢false (sym w.if-self.true ∙ sym w.self-is ∙ h))
  | else-self w ↦ plain_inserted c.self.inside.states c.args.cell c.args.state (c.self.invariant w.if-self.false)
      (sym w.is_formula-self-inside.ensures ∙ sym w.self-is ∙ h)
])
