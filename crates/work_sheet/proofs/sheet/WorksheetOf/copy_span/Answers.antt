use Rattle.std.specs.Prelude.{ℕ}
use Rattle.std.proofs.Common.{subst, sym, ◌∙◌}
use Rattle.std.proofs.lemmas.Option.{same_Some}
use Rattle.std.proofs.lemmas.Result.{on_ok_weaker}
use Rattle.grid_address.specs.Place.{Extent}
use Rattle.work_sheet.specs.Did.{Did}
use Rattle.work_sheet.specs.Editing.{copied}
use Rattle.work_sheet.specs.Seen.{of_worksheet}
use Rattle.work_sheet.proofs.sheet.WorksheetOf.copy_span.Goals as goal

pub returns-clause-did : goal.returns-clause-did
returns-clause-did g c = on_ok_weaker c.copy_onto.result
    (λ (did : (n : ℕ) → Did (copied c.args.from c.in-Some.target (of_worksheet c.args.self.now)) c.args.self.now
    c.copy_onto.new.self n n) target is.
    subst (λ (t : Extent). (n : ℕ) → Did (copied c.args.from t (of_worksheet c.args.self.now)) c.args.self.now
    c.copy_onto.new.self n n) (same_Some c.in-Some.target target (sym c.in-Some.is ∙ c.target_of.ensures ∙ is)) did)
    c.copy_onto.ensures.did
