use Rattle.std.proofs.Common.{Bool, ℕ, Some, None, ap, sym, ◌∙◌}
use Rattle.std.specs.Prelude.{if◌then◌else◌}
use Rattle.sheet_run.specs.Notes.{count_note}
use Rattle.sheet_run.proofs.Telling.{written_as}
use Rattle.sheet_run.proofs.notes.tell_count.Goals as goal

-- the count was asked for
pub returns-then-options : goal.returns-then-options
returns-then-options g c =
    written_as _ _ _ _ _ _ c.write.result
    (ap (λ (b : Bool). count_note (if b then Some c.args.session.now.work.count else None)) c.if-options.true
    ∙ sym (c.bytes.ensures.bytes ∙ c.number_line-line.ensures
    ∙ ap (λ (n : ℕ). count_note (Some n)) c.evaluations.ensures)) c.write.ensures
