use Rattle.std.proofs.Common.{ℕ, ap, sym, ◌∙◌}
use Rattle.sheet_run.specs.Notes.{row_count_note}
use Rattle.sheet_run.proofs.Telling.{written_as}
use Rattle.sheet_run.proofs.notes.tell_row_count.Goals as goal

pub returns : goal.returns
returns g c =
    written_as _ _ _ _ _ _ c.write.result (sym (c.bytes.ensures.bytes ∙ c.number_line-line.ensures
    ∙ ap (λ (n : ℕ). row_count_note n) c.from.ensures)) c.write.ensures
