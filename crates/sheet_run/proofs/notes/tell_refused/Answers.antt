use Rattle.std.proofs.Common.{sym, refl, inl, ◌∙◌}
use Rattle.sheet_run.proofs.Telling.{told_as}
use Rattle.sheet_run.proofs.notes.tell_refused.Goals as goal

pub returns-in-Ok : goal.returns-in-Ok
returns-in-Ok g c =
    inl (told_as _ _ _ _ _ _ _ _ _ (sym (c.deref.ensures.value ∙ c.in-Ok.ensures)) refl c.tell_line.ensures)
