use Rattle.std.proofs.Common.{ℕ, List, ◌++◌, refl, ap, sym, ◌∙◌}
use Rattle.sheet_run.specs.Notes.{stop_note}
use Rattle.sheet_run.proofs.Telling.{told_as}
use Rattle.sheet_run.proofs.notes.tell_refusal.Goals as goal

pub returns : goal.returns
returns g c =
    told_as _ _ _ _ _ _ _ _ _
    (sym (c.bytes-2.ensures.bytes ∙ c.stop_line-line.ensures
    ∙ ap (λ (l : List ℕ). stop_note c.args.steps c.args.at (l ++ c.refusal-told.result.text.now)) c.bytes.ensures.bytes
    ∙ ap (stop_note c.args.steps c.args.at) c.refusal-told.ensures.joined)) refl c.tell_line.ensures
