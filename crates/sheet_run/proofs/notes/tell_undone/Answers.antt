use Rattle.std.proofs.Common.{ℕ, List, ◌++◌, refl, ap, sym, ◌∙◌}
use Rattle.std.specs.Prelude.{codes}
use Rattle.sheet_run.specs.Notes.{stop_note}
use Rattle.sheet_run.proofs.Telling.{told_as}
use Rattle.sheet_run.proofs.notes.tell_undone.Goals as goal

pub returns : goal.returns
returns g c =
    told_as _ _ _ _ _ _ _ _ _
    (sym (c.bytes.ensures.bytes ∙ c.stop_line-line.ensures
    ∙ ap (λ (l : List ℕ). stop_note c.args.steps c.args.at (codes "ended in " ++ l)) c.left_in.ensures.text)) refl
    c.tell_line.ensures
