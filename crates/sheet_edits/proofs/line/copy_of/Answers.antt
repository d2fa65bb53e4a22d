use Rattle.std.specs.Prelude.{option_copied, Some}
use Rattle.std.proofs.Common.{ap, sym, ◌∙◌}
use Rattle.sheet_edits.proofs.line.copy_of.Goals as goal

pub returns-in_ok-copy-in-Some-clause-old : goal.returns-in_ok-copy-in-Some-clause-old
returns-in_ok-copy-in-Some-clause-old c = λ x e.
    let h = c.are_held.ensures c.args.cell x
    (sym c.get.ensures ∙ ap option_copied c.in-Some.is ∙ ap (λ s. Some s) (sym c.in_ok-copy-in-Some.ensures) ∙ e) in
    record { sound = h.sound; kept = h.kept }
