use Rattle.std.proofs.Common.{ℕ, ◌++◌, ◌∷◌, ap, sym, ◌∙◌}
use Rattle.std.specs.Prelude.{codes, option_map}
use Rattle.formula_tree.specs.Seen.{seen_value}
use Rattle.grid_address.specs.Address.{decimal}
use Rattle.sheet_run.specs.Notes.{note, sum_text, told_value}
use Rattle.sheet_run.proofs.Telling.{sum_parts, written_as}
use Rattle.sheet_run.proofs.notes.tell_sum.Goals as goal

pub returns : goal.returns
returns g c =
    written_as _ _ _ _ _ _ c.write.result (ap (λ v. note (sum_text c.args.rows v)) (sym c.value_of-value.ensures)
    ∙ sym (c.bytes.ensures.bytes ∙ c.value_line-line.ensures ∙ sum_parts (codes "1-2-3: C") (decimal c.from.result)
    (told_value (option_map seen_value c.value_of-value.result))
    ∙ ap (λ (n : ℕ). note (codes "C" ++ decimal n ++ 32 ∷ told_value (option_map seen_value c.value_of-value.result)))
    c.from.ensures)) c.write.ensures
