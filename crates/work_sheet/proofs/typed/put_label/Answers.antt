use Rattle.std.specs.Prelude.{◌∷◌, ◌++◌, take, List, ℕ, []}
use Rattle.std.proofs.Common.{ap, ◌∙◌}
use Rattle.std.proofs.lemmas.List.{take_min}
use Rattle.lics_text.specs.Prefixes.{prefix_byte}
use Rattle.lics_text.specs.Texts.{line_with}
use Rattle.work_sheet.proofs.typed.put_label.Goals as goal

pub returns-clause-line : goal.returns-clause-line
returns-clause-line c =
    let text : List ℕ = c.bytes-bytes.result.now in
    c.put_all.ensures
    ∙ ap (λ l. l ++ take c.min-room.result text)
    (c.put.ensures.list ∙ ap (λ l. line_with l c.byte.result) c.requires ∙ ap (λ b. line_with [] b) c.byte.ensures)
    ∙ ap (λ l. prefix_byte c.args.prefix ∷ l)
    (ap (λ n. take n text) c.min-room.ensures ∙ take_min 239 text ∙ ap (take 239) c.bytes-bytes.ensures.value)
