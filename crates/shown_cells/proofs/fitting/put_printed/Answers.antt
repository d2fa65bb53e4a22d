use Rattle.std.proofs.Common.{◌++◌, length, take, ap, ◌∙◌, List, ℕ}
use Rattle.std.specs.Prelude.{min}
use Rattle.std.proofs.lemmas.List.{take-take, take_min}
use Rattle.shown_cells.proofs.fitting.put_printed.Goals as goal

pub returns-clause-text : goal.returns-clause-text
returns-clause-text c =
    let width : ℕ = c.args.width in
    let bytes : List ℕ = c.bytes-bytes.result.now in
    c.put_all.ensures ∙ ap (λ (l : List ℕ). l ++ take c.min.result bytes) c.requires.empty
    ∙ ap (λ (k : ℕ). take k bytes) (c.min.ensures ∙ ap (λ (k : ℕ). min k (length bytes)) c.from.ensures)
    ∙ take_min width bytes ∙ ap (take width) (c.bytes-bytes.ensures.bytes ∙ c.print.ensures.line)
    ∙ take-take width 240 _ c.requires.width
