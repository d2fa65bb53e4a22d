use Rattle.std.proofs.Common.{ap, ◌∙◌, ◌-◌, ◌++◌, ℕ, List}
use Rattle.std.specs.Prelude.{replicate}
use Rattle.cell_format.proofs.Texts.{left_is}
use Rattle.cell_format.proofs.labels.put_left.Goals as goal

pub returns : goal.returns
returns c =
    c.fill.ensures ∙ ap (λ (l : List ℕ). l ++ replicate (c.args.width - c.min-len.result) 32) c.push_masked.ensures
    ∙ left_is c.args.bytes.now c.args.into.now c.args.width c.min-len.result c.min-len.ensures
