use Rattle.std.proofs.Common.{◌≡◌, ℕ, ◌+◌, ◌-◌, ◌++◌, List, length, replicate, ap, ◌∙◌, arith}
use Rattle.std.specs.Prelude.{min}
use Rattle.screen_layout.proofs.Cuts.{text_added}
use Rattle.screen_layout.proofs.cells.add_text.Goals as goal

pub returns-clause-line : goal.returns-clause-line
returns-clause-line c =
    let at : c.min-end.result ≡ min (length c.args.line.now + c.args.width) 80 =
    omega (arith, c.min-end.ensures, c.len.ensures.len, c.from-width.ensures) in
    c.fill.ensures ∙ ap (λ (l : List ℕ). l ++ replicate (c.min-end.result - length l) 32) c.add.ensures
    ∙ text_added c.args.width c.min-end.result c.args.line.now c.args.text.now c.len.ensures.within at
