use Rattle.std.proofs.Common.{◌++◌, ℕ, List, ap, ◌∙◌, arith}
use Rattle.std.proofs.lemmas.List.{take-replicate}
use Rattle.cell_format.proofs.push.put_spaces.Goals as goal

pub returns-then-count-gt0 : goal.returns-then-count-gt0
returns-then-count-gt0 c =
    c.put_all.ensures ∙ ap (λ (l : List ℕ). c.args.into.now ++ l)
    (take-replicate c.args.count 240 32 (omega (arith, c.requires)))
