use Rattle.std.proofs.Common.{sym, ap, ◌∙◌, not}
use Rattle.std.specs.Prelude.{ℤ, Option}
use Rattle.std.specs.List.{count_by}
use Rattle.data_blocks.specs.Distribution.{is_above}
use Rattle.data_blocks.proofs.Halves.{none_before}
use Rattle.data_blocks.proofs.distributing.up_to_before.Goals as goal

pub returns-in-None : goal.returns-in-None
returns-in-None c =
    sym (ap (λ (o : Option ℤ). count_by (λ x. not (is_above o x)) c.args.numbers.now) c.in-None.is
    ∙ none_before c.args.numbers.now)
