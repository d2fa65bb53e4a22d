use Rattle.std.proofs.Common.{sym, subst, ap, ◌∙◌, ℕ, List}
use Rattle.at_functions.specs.Texts.{again}
use Rattle.at_functions.proofs.Written.{again_large, AllLarge}
use Rattle.at_functions.proofs.texts.repeat.Goals as goal

pub like-requires : goal.like-requires
like-requires c = (
  c.bytes.ensures.length,
  subst AllLarge (sym (c.bytes.ensures.bytes ∙ c.again-line.ensures
      ∙ ap (λ (l : List ℕ). again c.in-Some.count l) c.bytes-bytes.ensures.value))
      (again_large c.in-Some.count c.args.text.now c.bytes-bytes.ensures.text.1),
)
