use Rattle.std.proofs.Common.{◌∙◌, ap, sym, List, ℕ}
use Rattle.key_words.specs.Names.{longer}
use Rattle.key_words.proofs.Fronts.{front_goes_on}
use Rattle.key_words.proofs.name.Letters.longer.Goals as goal

pub returns-then-self-letter : goal.returns-then-self-letter
returns-then-self-letter c =
    sym (ap (λ (l : List ℕ). longer l c.args.letter) (sym c.self.view_is)
    ∙ front_goes_on c.self.inside.name.now c.self.inside.named c.self.inside.len c.args.letter c.self.invariant.1
    c.if-self.true c.if-self-letter.true)
