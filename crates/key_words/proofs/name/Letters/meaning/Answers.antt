use Rattle.std.specs.Char.{to_ascii_uppercase}
use Rattle.std.proofs.Common.{◌∙◌, ap, sym, List, ℕ, map}
use Rattle.key_words.specs.Names.{looked_up}
use Rattle.key_words.proofs.Fronts.{whole_front}
use Rattle.key_words.proofs.name.Letters.meaning.Goals as goal

pub returns-then-self : goal.returns-then-self
returns-then-self c =
    sym (ap (λ (l : List ℕ). looked_up (map to_ascii_uppercase l)) (sym c.self.view_is)
    ∙ whole_front c.self.inside.name.now c.self.inside.named c.self.inside.len c.self.invariant.1 c.if-self.true)
