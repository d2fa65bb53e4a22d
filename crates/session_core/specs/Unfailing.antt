-- Calls of the shelf that don't fail.
use Rattle.std.specs.Prelude.{◌≡◌, ⊤, List, [], ◌∷◌}
use Rattle.commands_file.specs.Calls.{failed, Asked, HaveAnswered, ShelfView}

-- none of these calls failed
abbrev pub NoneFailed : List Asked → Type 0
NoneFailed [] = ⊤
NoneFailed (a ∷ later) = (a.reply ≡ failed → ⊥) × NoneFailed later

-- these calls were answered, one behind the other, and none of them failed
pub record WereAnswered (calls : List Asked) (before now : ShelfView) : Type 0 where
  pub had : HaveAnswered calls before now
  pub fine : NoneFailed calls
