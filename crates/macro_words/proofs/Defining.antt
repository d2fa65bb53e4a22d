-- What DEFINE finds, one call and one argument at a time.
use Rattle.std.proofs.Common.{◌≡◌, Option, None, Some, List, ◌++◌, refl}
use Rattle.std.specs.Option.{option_or}
use Rattle.macro_text.specs.declared.position.Spot.{Spot}
use Rattle.sheet_store.specs.declared.writes.Write.{Write}

-- a later call goes before an earlier one
pub either_again : (a b c : Option Spot) → option_or (option_or a b) c ≡ option_or a (option_or b c)
either_again (Some x) b c = refl
either_again None b c = refl

-- these writes, and then others
abbrev pub joined : List Write → Option (List Write) → Option (List Write)
joined ws None = None
joined ws (Some more) = Some (ws ++ more)
