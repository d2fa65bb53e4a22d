-- The screens that stand still, as the machine keeps them.
use Rattle.std.specs.Prelude.{ℕ, ⊤, List, is_some, Option, None, Some}
use Rattle.screen_show.specs.Screen.{IsPrinted}
use Rattle.session_core.specs.Machine.{FrozenAreas}
use Rattle.session_core.specs.declared.glance.Still.{Still}

-- which areas stand still
abbrev pub still_of : FrozenAreas → Still
still_of f = record { panel = is_some f.panel; windows = is_some f.windows }

-- no byte of a screen that is held is below a space
abbrev pub ArePrinted : Option (List (List ℕ)) → Type 0
ArePrinted None = ⊤
ArePrinted (Some lines) = IsPrinted lines
