-- Each state of a store is one that its content may have.
use Rattle.std.specs.Prelude.{List, [], ◌∷◌}
use Rattle.std.specs.FinMap as map
use Rattle.std.specs.List.{AllByRecursion}
use Rattle.commands_file.specs.Combined.{Entry}
use Rattle.sheet_shifts.proofs.Listed.{all_held, AreAllHeld}
use Rattle.sheet_store.specs.Grid.{AreHeld, Cells, IsSound}

-- each of some entries has such a state
abbrev pub AreSound : List Entry → Type 0
AreSound es = AllByRecursion (λ e. IsSound e.1) es

each : (es : List Entry) → AreAllHeld es → AreSound es
each [] held = tt
each (e ∷ es) held = (held.0.sound, each es held.1)

-- what a store holds can be written
pub all_sound : (m : Cells) → AreHeld m → AreSound (map.entries m)
all_sound m held = each (map.entries m) (all_held m held)
