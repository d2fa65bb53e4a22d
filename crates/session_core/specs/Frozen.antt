-- What of the screen stands still, where a macro has switched the panel or the windows off.
use Rattle.std.specs.Prelude.{ℕ, nat_lt, ◌&&◌, ◌||◌, not, Bool, true, false, is_some, List, [], get_or, map, Option}
use Rattle.std.specs.Prelude.{None, Some, if◌then◌else◌}
use Rattle.std.specs.List.{range_with_len}
use Rattle.macro_words.specs.Moves.{all_on}
use Rattle.macro_words.specs.declared.running.Running.{Running}
use Rattle.macro_words.specs.declared.waiting.Switches.{Switches}
use Rattle.session_core.specs.Machine.{FrozenAreas}

-- the screen as which a line stands still, if it does: lines 0 to 2 are the panel's, and 3 to 23 the windows'
abbrev pub held_at : FrozenAreas → ℕ → Option (List (List ℕ))
held_at f n = if nat_lt n 3 then f.panel else if nat_lt n 24 then f.windows else None

-- a line of the screen that is held, or else of another
abbrev pub line_over : Option (List (List ℕ)) → List (List ℕ) → ℕ → List ℕ
line_over None lines n = get_or lines n []
line_over (Some held) lines n = get_or held n []

-- a screen, but for the lines that stand still
unfoldable pub with_frozen : FrozenAreas → List (List ℕ) → List (List ℕ)
with_frozen f lines = map (λ n. line_over (held_at f n) lines n) (range_with_len 0 25)

-- what a macro that runs has switched on; all is where none runs
abbrev pub switches_of : Option Running → Switches
switches_of None = all_on
switches_of (Some r) = r.switches

-- an area that is switched off stands still as it was shown when that was done
abbrev pub frozen_by : Bool → List (List ℕ) → Option (List (List ℕ)) → Option (List (List ℕ))
frozen_by true before held = None
frozen_by false before None = Some before
frozen_by false before (Some lines) = Some lines

-- what stands still behind a step, where the session shows this screen before what it shows follows the step
abbrev pub frozen_after : List (List ℕ) → Switches → FrozenAreas → FrozenAreas
frozen_after before x f =
    record { panel = frozen_by x.panel before f.panel; windows = frozen_by x.windows before f.windows }

-- whether an area is switched off, and isn't held yet
abbrev pub lacks_area : Bool → Option (List (List ℕ)) → Bool
lacks_area on held = not on && not (is_some held)

-- whether one of the two is
abbrev pub lacks : Switches → FrozenAreas → Bool
lacks x f = lacks_area x.panel f.panel || lacks_area x.windows f.windows
