-- How a word moves the macro.
use Rattle.std.specs.Prelude.{ℕ, ◌+◌, ◌-◌, nat_lt, true, List, [], ◌∷◌, ◌++◌, length, take, slice_get, Option, None, Some, if◌then◌else◌}
use Rattle.grid_address.specs.Limits.{LAST_ROW, ROWS}
use Rattle.grid_address.specs.Place.{Place}
use Rattle.lics_text.specs.Limits.{MAX_LEN}
use Rattle.macro_words.specs.declared.frames.Frame.{Frame}
use Rattle.macro_words.specs.declared.frames.Frame.TheVariants as frame
use Rattle.macro_words.specs.declared.running.Move.{Move}
use Rattle.macro_words.specs.declared.running.Move.TheVariants as move
use Rattle.macro_words.specs.declared.running.Running.{Running}
use Rattle.macro_words.specs.declared.waiting.Switches.{Switches}
use Rattle.macro_words.specs.declared.waiting.Waiting.TheVariants as waiting
use Rattle.macro_text.specs.declared.position.Spot.{Spot}
use Rattle.macro_text.specs.Units.{at_spot, start_of}

-- the innermost call or loop
abbrev pub innermost : List Frame → Option Frame
innermost frames = slice_get frames (length frames - 1)

-- the calls and loops outside it
abbrev pub outer : List Frame → List Frame
outer frames = take (length frames - 1) frames

-- behind every text
abbrev pub behind_all : ℕ
behind_all = MAX_LEN

-- so many rows below a cell, or below the last row a place of its column at which the macro returns
abbrev pub below : ℕ → Place → Spot
below rows c =
    if nat_lt (c.row + rows) ROWS then start_of (record { row = c.row + rows; col = c.col })
    else record { cell = record { row = LAST_ROW; col = c.col }; offset = behind_all }

-- the macro goes on at a place, where nothing of the word is typed yet, and waits for nothing
abbrev pub going : Spot → Running → Running
going s r = record r { position = at_spot s; waiting = waiting.Nothing }

-- one frame more, and the macro goes on at a place
abbrev pub entering : Frame → Spot → Running → Running
entering f s r = going s (record r { frames = r.frames ++ f ∷ [] })

-- the macro behind a move; none where it stops
abbrev pub moved : Move → Running → Option Running
moved (move.Go s) r = Some (going s r)
moved (move.Call word s) r = Some (entering (frame.Call word r.position.spot) s r)
moved (move.Begin l) r = Some (entering (frame.Loop l) (start_of l.routine) r)
moved (move.Leave s) r = Some (going s (record r { frames = outer r.frames }))
moved move.Forget r = Some (record r { frames = [] })
moved move.Stop r = None
moved (move.Handle h) r = Some (record r { handler = Some h })
moved (move.Wait x) r = Some (record r { waiting = x })
moved (move.Pause s n) r = Some (record r { position = at_spot s; waiting = waiting.Time n })
moved (move.Switch x) r = Some (record r { switches = x })
moved _ r = Some r

-- all is on
abbrev pub all_on : Switches
all_on = record { panel = true; windows = true; breaks = true }

-- a macro begins at a cell, in no call and no loop, with no place for errors, and with all on
abbrev pub begun_at : Place → Running
begun_at c = record {
  position = at_spot (start_of c);
  frames = [];
  handler = None;
  waiting = waiting.Nothing;
  switches = all_on;
}
