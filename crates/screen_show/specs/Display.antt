-- What a display tells, and what its calls do to it.
use Rattle.std.specs.Prelude.{◌≡◌, ℕ, ◌+◌, ◌-◌, ◌^◌, ◌≤◌, min, List, [], ◌∷◌, ◌++◌, length, Bool, true, false, Option, Some, None, Result, Ok, Err, ⊤}
use Rattle.outside_world.specs.declared.faults.Failed.{Failed}
use Rattle.screen_show.specs.declared.display.DisplayKind.{DisplayKind}
use Rattle.screen_show.specs.Changes.{Agrees, changed_runs, differences}
use Rattle.screen_show.specs.Screen.{IsScreen, put_in_screen}

-- the screen now, the finished frames, how many puts were finished and their bytes, whether the last finished call was
-- a close, and how many closes were finished
pub record Shown : Type 0 where
  pub screen : List (List ℕ)
  pub frames : List (List (List ℕ))
  pub puts : ℕ
  pub bytes_put : ℕ
  pub closed : Bool
  pub closes : ℕ

-- a display as it is seen: its kind, what it shows, where it tells it, and its count of faults
pub record View : Type 0 where
  pub kind : DisplayKind
  pub told : Option Shown
  pub faults : ℕ

-- a count that stays at its last value
abbrev pub raised : ℕ → ℕ → ℕ
raised count by = min (count + by) (2 ^ 64 - 1)

-- what holds of every display: the screen has its size, and the counts are below 2 ^ 64
pub record IsSound (s : Shown) : Type 0 where
  pub screen : IsScreen s.screen
  pub puts : s.puts ≤ 2 ^ 64 - 1
  pub bytes_put : s.bytes_put ≤ 2 ^ 64 - 1

-- what holds of every display that tells what it shows
abbrev pub TellsSoundly : Option Shown → Type 0
TellsSoundly None = ⊤
TellsSoundly (Some s) = IsSound s

-- after a failed call the screen is open, and all else as before
abbrev pub LeavesScreenOpen : Shown → Option Shown → Type 0
LeavesScreenOpen s after = (g : List (List ℕ)) × (after ≡ Some (record s { screen = g }))

-- what is shown once bytes are put at a place
abbrev pub with_bytes : ℕ → ℕ → List ℕ → Shown → Shown
with_bytes row col bytes s = record {
  screen = put_in_screen row col bytes s.screen;
  frames = s.frames;
  puts = raised s.puts 1;
  bytes_put = raised s.bytes_put (length bytes);
  closed = false;
  closes = s.closes;
}

-- what is shown once the frame is ended: the screen is one more frame
abbrev pub with_frame : Shown → Shown
with_frame s = record {
  screen = s.screen;
  frames = s.frames ++ s.screen ∷ [];
  puts = s.puts;
  bytes_put = s.bytes_put;
  closed = false;
  closes = s.closes;
}

-- what is shown once the display is ended: the same, and one more close
abbrev pub with_end : Shown → Shown
with_end s = record {
  screen = s.screen;
  frames = s.frames;
  puts = s.puts;
  bytes_put = s.bytes_put;
  closed = true;
  closes = raised s.closes 1;
}

-- bytes are put at a place, or fail to be, where the display tells what it shows
abbrev pub Puts : ℕ → ℕ → List ℕ → Option Shown → Option Shown → Result Unit Failed → Type 0
Puts row col bytes None after result = after ≡ None
Puts row col bytes (Some s) after (Ok _) = after ≡ Some (with_bytes row col bytes s)
Puts row col bytes (Some s) after (Err f) = LeavesScreenOpen s after

-- the frame is ended, or fails to be
abbrev pub Finishes : Option Shown → Option Shown → Result Unit Failed → Type 0
Finishes None after result = after ≡ None
Finishes (Some s) after (Ok _) = after ≡ Some (with_frame s)
Finishes (Some s) after (Err f) = LeavesScreenOpen s after

-- the display is ended, or fails to be
abbrev pub Closes : Option Shown → Option Shown → Result Unit Failed → Type 0
Closes None after result = after ≡ None
Closes (Some s) after (Ok _) = after ≡ Some (with_end s)
Closes (Some s) after (Err f) = LeavesScreenOpen s after

-- The changes from one screen to the next were put, run by run, and what is shown is one more frame. It is the screen,
-- if the screen agreed with the one before wherever nothing changed.
pub record HasSent (before after : List (List ℕ)) (s t : Shown) : Type 0 where
  pub screen : Agrees before after s.screen → t.screen ≡ after
  pub frames : t.frames ≡ s.frames ++ t.screen ∷ []
  pub puts : t.puts ≡ raised s.puts (changed_runs before after)
  pub bytes_put : t.bytes_put ≡ raised s.bytes_put (differences before after)
  pub closed : t.closed ≡ false
  pub closes : t.closes ≡ s.closes

-- a screen is sent to a display that shows another; where that fails no frame was added, and no close was finished
abbrev pub Sends : List (List ℕ) → List (List ℕ) → Option Shown → Option Shown → Result Unit Failed → Type 0
Sends before after None now result = now ≡ None
Sends before after (Some s) None result = ⊥
Sends before after (Some s) (Some t) (Ok _) = HasSent before after s t
Sends before after (Some s) (Some t) (Err f) = (t.frames ≡ s.frames) × (t.closes ≡ s.closes)
