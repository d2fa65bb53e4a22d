-- What two runs come to that begin alike: one outcome.
use Rattle.std.specs.Prelude.{◌≡◌, ℕ, List, length, map, Option, Some}
use Rattle.commands_file.specs.Alike.{HoldAlike}
use Rattle.outside_world.specs.Causes.{Rose}
use Rattle.screen_show.specs.Display.{Shown, View}
use Rattle.screen_show.specs.declared.display.DisplayKind.{DisplayKind}
use Rattle.sheet_run.specs.Status.{finished, no_memory, no_note, no_room, no_session, no_sheet, not_read, ran, refused}
use Rattle.sheet_run.specs.Status.{IsRun, RunsWith, Surroundings}
use Rattle.sheet_run.specs.declared.options.Options.{Options}

-- both tell something, and it is the same
abbrev pub TellOne : {A : Type 0} → Option A → Option A → Type 0
TellOne {A} one other = (told : A) × (one ≡ Some told) × (other ≡ Some told)

-- a display's kind, and what it shows, where it tells it
abbrev pub shown_on : View → DisplayKind × Option Shown
shown_on d = (d.kind, d.told)

-- The keys tell the same bytes that are left, the clock the same readings, and the shelf the same files; the displays
-- are of the same kinds, and tell that they show the same; and the notes are the same. The counts of faults may differ.
pub record AreAlike (a b : Surroundings) : Type 0 where
  pub keys : TellOne a.outside.bytes b.outside.bytes
  pub clock : TellOne a.outside.readings b.outside.readings
  pub files : HoldAlike a.outside.shelf b.outside.shelf
  pub displays : map shown_on a.outside.displays ≡ map shown_on b.outside.displays
  pub notes : a.notes ≡ b.notes

-- no call failed in a run, and memory lasted
pub record WentWell (before now : Surroundings) (status : ℕ) : Type 0 where
  pub keys : Rose before.outside.key_faults now.outside.key_faults → ⊥
  pub shelf : Rose before.outside.shelf.faults now.outside.shelf.faults → ⊥
  pub displays : length now.outside.failed ≡ length before.outside.failed
  pub notes : Rose before.note_faults now.note_faults → ⊥
  pub memory : status ≡ 9 → ⊥

-- how many formulas were evaluated by a run with these options; none where no session was left
abbrev pub evaluated_with : {options : Options} {before now : Surroundings} {status : ℕ} →
    RunsWith options before now status → ℕ
evaluated_with (finished found text did told) = did.work.count
evaluated_with (not_read name why shelf is asked now_is told) = 0
evaluated_with (no_room now_is tried) = 0
evaluated_with (no_sheet shelf broke now_is tried) = 0
evaluated_with (no_session start first opened tried) = 0
evaluated_with (no_memory start first begun steps left out opened did tried) = 0

-- how many formulas were evaluated by a run
abbrev pub evaluated : {words : List (List ℕ)} {before now : Surroundings} {status : ℕ} →
    IsRun words before now status → ℕ
evaluated (refused word read stays told) = 0
evaluated (ran options read did) = evaluated_with did
evaluated (no_note word read stays tried) = 0

-- two runs left the same: they are alike, with one status and one count of evaluations
pub record HaveOneOutcome {words : List (List ℕ)} {a b c d : Surroundings} {m n : ℕ} (one : IsRun words a c m)
    (other : IsRun words b d n) : Type 0 where
  pub alike : AreAlike c d
  pub status : m ≡ n
  pub count : evaluated one ≡ evaluated other
