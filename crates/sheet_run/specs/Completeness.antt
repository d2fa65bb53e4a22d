-- When a run must end well.
use Rattle.std.specs.Prelude.{◌≡◌, ℕ, ⊤, Bool, true, ◌<◌, ◌-◌, ◌^◌, ◌⊎◌, List, [], ◌∷◌, ◌++◌, length, Option, Some, None, Ok}
use Rattle.commands_file.specs.Calls.{Asked, HaveAnswered, ShelfView}
use Rattle.outside_world.specs.Causes.{Rose}
use Rattle.outside_world.specs.Shelf.{failed, file_in, OnShelf, ShelfAnswer}
use Rattle.serial_date.specs.declared.moment.Moment.{Moment}
use Rattle.key_words.specs.declared.key.Key.{Key}
use Rattle.session_core.specs.Machine.{wants_key, State}
use Rattle.session_core.specs.Unfailing.{NoneFailed}
use Rattle.sheet_gen.specs.Rows.{IsGenerated}
use Rattle.sheet_store.specs.declared.writes.SavedSheet.{SavedSheet}
use Rattle.wk1_file.specs.Files.{IsFile}
use Rattle.sheet_run.specs.Notation.{SpellsKeys, SpellsInto, SpellsUpTo}
use Rattle.sheet_run.specs.Opening.{of_file, of_rows, opening, fresh, StartSheet}
use Rattle.sheet_run.specs.Options.{limit_of, words_read}
use Rattle.sheet_run.specs.Run.{after, calls_of, keys_of, moments_of, EndAtLast, Fit, GoOn, Outside, Step}
use Rattle.sheet_run.specs.Status.{IsRun, Surroundings}
use Rattle.sheet_run.specs.Taking.{TakesBytes, TakesReadings}
use Rattle.sheet_run.specs.declared.options.Options.{Options}
use Rattle.sheet_run.specs.declared.options.Start.{Start}
use Rattle.sheet_run.specs.declared.options.Start.TheVariants as given

-- which answers of the shelf count: any that what it tells allows, or such alone as tell of no failed call
pub data Answers : Type 0 where
  any : Answers
  unfailing : Answers

-- the answers of these calls count
abbrev pub Count : Answers → List Asked → Type 0
Count any calls = ⊤
Count unfailing calls = NoneFailed calls

-- where such answers alone count, the shelf's count of faults didn't rise
abbrev pub AreGiven : Answers → ShelfView → ShelfView → Type 0
AreGiven any before now = ⊤
AreGiven unfailing before now = Rose before.faults now.faults → ⊥

-- what a run begins with, and whether it is strict
pub record Beginning : Type 0 where
  pub sheet : StartSheet
  pub strict : Bool

-- the state that a run begins with, at its first reading of the clock
abbrev pub begins : Beginning → Moment → State
begins b first = (opening b.sheet first).state

-- Steps that a run from this start may make over these keys, over what the clock and the shelf tell, with answers that
-- count: none of them ends the run, and these keys are left.
pub record MayMake (answers : Answers) (before : Outside) (start : Beginning) (first : Moment) (keys left : List Key)
    (steps : List Step) : Type 0 where
  pub readings : Option (List Moment)
  pub took : TakesReadings before.readings (first ∷ moments_of steps) readings
  pub shelf : ShelfView
  pub answered : HaveAnswered
      ((opening start.sheet first).calls ++ calls_of (begins start first) steps) before.shelf shelf
  pub count : Count answers ((opening start.sheet first).calls ++ calls_of (begins start first) steps)
  pub fit : Fit (begins start first) steps
  pub go_on : GoOn start.strict (begins start first) steps
  pub keys_are : keys ≡ keys_of steps ++ left

-- behind these steps nothing is left to do: the session wants a key, and none is left
abbrev pub AtRest : Beginning → Moment → List Step → List Key → Type 0
AtRest start first steps left = (wants_key (after (begins start first) steps) ≡ true) × (left ≡ [])

-- whichever steps are made, as many as the limit come to the end of these keys and of the macros that they start
abbrev pub RestWithin : Answers → Outside → Beginning → ℕ → List Key → Type 0
RestWithin answers before start limit keys =
    (first : Moment) (left : List Key) (steps : List Step) → MayMake answers before start first keys left steps →
    length steps ≡ limit → AtRest start first steps left

-- whichever steps are made, these keys, with the macros that they start, end the run by one of so many
abbrev pub QuitWithin : Answers → Outside → Beginning → ℕ → List Key → Type 0
QuitWithin answers before start limit keys =
    (first : Moment) (left : List Key) (steps : List Step) → MayMake answers before start first keys left steps →
    (length steps < limit) × (AtRest start first steps left → ⊥)

-- The bytes bring a run to its end within so many steps: they spell keys that come to their end within them, or they
-- begin with words that give keys by which the run is quit within them, whatever comes behind.
pub data EndWithin (answers : Answers) (before : Outside) (start : Beginning) (limit : ℕ) (bytes : List ℕ)
    : Type 0 where
  at_their_end : (keys : List Key) → SpellsKeys bytes keys → RestWithin answers before start limit keys →
      EndWithin answers before start limit bytes
  by_quitting : (front rest : List ℕ) (keys : List Key) → bytes ≡ front ++ rest → SpellsInto front keys →
      QuitWithin answers before start limit keys → EndWithin answers before start limit bytes

-- the next call of a shelf that tells its answers isn't told as failed
abbrev pub FailsNotFirst : OnShelf → Option OnShelf → Type 0
FailsNotFirst s now =
    (t : OnShelf) (held : Option (List ℕ)) (more : List ShelfAnswer) → now ≡ Some t →
    t.answers ≡ s.answers ++ failed held ∷ more → ⊥

-- the sheet that the words ask for is a fresh or a generated one, or a start file reads as it: the shelf tells its
-- bytes, and doesn't fail to give them
pub data Opens (before now : ShelfView) : Start → StartSheet → Type 0 where
  with_none : Opens before now given.Fresh fresh
  from_file : (name : List ℕ) (saved : SavedSheet) (s : OnShelf) (bytes : List ℕ) → before.told ≡ Some s →
      file_in name s.files ≡ Some bytes → IsFile bytes (Ok saved) → FailsNotFirst s now.told →
      Opens before now (given.File name) (of_file name saved)
  by_rule : (rows : ℕ) (saved : SavedSheet) → IsGenerated rows saved →
      Opens before now (given.Rows rows) (of_rows rows saved)

-- the words are in the grammar, the start file opens, the bytes bring the run to its end within its limit under each of
-- the answers of the shelf that count, such were given, and neither keys, notes nor displays failed
pub record MustEndWell (answers : Answers) (words : List (List ℕ)) (before now : Surroundings) : Type 0 where
  pub options : Options
  pub accepted : words_read words ≡ Ok options
  pub start : Beginning
  pub opens : Opens before.outside.shelf now.outside.shelf options.start start.sheet
  pub strict : start.strict ≡ options.strict
  pub bytes : List ℕ
  pub told : before.outside.bytes ≡ Some bytes
  pub short : length bytes < 2 ^ 64 - 1
  pub end_within : EndWithin answers before.outside start (limit_of options) bytes
  pub shelf_fine : AreGiven answers before.outside.shelf now.outside.shelf
  pub keys_fine : Rose before.outside.key_faults now.outside.key_faults → ⊥
  pub notes_fine : Rose before.note_faults now.note_faults → ⊥
  pub displays_fine : length now.outside.failed ≡ length before.outside.failed

-- the keys were read to their end, and no step ended the run; the session then wants a key
pub record ReadToEnd (start : Beginning) (before now : Outside) : Type 0 where
  pub taken : List ℕ
  pub took : TakesBytes before.bytes taken now.bytes
  pub first : Moment
  pub steps : List Step
  pub spelled : SpellsKeys taken (keys_of steps)
  pub fit : Fit (begins start first) steps
  pub go_on : GoOn start.strict (begins start first) steps
  pub wanted : wants_key (after (begins start first) steps) ≡ true
  pub none_left : now.bytes ≡ Some []

-- the last step ended the run, and the keys were read to the end of the word that gave the last of their steps
pub record ReadToQuit (start : Beginning) (before now : Outside) : Type 0 where
  pub taken : List ℕ
  pub took : TakesBytes before.bytes taken now.bytes
  pub first : Moment
  pub steps : List Step
  pub spelled : SpellsUpTo taken (keys_of steps)
  pub fit : Fit (begins start first) steps
  pub quit : EndAtLast start.strict (begins start first) steps

-- the keys were read to their end or until the run was quit
abbrev pub ReadWell : Beginning → Outside → Outside → Type 0
ReadWell start before now = ReadToEnd start before now ⊎ ReadToQuit start before now

-- the status 0, or that of a strict run which refused something or left something undone
abbrev pub EndsWell : Bool → ℕ → Type 0
EndsWell strict status = (status ≡ 0) ⊎ ((strict ≡ true) × (status ≡ 10))

-- with these the keys were read to their end or until a step ended the run; with 9 memory ran out
abbrev pub HasEndedWell : Beginning → Surroundings → Surroundings → ℕ → Type 0
HasEndedWell start before now status =
    (EndsWell start.strict status × ReadWell start before.outside now.outside) ⊎ (status ≡ 9)

-- a run was what its status tells, and where it must end well, under any answers of the shelf or under unfailing ones,
-- which were given, it has ended well
pub record RanAsTold (words : List (List ℕ)) (before now : Surroundings) (status : ℕ) : Type 0 where
  pub is_run : IsRun words before now status
  pub complete : (answers : Answers) (must : MustEndWell answers words before now) →
      HasEndedWell must.start before now status
