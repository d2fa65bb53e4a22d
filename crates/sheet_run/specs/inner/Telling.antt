-- How notes are written.
use Rattle.std.specs.Prelude.{◌≡◌, ℕ, ◌⊎◌, Result, Ok, Err, List, Option}
use Rattle.outside_world.specs.Causes.{Rose}
use Rattle.outside_world.specs.declared.faults.Failed.{Failed}
use Rattle.sheet_run.specs.Notes.{refused_note, memory_note, AddsText, AddsPart, Tried, Tells}

-- the text was written, or its write failed
abbrev pub HasWritten : List ℕ → Option (List ℕ) → Option (List ℕ) → ℕ → ℕ → Result Unit Failed → Type 0
HasWritten text before now faults faults' (Ok _) = AddsText text before now × (faults' ≡ faults)
HasWritten text before now faults faults' (Err f) = AddsPart text before now × Rose faults faults'

-- a refused word was told, or there was no memory for its line
abbrev pub ToldRefused : List ℕ → Option (List ℕ) → Option (List ℕ) → ℕ → ℕ → ℕ → Type 0
ToldRefused word before now faults faults' status = Tells (refused_note word) 1 before now faults faults' status
    ⊎ ((status ≡ 9) × Tried memory_note before now faults faults')
