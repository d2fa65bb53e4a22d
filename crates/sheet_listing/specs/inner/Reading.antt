-- How the code keeps the bytes that it reads.
use Rattle.std.specs.Prelude.{ℕ, ◌≡◌, ◌+◌, ◌⊎◌, Bool, true, false, Option, Some, None, Ok, Err, List, [], ◌++◌, length}
use Rattle.std.specs.Prelude.{⊤}
use Rattle.outside_world.specs.Causes.{Rose}
use Rattle.sheet_store.specs.declared.writes.SavedSheet.{SavedSheet}
use Rattle.wk1_file.specs.Files.{IsFile}
use Rattle.sheet_listing.specs.Listed.{listed}
use Rattle.sheet_listing.specs.Waiting.{added, IsFront}
use Rattle.sheet_listing.specs.declared.run.Ending.{Ending}
use Rattle.sheet_listing.specs.declared.run.Ending.TheVariants.{Written, Faulty, NotRead, NotWritten, NoMemory}
use Rattle.sheet_listing.specs.declared.run.ReadFault.{ReadFault}
use Rattle.sheet_listing.specs.declared.run.ReadFault.TheVariants as fault

-- the bytes that were read and those that are left are all
abbrev pub IsSplit : Option (List ℕ) → List ℕ → Option (List ℕ) → Type 0
IsSplit None bytes left = left ≡ None
IsSplit (Some all) bytes left = (rest : List ℕ) × (left ≡ Some rest) × (bytes ++ rest ≡ all)

-- no bytes are left, where that is told
abbrev pub HasNone : Option (List ℕ) → Type 0
HasNone None = ⊤
HasNone (Some rest) = rest ≡ []

-- one more byte was read, or none was left
abbrev pub TookOne : Option (List ℕ) → List ℕ → List ℕ → Bool → Type 0
TookOne left old new true = length new ≡ length old + 1
TookOne left old new false = (new ≡ old) × HasNone left

-- a read failed exactly where the count of faults rose
abbrev pub HasReadFailed : ℕ → ℕ → ReadFault → Type 0
HasReadFailed before now fault.Failed = Rose before now
HasReadFailed before now fault.Memory = ⊤

-- what came of listing a sheet
abbrev pub HasListedSheet : SavedSheet → Option (List ℕ) → Option (List ℕ) → ℕ → ℕ → Ending → Type 0
HasListedSheet sheet before now faults faults' Written = now ≡ added before (listed sheet)
HasListedSheet sheet before now faults faults' (Faulty f) = ⊥
HasListedSheet sheet before now faults faults' NotRead = ⊥
HasListedSheet sheet before now faults faults' NotWritten =
    IsFront now (added before (listed sheet)) × Rose faults faults'
HasListedSheet sheet before now faults faults' NoMemory = IsFront now (added before (listed sheet))

-- a front of the lines of the sheet that the bytes are is written
abbrev pub IsFrontOf : List ℕ → Option (List ℕ) → Option (List ℕ) → Type 0
IsFrontOf bytes before now = (sheet : SavedSheet) × IsFile bytes (Ok sheet) × IsFront now (added before (listed sheet))

-- what came of listing bytes
abbrev pub HasListed : List ℕ → Option (List ℕ) → Option (List ℕ) → ℕ → ℕ → Ending → Type 0
HasListed bytes before now faults faults' Written =
    (sheet : SavedSheet) × IsFile bytes (Ok sheet) × (now ≡ added before (listed sheet))
HasListed bytes before now faults faults' (Faulty f) = IsFile bytes (Err f) × (now ≡ before)
HasListed bytes before now faults faults' NotRead = ⊥
HasListed bytes before now faults faults' NotWritten = IsFrontOf bytes before now × Rose faults faults'
HasListed bytes before now faults faults' NoMemory = (now ≡ before) ⊎ IsFrontOf bytes before now

-- a part of a note was written, or a front of it, and then a write failed
abbrev pub IsPut : List ℕ → Option (List ℕ) → Option (List ℕ) → ℕ → ℕ → Bool → Type 0
IsPut text before now faults faults' true = (now ≡ added before text) × (faults' ≡ faults)
IsPut text before now faults faults' false = IsFront now (added before text) × Rose faults faults'
