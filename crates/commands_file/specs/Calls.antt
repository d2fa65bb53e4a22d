-- The calls that commands make of the shelf of files, and what it answers.
use Rattle.std.specs.Prelude.{◌≡◌, ◌≤◌, ◌⊎◌, ℕ, Bool, List, [], ◌∷◌, Option, None, Some, Result, Ok, Err}
use Rattle.outside_world.specs.Causes.{Rose}
use Rattle.outside_world.specs.Shelf.{file_in, has_file, HasPut, HasRead, HasRemoved, OnShelf}
use Rattle.outside_world.specs.declared.faults.ShelfFault.TheVariants.{Failed}
use Rattle.sheet_store.specs.declared.writes.SavedSheet.{SavedSheet}
use Rattle.wk1_file.specs.Files.{IsFile}
use Rattle.wk1_records.specs.declared.fault.Wk1Fault.{Wk1Fault}

-- a call: whether a file is there, as which worksheet or which bytes it is read, what it is to hold, or that it is to
-- go
pub data ShelfCall : Type 0 where
  asks : List ℕ → ShelfCall
  gets : List ℕ → ShelfCall
  fetches : List ℕ → ShelfCall
  puts : List ℕ → List ℕ → ShelfCall
  removes : List ℕ → ShelfCall

-- an answer: the call failed; whether the file is there, or was; as which sheet the file is read, or by which fault it
-- is refused, if it is there; its bytes, if it is there; or that it is written
pub data Reply : Type 0 where
  failed : Reply
  there : Bool → Reply
  loaded : Option (Result SavedSheet Wk1Fault) → Reply
  fetched : Option (List ℕ) → Reply
  written : Reply

-- a call and its answer
pub record Asked : Type 0 where
  pub call : ShelfCall
  pub reply : Reply

-- the answer is one that what the shelf holds gives, and the call leaves this on it
abbrev pub IsTold : ShelfCall → Reply → Option OnShelf → Option OnShelf → Type 0
IsTold (asks name) failed before now = HasRead (has_file name) name before now (Err Failed)
IsTold (asks name) (there b) before now = HasRead (has_file name) name before now (Ok b)
IsTold (gets name) failed before now = HasRead (file_in name) name before now (Err Failed)
IsTold (gets name) (loaded None) before now = HasRead (file_in name) name before now (Ok None)
IsTold (gets name) (loaded (Some file)) before now =
    (bytes : List ℕ) × IsFile bytes file × HasRead (file_in name) name before now (Ok (Some bytes))
IsTold (fetches name) failed before now = HasRead (file_in name) name before now (Err Failed)
IsTold (fetches name) (fetched got) before now = HasRead (file_in name) name before now (Ok got)
IsTold (puts name bytes) failed before now = HasPut name bytes before now (Err Failed)
IsTold (puts name bytes) written before now = HasPut name bytes before now (Ok tt)
IsTold (removes name) failed before now = HasRemoved name before now (Err Failed)
IsTold (removes name) (there b) before now = HasRemoved name before now (Ok b)
IsTold c r before now = ⊥

-- the count of faults rose where the call failed, and stands elsewhere
abbrev pub IsCounted : Reply → ℕ → ℕ → Type 0
IsCounted failed before now = (before ≤ now) × Rose before now
IsCounted r before now = now ≡ before

-- a shelf: what it tells of its files, and the count of its faults
pub record ShelfView : Type 0 where
  pub told : Option OnShelf
  pub faults : ℕ

-- a shelf of these parts
abbrev pub shelf_view : Option OnShelf → ℕ → ShelfView
shelf_view told faults = record { told = told; faults = faults }

-- a call was answered so, which made of a shelf another
pub record HasAnswered (a : Asked) (before now : ShelfView) : Type 0 where
  pub told : IsTold a.call a.reply before.told now.told
  pub faults : IsCounted a.reply before.faults now.faults

-- these calls were answered, one behind the other, and no other call was made
abbrev pub HaveAnswered : List Asked → ShelfView → ShelfView → Type 0
HaveAnswered [] before now = now ≡ before
HaveAnswered (a ∷ later) before now = (middle : ShelfView) × HasAnswered a before middle × HaveAnswered later middle now

-- the call writes the file of this name
abbrev pub Writes : ShelfCall → List ℕ → Type 0
Writes (puts file bytes) name = name ≡ file
Writes call name = ⊥

-- no file has changed but one that the call writes
abbrev pub KeepsUnwritten : ShelfCall → Option OnShelf → Option OnShelf → Type 0
KeepsUnwritten call None now = now ≡ None
KeepsUnwritten call (Some s) now =
    (t : OnShelf) × (now ≡ Some t)
    × ((name : List ℕ) → (Writes call name → ⊥) → file_in name t.files ≡ file_in name s.files)

-- memory ran out in a call, or before it
pub record IsUnfinished (call : ShelfCall) (before now : ShelfView) : Type 0 where
  pub told : KeepsUnwritten call before.told now.told
  pub faults : now.faults ≡ before.faults

-- Memory ran out where these calls are made: the first of them were answered, one behind the other, and then it ran
-- out in the next one or before it. No other call was made.
abbrev pub HaveBrokenOff : List Asked → ShelfView → ShelfView → Type 0
HaveBrokenOff [] before now = now ≡ before
HaveBrokenOff (a ∷ later) before now =
    IsUnfinished a.call before now
    ⊎ ((middle : ShelfView) × HasAnswered a before middle × HaveBrokenOff later middle now)

-- Memory ran out where the calls are made that hang on what the shelf answers, over some answers.
pub record HasBrokenOver {A : Type 0} (calls : A → List Asked) (before now : ShelfView) : Type 0 where
  pub answers : A
  pub broke : HaveBrokenOff (calls answers) before now
