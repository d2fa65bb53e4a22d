-- What the program's reading keeps.
use Rattle.std.specs.Prelude.{ℕ, ◌≡◌, ◌≤◌, ◌⊎◌, true, fold, Some, ⊤, Result, Ok, Err, List, length, drop}
use Rattle.grid_address.specs.Place.{Place}
use Rattle.sheet_store.specs.Choices.{is_global_prefix}
use Rattle.sheet_store.specs.Grid.{is_formula, HasFormula, IsSound}
use Rattle.sheet_store.specs.Limits.{MOST_WIDTH}
use Rattle.sheet_store.specs.declared.writes.SavedSheet.{SavedSheet}
use Rattle.wk1_records.specs.Meanings.{meaning_by}
use Rattle.wk1_records.specs.Records.{Records, Splits}
use Rattle.wk1_records.specs.declared.kind.RecordKind.{RecordKind}
use Rattle.wk1_file.specs.Sheets.{entries_in, first_fault, sheet_of, unless_fault, with_entry, Progress}
use Rattle.wk1_records.specs.declared.fault.Wk1Fault.{Wk1Fault}
use Rattle.wk1_records.specs.declared.fault.Wk1Fault.TheVariants as fault
use Rattle.wk1_file.specs.declared.take.Loading.{Loading}
use Rattle.wk1_records.specs.declared.entry.Entry.{Entry}
use Rattle.wk1_records.specs.declared.entry.Entry.TheVariants as entry

-- what a record says is within the limits of a sheet
abbrev pub IsEntry : Entry → Type 0
IsEntry entry.Nothing = ⊤
IsEntry (entry.Automatic b) = ⊤
IsEntry (entry.Order o) = ⊤
IsEntry (entry.Window p f w) = (1 ≤ w) × (w ≤ MOST_WIDTH)
IsEntry (entry.Width col w) = (1 ≤ w) × (w ≤ MOST_WIDTH)
IsEntry (entry.Hidden bits) = ⊤
IsEntry (entry.Name name span) = ⊤
IsEntry (entry.State p s) = IsSound s
IsEntry (entry.Formula p s) = IsSound s × (is_formula s.content ≡ true)
IsEntry (entry.Text p t) = ⊤
IsEntry (entry.Protection b) = ⊤
IsEntry (entry.Prefix b) = is_global_prefix b ≡ true
IsEntry (entry.Passes n) = (1 ≤ n) × (n ≤ 50)

-- the cell that is kept in mind holds a formula
abbrev pub IsMinded : Progress → Type 0
IsMinded r = (p : Place) → r.formula ≡ Some p → HasFormula r.sheet.store p

-- what is loaded, as a sheet so far
abbrev pub as_progress : Loading → Progress
as_progress l = record { sheet = l.sheet; formula = l.formula }

-- what a record says was taken into a sheet so far
abbrev pub IsTaken : ℕ → List ℕ → RecordKind → Progress → Progress → Type 0
IsTaken n body k before now = (e : Entry) × (meaning_by n body k ≡ Ok e) × (now ≡ with_entry before e)

-- what records make of a sheet so far
abbrev pub sheet_from : ℕ → Progress → Records → Result SavedSheet Wk1Fault
sheet_from n r rs = unless_fault (first_fault n rs) (fold with_entry r (entries_in n rs)).sheet

-- the bytes are records, and this is what they make
pub record Makes (bytes : List ℕ) (x : Result SavedSheet Wk1Fault) : Type 0 where
  pub records : Records
  pub splits : Splits 0 bytes records
  pub is : x ≡ sheet_of records

-- what the bytes from an offset on make of the sheet so far, all bytes make
abbrev pub Ahead : List ℕ → ℕ → ℕ → Progress → Type 0
Ahead bytes at n r = (rs : Records) → Splits at (drop at bytes) rs → Makes bytes (sheet_from n r rs)

-- so many records lie before an offset, and this is the sheet that they make
pub record Loads (bytes : List ℕ) (at n : ℕ) (r : Progress) : Type 0 where
  pub within : at ≤ length bytes
  pub counted : n ≤ at
  pub minded : IsMinded r
  pub ahead : Ahead bytes at n r
