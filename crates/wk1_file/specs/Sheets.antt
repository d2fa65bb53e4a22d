-- What records make of a sheet.
use Rattle.std.specs.Prelude.{ℕ, false, cond, ◌+◌, replicate, fold, Option, Some, None, Result, Ok, Err, List, [], ◌∷◌}
use Rattle.std.specs.FinMap as map
use Rattle.grid_address.specs.Limits.{COLUMNS}
use Rattle.grid_address.specs.Place.{same_place, Place}
use Rattle.formula_tree.specs.declared.value.Value.TheVariants as value
use Rattle.range_names.specs.Names.{key_of, NameMap}
use Rattle.sheet_store.specs.Choices.{fresh, Choices}
use Rattle.sheet_store.specs.Grid.{put_state, set_value_at, set_width_of, Cells, Grid}
use Rattle.sheet_store.specs.declared.writes.SavedSheet.{SavedSheet}
use Rattle.wk1_records.specs.Meanings.{meaning}
use Rattle.wk1_records.specs.Records.{ended, cut, piece, Records}
use Rattle.wk1_records.specs.declared.entry.Entry.{Entry}
use Rattle.wk1_records.specs.declared.entry.Entry.TheVariants as entry
use Rattle.wk1_records.specs.declared.fault.Wk1Fault.{Wk1Fault}
use Rattle.wk1_records.specs.declared.fault.Wk1Fault.TheVariants as fault

-- a sheet so far, and the cell whose formula the record just before gave
pub record Progress : Type 0 where
  pub sheet : SavedSheet
  pub formula : Option Place

-- a text is the value of the formula just before, if it is for that cell
abbrev pub texted : Option Place → Place → List ℕ → Grid → Grid
texted None p t g = g
texted (Some q) p t g = cond (same_place q p) (set_value_at g p (value.Str t)) g

-- the sheet with other settings; no formula stands just before
abbrev pub with_settings : SavedSheet → Choices → Progress
with_settings s c = record { sheet = record s { settings = c }; formula = None }

-- the sheet with another store, behind the formula of a cell
abbrev pub with_store : SavedSheet → Grid → Option Place → Progress
with_store s g f = record { sheet = record s { store = g }; formula = f }

-- the sheet after what one more record says
abbrev pub with_entry : Progress → Entry → Progress
with_entry r entry.Nothing = record { sheet = r.sheet; formula = None }
with_entry r (entry.Automatic b) = with_settings r.sheet (record r.sheet.settings { automatic = b })
with_entry r (entry.Order o) = with_settings r.sheet (record r.sheet.settings { order = o })
with_entry r (entry.Window p f w) =
    with_settings r.sheet (record r.sheet.settings { pointer = p; format = f.0; width = w })
with_entry r (entry.Width col w) = with_store r.sheet (set_width_of r.sheet.store col (Some w)) None
with_entry r (entry.Hidden bits) = with_store r.sheet (record r.sheet.store { hidden = bits }) None
with_entry r (entry.Name name span) =
    record { sheet = record r.sheet { names = map.insert r.sheet.names (key_of name) span }; formula = None }
with_entry r (entry.State p s) = with_store r.sheet (put_state r.sheet.store p s) None
with_entry r (entry.Formula p s) = with_store r.sheet (put_state r.sheet.store p s) (Some p)
with_entry r (entry.Text p t) = with_store r.sheet (texted r.formula p t r.sheet.store) None
with_entry r (entry.Protection b) = with_settings r.sheet (record r.sheet.settings { protection = b })
with_entry r (entry.Prefix b) = with_settings r.sheet (record r.sheet.settings { prefix = b })
with_entry r (entry.Passes n) = with_settings r.sheet (record r.sheet.settings { passes = n })

-- a fresh sheet
abbrev pub fresh_sheet : SavedSheet
fresh_sheet = record {
  store = record { cells = map.empty; widths = replicate COLUMNS 0; hidden = replicate COLUMNS false };
  names = map.empty;
  settings = fresh;
}

-- before the first record
abbrev pub start : Progress
start = record { sheet = fresh_sheet; formula = None }

-- the fault of a record, or what comes behind it
abbrev pub fault_or : Result Entry Wk1Fault → Option Wk1Fault → Option Wk1Fault
fault_or (Ok e) next = next
fault_or (Err f) next = Some f

-- the first fault of records that are numbered from here on
abbrev pub first_fault : ℕ → Records → Option Wk1Fault
first_fault n ended = None
first_fault n (cut at) = Some (fault.Truncated at)
first_fault n (piece p rest) = fault_or (meaning n p) (first_fault (n + 1) rest)

-- what a record says, before what the others say
abbrev pub entry_then : Result Entry Wk1Fault → List Entry → List Entry
entry_then (Ok e) es = e ∷ es
entry_then (Err f) es = es

-- what the records say, in their order
abbrev pub entries_in : ℕ → Records → List Entry
entries_in n ended = []
entries_in n (cut at) = []
entries_in n (piece p rest) = entry_then (meaning n p) (entries_in (n + 1) rest)

-- the first fault, or the sheet
abbrev pub unless_fault : Option Wk1Fault → SavedSheet → Result SavedSheet Wk1Fault
unless_fault None s = Ok s
unless_fault (Some f) s = Err f

-- the sheet of records, or their first fault
abbrev pub sheet_of : Records → Result SavedSheet Wk1Fault
sheet_of rs = unless_fault (first_fault 0 rs) (fold with_entry start (entries_in 0 rs)).sheet

-- a sheet so far with these cells, behind the formula of a cell
abbrev pub with_cells : SavedSheet → Cells → Option Place → Progress
with_cells s m f = record { sheet = record s { store = record s.store { cells = m } }; formula = f }

-- with these own widths
abbrev pub with_widths : SavedSheet → List ℕ → Option Place → Progress
with_widths s ws f = record { sheet = record s { store = record s.store { widths = ws } }; formula = f }

-- with these names
abbrev pub with_names : SavedSheet → NameMap → Option Place → Progress
with_names s ns f = record { sheet = record s { names = ns }; formula = f }
