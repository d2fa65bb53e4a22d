-- The entries of hidden columns.
use Rattle.std.specs.List.{list_any}
use Rattle.std.specs.Prelude.{Bool, if◌then◌else◌, List, [], ◌∷◌, Option}
use Rattle.wk1_records.specs.declared.entry.Entry.{Entry}
use Rattle.wk1_records.specs.declared.entry.Entry.TheVariants as entry
use Rattle.grid_address.specs.Place.{Place}
use Rattle.sheet_store.specs.declared.writes.SavedSheet.{SavedSheet}
use Rattle.wk1_file.specs.Sheets.{Progress}

-- what the record of hidden columns says
abbrev pub hidden_entries : List Bool → List Entry
hidden_entries bits = if list_any (λ b. b) bits then entry.Hidden bits ∷ [] else []

-- with these hidden columns
abbrev pub with_hidden : SavedSheet → List Bool → Option Place → Progress
with_hidden s bits f = record { sheet = record s { store = record s.store { hidden = bits } }; formula = f }
