-- What is done where a kept state is put back.
use Rattle.std.specs.Prelude.{◌≡◌, Bool, true, false, List, [], ◌∷◌, None}
use Rattle.std.specs.List.{IsDistinct}
use Rattle.cell_maps.specs.Sets.{has}
use Rattle.grid_address.specs.Place.{same_place, Place}
use Rattle.recalculation.specs.Reading.{is_formula_at}
use Rattle.work_sheet.specs.Doing.{all_dirty, Done}
use Rattle.work_sheet.specs.Seen.{of_worksheet, Sheet}
use Rattle.work_sheet.specs.Sheets.{Worksheet}

-- a sheet takes the place of another, with its pointer and its marks: all its formulas are dirty
abbrev pub put_back : Sheet → Sheet → Done
put_back kept s = record { sheet = kept; log = all_dirty kept.grid ∷ [] }

-- A kept state took the place of a sheet, and these are kept before it. All its formulas are dirty.
pub record WasPutBack (s : Sheet) (kept : List Sheet) (new : Worksheet) : Type 0 where
  pub sheet : of_worksheet new ≡ s
  pub dirty : (c : Place) → has same_place new.dirty c ≡ is_formula_at s.grid c
  pub distinct : IsDistinct same_place new.dirty
  pub history : new.history ≡ record { kept = kept; begun = None }

-- the latest state takes the sheet's place; where none is kept, the answer is false and the sheet stays
abbrev pub Undoes : List Sheet → Bool → Worksheet → Worksheet → Type 0
Undoes [] answer old new = (answer ≡ false) × (new ≡ old)
Undoes (s ∷ kept) answer old new = (answer ≡ true) × WasPutBack s kept new
