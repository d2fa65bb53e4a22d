-- The columns of a report, and the bands that they are cut into.
use Rattle.std.specs.Prelude.{ℕ, zero, suc, ◌+◌, ◌-◌, nat_le, List, [], ◌∷◌, ◌++◌, unwrap_or, if◌then◌else◌}
use Rattle.grid_address.specs.Place.{Extent}
use Rattle.grid_address.specs.Place as place
use Rattle.sheet_store.specs.Grid.{is_hidden, width_of}
use Rattle.sheet_store.specs.declared.writes.SavedSheet.{SavedSheet}

-- a column has its own width or the sheet's
abbrev pub width_in : SavedSheet → ℕ → ℕ
width_in s col = unwrap_or (width_of s.store col) s.settings.width

-- how wide columns are beside each other
abbrev pub wide : SavedSheet → List ℕ → ℕ
wide s [] = 0
wide s (c ∷ cs) = width_in s c + wide s cs

-- so many columns from one on, without the hidden ones
abbrev pub columns_from : SavedSheet → ℕ → ℕ → List ℕ
columns_from s col zero = []
columns_from s col (suc count) =
    if is_hidden s.store col then columns_from s (col + 1) count else col ∷ columns_from s (col + 1) count

-- the range's columns, without the hidden ones
abbrev pub columns_of : SavedSheet → Extent → List ℕ
columns_of s range = columns_from s range.first.col (place.width_of range)

-- A band takes a column while there is room, and else the next band begins with it.
abbrev pub cut : SavedSheet → ℕ → List ℕ → ℕ → List ℕ → List (List ℕ)
cut s width band room [] = band ∷ []
cut s width band room (c ∷ cs) =
    if nat_le (width_in s c) room then cut s width (band ++ c ∷ []) (room - width_in s c) cs
    else band ∷ cut s width (c ∷ []) (width - width_in s c) cs

-- a band begins with a column of any width, so that it has at least one
abbrev pub bands : SavedSheet → ℕ → List ℕ → List (List ℕ)
bands s width [] = []
bands s width (c ∷ cs) = cut s width (c ∷ []) (width - width_in s c) cs
