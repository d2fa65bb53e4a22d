-- How the records of a query are looked through.
use Rattle.std.specs.Prelude.{ℕ, ◌+◌, not, Bool, true, false, List}
use Rattle.std.specs.List.{filter}
use Rattle.grid_address.specs.Place.{Extent}
use Rattle.grid_address.specs.Lines.{at, rows_below}
use Rattle.record_match.specs.Criteria.{record_matches}
use Rattle.formula_parts.specs.Outlook.{Outlook}

-- a range without its first row
abbrev pub behind_first : Extent → Extent
behind_first s = record { first = at (s.first.row + 1) s.first.col; last = s.last }

-- the records that match are wanted, or the others
abbrev pub is_wanted : Bool → Bool → Bool
is_wanted true matches = matches
is_wanted false matches = not matches

-- the rows of the wanted records, in order
abbrev pub records : Outlook → Extent → Extent → Bool → List ℕ
records w input criterion wanted =
    filter (λ row. is_wanted wanted (record_matches w input criterion row)) (rows_below input)
