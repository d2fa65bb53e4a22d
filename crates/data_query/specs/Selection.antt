-- The records that a criterion chooses, and what a deletion of them writes.
use Rattle.std.specs.Prelude.{ℕ, ◌+◌, ◌-◌, not, Option, None, Some, List, ◌++◌, length, map, Result, Ok, Err, if◌then◌else◌}
use Rattle.std.specs.List.{filter, flat_map}
use Rattle.grid_address.specs.Place.{Extent, Place}
use Rattle.formula_parts.specs.Outlook.{Outlook, Sight}
use Rattle.block_writes.specs.Writing.{across, at, columns_of, erased, numbers_from, rows_below, rows_copied}
use Rattle.sheet_store.specs.declared.writes.Write.{Write}
use Rattle.record_match.specs.Criteria.{missing, record_matches}
use Rattle.record_match.specs.Fields.{has_fields}
use Rattle.data_query.specs.declared.fault.QueryFault.{QueryFault}
use Rattle.data_query.specs.declared.fault.QueryFault.TheVariants as fault

-- the rows of the records that match, in order
abbrev pub chosen : Outlook → Extent → Extent → List ℕ
chosen w input criterion = filter (record_matches w input criterion) (rows_below input)

-- an answer, unless the header in a column of a range names no field
abbrev pub unless_absent : {X : Type 0} → Extent → Option ℕ → X → Result X QueryFault
unless_absent range (Some col) x = Err (fault.FieldAbsent (at range.first.row col))
unless_absent range None x = Ok x

-- an answer, unless the input names no fields, or a header of the criterion names none of them
abbrev pub asked : {X : Type 0} → Sight → Extent → Extent → X → Result X QueryFault
asked sight input criterion x =
    if has_fields sight input then unless_absent criterion (missing sight input criterion) x else Err fault.NoFieldRow

-- the first cells of the chosen records
abbrev pub selection : Outlook → Extent → Extent → Result (List Place) QueryFault
selection w input criterion =
    asked w.sight input criterion (map (λ row. at row input.first.col) (chosen w input criterion))

-- so many cells of some columns erased, from a row on
abbrev pub rows_erased : List ℕ → List ℕ → List Write
rows_erased columns rows = flat_map (λ row. map erased (across row columns)) rows

-- the rows of the records that stay, in order
abbrev pub kept : Outlook → Extent → Extent → List ℕ
kept w input criterion = filter (λ row. not (record_matches w input criterion row)) (rows_below input)

-- the records that stay move up, and the rest is erased
abbrev pub moved_up : Sight → Extent → List ℕ → List Write
moved_up sight input rows =
    rows_copied sight (columns_of input) rows (rows_below input)
    ++ rows_erased (columns_of input)
    (numbers_from (input.first.row + 1 + length rows) (input.last.row - input.first.row - length rows))

-- the faults, or what is written
abbrev pub deletion : Outlook → Extent → Extent → Result (List Write) QueryFault
deletion w input criterion = asked w.sight input criterion (moved_up w.sight input (kept w input criterion))
