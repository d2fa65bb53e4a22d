-- What an extraction of records writes into an output range.
use Rattle.std.specs.Prelude.{ℕ, ◌+◌, ◌-◌, ◌&&◌, nat_eq, nat_lt, not, Bool, true, false, Option, None, Some, List, [], ◌∷◌, ◌++◌, length, map, Result, Ok, Err, if◌then◌else◌}
use Rattle.std.specs.List.{filter, filter_map, find, flat_map, list_all, zip}
use Rattle.std.specs.Result.{result_and}
use Rattle.grid_address.specs.Place.{Extent}
use Rattle.formula_tree.specs.Values.{same_value}
use Rattle.formula_parts.specs.Outlook.{Outlook, Sight}
use Rattle.block_writes.specs.Writing.{at, columns_of, numbers_from, value_copied}
use Rattle.sheet_store.specs.declared.writes.Write.{Write}
use Rattle.record_match.specs.Fields.{field_named, is_label_at, is_no_field}
use Rattle.grid_address.specs.Lines.{last_row}
use Rattle.data_query.specs.Selection.{asked, chosen, rows_erased, unless_absent}
use Rattle.data_query.specs.declared.fault.QueryFault.{QueryFault}
use Rattle.data_query.specs.declared.fault.QueryFault.TheVariants as fault
use Rattle.data_query.specs.declared.output.OutputField.{OutputField}

-- the field that a column of the output takes, where its header names one
abbrev pub output_field : ℕ → Option ℕ → Option OutputField
output_field col (Some field) = Some (record { field = field; col = col })
output_field col None = None

-- the fields that the headers of an output name, from left to right
abbrev pub taken_fields : Sight → Extent → Extent → List OutputField
taken_fields sight input output =
    filter_map (λ col. output_field col (field_named sight input (at output.first.row col))) (columns_of output)

-- a label of an output that names no field
abbrev pub is_unknown : Sight → Extent → Extent → ℕ → Bool
is_unknown sight input output col =
    is_label_at sight (at output.first.row col) && is_no_field sight input (at output.first.row col)

-- the first such label
abbrev pub unknown_label : Sight → Extent → Extent → Option ℕ
unknown_label sight input output = find (is_unknown sight input output) (columns_of output)

-- how many records an output has room for below its headers; one of one row reaches to the end of the sheet
abbrev pub room_of : Extent → ℕ
room_of output = (if nat_eq output.first.row output.last.row then last_row else output.last.row) - output.first.row

-- the rows below the headers of an output
abbrev pub rows_of_output : Extent → List ℕ
rows_of_output output = numbers_from (output.first.row + 1) (room_of output)

-- two records have equal values in the fields that the output takes
abbrev pub same_record : Sight → List OutputField → ℕ → ℕ → Bool
same_record sight fields a b =
    list_all (λ (f : OutputField). same_value (sight.values (at a f.field)) (sight.values (at b f.field))) fields

-- a record is left out where an earlier one is the same
abbrev pub without_repeats : (ℕ → ℕ → Bool) → List ℕ → List ℕ
without_repeats same [] = []
without_repeats same (row ∷ rows) = row ∷ filter (λ other. not (same row other)) (without_repeats same rows)

-- the rows of the records that are extracted: all that match, or those of them that differ
abbrev pub extracted_rows : Outlook → Extent → Extent → Bool → List OutputField → List ℕ
extracted_rows w input criterion unique fields =
    if unique then without_repeats (same_record w.sight fields) (chosen w input criterion)
    else chosen w input criterion

-- the values of a record's fields, with their formats, for a row of the output
abbrev pub record_written : Sight → List OutputField → ℕ → ℕ → List Write
record_written sight fields from to =
    map (λ (f : OutputField). value_copied sight (at from f.field) (at to f.col)) fields

-- records, each for the row of the output beside it
abbrev pub records_written : Sight → List OutputField → List ℕ → List ℕ → List Write
records_written sight fields froms tos = flat_map (λ p. record_written sight fields p.0 p.1) (zip froms tos)

-- the output is erased below its headers, and then each record stands in a row of its own
abbrev pub output_written : Sight → Extent → List OutputField → List ℕ → List Write
output_written sight output fields rows =
    rows_erased (columns_of output) (rows_of_output output) ++ records_written sight fields rows (rows_of_output output)

-- an answer, unless a label of the output names no field
abbrev pub labelled : {X : Type 0} → Sight → Extent → Extent → X → Result X QueryFault
labelled sight input output x = unless_absent output (unknown_label sight input output) x

-- what these records write, unless the output has too few rows for so many
abbrev pub rows_extracted : Sight → Extent → List OutputField → List ℕ → Result (List Write) QueryFault
rows_extracted sight output fields rows =
    if nat_lt (room_of output) (length rows) then Err (fault.OutputFull (length rows))
    else Ok (output_written sight output fields rows)

-- what the records that match write, where the output's columns take these fields
abbrev pub fields_extracted : Outlook → Extent → Extent → Extent → Bool → List OutputField →
    Result (List Write) QueryFault
fields_extracted w input criterion output unique fields =
    rows_extracted w.sight output fields (extracted_rows w input criterion unique fields)

-- the faults in their order, of the input, the criterion, the output's headers and its room; or what is written
abbrev pub extraction : Outlook → Extent → Extent → Extent → Bool → Result (List Write) QueryFault
extraction w input criterion output unique =
    result_and {T = Unit {0}} (asked w.sight input criterion tt) (
    result_and {T = Unit {0}} (labelled w.sight input output tt) (
    fields_extracted w input criterion output unique (taken_fields w.sight input output)
    )
    )
