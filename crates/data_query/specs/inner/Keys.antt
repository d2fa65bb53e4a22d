-- What records are looked up by, where those that are the same as an earlier one are left out.
use Rattle.std.specs.Prelude.{ℕ, Bool, List, map}
use Rattle.std.specs.Cmp.Lexicographic.{pointwise}
use Rattle.formula_tree.specs.Values.{same_value}
use Rattle.formula_tree.specs.declared.value.Value.{Value}
use Rattle.formula_tree.specs.declared.value.Value.TheVariants as value
use Rattle.formula_parts.specs.Outlook.{Sight}
use Rattle.block_writes.specs.Writing.{at}
use Rattle.data_query.specs.declared.output.OutputField.{OutputField}
use Rattle.data_query.specs.declared.repeats.ValueKey.{ValueKey}
use Rattle.data_query.specs.declared.repeats.ValueKey.TheVariants as key

-- the value that a key stands for
abbrev pub keyed : ValueKey → Value
keyed key.Blank = value.Blank
keyed (key.Number n) = value.Num n
keyed (key.Text t) = value.Str t.items
keyed key.Err = value.Err
keyed key.Na = value.Na

-- the values that a record's key stands for
abbrev pub all_keyed : List ValueKey → List Value
all_keyed keys = map keyed keys

-- a record's values in the fields that the output takes
abbrev pub record_values : Sight → List OutputField → ℕ → List Value
record_values sight fields row = map (λ (f : OutputField). sight.values (at row f.field)) fields

-- equal values, each with the one in its place
abbrev pub same_values : List Value → List Value → Bool
same_values = pointwise same_value
