-- The fields of a range of records, which its first row names.
use Rattle.std.specs.Prelude.{ℕ, ◌&&◌, nat_lt, not, Bool, true, false, Option, None, Some, List}
use Rattle.std.specs.List.{find, list_all}
use Rattle.std.specs.Ordering.{is_eq}
use Rattle.grid_address.specs.Place.{Extent, Place}
use Rattle.formula_tree.specs.declared.value.Content.{Content}
use Rattle.formula_tree.specs.declared.value.Content.TheVariants as content
use Rattle.value_functions.specs.Operators.{order_of_texts}
use Rattle.grid_address.specs.Lines.{at, columns_of}
use Rattle.formula_parts.specs.Outlook.{Sight}

-- the text of a label
abbrev pub label_in : Option Content → Option (List ℕ)
label_in (Some (content.Label p t)) = Some t
label_in _ = None

-- there is one
abbrev pub is_some : {X : Type 0} → Option X → Bool
is_some (Some x) = true
is_some None = false

-- a cell holds a label
abbrev pub is_label_at : Sight → Place → Bool
is_label_at sight p = is_some (label_in (sight.contents p))

-- there are records, and the first row names their fields by labels
abbrev pub has_fields : Sight → Extent → Bool
has_fields sight input =
    nat_lt input.first.row input.last.row
    && list_all (λ col. is_label_at sight (at input.first.row col)) (columns_of input)

-- two labels that are equal, folded
abbrev pub same_label : Option (List ℕ) → Option (List ℕ) → Bool
same_label (Some a) (Some b) = is_eq (order_of_texts a b)
same_label (Some a) None = false
same_label None b = false

-- the first field that a header names
abbrev pub field_named : Sight → Extent → Place → Option ℕ
field_named sight input header =
    find (λ col. same_label (label_in (sight.contents header)) (label_in (sight.contents (at input.first.row col))))
    (columns_of input)

-- a header names no field
abbrev pub is_no_field : Sight → Extent → Place → Bool
is_no_field sight input header = not (is_some (field_named sight input header))
