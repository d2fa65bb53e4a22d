-- What a formula means.
use Rattle.std.specs.Prelude.{◌≡◌, true}
use Rattle.std.specs.List.{list_any}
use Rattle.grid_address.specs.Place.{is_within, Place}
use Rattle.formula_tree.specs.Spans.{spans_of}
use Rattle.formula_tree.specs.Tree.{Tree}
use Rattle.formula_tree.specs.declared.value.Value.{Value}
use Rattle.record_match.specs.Databases.{database_value}
use Rattle.formula_parts.specs.Outlook.{Outlook}
use Rattle.formula_parts.specs.Parts.{filled_in, value_by}

-- its value, with the records that its functions of records speak of
unfoldable pub mean : Tree → Place → Outlook → Value
mean t at w = filled_in (value_by database_value t at w)

-- a formula that stands in a cell reads another
abbrev pub Reads : Tree → Place → Place → Type 0
Reads t at c = list_any (λ s. is_within s c) (spans_of t at) ≡ true
