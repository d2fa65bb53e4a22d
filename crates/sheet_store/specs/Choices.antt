-- The settings of a sheet.
use Rattle.std.specs.Prelude.{ℕ, ◌≡◌, ◌≤◌, Bool, true, false}
use Rattle.lics_text.specs.declared.prefix.LabelPrefix.{LabelPrefix}
use Rattle.lics_text.specs.declared.prefix.LabelPrefix.TheVariants.{Left, Right, Center, Repeat, Unprinted}
use Rattle.grid_address.specs.Formats.{general_format}
use Rattle.grid_address.specs.Place.{Place}
use Rattle.sheet_store.specs.declared.order.Order.{Order}
use Rattle.sheet_store.specs.declared.order.Order.TheVariants.{Natural}
use Rattle.sheet_store.specs.Limits.{MOST_WIDTH}

-- a sheet's settings: whether it recalculates by itself, and by how many passes; the prefix of new labels; the format
-- and the width where a cell or a column has none of its own; whether it is protected; the cell that the pointer is on;
-- and the order of recalculation
pub record Choices : Type 0 where
  pub automatic : Bool
  pub passes : ℕ
  pub prefix : LabelPrefix
  pub format : ℕ
  pub width : ℕ
  pub protection : Bool
  pub pointer : Place
  pub order : Order

-- ' " and ^
abbrev pub is_global_prefix : LabelPrefix → Bool
is_global_prefix Left = true
is_global_prefix Right = true
is_global_prefix Center = true
is_global_prefix Repeat = false
is_global_prefix Unprinted = false

-- what settings keep
pub record AreWithin (s : Choices) : Type 0 where
  pub some_passes : 1 ≤ s.passes
  pub few_passes : s.passes ≤ 50
  pub some_width : 1 ≤ s.width
  pub most_width : s.width ≤ MOST_WIDTH
  pub known_prefix : is_global_prefix s.prefix ≡ true

-- a fresh sheet's
abbrev pub fresh : Choices
fresh = record {
  automatic = true;
  passes = 1;
  prefix = Left;
  format = general_format;
  width = 9;
  protection = false;
  pointer = record { row = 0; col = 0 };
  order = Natural;
}
