-- The items of a macro's menu: labels side by side in cells, as they now stand.
use Rattle.std.specs.Char.{to_ascii_uppercase}
use Rattle.std.specs.Prelude.{ℕ, zero, suc, ◌+◌, ◌==◌, nat_lt, min, Bool, false, List, ◌∷◌, Option, None, Some, if◌then◌else◌, is_some}
use Rattle.record_match.specs.Fields.{label_in}
use Rattle.formula_parts.specs.Outlook.{Sight}
use Rattle.grid_address.specs.Place.{Place}
use Rattle.grid_address.specs.Limits.{COLUMNS, LAST_COLUMN}
use Rattle.macro_words.specs.declared.waiting.MacroMenu.{MacroMenu}

-- the cell so many columns to the right, or the last one of its row
abbrev pub beside : ℕ → Place → Place
beside n c = record { row = c.row; col = min LAST_COLUMN (c.col + n) }

-- the text of the item so many columns behind the first one; none where no label stands there
abbrev pub item_text : Sight → Place → ℕ → Option (List ℕ)
item_text s first n = if nat_lt (first.col + n) COLUMNS then label_in (s.contents (beside n first)) else None

-- the first place from one on, among so many, at which no item stands
unfoldable pub items_from : Sight → Place → ℕ → ℕ → ℕ
items_from s first n zero = n
items_from s first n (suc more) = if is_some (item_text s first n) then items_from s first (n + 1) more else n

-- a menu has so many items at most
abbrev pub most_items : ℕ
most_items = 8

-- how many items stand side by side from a cell on
abbrev pub items_at : Sight → Place → ℕ
items_at s first = items_from s first 0 most_items

-- whether a text begins with a byte, in letters of either case
abbrev pub begins_with : ℕ → Option (List ℕ) → Bool
begins_with b (Some (t ∷ text)) = to_ascii_uppercase t == to_ascii_uppercase b
begins_with b _ = false

-- the first item from a place on, among so many, that begins with a byte
unfoldable pub chosen_from : Sight → Place → ℕ → ℕ → ℕ → Option ℕ
chosen_from s first b n zero = None
chosen_from s first b n (suc more) =
    if begins_with b (item_text s first n) then Some n else chosen_from s first b (n + 1) more

-- the first item of a menu that begins with a byte
abbrev pub chosen_by : Sight → MacroMenu → ℕ → Option ℕ
chosen_by s m b = chosen_from s m.first b 0 m.count
