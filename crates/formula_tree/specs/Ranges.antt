-- What the leaves of a tree keep, since numbers, texts and references keep it.
use Rattle.std.specs.Prelude.{ℕ, Bool, true, nat_abs, ◌&&◌, nat_le, nat_lt, List, length}
use Rattle.std.specs.List.{list_all}
use Rattle.lics_text.specs.Limits.{MAX_LEN}
use Rattle.lics_text.specs.Ascii as ascii
use Rattle.grid_address.specs.Limits.{COLUMNS, ROWS}
use Rattle.grid_address.specs.Axes.{number_of, Reference}
use Rattle.formula_tree.specs.Tree.{Tree, num, str, cell, span, group, neg, not, binary, call}

-- what a text keeps: it isn't too long, and no byte of it is below a space
abbrev pub is_text : List ℕ → Bool
is_text t = nat_le (length t) MAX_LEN && list_all (λ b. nat_le ascii.space b) t

-- what a reference keeps: its numbers are those of a column and a row of the sheet, or offsets as small
abbrev pub is_reference : Reference → Bool
is_reference r = nat_lt (number_of r.col) COLUMNS && nat_lt (number_of r.row) ROWS

-- a number's size, a text's bytes and the coordinates of references are in their ranges
abbrev pub is_ranged : Tree → Bool
is_ranged (num v) = nat_le (nat_abs v) 999999999999999
is_ranged (str t) = is_text t
is_ranged (cell r) = is_reference r
is_ranged (span a b) = is_reference a && is_reference b
is_ranged (group a) = true
is_ranged (neg a) = true
is_ranged (not a) = true
is_ranged (binary op a b) = true
is_ranged (call f ts) = true
