-- Sets of bytes by what they do in a line.
use Rattle.std.specs.Prelude.{ℕ, Bool, nat_eq, List, codes}
use Rattle.std.specs.List.{list_any}

-- the byte is one of a text's
abbrev pub is_among : List ℕ → ℕ → Bool
is_among bytes b = list_any (nat_eq b) bytes

-- the bytes that a value begins with
abbrev pub begins_value : ℕ → Bool
begins_value = is_among (codes "0123456789+-.(@#$")

-- the bytes behind which an arrow points
abbrev pub wants_operand : ℕ → Bool
wants_operand = is_among (codes "^*/+-=<>&#(,")

-- the bytes that put a pointed reference into the line
abbrev pub ends_reference : ℕ → Bool
ends_reference = is_among (codes "^*/+-=<>&#),")
