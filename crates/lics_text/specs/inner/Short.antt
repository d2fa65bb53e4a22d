-- How many of its bytes a short text has.
use Rattle.std.specs.Prelude.{ℕ, List, cond, get_or, nat_lt}

-- thirteen, unless the last one is below 32, which then tells how many
abbrev pub short_len : List ℕ → ℕ
short_len bytes = cond (nat_lt (get_or bytes 12 0) 32) (get_or bytes 12 0) 13
