-- A highlight among items, and how keys move it.
use Rattle.std.specs.Prelude.{ℕ, ◌+◌, ◌-◌, nat_eq, nat_lt, if◌then◌else◌}
use Rattle.key_words.specs.declared.key.Key.{Key}
use Rattle.key_words.specs.declared.key.Key.TheVariants as key

-- LEFT and RIGHT move it in a ring of so many items, HOME and END go to the ends
abbrev pub highlighted : Key → ℕ → ℕ → ℕ
highlighted key.Left count h = if nat_eq h 0 then count - 1 else h - 1
highlighted key.Right count h = if nat_lt (h + 1) count then h + 1 else 0
highlighted key.Home count h = 0
highlighted key.End count h = count - 1
highlighted k count h = h
