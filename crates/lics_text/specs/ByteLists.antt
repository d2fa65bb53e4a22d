use Rattle.std.specs.Prelude.{ℕ, List, [], ◌∷◌, ◌++◌, length, nat_lt, if◌then◌else◌}

-- a list with one more byte, which is passed over where the list is full
abbrev pub with_byte : ℕ → List ℕ → ℕ → List ℕ
with_byte most bytes byte = if nat_lt (length bytes) most then bytes ++ byte ∷ [] else bytes
