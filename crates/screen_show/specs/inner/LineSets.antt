-- Sets of lines as bits.
use Rattle.std.specs.Prelude.{ℕ, suc, zero, ◌/◌, ◌%◌, ◌==◌, Bool, List, [], ◌∷◌}

-- which of so many lines are in a set: those whose bit is 1, of which line 0 has the lowest
unfoldable pub lines_of : ℕ → ℕ → List Bool
lines_of zero bits = []
lines_of (suc n) bits = (bits % 2 == 1) ∷ lines_of n (bits / 2)
