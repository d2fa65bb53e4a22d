-- Bytes as they are shown.
use Rattle.std.proofs.Common.{◌≤◌, ℕ, arith}
use Rattle.std.proofs.lemmas.Bool.Decides.{nat_tests}
use Rattle.shown_cells.specs.Cells.{shown_byte}

-- none of them is below 32
pub shown_least : (b : ℕ) → 32 ≤ shown_byte b
shown_least b = grind (arith, nat_tests)
