-- What stands before a byte and behind it.
use Rattle.std.proofs.Common.{◌≡◌, ℕ, List, ◌++◌, take, drop}
use Rattle.at_functions.specs.Readings.{before, behind}

-- no such byte stands before a place
abbrev pub IsBeforeFrom : ℕ → List ℕ → ℕ → Type 0
IsBeforeFrom sep bytes at =
    (take at bytes ++ before sep (drop at bytes) ≡ before sep bytes) × (behind sep (drop at bytes) ≡ behind sep bytes)
