-- What was written of a text, while more of it waits.
use Rattle.std.specs.Prelude.{ℕ, ◌≡◌, Option, Some, None, Result, Ok, Err, List, ◌++◌}
use Rattle.outside_world.specs.Causes.{Rose}
use Rattle.sheet_listing.specs.declared.writing.WriteFault.{WriteFault}
use Rattle.sheet_listing.specs.declared.writing.WriteFault.TheVariants.{Failed, Memory}

-- what was written with more behind it, where it is told
abbrev pub added : Option (List ℕ) → List ℕ → Option (List ℕ)
added None text = None
added (Some before) text = Some (before ++ text)

-- what was written is a front of what was to be written
abbrev pub IsFront : Option (List ℕ) → Option (List ℕ) → Type 0
IsFront now all = (rest : List ℕ) × (added now rest ≡ all)

-- a write failed exactly where the count of faults rose
abbrev pub HasFailed : ℕ → ℕ → Result Unit WriteFault → Type 0
HasFailed before now (Ok done) = now ≡ before
HasFailed before now (Err Failed) = Rose before now
HasFailed before now (Err Memory) = now ≡ before
