use Rattle.std.proofs.Common.{◌≡◌, ◌≤◌, ◌++◌, drop, length}
use Rattle.lics_text.specs.Texts.{single_spaced}
use Rattle.lics_text.proofs.trim.single_spaced.Given as goal

abbrev pub invariant-loop-at : goal.invariant-loop-at
invariant-loop-at l = (length l.line ≤ l.at) × (l.line ++ single_spaced (drop l.at l.bytes) ≡ single_spaced l.bytes)
