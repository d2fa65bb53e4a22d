use Rattle.std.proofs.Common.{◌≤◌, ◌<◌, ◌-◌, ◌+◌, length}
use Rattle.lics_text.specs.Texts.{StandsAt}
use Rattle.lics_text.proofs.places.first_place.Given as goal

abbrev pub invariant-loop-at : goal.invariant-loop-at
invariant-loop-at l = (l.from ≤ l.at) × ((k : _) → l.from ≤ k → k < l.at → StandsAt l.what l.text k → ⊥)

abbrev pub decreases-loop-at : goal.decreases-loop-at
decreases-loop-at l = length l.text + 1 - l.at
