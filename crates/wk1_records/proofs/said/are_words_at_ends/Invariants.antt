use Rattle.std.proofs.Common.{◌≤◌, ◌<◌, ◌+◌, ℕ, get_or}
use Rattle.wk1_records.proofs.said.are_words_at_ends.Given as goal

-- none of those before is less, and none of the last ones before
abbrev pub invariant-loop-at : goal.invariant-loop-at
invariant-loop-at g l =
    (k : ℕ) → k < l.at → (l.least ≤ get_or l.bytes k 0) × (l.least ≤ get_or l.bytes (l.last + k) 0)
