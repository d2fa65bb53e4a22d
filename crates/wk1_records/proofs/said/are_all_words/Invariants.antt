use Rattle.std.proofs.Common.{◌≤◌, ◌<◌, ℕ, get_or}
use Rattle.wk1_records.proofs.said.are_all_words.Given as goal

-- none of those before is less
abbrev pub invariant-loop-at : goal.invariant-loop-at
invariant-loop-at l = (k : ℕ) → k < l.at → l.least ≤ get_or l.bytes k 0
