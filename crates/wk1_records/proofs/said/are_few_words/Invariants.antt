use Rattle.std.proofs.Common.{◌≤◌, ◌<◌, ℕ, get_or}
use Rattle.wk1_records.proofs.said.are_few_words.Given as goal

-- none of those before is below 32
abbrev pub invariant-loop-at : goal.invariant-loop-at
invariant-loop-at l = (k : ℕ) → k < l.at → 32 ≤ get_or l.bytes k 0
