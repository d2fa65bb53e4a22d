use Rattle.std.proofs.Common.{◌≡◌, ◌+◌, length}
use Rattle.key_words.specs.MacroText.{closing_from, closing_place}
use Rattle.key_words.proofs.macro_word.closing_place.Given as goal

abbrev pub invariant-loop-bytes : goal.invariant-loop-bytes
invariant-loop-bytes l =
    (closing_from l.place l.quoted l.bytes ≡ closing_place l.fn.bytes) × (l.place + length l.bytes ≡ length l.fn.bytes)

abbrev pub decreases-loop-bytes : goal.decreases-loop-bytes
decreases-loop-bytes l = length l.bytes
