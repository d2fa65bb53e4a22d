use Rattle.std.proofs.Common.{◌≡◌, ◌++◌, length}
use Rattle.lics_text.specs.Bytes.{IsText}
use Rattle.macro_text.specs.Listed.{split_from}
use Rattle.macro_text.proofs.listed.split.Given as goal

abbrev pub invariant-loop-end : goal.invariant-loop-end
invariant-loop-end l = (l.list ++ split_from l.inside 0 l.rest ≡ split_from l.fn.quoted 0 l.fn.bytes) × IsText l.rest

abbrev pub decreases-loop-end : goal.decreases-loop-end
decreases-loop-end l = length l.rest
