use Rattle.std.proofs.Common.{◌≡◌, map, length}
use Rattle.sheet_listing.specs.Lines.{fields, is_empty}
use Rattle.sheet_listing.proofs.lines.are_empty.Given as goal

abbrev pub invariant-loop-texts : goal.invariant-loop-texts
invariant-loop-texts l = is_empty (fields (map (λ f. f.now) l.texts)) ≡ is_empty (fields (map (λ f. f.now) l.fn.texts))

abbrev pub decreases-loop-texts : goal.decreases-loop-texts
decreases-loop-texts l = length l.texts
