use Rattle.std.proofs.Common.{◌≡◌, ◌++◌, map, length}
use Rattle.sheet_listing.specs.Lines.{fields}
use Rattle.sheet_listing.proofs.lines.put_fields.Given as goal

abbrev pub invariant-loop-texts : goal.invariant-loop-texts
invariant-loop-texts l = l.into.items ++ fields (map (λ f. f.now) l.texts) ≡ l.fn.into.items ++ fields
    (map (λ f. f.now) l.fn.texts)

abbrev pub decreases-loop-texts : goal.decreases-loop-texts
decreases-loop-texts l = length l.texts
