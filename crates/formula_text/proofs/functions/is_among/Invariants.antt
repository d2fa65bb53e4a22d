use Rattle.std.proofs.Common.{◌≡◌, map, length}
use Rattle.formula_text.specs.Functions as spec
use Rattle.formula_text.proofs.functions.is_among.Given as goal

abbrev pub invariant-loop-names : goal.invariant-loop-names
invariant-loop-names l =
    spec.is_among (map (λ n. n.now) l.names) l.name ≡ spec.is_among (map (λ n. n.now) l.fn.names) l.name

abbrev pub decreases-loop-names : goal.decreases-loop-names
decreases-loop-names l = length l.names
