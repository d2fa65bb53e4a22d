use Rattle.std.proofs.Common.{◌≡◌, map, length}
use Rattle.std.specs.List.{AllByRecursion}
use Rattle.key_words.specs.Names as spec
use Rattle.key_words.specs.inner.Listed.{IsListed}
use Rattle.key_words.proofs.name.longer_in.Given as goal

abbrev pub invariant-loop-table : goal.invariant-loop-table
invariant-loop-table l =
    (spec.longer_in (map (λ e. (e.0.now, e.1)) l.table) l.letters l.letter
    ≡ spec.longer_in (map (λ e. (e.0.now, e.1)) l.fn.table) l.letters l.letter)
    × AllByRecursion IsListed (map (λ e. (e.0.now, e.1)) l.table)

abbrev pub decreases-loop-table : goal.decreases-loop-table
decreases-loop-table l = length l.table
