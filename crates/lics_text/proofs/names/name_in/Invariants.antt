use Rattle.std.specs.Char.{to_ascii_uppercase}
use Rattle.std.proofs.Common.{◌≡◌, map, length}
use Rattle.lics_text.specs.Names as spec
use Rattle.lics_text.proofs.names.name_in.Given as goal

abbrev pub invariant-loop-table : goal.invariant-loop-table
invariant-loop-table g l =
    spec.name_in (map (λ e. (e.0.now, e.1)) l.table) (map to_ascii_uppercase l.name)
    ≡ spec.name_in (map (λ e. (e.0.now, e.1)) l.fn.table) (map to_ascii_uppercase l.name)

abbrev pub decreases-loop-table : goal.decreases-loop-table
decreases-loop-table g l = length l.table
