use Rattle.std.proofs.Common.{ap, sym, subst}
use Rattle.std.specs.FinMap.{from_entries}
use Rattle.range_names.specs.Names.{name_cmp, AreKeys}
use Rattle.range_names.specs.inner.Spots.{AreSpots}
use Rattle.range_names.proofs.Named.{none_keyed}
use Rattle.range_names.proofs.Written.{none_kept}
use Rattle.range_names.proofs.names.Names.new.Goals as goal

pub invariant_of-result : goal.invariant_of-result
invariant_of-result c =
    subst (λ names. AreKeys names × AreSpots c.new-2.result.entries names)
    (sym (ap (from_entries {R = name_cmp}) c.new.ensures.empty))
    (none_keyed, subst (λ spots. AreSpots spots _) (sym c.new-2.ensures.empty) none_kept)
