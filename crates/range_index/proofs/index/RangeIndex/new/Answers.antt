use Rattle.std.specs.FinMap.{from_entries, get}
use Rattle.std.specs.Prelude.{[], Option, List}
use Rattle.std.proofs.Common.{sym, ap, ◌∙◌}
use Rattle.std.proofs.lemmas.Bool.{false≢true}
use Rattle.range_index.proofs.Kept.{none_held, none_registered}
use Rattle.range_index.proofs.index.RangeIndex.new.Goals as goal

pub invariant_of-result : goal.invariant_of-result
invariant_of-result c = (
  none_registered c.new.result.entries c.new-2.result.keys c.new-3.result.keys c.new.ensures.empty,
  λ o p held. absurd (false≢true (sym (none_held c.new.result.entries c.new.ensures.empty o p) ∙ held)),
)
