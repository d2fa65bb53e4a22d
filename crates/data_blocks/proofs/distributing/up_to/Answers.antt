use Rattle.std.proofs.Common.{rules, not, ap, ◌∙◌}
use Rattle.std.specs.Prelude.{ℤ}
use Rattle.std.specs.Int.RustNames.{int_lt}
use Rattle.std.specs.List.{count_by}
use Rattle.std.proofs.lemmas.List.Sorted.{IsPartitionPoint-from_clause}
use Rattle.data_blocks.proofs.Halves.{all_before, is_at_most, parted}
use Rattle.data_blocks.proofs.distributing.up_to.Goals as goal

pub returns : goal.returns
returns c =
    let most = c.millionths-most.result in
    let numbers = c.args.numbers.now in
    let point =
    IsPartitionPoint-from_clause (is_at_most most) _ _ c.partition_point.ensures.partitioned
    (parted most numbers c.requires) (λ a r q k. search rules) in
    all_before (is_at_most most) numbers c.partition_point.result c.partition_point.ensures.bound point.0 point.1
    ∙ ap (λ (b : ℤ). count_by (λ x. not (int_lt b x)) numbers) c.millionths-most.ensures.value
