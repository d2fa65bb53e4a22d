use Rattle.range_names.proofs.Written.{range_apart, range_empty, range_first}
use Rattle.range_names.proofs.spots.first_at.Goals as goal
use Rattle.range_names.proofs.spots.first_at.Goals.{in_default-via-in-Some+else-is_beside, in_default-via-in_default}

pub returns-in-Some-clause-some : goal.returns-in-Some-clause-some
returns-in-Some-clause-some c =
    range_first c.args.spots.now c.args.from c.in-Some.spot.now c.in-Some.key.now c.range.result c.next.new.self
    (c.range.ensures.in_range tt) c.in-Some.ensures.steps (c.is_beside.ensures.same c.if-is_beside.true)

pub returns-in_default-clause-none : goal.returns-in_default-clause-none
returns-in_default-clause-none c = elim c.in_default.branch [
  | in_default-via-in-Some+else-is_beside w ↦
      range_apart c.args.spots.now c.args.from w.in-Some.spot.now w.in-Some.key.now c.range.result c.next.new.self
      (c.range.ensures.in_range tt) w.in-Some.ensures.steps (w.is_beside.ensures.apart w.if-is_beside.false)
  | in_default-via-in_default w ↦
      range_empty c.args.spots.now c.args.from c.range.result (c.range.ensures.in_range tt) w.in_default.ensures.steps.0
]
