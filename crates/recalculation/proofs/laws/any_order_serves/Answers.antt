use Rattle.recalculation.proofs.Along.{not_circular, same_pass}
use Rattle.recalculation.specs.inner.Meanings.{IsMeaning}
use Rattle.recalculation.proofs.laws.any_order_serves.Goals as goal

pub returns : goal.returns
returns g c = λ x sheet cells sound goes.
    let meaning : IsMeaning g.E.Means.meaning = record { reads = g.met.E.Means.reads_alone } in (
      same_pass g.E.Means.meaning x meaning sheet cells sound goes,
      not_circular g.E.Means.meaning x meaning sheet cells sound goes,
    )
