use Rattle.recalculation.proofs.Rest.{recalculation_is_cut}
use Rattle.recalculation.proofs.laws.recalculation_is_cut.Goals as goal

pub returns : goal.returns
returns g c = λ x. recalculation_is_cut g.E.Means.meaning x (record { reads = g.met.E.Means.reads_alone })
