use Rattle.std.proofs.Common.{subst, sym}
use Rattle.range_index.specs.Owners.{Owners}
use Rattle.depend_graph.proofs.Others.{removed_others}
use Rattle.depend_graph.specs.inner.Banks.{AreOthers}
use Rattle.depend_graph.proofs.banks.empty.Goals as goal

pub returns : goal.returns
returns c = subst (λ (m : Owners). AreOthers c.args.index.now m c.args.owner) (sym c.remove.ensures)
    (removed_others c.args.index.now c.args.owner)
