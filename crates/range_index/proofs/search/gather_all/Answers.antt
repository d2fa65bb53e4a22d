use Rattle.std.specs.Prelude.{List, ◌∷◌}
use Rattle.std.specs.FinMap.{from_entries}
use Rattle.std.proofs.Common.{subst}
use Rattle.range_index.specs.Owners.{Owners}
use Rattle.range_index.specs.inner.Powers.{Powers}
use Rattle.range_index.specs.inner.Registered.{AreFoundIn, AreFoundOrCome}
use Rattle.range_index.specs.declared.block.Block.{Block}
use Rattle.range_index.proofs.Found.{one_size}
use Rattle.range_index.proofs.search.gather_all.Goals as goal

pub loop-size-preserved : goal.loop-size-preserved
loop-size-preserved c =
    let m : Owners = from_entries c.args.owners.now.entries in
    let left : AreFoundOrCome m c.args.cell c.args.registrations.now.keys c.args.sizes.now.keys c.loop-size.found.keys
    (c.in-Some.size.now ∷ c.next.new.self) =
    subst (λ (l : List Powers). AreFoundOrCome m c.args.cell c.args.registrations.now.keys c.args.sizes.now.keys
    c.loop-size.found.keys l) c.in-Some.ensures.steps c.loop-size.invariant.left in
    record {
      owners = c.in_ok-gather.ensures.owners;
      left = one_size m c.args.cell c.args.registrations.now.keys c.args.sizes.now.keys c.loop-size.found.keys
          c.gather.new.found.keys c.in-Some.size.now _ left c.in_ok-gather.ensures.kept
          (subst (λ (b : Block). AreFoundIn m c.args.cell c.args.registrations.now.keys b c.gather.new.found.keys)
          c.block_at.ensures c.in_ok-gather.ensures.all);
    }
