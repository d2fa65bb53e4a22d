use Rattle.std.specs.Prelude.{List, [], ◌∷◌}
use Rattle.std.specs.FinMap.{from_entries}
use Rattle.std.proofs.Common.{subst}
use Rattle.range_index.specs.Owners.{Owners}
use Rattle.range_index.specs.inner.Powers.{Powers}
use Rattle.range_index.specs.inner.Registered.{AreFoundIn, AreFoundOrCome}
use Rattle.range_index.specs.declared.block.Block.{Block}
use Rattle.range_index.proofs.Found.{all_sizes, none_owned, one_size}
use Rattle.range_index.proofs.search.has_owner.Goals as goal

pub loop-size-preserved : goal.loop-size-preserved
loop-size-preserved c =
    let m : Owners = from_entries c.args.owners.now.entries in
    let left : AreFoundOrCome m c.args.cell c.args.registrations.now.keys c.args.sizes.now.keys []
    (c.in-Some.size.now ∷ c.next.new.self) =
    subst (λ (l : List Powers). AreFoundOrCome m c.args.cell c.args.registrations.now.keys c.args.sizes.now.keys [] l)
    c.in-Some.ensures.steps c.loop-size.invariant in
    one_size m c.args.cell c.args.registrations.now.keys c.args.sizes.now.keys [] [] c.in-Some.size.now _
    left (λ o h. h)
    (subst (λ (b : Block). AreFoundIn m c.args.cell c.args.registrations.now.keys b []) c.block_at.ensures
    (c.has_owner_in.ensures c.if-has_owner_in.false))

pub returns : goal.returns
returns c =
    let m : Owners = from_entries c.args.owners.now.entries in
    let rs = c.args.registrations.now.keys in
    let sizes = c.args.sizes.now.keys in
    λ _. none_owned m c.args.cell rs sizes c.requires (all_sizes m c.args.cell rs sizes [] (subst (λ (l : List Powers).
    AreFoundOrCome m c.args.cell rs sizes [] l) c.in-None.ensures.steps.0 c.loop-size.invariant))
