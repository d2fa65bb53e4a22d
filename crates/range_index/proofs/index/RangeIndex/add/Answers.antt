use Rattle.std.specs.FinMap.{from_entries}
use Rattle.std.proofs.Common.{subst, sym}
use Rattle.range_index.specs.inner.Around.{IsAround}
use Rattle.range_index.specs.Owners.{Owners}
use Rattle.range_index.specs.inner.Registered.{AreRegistered}
use Rattle.range_index.proofs.Around.{one_more, wider}
use Rattle.range_index.proofs.Kept.{one_more_registered, stay_registered}
use Rattle.range_index.proofs.index.RangeIndex.add.Goals as goal

pub invariant_of-self : goal.invariant_of-self
invariant_of-self c =
    let m : Owners = from_entries c.self.inside.owners.entries in (
      stay_registered m c.self.inside.sizes.keys c.enter.new.sizes.keys c.self.inside.registrations.keys
          c.enter.new.registrations.keys c.enter.ensures.kept c.self.invariant.0,
      wider m c.self.inside.hull c.put.new.self c.put.ensures.kept c.self.invariant.1,
    )

pub invariant_of-self-in_err-put : goal.invariant_of-self-in_err-put
invariant_of-self-in_err-put c =
    let m : Owners = from_entries c.self.inside.owners.entries in (
      subst (λ (m : Owners). AreRegistered m c.enter.new.sizes.keys c.enter.new.registrations.keys)
          (sym c.in_err-put.ensures.err)
          (stay_registered m c.self.inside.sizes.keys c.enter.new.sizes.keys c.self.inside.registrations.keys
          c.enter.new.registrations.keys c.enter.ensures.kept c.self.invariant.0),
      subst (IsAround c.put.new.self) (sym c.in_err-put.ensures.err)
          (wider m c.self.inside.hull c.put.new.self c.put.ensures.kept c.self.invariant.1),
    )

pub invariant_of-self-2 : goal.invariant_of-self-2
invariant_of-self-2 c =
    let m : Owners = from_entries c.self.inside.owners.entries in (
      subst (λ (m : Owners). AreRegistered m c.enter.new.sizes.keys c.enter.new.registrations.keys)
          (sym c.in_ok-put.ensures.ok)
          (one_more_registered m c.enter.new.sizes.keys c.enter.new.registrations.keys c.args.owner c.args.span
          (stay_registered m c.self.inside.sizes.keys c.enter.new.sizes.keys c.self.inside.registrations.keys
          c.enter.new.registrations.keys c.enter.ensures.kept c.self.invariant.0)
          c.in_ok-enter.ensures.done),
      subst (IsAround c.put.new.self) (sym c.in_ok-put.ensures.ok)
          (one_more m c.put.new.self c.args.owner c.args.span
          (wider m c.self.inside.hull c.put.new.self c.put.ensures.kept c.self.invariant.1) c.put.ensures.here),
    )
