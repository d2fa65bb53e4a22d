use Rattle.std.specs.FinMap.{from_entries, remove}
use Rattle.std.proofs.Common.{ap, subst, sym, ◌∙◌}
use Rattle.grid_address.proofs.Maps.{removed}
use Rattle.grid_address.proofs.Places.{cells_exact, cells_total}
use Rattle.range_index.specs.inner.Around.{IsAround}
use Rattle.range_index.specs.Owners.{Owners}
use Rattle.range_index.specs.inner.Registered.{AreRegistered}
use Rattle.range_index.proofs.Around.{rest}
use Rattle.range_index.proofs.Kept.{rest_registered}
use Rattle.range_index.proofs.index.RangeIndex.remove.Goals as goal

pub invariant_of-self : goal.invariant_of-self
invariant_of-self c =
    let m : Owners = from_entries c.self.inside.owners.entries in
    let gone = removed cells_total cells_exact c.self.inside.owners.entries c.remove.new.self.entries c.args.owner
    c.remove.ensures.updates.0 in (
      subst (λ (m : Owners). AreRegistered m c.self.inside.sizes.keys c.forget.new.registrations.keys) (sym gone)
          (rest_registered m c.self.inside.sizes.keys c.self.inside.registrations.keys c.forget.new.registrations.keys
          c.args.owner c.self.invariant.0 c.forget.ensures),
      subst (IsAround c.self.inside.hull) (sym gone) (rest m c.self.inside.hull c.args.owner c.self.invariant.1),
    )

pub returns-in-Some : goal.returns-in-Some
returns-in-Some c = removed cells_total cells_exact c.self.inside.owners.entries c.remove.new.self.entries c.args.owner
    c.remove.ensures.updates.0 ∙ ap (λ (m : Owners). remove m c.args.owner) c.self.view_is

pub returns-in_default : goal.returns-in_default
returns-in_default c = removed cells_total cells_exact c.self.inside.owners.entries c.remove.new.self.entries
    c.args.owner c.remove.ensures.updates.0 ∙ ap (λ (m : Owners). remove m c.args.owner) c.self.view_is
