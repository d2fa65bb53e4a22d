use Rattle.std.proofs.Common.{ap, sym, subst, ◌∙◌, inr, refl}
use Rattle.std.proofs.lemmas.Option.{none-some}
use Rattle.std.specs.FinMap.{from_entries, get, remove}
use Rattle.range_names.specs.Names.{name_cmp, AreKeys}
use Rattle.range_names.specs.inner.Spots.{kept_at, AreSpots}
use Rattle.range_names.proofs.Named.{removed_keyed}
use Rattle.range_names.proofs.Written.{removed_spots}
use Rattle.grid_address.proofs.Maps.{get_entries, removed}
use Rattle.range_names.proofs.NameMaps.{names_exact, names_total}
use Rattle.range_names.proofs.names.Names.delete.Goals as goal

pub invariant_of-self : goal.invariant_of-self
invariant_of-self c =
    let names = from_entries {R = name_cmp} c.self.inside.map.entries in
    let there =
    get_entries names_total c.self.inside.map.entries c.in_ok-key.key ∙ sym c.in-Some.ensures.value in
    subst (λ after. AreKeys after × AreSpots c.take_spot.new.spots.entries after)
    (sym (removed names_total names_exact c.self.inside.map.entries c.remove.new.self.entries c.in_ok-key.key
    c.remove.ensures.updates.0)) (
      removed_keyed _ c.in_ok-key.key c.self.invariant.0,
      removed_spots names c.in_ok-key.key c.in-Some.span (kept_at c.self.inside.spots.entries)
          (kept_at c.take_spot.new.spots.entries) c.self.invariant.1 there c.take_spot.ensures,
    )

pub returns-in-Some-clause-ok : goal.returns-in-Some-clause-ok
returns-in-Some-clause-ok c = (
  c.in_ok-key.ensures.ok.0,
  removed names_total names_exact c.self.inside.map.entries c.remove.new.self.entries c.in_ok-key.key
      c.remove.ensures.updates.0
      ∙ ap (λ m. remove m c.in_ok-key.key) c.self.view_is
      ∙ ap (λ k. remove c.args.self.now k) c.in_ok-key.ensures.ok.1,
)

pub returns-in-Some-clause-there : goal.returns-in-Some-clause-there
returns-in-Some-clause-there c none =
    none-some _ (sym none ∙ sym (ap (get c.args.self.now) c.in_ok-key.ensures.ok.1)
    ∙ sym (ap (λ m. get m c.in_ok-key.key) c.self.view_is)
    ∙ get_entries names_total c.self.inside.map.entries c.in_ok-key.key ∙ sym c.in-Some.ensures.value)

pub returns-in-None-clause-err : goal.returns-in-None-clause-err
returns-in-None-clause-err c =
    inr (
      c.in_ok-key.ensures.ok.0,
      refl,
      sym (ap (get c.args.self.now) c.in_ok-key.ensures.ok.1) ∙ sym (ap (λ m. get m c.in_ok-key.key) c.self.view_is)
          ∙ get_entries names_total c.self.inside.map.entries c.in_ok-key.key ∙ sym c.in-None.ensures.value,
    )
