use Rattle.std.proofs.Common.{ap, sym, subst, ◌∙◌}
use Rattle.std.specs.FinMap.{from_entries, insert}
use Rattle.range_names.specs.Names.{name_cmp, AreKeys, IsKey}
use Rattle.range_names.specs.inner.Spots.{kept_at, AreSpots}
use Rattle.range_names.proofs.Named.{is_key, put_keyed}
use Rattle.range_names.proofs.Written.{moved_spots, put_back_spots}
use Rattle.grid_address.proofs.Maps.{get_entries, inserted}
use Rattle.range_names.proofs.NameMaps.{names_exact, names_total, when_ok}
use Rattle.range_names.proofs.names.Names.create.Goals as goal

pub invariant_of-self-in-Ok : goal.invariant_of-self-in-Ok
invariant_of-self-in-Ok c =
    let names = from_entries {R = name_cmp} c.self.inside.map.entries in
    let key = subst IsKey (sym c.in_ok-key.ensures.ok.1) (is_key c.args.name.now c.in_ok-key.ensures.ok.0) in
    let before =
    get_entries names_total c.self.inside.map.entries c.in_ok-key.key ∙ sym c.in-Ok.ensures.old in
    subst (λ after. AreKeys after × AreSpots c.take_other.new.spots.entries after)
    (sym (inserted names_total names_exact c.self.inside.map.entries c.insert.new.self.entries c.in_ok-key.key
    c.args.span c.in-Ok.ensures.updates.0)) (
      put_keyed _ c.in_ok-key.key c.args.span c.self.invariant.0 key,
      moved_spots names c.in_ok-key.key c.args.span (kept_at c.self.inside.spots.entries)
          (kept_at c.put_spot.new.spots.entries) c.self.invariant.1
          (when_ok c.put_spot.result _ (sym c.is_err.ensures.value ∙ c.if-is_err.false) c.put_spot.ensures.ok)
          (kept_at c.take_other.new.spots.entries)
          c.in-Ok.before before c.take_other.ensures,
    )

pub invariant_of-self-in-Err : goal.invariant_of-self-in-Err
invariant_of-self-in-Err c =
    let names = from_entries {R = name_cmp} c.self.inside.map.entries in
    let absent =
    get_entries names_total c.self.inside.map.entries c.in_ok-key.key ∙ c.in-Err.ensures.absent in
    subst (λ after. AreKeys after × AreSpots c.take_spot.new.spots.entries after)
    (ap (from_entries {R = name_cmp}) (sym c.in-Err.ensures.err)) (
      c.self.invariant.0,
      put_back_spots names c.in_ok-key.key c.args.span (kept_at c.self.inside.spots.entries)
          (kept_at c.put_spot.new.spots.entries) c.self.invariant.1
          (when_ok c.put_spot.result _ (sym c.is_err.ensures.value ∙ c.if-is_err.false) c.put_spot.ensures.ok)
          (kept_at c.take_spot.new.spots.entries) absent
          c.take_spot.ensures,
    )

pub returns-in-Ok-clause-ok : goal.returns-in-Ok-clause-ok
returns-in-Ok-clause-ok c = (
  c.in_ok-key.ensures.ok.0,
  inserted names_total names_exact c.self.inside.map.entries c.insert.new.self.entries c.in_ok-key.key c.args.span
      c.in-Ok.ensures.updates.0
      ∙ ap (λ m. insert m c.in_ok-key.key c.args.span) c.self.view_is
      ∙ ap (λ k. insert c.args.self.now k c.args.span) c.in_ok-key.ensures.ok.1,
)
