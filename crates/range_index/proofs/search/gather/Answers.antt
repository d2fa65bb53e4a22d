use Rattle.std.specs.Prelude.{◌≡◌, true, List, ◌∷◌}
use Rattle.std.specs.BTreeMap.Range.{range_contains}
use Rattle.std.specs.FinMap.{from_entries, get}
use Rattle.std.specs.List.{filter}
use Rattle.std.specs.Range.{range_inclusive_end}
use Rattle.std.specs.declared.ops.Bound.TheVariants.{Included}
use Rattle.std.proofs.Common.{rules, sym, subst, inl, inr, ◌∙◌, ap}
use Rattle.grid_address.specs.Place.{whole, Place}
use Rattle.range_index.specs.Owners.{hold, spans_in, Owners}
use Rattle.range_index.specs.inner.Registered.{owned, registration_cmp, AreFoundOrLeft}
use Rattle.range_index.specs.declared.register.Registration.{Registration}
use Rattle.range_index.proofs.Found.{all_left, one_found, one_passed}
use Rattle.range_index.proofs.search.gather.Goals as goal

pub loop-registration-init : goal.loop-registration-init
loop-registration-init c =
    let between = λ (a b : Registration). filter (range_contains registration_cmp (Included a) (Included b))
    c.args.registrations.now.keys in
    record {
      owners = c.requires;
      kept = λ o h. h;
      left = all_left (from_entries c.args.owners.now.entries) c.args.cell c.args.registrations.now.keys
          c.args.block.now c.args.found.now.keys _
          (c.into_iter-registration-iterator.ensures.into_iter_gives ∙ c.range-registration-items.ensures.between
          (search rules)
          ∙ ap (λ a. between a (range_inclusive_end c.new.result)) (c.new.ensures.start ∙ c.first_in.ensures)
          ∙ ap (between (owned c.args.block.now whole.first)) (c.new.ensures.end ∙ c.last_in.ensures));
    }

pub loop-registration-preserved-in-Continue-1 : goal.loop-registration-preserved-in-Continue-1
loop-registration-preserved-in-Continue-1 c =
    let m : Owners = from_entries c.args.owners.now.entries in
    let r : Registration = c.in-Some.registration.now in
    let left : AreFoundOrLeft m c.args.cell c.args.registrations.now.keys c.args.block.now
    c.loop-registration.found.keys (r ∷ c.next.new.self) =
    subst (λ (l : List Registration). AreFoundOrLeft m c.args.cell c.args.registrations.now.keys c.args.block.now
    c.loop-registration.found.keys l) c.in-Some.ensures.steps c.loop-registration.invariant.left in
    record {
      owners = λ o h. elim (c.in_ok-add.ensures.only o h) [
        | inl k ↦ c.loop-registration.invariant.owners o k
        | inr e ↦ subst (λ (q : Place). hold (spans_in (get m q)) c.args.cell ≡ true) (sym e) (sym c.if-owns.ensures)
      ];
      kept = λ o h. c.in_ok-add.ensures.kept o (c.loop-registration.invariant.kept o h);
      left = one_found m c.args.cell c.args.registrations.now.keys c.args.block.now c.loop-registration.found.keys
          c.add.new.found.keys r _ left c.in_ok-add.ensures.kept c.in_ok-add.ensures.has;
    }

pub loop-registration-preserved : goal.loop-registration-preserved
loop-registration-preserved c =
    let m : Owners = from_entries c.args.owners.now.entries in
    let r : Registration = c.in-Some.registration.now in
    let left : AreFoundOrLeft m c.args.cell c.args.registrations.now.keys c.args.block.now
    c.loop-registration.found.keys (r ∷ c.next.new.self) =
    subst (λ (l : List Registration). AreFoundOrLeft m c.args.cell c.args.registrations.now.keys c.args.block.now
    c.loop-registration.found.keys l) c.in-Some.ensures.steps c.loop-registration.invariant.left in
    record {
      owners = c.loop-registration.invariant.owners;
      kept = c.loop-registration.invariant.kept;
      left = one_passed m c.args.cell c.args.registrations.now.keys c.args.block.now c.loop-registration.found.keys r _
          left (sym c.if-owns.ensures);
    }
