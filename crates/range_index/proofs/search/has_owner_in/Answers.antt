use Rattle.std.specs.Prelude.{◌≡◌, List, [], ◌∷◌}
use Rattle.std.specs.BTreeMap.Range.{range_contains}
use Rattle.std.specs.FinMap.{from_entries}
use Rattle.std.specs.List.{filter}
use Rattle.std.specs.Range.{range_inclusive_end}
use Rattle.std.specs.declared.ops.Bound.TheVariants.{Included}
use Rattle.std.proofs.Common.{rules, sym, subst, ◌∙◌, ap}
use Rattle.grid_address.specs.Place.{whole}
use Rattle.range_index.specs.Owners.{Owners}
use Rattle.range_index.specs.inner.Registered.{owned, registration_cmp, AreFoundOrLeft}
use Rattle.range_index.specs.declared.register.Registration.{Registration}
use Rattle.range_index.proofs.Found.{all_left, none_left, one_passed}
use Rattle.range_index.proofs.search.has_owner_in.Goals as goal

pub loop-registration-init : goal.loop-registration-init
loop-registration-init c =
    let between = λ (a b : Registration). filter (range_contains registration_cmp (Included a) (Included b))
    c.args.registrations.now.keys in
    all_left (from_entries c.args.owners.now.entries) c.args.cell c.args.registrations.now.keys c.args.block.now [] _
    (c.into_iter-registration-iterator.ensures.into_iter_gives ∙ c.range-registration-items.ensures.between
    (search rules)
    ∙ ap (λ a. between a (range_inclusive_end c.new.result)) (c.new.ensures.start ∙ c.first_in.ensures)
    ∙ ap (between (owned c.args.block.now whole.first)) (c.new.ensures.end ∙ c.last_in.ensures))

pub loop-registration-preserved : goal.loop-registration-preserved
loop-registration-preserved c =
    let m : Owners = from_entries c.args.owners.now.entries in
    let r : Registration = c.in-Some.registration.now in
    let left : AreFoundOrLeft m c.args.cell c.args.registrations.now.keys c.args.block.now [] (r ∷ c.next.new.self) =
    subst (λ (l : List Registration). AreFoundOrLeft m c.args.cell c.args.registrations.now.keys c.args.block.now [] l)
    c.in-Some.ensures.steps c.loop-registration.invariant in
    one_passed m c.args.cell c.args.registrations.now.keys c.args.block.now [] r _ left (sym c.if-owns.ensures)
