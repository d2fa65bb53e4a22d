use Rattle.std.proofs.Common.{◌≡◌, true, false}
use Rattle.grid_address.specs.Place.{same_place}
use Rattle.range_index.specs.inner.Registered.{has_registration}
use Rattle.range_index.specs.declared.register.Registration.{Registration}
use Rattle.range_index.proofs.register.forget.Given as goal

abbrev pub invariant-loop-span : goal.invariant-loop-span
invariant-loop-span l = (r : Registration) → same_place r.owner l.owner ≡ false
    → has_registration l.fn.registrations.keys r ≡ true → has_registration l.registrations.keys r ≡ true
