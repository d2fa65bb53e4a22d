use Rattle.std.specs.Prelude.{◌≡◌, false}
use Rattle.std.proofs.Common.{subst, sym}
use Rattle.grid_address.specs.Place.{same_place}
use Rattle.range_index.proofs.Registrations.{other_stays}
use Rattle.range_index.specs.declared.register.Registration.{Registration}
use Rattle.range_index.proofs.register.forget.Goals as goal

pub loop-span-preserved : goal.loop-span-preserved
loop-span-preserved c = λ r a e. other_stays c.loop-span.registrations.keys c.remove.new.self.keys c.place_of.result r
    (c.remove.ensures.updates.0 r) (subst (λ (k : Registration). same_place r.owner k.owner ≡ false)
    (sym c.place_of.ensures) a) (c.loop-span.invariant r a e)
