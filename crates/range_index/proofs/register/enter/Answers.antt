use Rattle.std.specs.Prelude.{◌≡◌, true}
use Rattle.std.proofs.Common.{sym, subst}
use Rattle.range_index.proofs.Registrations.{entered, grows, stays}
use Rattle.range_index.specs.inner.Powers.{powers_cmp}
use Rattle.range_index.specs.inner.Registered.{has_registration, registration_cmp}
use Rattle.range_index.proofs.register.enter.Goals as goal

pub returns-clause-done : goal.returns-clause-done
returns-clause-done c = entered _ c.insert.new.self.keys _ c.insert-2.new.self.keys c.size_of-size.result
    c.place_of.result c.args.owner c.args.span
    c.is_on_sheet.ensures c.size_of-size.ensures.one c.size_of-size.ensures.is c.place_of.ensures
    c.in_ok-insert.ensures.updates.0 c.in_ok-insert-2.ensures.updates.0

pub returns-clause-kept : goal.returns-clause-kept
returns-clause-kept c = stays _ _ _ _
    (λ z h. grows powers_cmp _ _ c.size_of-size.result z (c.in_ok-insert.ensures.updates.0 z) h)
    (λ r h. grows registration_cmp _ _ c.place_of.result r (c.in_ok-insert-2.ensures.updates.0 r) h)

pub returns-in_err-insert-2-clause-kept : goal.returns-in_err-insert-2-clause-kept
returns-in_err-insert-2-clause-kept c = stays _ _ _ _
    (λ z h. grows powers_cmp _ _ c.size_of-size.result z (c.in_ok-insert.ensures.updates.0 z) h)
    (λ r h. subst (λ rs. has_registration rs r ≡ true) (sym c.in_err-insert-2.ensures.err) h)
