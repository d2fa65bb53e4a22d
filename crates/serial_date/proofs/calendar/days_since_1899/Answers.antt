use Rattle.std.proofs.Common.{arith, ap, sym, ◌∙◌, pos, ◌+ℤ◌}
use Rattle.jiff_core.specs.Date.{epoch_day}
use Rattle.jiff_core.proofs.SignedLemmas.{signed_arith}
use Rattle.serial_date.proofs.CivilDates.{days_after, has_number}
use Rattle.serial_date.proofs.calendar.days_since_1899.Goals as goal

pub overflow_sub-result : goal.overflow_sub-result
overflow_sub-result c =
    let has = has_number c.args.date c.requires.from c.requires.upto in
    let after =
    days_after c.args.date c.days_since_min.result
    (ap (λ d. epoch_day d +ℤ pos 4_371_587) (sym c.to_plain.ensures) ∙ c.days_since_min.ensures.value) in
    omega (arith, signed_arith, after, has.since)

pub returns-clause-days : goal.returns-clause-days
returns-clause-days c =
    let has = has_number c.args.date c.requires.from c.requires.upto in
    let after =
    days_after c.args.date c.days_since_min.result
    (ap (λ d. epoch_day d +ℤ pos 4_371_587) (sym c.to_plain.ensures) ∙ c.days_since_min.ensures.value) in
    omega (arith, signed_arith, after, has.since)

pub returns-clause-bound : goal.returns-clause-bound
returns-clause-bound c =
    let has = has_number c.args.date c.requires.from c.requires.upto in
    let after =
    days_after c.args.date c.days_since_min.result
    (ap (λ d. epoch_day d +ℤ pos 4_371_587) (sym c.to_plain.ensures) ∙ c.days_since_min.ensures.value) in
    omega (arith, signed_arith, after, has.since, has.upto)
