-- The civil calendar beside the worksheet's: one day less from 1 March 1900 on.
use Rattle.std.proofs.Common.{◌≡◌, ℕ, zero, suc, ◌+◌, ◌-◌, ◌*◌, ◌/◌, ◌%◌, ◌≤◌, ◌<◌, nat_eq, nat_le, true, false, cond}
use Rattle.std.proofs.Common.{refl, sym, ap, ◌∙◌, arith, ℤ, pos, negsuc, ◌+ℤ◌, int_lt, ◌≤ℤ◌, inl, inr, Option, Some}
use Rattle.std.proofs.Common.{None, Result, Ok, Err}
use Rattle.std.specs.Prelude.{unsigned_abs, IfErr, IsOk}
use Rattle.std.proofs.lemmas.Bool.{cases_Bool}
use Rattle.std.proofs.lemmas.Bool.Decides.{nat_tests}
use Rattle.std.proofs.lemmas.Int.{by_lt_z}
use Rattle.jiff_core.specs.declared.civil.date.Date.{Date}
use Rattle.jiff_core.specs.Calendar.{day_count, days_from_civil, is_leap_year, IsCivilDate, IsDate}
use Rattle.jiff_core.specs.Calendar.{days_in_month as civil_month, days_of_months as civil_months}
use Rattle.jiff_core.specs.Calendar.{days_of_years as civil_years}
use Rattle.jiff_core.specs.Date.{epoch_day, IsYmd}
use Rattle.jiff_core.proofs.CalendarLemmas.{days_from_civil-day_count, days_in_month_bounds, day_count-lt_year}
use Rattle.jiff_core.proofs.DateLemmas.{civil}
use Rattle.jiff_core.proofs.MarchLemmas.{day_count-late, days_of_years-march_days}
use Rattle.jiff_core.proofs.SignedLemmas.{signed_arith}
use Rattle.serial_date.specs.Calendar.{date_of, day_number, days_in_month, days_in_year, is_between, is_date, is_leap}
use Rattle.serial_date.specs.Calendar.{number_of, total}
use Rattle.serial_date.specs.inner.Civil.{days_since_1899, numbered}
use Rattle.serial_date.proofs.DayNumbers.{found, in_calendar, is_small, passes, tested, years_closed, IsCalendarDate}
use Rattle.serial_date.proofs.DayNumbers.{IsSmall, IsTested}
use Rattle.serial_date.proofs.Walks.{total_grows, total_more}

eve_count : day_count (pos 1899) 12 31 ≡ 4_346_385
eve_count = day_count-late (pos 1899) 11899 12 31 refl (omega arith) (omega arith) (omega arith)

-- 31 December 1899 is day 25,568 before 1 January 1970
eve : days_from_civil (pos 1899) 12 31 +ℤ pos 25_568 ≡ pos 0
eve = omega (arith, signed_arith, days_from_civil-day_count (pos 1899) 12 31, eve_count)

since : (d : Date) → days_since_1899 d ≡ epoch_day d +ℤ pos 25_568
since d = omega (arith, signed_arith, eve)

-- the days since 1899, by those since a fixed day long before
pub days_after : (d : Date) (days : ℕ) → epoch_day d +ℤ pos 4_371_587 ≡ pos days
    → days_since_1899 d +ℤ pos 4_346_019 ≡ pos days
days_after d days e = omega (arith, signed_arith, since d, e)

-- 31 December 1899 is 25,568 days before 1970
pub eve_date : (d : Date) → IsYmd (pos 1899) (pos 12) (pos 31) d → epoch_day d +ℤ pos 25_568 ≡ pos 0
eve_date d is =
    let month : d.month ≡ 12 = omega (arith, signed_arith, is.1) in
    let day : d.day ≡ 31 = omega (arith, signed_arith, is.2) in
    rw (is.0, month, day) eve

counted : (d : Date) → days_since_1899 d +ℤ pos 4_346_385 ≡ pos (day_count d.year d.month d.day)
counted d = omega (arith, signed_arith, since d, days_from_civil-day_count d.year d.month d.day)

leap_agrees : (y : ℕ) → 1901 ≤ y → y ≤ 2099 → is_leap_year (pos y) ≡ is_leap y
leap_agrees y from upto = grind (arith, nat_tests, from, upto)

month_agrees : (y m : ℕ) → 1901 ≤ y → y ≤ 2099 → civil_month (pos y) m ≡ days_in_month y m
unfolding days_in_month
month_agrees y m from upto = rw (leap_agrees y from upto) refl

months_agree : (y n : ℕ) → 1901 ≤ y → y ≤ 2099 → civil_months (pos y) n ≡ total (days_in_month y) 1 n
unfolding civil_months
months_agree y zero from upto = unfold total in refl
months_agree y (suc n) from upto =
    let same : 1 + n ≡ suc n = omega arith in
    omega (
      arith,
      months_agree y n from upto,
      month_agrees y (suc n) from upto,
      total_more (days_in_month y) 1 n,
      ap (days_in_month y) same,
    )

-- from March on the year 1900 has a day less
abbrev less : ℕ → ℕ
less n = cond (nat_le 2 n) 1 0

month_1900 : (n : ℕ) → civil_month (pos 1900) (suc n) + less (suc n) ≡ days_in_month 1900 (suc n) + less n
unfolding days_in_month
month_1900 zero = refl
month_1900 (suc zero) = refl
month_1900 (suc (suc n)) = grind (arith, nat_tests)

months_1900 : (n : ℕ) → civil_months (pos 1900) n + less n ≡ total (days_in_month 1900) 1 n
unfolding civil_months
months_1900 zero = unfold total in refl
months_1900 (suc n) =
    let same : 1 + n ≡ suc n = omega arith in
    omega (arith, months_1900 n, month_1900 n, total_more (days_in_month 1900) 1 n, ap (days_in_month 1900) same)

first_year : civil_years 11900 ≡ 4_346_386
first_year =
    (let closed : civil_years 11900 + 0 ≡ 4_346_385 + 1 = days_of_years-march_days 11900 in omega (arith, closed))

shifted_leap : (k : ℕ) → 1 ≤ k → k ≤ 199 → is_leap_year (pos (11900 + k)) ≡ is_leap (1900 + k)
shifted_leap k from upto = grind (arith, nat_tests, from, upto)

later_year : (k : ℕ) → 1 ≤ k → k ≤ 199 → civil_years (11900 + k) + 1 ≡ 4_346_386 + total days_in_year 1900 k
later_year k from upto = elim (cases_Bool (is_leap (1900 + k))) [
  | inl leap ↦ (let four : (1900 + k) % 4 ≡ 0 = grind (arith, nat_tests, leap) in
      let closed : civil_years (11900 + k) + 1
      ≡ 365 * (11900 + k) + (11900 + k) / 4 - (11900 + k) / 100 + (11900 + k) / 400 + 1 =
      ap (λ t. civil_years (11900 + k) + cond t 1 0) (sym (shifted_leap k from upto ∙ leap))
      ∙ days_of_years-march_days (11900 + k) in
      omega (arith, closed, four, years_closed k, from, upto))
  | inr other ↦ (let apart : 0 < (1900 + k) % 4 = grind (arith, nat_tests, other) in
      let closed : civil_years (11900 + k) + 0
      ≡ 365 * (11900 + k) + (11900 + k) / 4 - (11900 + k) / 100 + (11900 + k) / 400 + 1 =
      ap (λ t. civil_years (11900 + k) + cond t 1 0) (sym (shifted_leap k from upto ∙ other))
      ∙ days_of_years-march_days (11900 + k) in
      omega (arith, closed, apart, years_closed k, from, upto))
]

count_is : (y m dd : ℕ) → day_count (pos y) m dd ≡ civil_years (y + 10000) + (civil_months (pos y) (m - 1) + dd - 1)
unfolding day_count
count_is y m dd = refl

-- up to 28 February 1900 a day's number is its count
pub numbered_low : (z : ℤ) (n : ℕ) → z ≡ pos n → n < 60 → numbered z ≡ pos n
numbered_low z n is low =
    rw is (let test : int_lt (pos n) (pos 60) ≡ true = grind (arith, nat_tests, low) in rw test refl)

-- from 1 March 1900 on it is one more
pub numbered_high : (z : ℤ) (n : ℕ) → z ≡ pos n → 60 ≤ n → numbered z ≡ pos (n + 1)
numbered_high z n is high =
    rw is (let test : int_lt (pos n) (pos 60) ≡ false = grind (arith, nat_tests, high) in rw test refl)

-- the days of a date since 1899, by its place in its year
placed : (d : Date) (y k : ℕ) → d.year ≡ pos y → y ≡ 1900 + k
    → days_since_1899 d +ℤ pos 4_346_386 ≡ pos (civil_years (11900 + k) + (civil_months (pos y) (d.month - 1) + d.day))
placed d y k is is_k =
    let year : y + 10000 ≡ 11900 + k = omega (arith, is_k) in
    omega (
      arith,
      signed_arith,
      counted d,
      ap (λ z. day_count z d.month d.day) is,
      count_is y d.month d.day,
      ap civil_years year,
      d.day_in.0,
    )

no_years : total days_in_year 1900 0 ≡ 0
unfolding total
no_years = refl

january : total (days_in_month 1900) 1 1 ≡ 31
unfolding total days_in_month
january = refl

two_months : total (days_in_month 1900) 1 2 ≡ 60
unfolding total days_in_month
two_months = refl

no_months : total (days_in_month 1900) 1 0 ≡ 0
unfolding total
no_months = refl

since_1900 : (d : Date) → d.year ≡ pos 1900 → days_since_1899 d ≡ pos (civil_months (pos 1900) (d.month - 1) + d.day)
since_1900 d is = (let all = placed d 1900 0 is refl in
    let year : civil_years (11900 + 0) ≡ 4_346_386 = first_year in
    omega (arith, signed_arith, all, year))

-- before March
early_1900 : (d : Date) → d.year ≡ pos 1900 → d.month - 1 < 2 → civil_months (pos 1900) (d.month - 1) + d.day < 60
early_1900 d is early = elim (cases_Bool (nat_le 1 (d.month - 1))) [
  | inl second ↦ (let month : d.month - 1 ≡ 1 = grind (arith, nat_tests, second, early) in
      let two : d.month ≡ 2 = omega (arith, month) in
      let days : civil_month d.year d.month ≡ 28 = rw (is, two) refl in
      let first : civil_months (pos 1900) (d.month - 1) ≡ civil_months (pos 1900) 1 =
      ap (civil_months (pos 1900)) month in
      let thirty_one : civil_months (pos 1900) 1 + less 1 ≡ 31 = months_1900 1 ∙ january in
      omega (arith, first, thirty_one, days, d.day_in.1))
  | inr first ↦ (let month : d.month - 1 ≡ 0 = grind (arith, nat_tests, first) in
      let none : civil_months (pos 1900) (d.month - 1) ≡ civil_months (pos 1900) 0 =
      ap (civil_months (pos 1900)) month in
      let zero_days : civil_months (pos 1900) 0 + less 0 ≡ 0 = months_1900 0 ∙ no_months in
      omega (arith, none, zero_days, d.day_in.1, (days_in_month_bounds d.year d.month).0))
]

in_1900 : (d : Date) → d.year ≡ pos 1900 → numbered (days_since_1899 d) ≡ pos (number_of 1900 d.month d.day)
in_1900 d is =
    let n : ℕ = d.month - 1 in
    elim (cases_Bool (nat_le 2 n)) [
      | inl late ↦ (let from : 2 ≤ n = grind (arith, nat_tests, late) in
          let one : less n ≡ 1 = rw late refl in
          let grows : total (days_in_month 1900) 1 2 ≤ total (days_in_month 1900) 1 (2 + (n - 2)) =
          total_grows (days_in_month 1900) 1 2 (n - 2) in
          let same : 2 + (n - 2) ≡ n = omega (arith, from) in
          let large : 60 ≤ civil_months (pos 1900) n + d.day =
          omega (arith, grows, ap (total (days_in_month 1900) 1) same, two_months, months_1900 n, one, d.day_in.0) in
          let number : civil_months (pos 1900) n + d.day + 1 ≡ number_of 1900 d.month d.day =
          omega (arith, months_1900 n, one, no_years) in
          numbered_high (days_since_1899 d) (civil_months (pos 1900) n + d.day) (since_1900 d is) large ∙ ap pos number)
      | inr early ↦ (let upto : n < 2 = grind (arith, nat_tests, early) in
          let none : less n ≡ 0 = rw early refl in
          let number : civil_months (pos 1900) n + d.day ≡ number_of 1900 d.month d.day =
          omega (arith, months_1900 n, none, no_years) in
          numbered_low (days_since_1899 d) (civil_months (pos 1900) n + d.day) (since_1900 d is) (early_1900 d is upto)
          ∙ ap pos number)
    ]

one_day_later : (d : Date) (y k : ℕ) → d.year ≡ pos y → y ≡ 1900 + suc k → k ≤ 198
    → numbered (days_since_1899 d) ≡ pos (number_of y d.month d.day)
one_day_later d y k is is_k upto =
    let years : civil_years (11900 + suc k) + 1 ≡ 4_346_386 + total days_in_year 1900 (suc k) =
    later_year (suc k) (omega arith) (omega (arith, upto)) in
    let months : civil_months (pos y) (d.month - 1) ≡ total (days_in_month y) 1 (d.month - 1) =
    months_agree y (d.month - 1) (omega (arith, is_k)) (omega (arith, is_k, upto)) in
    let days : ℕ = total days_in_year 1900 (suc k) + (total (days_in_month y) 1 (d.month - 1) + d.day) - 1 in
    let all = placed d y (suc k) is is_k in
    let since_is : days_since_1899 d ≡ pos days = omega (arith, signed_arith, all, years, months, d.day_in.0) in
    let large : 60 ≤ days = omega (arith, years_closed (suc k), d.day_in.0) in
    let year : y - 1900 ≡ suc k = omega (arith, is_k) in
    let number : days + 1 ≡ number_of y d.month d.day = omega (arith, ap (total days_in_year 1900) year, d.day_in.0) in
    numbered_high (days_since_1899 d) days since_is large ∙ ap pos number

-- a date's number is the worksheet's number of it
pub one_day_less : (d : Date) (y : ℕ) → d.year ≡ pos y → 1900 ≤ y → y ≤ 2099
    → numbered (days_since_1899 d) ≡ pos (number_of y d.month d.day)
one_day_less d y is from upto = elim (cases_Bool (nat_le y 1900)) [
  | inl first ↦
      (let same : y ≡ 1900 = grind (arith, nat_tests, first, from) in
      in_1900 d (is ∙ ap pos same) ∙ ap (λ k. pos (number_of k d.month d.day)) (sym same))
  | inr later ↦
      (let past : 1900 < y = grind (arith, nat_tests, later) in
      one_day_later d y (y - 1901) is (omega (arith, past)) (omega (arith, upto)))
]

civil_month_upto : (m : ℕ) → civil_month (pos 1900) m ≤ days_in_month 1900 m
unfolding days_in_month
civil_month_upto m = grind (arith, nat_tests)

month_upto : (y m : ℕ) → 1900 ≤ y → y ≤ 2099 → civil_month (pos y) m ≤ days_in_month y m
month_upto y m from upto = elim (cases_Bool (nat_le y 1900)) [
  | inl first ↦
      (let same : y ≡ 1900 = grind (arith, nat_tests, first, from) in
      omega (arith, civil_month_upto m, ap (λ k. civil_month (pos k) m) same, ap (λ k. days_in_month k m) same))
  | inr later ↦
      (let past : 1900 < y = grind (arith, nat_tests, later) in
      omega (arith, month_agrees y m (omega (arith, past)) upto))
]

-- a date of the civil calendar in these years, with its number
pub record HasNumber (d : Date) : Type 0 where
  pub y : ℕ
  pub days : ℕ
  pub year : d.year ≡ pos y
  pub calendar : IsCalendarDate y d.month d.day
  pub since : days_since_1899 d ≡ pos days
  pub number : numbered (pos days) ≡ pos (number_of y d.month d.day)
  pub from : 1 ≤ days
  pub upto : days ≤ 73050

-- a positive day number comes of positive days
pub record ComesOf (z : ℤ) (n : ℕ) : Type 0 where
  days : ℕ
  is : z ≡ pos days
  from : 1 ≤ days
  upto : days ≤ n

comes_of : (z : ℤ) (n : ℕ) → 1 ≤ n → numbered z ≡ pos n → ComesOf z n
comes_of (pos days) n more e =
    record {
      days = days;
      is = refl;
      from = grind (arith, signed_arith, e, more);
      upto = grind (arith, signed_arith, e, more);
    }
comes_of (negsuc k) n more e = absurd (grind (arith, signed_arith, e, more))

in_calendar_too : (d : Date) (y : ℕ) → d.year ≡ pos y → 1900 ≤ y → y ≤ 2099 → IsCalendarDate y d.month d.day
in_calendar_too d y is from upto = record {
  first_year = from;
  last_year = upto;
  first_month = d.month_in.0;
  last_month = d.month_in.1;
  first_day = d.day_in.0;
  last_day = omega (arith, d.day_in.1, ap (λ z. civil_month z d.month) is, month_upto y d.month from upto);
}

has_number_at : (d : Date) (z : ℤ) → d.year ≡ z → pos 1900 ≤ℤ z → z ≤ℤ pos 2099 → HasNumber d
has_number_at d (pos y) is from upto =
    let low : 1900 ≤ y = omega (arith, signed_arith, from) in
    let high : y ≤ 2099 = omega (arith, signed_arith, upto) in
    let calendar : IsCalendarDate y d.month d.day = in_calendar_too d y is low high in
    let in_range = in_calendar y d.month d.day calendar in
    let number : numbered (days_since_1899 d) ≡ pos (number_of y d.month d.day) = one_day_less d y is low high in
    let days : ComesOf (days_since_1899 d) (number_of y d.month d.day) =
    comes_of (days_since_1899 d) (number_of y d.month d.day) in_range.0 number in
    record {
      y = y;
      days = days.days;
      year = is;
      calendar = calendar;
      since = days.is;
      number = ap numbered (sym days.is) ∙ number;
      from = days.from;
      upto = omega (arith, days.upto, in_range.1);
    }
has_number_at d (negsuc k) is from upto = absurd (omega (arith, signed_arith, from))

-- every date from 1900 to 2099 has a number
pub has_number : (d : Date) → pos 1900 ≤ℤ d.year → d.year ≤ℤ pos 2099 → HasNumber d
has_number d from upto = has_number_at d d.year refl from upto

-- which its parts tell
pub number_of_date : (d : Date) (has : HasNumber d)
    → day_number d.year (pos d.month) (pos d.day) ≡ Some (number_of has.y d.month d.day)
number_of_date d has = rw (has.year, passes has.y d.month d.day has.calendar) refl

-- the day number by its days
pub dated : (d : Date) (days n : ℕ) → pos 1900 ≤ℤ d.year → d.year ≤ℤ pos 2099 → pos days ≡ days_since_1899 d
    → numbered (pos days) ≡ pos n → Some n ≡ day_number d.year (pos d.month) (pos d.day)
dated d days n from upto since_is e =
    let has : HasNumber d = has_number d from upto in
    let number : n ≡ number_of has.y d.month d.day =
    ap unsigned_abs (sym e ∙ ap numbered (since_is ∙ has.since) ∙ has.number) in
    ap Some number ∙ sym (number_of_date d has)

last_count : day_count (pos 2099) 12 31 ≡ 4_419_434
last_count = day_count-late (pos 2099) 12099 12 31 refl (omega arith) (omega arith) (omega arith)

first_count : day_count (pos 1900) 1 1 ≡ 4_346_386
first_count =
    count_is 1900 1 1 ∙ (let none : civil_months (pos 1900) 0 + less 0 ≡ 0 = months_1900 0 ∙ no_months in
    omega (arith, none, first_year))

-- a day number from 1 to 73050 is that of a date in these years
pub in_years : (d : Date) (n : ℕ) → 1 ≤ n → n ≤ 73050 → pos n ≡ numbered (days_since_1899 d)
    → (pos 1900 ≤ℤ d.year) × (d.year ≤ℤ pos 2099)
in_years d n more below e =
    let days : ComesOf (days_since_1899 d) n = comes_of (days_since_1899 d) n more (sym e) in
    let count = counted d in
    let last : IsCivilDate (pos 2099) 12 31 = (
      (omega (arith, signed_arith), omega (arith, signed_arith)),
      (omega arith, omega arith),
      (omega arith, omega arith),
    ) in (
      by_lt_z d.year (pos 1900)
          (λ lt. absurd (omega (
            arith,
            signed_arith,
            count,
            days.is,
            days.from,
            first_count,
            day_count-lt_year d.year d.month d.day (pos 1900) 1 1 (civil d) (omega arith) lt,
          ))) (λ ge. ge),
      by_lt_z (pos 2099) d.year
          (λ lt. (let past : 73050 ≤ days.days =
          omega (
            arith,
            signed_arith,
            count,
            days.is,
            last_count,
            day_count-lt_year (pos 2099) 12 31 d.year d.month d.day last d.day_in.0 lt,
          ) in
          absurd (omega (
            arith,
            signed_arith,
            past,
            below,
            e,
            numbered_high (days_since_1899 d) days.days days.is (omega (arith, past)),
          )))) (λ le. le),
    )

-- a number leads back to the date that has it
pub date_found : (d : Date) (y m dd : ℤ) (n : ℕ) → 1 ≤ n → n ≤ 73050 → pos n ≡ numbered (days_since_1899 d)
    → IsYmd y m dd d → date_of n ≡ Some (record { year = y; month = m; day = dd })
date_found d y m dd n more below e is =
    let years = in_years d n more below e in
    let has : HasNumber d = has_number d years.0 years.1 in
    let number : n ≡ number_of has.y d.month d.day = ap unsigned_abs (e ∙ ap numbered has.since ∙ has.number) in
    ap date_of number ∙ found has.y d.month d.day has.calendar
    ∙ ap (λ z. Some (record { year = z; month = pos d.month; day = pos d.day })) (sym has.year ∙ is.0)
    ∙ ap (λ z. Some (record { year = y; month = z; day = pos d.day })) is.1
    ∙ ap (λ z. Some (record { year = y; month = m; day = z })) is.2

other_month : (m : ℕ) → (m ≡ 2 → ⊥) → civil_month (pos 1900) m ≡ days_in_month 1900 m
unfolding days_in_month
other_month m other = grind (arith, nat_tests, other)

february : days_in_month 1900 2 ≡ 29
unfolding days_in_month
february = refl

fits_1900 : (m d : ℕ) → d ≤ days_in_month 1900 m → ((m ≡ 2) × (d ≡ 29) → ⊥) → d ≤ civil_month (pos 1900) m
fits_1900 m d below other = elim (cases_Bool (nat_eq m 2)) [
  | inl second ↦ (let same : m ≡ 2 = grind (arith, nat_tests, second) in
      let days : days_in_month 1900 m ≡ 29 = ap (days_in_month 1900) same ∙ february in
      let civil_days : civil_month (pos 1900) m ≡ 28 = ap (civil_month (pos 1900)) same in
      let apart : d ≡ 29 → ⊥ = λ e. other (same, e) in
      omega (arith, below, days, civil_days, apart))
  | inr else_month ↦
      (let apart : m ≡ 2 → ⊥ = grind (arith, nat_tests, else_month) in omega (arith, below, other_month m apart))
]

fits : (y m d : ℕ) → IsCalendarDate y m d → ((y ≡ 1900) × (m ≡ 2) × (d ≡ 29) → ⊥) → d ≤ civil_month (pos y) m
fits y m d is other = elim (cases_Bool (nat_le y 1900)) [
  | inl first ↦ (let same : y ≡ 1900 = grind (arith, nat_tests, first, is.first_year) in
      omega (
        arith,
        ap (λ k. civil_month (pos k) m) same,
        fits_1900 m d (omega (arith, is.last_day, ap (λ k. days_in_month k m) same)) (λ e. other (same, e.0, e.1)),
      ))
  | inr later ↦
      (let past : 1900 < y = grind (arith, nat_tests, later) in
      omega (arith, is.last_day, month_agrees y m (omega (arith, past)) is.last_year))
]

-- but for one date the civil calendar has them all
pub civil_too : (y m d : ℤ) → is_date y m d ≡ true → ((y ≡ pos 1900) × (m ≡ pos 2) × (d ≡ pos 29) → ⊥) → IsDate y m d
civil_too y m d h other =
    let t : IsTested y m d = tested y m d h in
    let low : t.day ≤ civil_month (pos t.year) t.month =
    fits t.year t.month t.day t.is
    (λ e. other (t.year_is ∙ ap pos e.0, t.month_is ∙ ap pos e.1, t.day_is ∙ ap pos e.2)) in
    let length : civil_month y (unsigned_abs m) ≡ civil_month (pos t.year) t.month =
    ap (λ z. civil_month z (unsigned_abs m)) t.year_is
    ∙ ap (λ z. civil_month (pos t.year) (unsigned_abs z)) t.month_is in (
      (omega (arith, signed_arith, t.year_is), omega (arith, signed_arith, t.year_is, t.is.last_year)),
      (
        omega (arith, signed_arith, t.month_is, t.is.first_month),
        omega (arith, signed_arith, t.month_is, t.is.last_month),
      ),
      (omega (arith, signed_arith, t.day_is, t.is.first_day), omega (arith, signed_arith, t.day_is, low, length)),
    )

-- 29 February 1900, which never was, is day 60
pub leap_day_number : day_number (pos 1900) (pos 2) (pos 29) ≡ Some 60
unfolding total days_in_month days_in_year
leap_day_number = refl

-- day 60 is that day
pub leap_day_found : (y m d : ℤ) → (y ≡ pos 1900) × (m ≡ pos 2) × (d ≡ pos 29) → Some 60 ≡ day_number y m d
leap_day_found y m d is =
    sym (ap (λ z. day_number z m d) is.0 ∙ ap (λ z. day_number (pos 1900) z d) is.1
    ∙ ap (λ z. day_number (pos 1900) (pos 2) z) is.2 ∙ leap_day_number)

-- a date that neither calendar has
pub no_number : (y m d : ℤ) → (IsDate y m d → ⊥) → ((y ≡ pos 1900) × (m ≡ pos 2) × (d ≡ pos 29) → ⊥)
    → ◌≡◌ {A = Option ℕ} None (day_number y m d)
no_number y m d none other = elim (cases_Bool (is_date y m d)) [
  | inl right ↦ absurd (none (civil_too y m d right other))
  | inr wrong ↦ rw wrong refl
]

-- the test of a year tells its bounds
pub years_tested : (z : ℤ) → is_between 1900 2099 z ≡ true → (pos 1900 ≤ℤ z) × (z ≤ℤ pos 2099)
years_tested z h =
    (let small : IsSmall 1900 2099 z = is_small 1900 2099 z h in
    (omega (arith, signed_arith, small.is, small.from), omega (arith, signed_arith, small.is, small.upto)))

-- an answer that is Ok is no Err
pub ok_is_no_err : {T E : Type 0} (r : Result T E) → IsOk r → IfErr r (λ _. ⊥)
ok_is_no_err (Ok x) h = tt
ok_is_no_err (Err e) h = absurd cc
