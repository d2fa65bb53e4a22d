-- Dates by their day numbers.
use Rattle.std.proofs.Common.{◌≡◌, ℕ, zero, suc, ◌+◌, ◌-◌, ◌*◌, ◌/◌, ◌%◌, ◌≤◌, ◌<◌, nat_le, Bool, true, false, refl}
use Rattle.std.proofs.Common.{sym, ap, ◌∙◌, subst, arith, ℤ, pos, negsuc, inl, inr, Option, Some, None}
use Rattle.std.specs.Prelude.{◌&&◌, unsigned_abs}
use Rattle.std.proofs.lemmas.Bool.{and_parts, cases_Bool}
use Rattle.std.proofs.lemmas.Bool.Decides.{nat_tests}
use Rattle.serial_date.specs.declared.calendar.Civil.{Civil}
use Rattle.serial_date.specs.Calendar.{date_at, date_of, day_number, days_in_month, days_in_year, is_between, is_date}
use Rattle.serial_date.specs.Calendar.{is_leap, number_of, piece_of, total}
use Rattle.serial_date.proofs.Walks.{lies_in, total_grows, total_more, walk, IsIn}

year_days : (n : ℕ) → days_in_year (1900 + n) + (n + 3) / 4 ≡ 365 + (suc n + 3) / 4
unfolding days_in_year
year_days n = elim (cases_Bool (is_leap (1900 + n))) [
  | inl leap ↦ (let four : (1900 + n) % 4 ≡ 0 = grind (arith, nat_tests, leap) in rw leap (omega (arith, four)))
  | inr other ↦ (let apart : 0 < (1900 + n) % 4 = grind (arith, nat_tests, other) in rw other (omega (arith, apart)))
]

-- the days of the first years, in closed form
pub years_closed : (n : ℕ) → total days_in_year 1900 n ≡ 365 * n + (n + 3) / 4
years_closed zero = unfold total in refl
years_closed (suc n) = omega (arith, years_closed n, total_more days_in_year 1900 n, year_days n)

-- a year's months are its days
pub year_months : (y : ℕ) → total (days_in_month y) 1 12 ≡ days_in_year y
unfolding total days_in_month days_in_year
year_months y = elim (cases_Bool (is_leap y)) [ inl leap ↦ rw leap refl | inr other ↦ rw other refl ]

-- a date of the calendar
pub record IsCalendarDate (y m d : ℕ) : Type 0 where
  pub first_year : 1900 ≤ y
  pub last_year : y ≤ 2099
  pub first_month : 1 ≤ m
  pub last_month : m ≤ 12
  pub first_day : 1 ≤ d
  pub last_day : d ≤ days_in_month y m

-- its place in the year
in_year : (y m d : ℕ) → IsCalendarDate y m d → total (days_in_month y) 1 (m - 1) + d ≤ days_in_year y
in_year y m d is =
    let month : total (days_in_month y) 1 (suc (m - 1))
    ≡ total (days_in_month y) 1 (m - 1) + days_in_month y (1 + (m - 1)) = total_more (days_in_month y) 1 (m - 1) in
    let same : 1 + (m - 1) ≡ m = omega (arith, is.first_month) in
    let length : days_in_month y (1 + (m - 1)) ≡ days_in_month y m = ap (days_in_month y) same in
    let all : total (days_in_month y) 1 (suc (m - 1)) ≤ total (days_in_month y) 1 (suc (m - 1) + (12 - m)) =
    total_grows (days_in_month y) 1 (suc (m - 1)) (12 - m) in
    let twelve : suc (m - 1) + (12 - m) ≡ 12 = omega (arith, is.first_month, is.last_month) in
    omega (arith, month, length, all, ap (total (days_in_month y) 1) twelve, year_months y, is.last_day)

-- the number of a date of the calendar is in its range
pub in_calendar : (y m d : ℕ) → IsCalendarDate y m d → (1 ≤ number_of y m d) × (number_of y m d ≤ 73050)
in_calendar y m d is =
    let same : 1900 + (y - 1900) ≡ y = omega (arith, is.first_year) in (
      omega (arith, is.first_day),
      omega (
        arith,
        in_year y m d is,
        is.last_year,
        years_closed (y - 1900),
        years_closed (suc (y - 1900)),
        total_more days_in_year 1900 (y - 1900),
        ap days_in_year same,
      ),
    )

-- the date of its number
pub found : (y m d : ℕ) → IsCalendarDate y m d → date_of (number_of y m d) ≡ Some (date_at y m d)
found y m d is =
    let r : ℕ = total (days_in_month y) 1 (m - 1) + d in
    let in_range = in_calendar y m d is in
    let test : (nat_le 1 (number_of y m d) && nat_le (number_of y m d) 73050) ≡ true =
    grind (arith, nat_tests, in_range.0, in_range.1) in
    let year_is : 1900 + (y - 1900) ≡ y = omega (arith, is.first_year) in
    let month_is : 1 + (m - 1) ≡ m = omega (arith, is.first_month) in
    let year : piece_of days_in_year 199 1900 (total days_in_year 1900 (y - 1900) + r) ≡ (y, r) =
    walk days_in_year (y - 1900) 199 1900 r (omega (arith, is.last_year)) (omega (arith, is.first_day))
    (subst (λ k. r ≤ days_in_year k) (sym year_is) (in_year y m d is)) ∙ ap (λ k. (k, r)) year_is in
    let month : piece_of (days_in_month y) 11 1 r ≡ (m, d) =
    walk (days_in_month y) (m - 1) 11 1 d (omega (arith, is.last_month)) is.first_day
    (subst (λ k. d ≤ days_in_month y k) (sym month_is) is.last_day) ∙ ap (λ k. (k, d)) month_is in
    rw (test, year, month) refl

-- a day number is that of a date
pub record HasDate (n : ℕ) : Type 0 where
  pub y : ℕ
  pub m : ℕ
  pub d : ℕ
  pub is : IsCalendarDate y m d
  pub number : n ≡ number_of y m d

-- every number in the range has a date
pub has_date : (n : ℕ) → 1 ≤ n → n ≤ 73050 → HasDate n
has_date n more below =
    let year : IsIn days_in_year 199 1900 n =
    lies_in days_in_year 199 1900 n more (omega (arith, below, years_closed 200)) in
    let y : ℕ = 1900 + year.j in
    let month : IsIn (days_in_month y) 11 1 year.r =
    lies_in (days_in_month y) 11 1 year.r year.from (omega (arith, year.upto, year_months y)) in
    let year_is : 1900 + year.j - 1900 ≡ year.j = omega arith in
    let month_is : 1 + month.j - 1 ≡ month.j = omega arith in
    record {
      y = y;
      m = 1 + month.j;
      d = month.r;
      is = record {
        first_year = omega arith;
        last_year = omega (arith, year.few);
        first_month = omega arith;
        last_month = omega (arith, month.few);
        first_day = month.from;
        last_day = month.upto;
      };
      number =
          omega (
            arith,
            year.is,
            month.is,
            ap (total days_in_year 1900) year_is,
            ap (total (days_in_month y) 1) month_is,
          );
    }

-- a signed number within bounds
pub record IsSmall (low high : ℕ) (z : ℤ) : Type 0 where
  pub n : ℕ
  pub is : z ≡ pos n
  pub from : low ≤ n
  pub upto : n ≤ high

-- a number between two counts is its size
pub is_small : (low high : ℕ) (z : ℤ) → is_between low high z ≡ true → IsSmall low high z
is_small low high (pos n) h =
    record { n = n; is = refl; from = grind (arith, nat_tests, h); upto = grind (arith, nat_tests, h) }
is_small low high (negsuc n) h = absurd cc

small_is : (low high n : ℕ) → low ≤ n → n ≤ high → is_between low high (pos n) ≡ true
small_is low high n from upto = grind (arith, nat_tests, from, upto)

-- the test of signed parts
pub record IsTested (y m d : ℤ) : Type 0 where
  pub year : ℕ
  pub month : ℕ
  pub day : ℕ
  pub year_is : y ≡ pos year
  pub month_is : m ≡ pos month
  pub day_is : d ≡ pos day
  pub is : IsCalendarDate year month day

-- the test of a date tells a date of the calendar
pub tested : (y m d : ℤ) → is_date y m d ≡ true → IsTested y m d
tested y m d h =
    let later : (is_between 1 12 m && is_between 1 (days_in_month (unsigned_abs y) (unsigned_abs m)) d) ≡ true =
    (and_parts (is_between 1900 2099 y)
    (is_between 1 12 m && is_between 1 (days_in_month (unsigned_abs y) (unsigned_abs m)) d) h).1 in
    let year : IsSmall 1900 2099 y =
    is_small 1900 2099 y (and_parts (is_between 1900 2099 y)
    (is_between 1 12 m && is_between 1 (days_in_month (unsigned_abs y) (unsigned_abs m)) d) h).0 in
    let month : IsSmall 1 12 m =
    is_small 1 12 m (and_parts (is_between 1 12 m) (is_between 1 (days_in_month (unsigned_abs y) (unsigned_abs m)) d)
    later).0 in
    let day : IsSmall 1 (days_in_month (unsigned_abs y) (unsigned_abs m)) d =
    is_small 1 (days_in_month (unsigned_abs y) (unsigned_abs m)) d
    (and_parts (is_between 1 12 m) (is_between 1 (days_in_month (unsigned_abs y) (unsigned_abs m)) d) later).1 in
    record {
      year = year.n;
      month = month.n;
      day = day.n;
      year_is = year.is;
      month_is = month.is;
      day_is = day.is;
      is = record {
        first_year = year.from;
        last_year = year.upto;
        first_month = month.from;
        last_month = month.upto;
        first_day = day.from;
        last_day =
            subst (λ k. day.n ≤ k) (ap (λ z. days_in_month (unsigned_abs z) (unsigned_abs m)) year.is
            ∙ ap (λ z. days_in_month year.n (unsigned_abs z)) month.is) day.upto;
      };
    }

-- a date of the calendar passes the test
pub passes : (y m d : ℕ) → IsCalendarDate y m d → is_date (pos y) (pos m) (pos d) ≡ true
passes y m d is =
    rw (
      small_is 1900 2099 y is.first_year is.last_year,
      small_is 1 12 m is.first_month is.last_month,
      small_is 1 (days_in_month y m) d is.first_day is.last_day,
    ) refl

same_number : (y m d : ℤ) (t : IsTested y m d)
    → number_of (unsigned_abs y) (unsigned_abs m) (unsigned_abs d) ≡ number_of t.year t.month t.day
same_number y m d t =
    ap (λ z. number_of (unsigned_abs z) (unsigned_abs m) (unsigned_abs d)) t.year_is
    ∙ ap (λ z. number_of t.year (unsigned_abs z) (unsigned_abs d)) t.month_is
    ∙ ap (λ z. number_of t.year t.month (unsigned_abs z)) t.day_is

same_date : (y m d : ℤ) (t : IsTested y m d)
    → ◌≡◌ {A = Option Civil} (Some (date_at t.year t.month t.day)) (Some (record { year = y; month = m; day = d }))
same_date y m d t =
    ap (λ z. Some (record { year = z; month = pos t.month; day = pos t.day })) (sym t.year_is)
    ∙ ap (λ z. Some (record { year = y; month = z; day = pos t.day })) (sym t.month_is)
    ∙ ap (λ z. Some (record { year = y; month = m; day = z })) (sym t.day_is)

-- the number of a date leads back to it
pub number_to_date : (n : ℕ) (y m d : ℤ) → day_number y m d ≡ Some n
    → date_of n ≡ Some (record { year = y; month = m; day = d })
number_to_date n y m d h = elim (cases_Bool (is_date y m d)) [
  | inl right ↦ (let t : IsTested y m d = tested y m d right in
      let same : Some (number_of (unsigned_abs y) (unsigned_abs m) (unsigned_abs d)) ≡ Some n = rw right at h in
      let number : number_of (unsigned_abs y) (unsigned_abs m) (unsigned_abs d) ≡ n = cc in
      let parts : number_of (unsigned_abs y) (unsigned_abs m) (unsigned_abs d) ≡ number_of t.year t.month t.day =
      same_number y m d t in
      ap date_of (sym number ∙ parts) ∙ found t.year t.month t.day t.is ∙ same_date y m d t)
  | inr wrong ↦ (let none : ◌≡◌ {A = Option ℕ} None (Some n) = rw wrong at h in absurd cc)
]

-- the date of a number leads back to it
pub date_to_number : (n : ℕ) (y m d : ℤ) → date_of n ≡ Some (record { year = y; month = m; day = d })
    → day_number y m d ≡ Some n
date_to_number n y m d h = elim (cases_Bool (nat_le 1 n && nat_le n 73050)) [
  | inl right ↦ (let has : HasDate n = has_date n (grind (arith, nat_tests, right)) (grind (arith, nat_tests, right)) in
      let same : ◌≡◌ {A = Option Civil} (Some (date_at has.y has.m has.d))
      (Some (record { year = y; month = m; day = d })) =
      sym (found has.y has.m has.d has.is) ∙ ap date_of (sym has.number) ∙ h in
      let parts : ◌≡◌ {A = Civil} (date_at has.y has.m has.d) (record { year = y; month = m; day = d }) = cc in
      let year : y ≡ pos has.y = ap (λ (c : Civil). c.year) (sym parts) in
      let month : m ≡ pos has.m = ap (λ (c : Civil). c.month) (sym parts) in
      let day : d ≡ pos has.d = ap (λ (c : Civil). c.day) (sym parts) in
      rw (year, month, day, passes has.y has.m has.d has.is) (ap Some (sym has.number)))
  | inr wrong ↦
      (let none : ◌≡◌ {A = Option Civil} None (Some (record { year = y; month = m; day = d })) = rw wrong at h in
      absurd cc)
]

-- a day's number is in the calendar's range
pub number_in_range : (y m d : ℤ) (n : ℕ) → day_number y m d ≡ Some n → (1 ≤ n) × (n ≤ 73050)
number_in_range y m d n h = elim (cases_Bool (is_date y m d)) [
  | inl right ↦ (let t : IsTested y m d = tested y m d right in
      let same : Some (number_of (unsigned_abs y) (unsigned_abs m) (unsigned_abs d)) ≡ Some n = rw right at h in
      let number : number_of (unsigned_abs y) (unsigned_abs m) (unsigned_abs d) ≡ n = cc in
      let in_range = in_calendar t.year t.month t.day t.is in
      subst (λ k. (1 ≤ k) × (k ≤ 73050)) (sym (same_number y m d t) ∙ number) in_range)
  | inr wrong ↦ (let none : ◌≡◌ {A = Option ℕ} None (Some n) = rw wrong at h in absurd cc)
]
