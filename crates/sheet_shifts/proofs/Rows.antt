-- A search along rows, one step on and at its end.
use Rattle.std.specs.Prelude.{ℕ, zero, suc, ◌≡◌, ◌+◌, ◌-◌, ◌≤◌, ◌<◌, Bool, cond, None, Some, refl}
use Rattle.std.specs.Option.{option_or}
use Rattle.std.proofs.Common.{◌∙◌, ap, arith}
use Rattle.grid_address.specs.Place.{Place}
use Rattle.sheet_shifts.specs.Refusals.{first_in_row, first_in_rows}

-- a place so many columns on, and so many rows
abbrev pub right_by : Place → ℕ → Place
right_by p n = record p { col = p.col + n }

-- a place so many rows on
abbrev pub down_by : Place → ℕ → Place
down_by p n = record p { row = p.row + n }

-- a place that is put together so many columns on, and so many rows
pub right_place : (row col from n : ℕ) (first : Place) → ◌≡◌ {A = Place} (record { row = row; col = col }) first
    → from ≡ col → ◌≡◌ {A = Place} (record { row = row; col = from + n }) (right_by first n)
right_place row col from n first is begun =
    ap (λ k. record { row = row; col = k + n }) begun ∙ ap (λ (p : Place). right_by p n) is

-- a place that is put together so many rows on
pub down_place : (row col n : ℕ) (first : Place) → ◌≡◌ {A = Place} (record { row = row; col = col }) first
    → ◌≡◌ {A = Place} (record { row = row + n; col = col }) (down_by first n)
down_place row col n first is = ap (λ (p : Place). down_by p n) is

module _ (test : Place → Bool) where
  row_some : (n : ℕ) (p : Place) → 0 < n
      → first_in_row test n p ≡ cond (test p) (Some p) (first_in_row test (n - 1) (right_by p 1))
  unfolding first_in_row
  row_some zero p h = absurd (omega (arith, h))
  row_some (suc n) p h =
      ap (λ k. cond (test p) (Some p) (first_in_row test k (right_by p 1))) (let e : n ≡ suc n - 1 = omega arith in e)

  right_more : (p : Place) (a : ℕ) → right_by (right_by p a) 1 ≡ right_by p (a + 1)
  right_more p a = ap (λ c. record p { col = c }) (let e : p.col + a + 1 ≡ p.col + (a + 1) = omega arith in e)

  -- in no columns none is found
  pub row_none : (p : Place) → first_in_row test 0 p ≡ None
  unfolding first_in_row
  row_none p = refl

  -- the search from a column on ends at it, or goes on behind it
  pub row_step : (n a : ℕ) (p : Place) → a < n
      → first_in_row test (n - a) (right_by p a)
      ≡ cond (test (right_by p a)) (Some (right_by p a)) (first_in_row test (n - (a + 1)) (right_by p (a + 1)))
  row_step n a p h =
      row_some (n - a) (right_by p a) (omega (arith, h))
      ∙ ap (λ k. cond (test (right_by p a)) (Some (right_by p a)) (first_in_row test k (right_by (right_by p a) 1)))
      (let e : n - a - 1 ≡ n - (a + 1) = omega arith in e)
      ∙ ap (λ q. cond (test (right_by p a)) (Some (right_by p a)) (first_in_row test (n - (a + 1)) q)) (right_more p a)

  rows_some : (n cols : ℕ) (p : Place) → 0 < n
      → first_in_rows test n cols p
      ≡ option_or (first_in_row test cols p) (first_in_rows test (n - 1) cols (down_by p 1))
  unfolding first_in_rows
  rows_some zero cols p h = absurd (omega (arith, h))
  rows_some (suc n) cols p h =
      ap (λ k. option_or (first_in_row test cols p) (first_in_rows test k cols (down_by p 1)))
      (let e : n ≡ suc n - 1 = omega arith in e)

  down_more : (p : Place) (a : ℕ) → down_by (down_by p a) 1 ≡ down_by p (a + 1)
  down_more p a = ap (λ r. record p { row = r }) (let e : p.row + a + 1 ≡ p.row + (a + 1) = omega arith in e)

  -- in no rows none is found
  pub rows_none : (cols : ℕ) (p : Place) → first_in_rows test 0 cols p ≡ None
  unfolding first_in_rows
  rows_none cols p = refl

  -- the search from a row on ends in it, or goes on behind it
  pub rows_step : (n cols a : ℕ) (p : Place) → a < n
      → first_in_rows test (n - a) cols (down_by p a)
      ≡ option_or (first_in_row test cols (down_by p a)) (first_in_rows test (n - (a + 1)) cols (down_by p (a + 1)))
  rows_step n cols a p h =
      rows_some (n - a) cols (down_by p a) (omega (arith, h))
      ∙ ap (λ k. option_or (first_in_row test cols (down_by p a)) (first_in_rows test k cols (down_by (down_by p a) 1)))
      (let e : n - a - 1 ≡ n - (a + 1) = omega arith in e)
      ∙ ap (λ q. option_or (first_in_row test cols (down_by p a)) (first_in_rows test (n - (a + 1)) cols q))
      (down_more p a)

  -- a search along a row that has come to its end
  pub row_ends : (n a : ℕ) (p : Place) → n ≤ a → first_in_row test (n - a) (right_by p a) ≡ None
  row_ends n a p h =
      ap (λ k. first_in_row test k (right_by p a)) (let e : n - a ≡ 0 = omega (arith, h) in e) ∙ row_none (right_by p a)

  -- past the last row none is found
  pub rows_end : (n cols a : ℕ) (p : Place) → n ≤ a → first_in_rows test (n - a) cols (down_by p a) ≡ None
  rows_end n cols a p h =
      ap (λ k. first_in_rows test k cols (down_by p a)) (let e : n - a ≡ 0 = omega (arith, h) in e)
      ∙ rows_none cols (down_by p a)
