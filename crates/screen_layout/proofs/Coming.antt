-- The shown columns that are still to come.
use Rattle.std.proofs.Common.{◌≡◌, ℕ, suc, ◌+◌, ◌-◌, ◌≤◌, true, false, ◌||◌, [], ◌∷◌, refl, arith}
use Rattle.std.specs.Prelude.{nat_eq, nat_le}
use Rattle.std.proofs.lemmas.Bool.Decides.{nat_tests}
use Rattle.sheet_store.specs.Grid.{is_hidden}
use Rattle.screen_layout.specs.Sheets.{width_in}
use Rattle.work_sheet.specs.Seen.{Sheet}
use Rattle.screen_layout.specs.Columns.{columns_from}
use Rattle.screen_layout.specs.inner.Coming.{behind}

module _ (s : Sheet) (used col : ℕ) (within : col ≤ 255) where
  more : 256 - col ≡ suc (256 - (col + 1))
  more = omega arith

  -- a hidden column is passed over
  pub behind_hidden : is_hidden s.grid col ≡ true → behind s used col ≡ behind s used (col + 1)
  unfolding columns_from
  behind_hidden hidden = rw (more, hidden) refl

  -- a column that has room is shown, and others come behind it
  pub behind_shown : is_hidden s.grid col ≡ false → 1 ≤ width_in s col
      → (nat_eq used 0 || nat_le (width_in s col) (76 - used)) ≡ true →
      behind s used col ≡ record { col = col; width = width_in s col } ∷ behind s (used + width_in s col) (col + 1)
  unfolding columns_from
  behind_shown seen some fits =
      let later : nat_eq (used + width_in s col) 0 ≡ false = grind (arith, nat_tests, some) in
      let left : 76 - used - width_in s col ≡ 76 - (used + width_in s col) = omega arith in
      rw (more, seen, fits, later, left) refl

  -- one that has no room ends the shown columns
  pub behind_last : is_hidden s.grid col ≡ false → (nat_eq used 0 || nat_le (width_in s col) (76 - used)) ≡ false
      → behind s used col ≡ []
  unfolding columns_from
  behind_last seen fits = rw (more, seen, fits) refl

-- behind the last column none comes
pub behind_all : (s : Sheet) (used col : ℕ) → 256 ≤ col → behind s used col ≡ []
unfolding columns_from
behind_all s used col past =
    let none : 256 - col ≡ 0 = omega arith in
    rw none refl
