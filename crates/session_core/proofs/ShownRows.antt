-- Rows of the sheet and the lines that show them.
use Rattle.std.proofs.Common.{◌≡◌, ℕ, zero, suc, ◌+◌, ◌-◌, ◌≤◌, ◌<◌, Bool, true, false, List, [], ◌∷◌, Some, get_or, ap}
use Rattle.std.proofs.Common.{sym, subst, ◌∙◌, arith, inl, inr}
use Rattle.std.specs.Prelude.{◌&&◌, if◌then◌else◌, nat_eq, nat_le, nat_lt, slice_get}
use Rattle.std.proofs.lemmas.Bool.{and_from, and_parts, cases_Bool, eq-eqb, false_from_ne_true, le-leb, leb-true}
use Rattle.std.proofs.lemmas.Bool.{lt-ltb, ltb-true, true≢false}
use Rattle.std.proofs.lemmas.Option.{get_or_from_slice_get}
use Rattle.cell_maps.specs.Sets.{has}
use Rattle.grid_address.specs.Place.{same_place, Place}
use Rattle.macro_engine.specs.RowSpans.{is_in}
use Rattle.macro_engine.specs.declared.row_span.RowSpan.{RowSpan}
use Rattle.session_core.specs.inner.Touches.{is_row_in}

-- a line that isn't in a set
left_out : (lines : List Bool) (n : ℕ) → get_or lines n true ≡ false → slice_get lines n ≡ Some false
left_out [] n out = absurd (true≢false out)
left_out (b ∷ lines) zero out = ap Some out
left_out (b ∷ lines) (suc n) out = left_out lines n out

-- what a set tells of a row, by whether it is shown
abbrev told_by : List Bool → ℕ → ℕ → Bool → Bool
told_by lines first row shown = if shown then get_or lines (4 + (row - first)) true else true

module _ (lines : List Bool) (first : ℕ) where
  -- a shown row is out of the set where its line is
  pub row_out : (n : ℕ) → 4 ≤ n → n < 24 → slice_get lines n ≡ Some false
      → is_row_in lines first (first + (n - 4)) ≡ false
  row_out n least most out =
      let row : ℕ = first + (n - 4) in
      let shown : (nat_le first row && nat_lt row (first + 20)) ≡ true = and_from (nat_le first row)
      (nat_lt row (first + 20)) (le-leb first row (omega arith)) (lt-ltb row (first + 20) (omega arith)) in
      let line : 4 + (row - first) ≡ n = omega arith in
      ap (told_by lines first row) shown ∙ ap (λ (k : ℕ). get_or lines k true) line
      ∙ get_or_from_slice_get lines n false true out

  -- and in it where no line that is out shows it
  pub row_in : (row : ℕ) → ((n : ℕ) → 4 ≤ n → n < 24 → slice_get lines n ≡ Some false
      → nat_eq row (first + (n - 4)) ≡ false) → is_row_in lines first row ≡ true
  row_in row told = elim (cases_Bool (is_row_in lines first row)) [
    | inl in_set ↦ in_set
    | inr out ↦ elim (cases_Bool (nat_le first row && nat_lt row (first + 20))) [
      | inl shown ↦ absurd (contradicts out shown)
      | inr past ↦ ap (told_by lines first row) past
    ]
  ]
    where
      contradicts : is_row_in lines first row ≡ false → (nat_le first row && nat_lt row (first + 20)) ≡ true → ⊥
      contradicts out shown =
          let parts = and_parts (nat_le first row) (nat_lt row (first + 20)) shown in
          let from : first ≤ row = leb-true first row parts.0 in
          let below : row < first + 20 = ltb-true row (first + 20) parts.1 in
          let n : ℕ = 4 + (row - first) in
          let here : row ≡ first + (n - 4) = omega arith in
          let gone : slice_get lines n ≡ Some false =
          left_out lines n (sym (ap (told_by lines first row) shown) ∙ out) in
          true≢false (sym (eq-eqb row (first + (n - 4)) here) ∙ told n (omega arith) (omega arith) gone)

  -- a row out of the set that has the rows of cells holds none of them
  pub cells_out : (cells : List Place) → ((n : ℕ) → 4 ≤ n → n < 24 → slice_get lines n ≡ Some false → (c : Place)
      → has same_place cells c ≡ true → nat_eq c.row (first + (n - 4)) ≡ false) →
      (c : Place) → is_row_in lines first c.row ≡ false → has same_place cells c ≡ false
  cells_out cells told c out = false_from_ne_true (has same_place cells c)
      (λ k. true≢false (sym (row_in c.row (λ n least most gone. told n least most gone c k)) ∙ out))

-- a span of one row has no other
only_row : (span : RowSpan) (k : ℕ) → span.first ≡ span.last → is_in span k ≡ true → span.first ≡ k
only_row span k one h =
    let parts = and_parts (nat_le span.first k) (nat_le k span.last) h in
    let from : span.first ≤ k = leb-true span.first k parts.0 in
    let to : k ≤ span.last = leb-true k span.last parts.1 in
    omega (arith, one)

-- the line of the only row of a span
pub one_in : (lines : List Bool) (first : ℕ) (span : RowSpan) → span.first ≡ span.last
    → ((n : ℕ) → 4 ≤ n → n < 24 → slice_get lines n ≡ Some false → nat_eq span.first (first + (n - 4)) ≡ false)
    → (k : ℕ) → is_in span k ≡ true → is_row_in lines first k ≡ true
one_in lines first span one told k h =
    subst (λ (row : ℕ). is_row_in lines first row ≡ true) (only_row span k one h) (row_in lines first span.first told)

-- the lines of all rows, those of a span among them
pub all_in : (lines : List Bool) (first : ℕ) (span : RowSpan)
    → ((n : ℕ) → 4 ≤ n → n < 24 → slice_get lines n ≡ Some false → ⊥)
    → (k : ℕ) → is_in span k ≡ true → is_row_in lines first k ≡ true
all_in lines first span told k h = row_in lines first k (λ n least most out. absurd (told n least most out))
