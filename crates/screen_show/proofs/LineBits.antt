-- The bits of a set of lines.
use Rattle.std.proofs.Common.{◌≡◌, ℕ, suc, zero, ◌-◌, ◌*◌, ◌/◌, ◌%◌, ◌^◌, ◌<◌, ◌≤◌, true, false, length, set, Some}
use Rattle.std.proofs.Common.{refl, sym, ap, ◌∙◌, arith, inl, inr, min}
use Rattle.std.specs.Prelude.{slice_get, replicate, bit_and, bit_or, ◌==◌}
use Rattle.std.specs.Int.{bit_at, trailing_zeros, w32}
use Rattle.std.proofs.lemmas.Bool.{cases_eq, cases_lt}
use Rattle.std.proofs.lemmas.List.{length-set}
use Rattle.std.proofs.lemmas.Nat.{and_le_r}
use Rattle.std.proofs.lemmas.Nat.Bits.{bit_at_lowest, bit_at-suc, bit_at-zero, bit_at_and, bit_at-lt, bit_at_mask_below}
use Rattle.std.proofs.lemmas.Nat.Bits.{bit_at_mask_inside, bit_at_set_same, bit_at_set_other, bit_at-trailing_zeros}
use Rattle.std.proofs.lemmas.Nat.Bits.{ones_shl, shr_and_one}
use Rattle.std.proofs.lemmas.Option.{slice_get_past}
use Rattle.screen_show.specs.inner.LineSets.{lines_of}
use Rattle.screen_show.proofs.LineSets.{get_set_same, get_set_other, same_elements}

-- whether a line is in the set, by its bit
pub line_at : (n bits k : ℕ) → k < n → slice_get (lines_of n bits) k ≡ Some (bit_at bits k == 1)
unfolding lines_of
line_at zero bits k h = absurd (omega arith)
line_at (suc n) bits zero h = ap (λ (m : ℕ). Some (m == 1)) (sym (bit_at_lowest bits))
line_at (suc n) bits (suc k) h =
    line_at n (bits / 2) k (omega arith) ∙ ap (λ (m : ℕ). Some (m == 1)) (sym (bit_at-suc bits k))

-- there are as many lines as are asked for
pub length-lines_of : (n bits : ℕ) → length (lines_of n bits) ≡ n
unfolding lines_of
length-lines_of zero bits = refl
length-lines_of (suc n) bits = ap suc (length-lines_of n (bits / 2))

-- no bits are no lines
pub no_lines : lines_of 25 0 ≡ replicate 25 false
unfolding lines_of
no_lines = refl

-- all 25 bits are all lines
pub all_lines : lines_of 25 33554431 ≡ replicate 25 true
unfolding lines_of
all_lines = refl

-- a bit that is set is a line that is added
pub line_added : (bits row : ℕ) → row < 25
    → lines_of 25 (bit_or bits (1 * 2 ^ row % 2 ^ 32)) ≡ set (lines_of 25 bits) row true
line_added bits row h =
    let now : ℕ = bit_or bits (1 * 2 ^ row % 2 ^ 32) in
    let small : row < 32 = omega arith in
    let long : length (lines_of 25 now) ≡ 25 = length-lines_of 25 now in
    let was_long : length (lines_of 25 bits) ≡ 25 = length-lines_of 25 bits in
    let set_long : length (set (lines_of 25 bits) row true) ≡ 25 = length-set (lines_of 25 bits) row true ∙ was_long in
    same_elements (lines_of 25 now) (set (lines_of 25 bits) row true) (λ k. elim (cases_lt k 25) [
      | inl inside ↦ elim (cases_eq k row) [
        | inl same ↦ rw same (line_at 25 now row h ∙ ap (λ (m : ℕ). Some (m == 1)) (bit_at_set_same w32 bits row small)
            ∙ sym (get_set_same (lines_of 25 bits) row true (omega arith)))
        | inr apart ↦
            line_at 25 now k inside ∙ ap (λ (m : ℕ). Some (m == 1)) (bit_at_set_other w32 bits row small k apart)
            ∙ sym (line_at 25 bits k inside) ∙ sym (get_set_other (lines_of 25 bits) row k true apart)
      ]
      | inr past ↦
          slice_get_past (lines_of 25 now) k (omega arith)
          ∙ sym (slice_get_past (set (lines_of 25 bits) row true) k (omega arith))
    ])

-- the test of a line, by its bit
pub line_tested : (bits row : ℕ) → row < 25 → slice_get (lines_of 25 bits) row ≡ Some (bit_and (bits / 2 ^ row) 1 == 1)
line_tested bits row h = line_at 25 bits row h ∙ ap (λ (m : ℕ). Some (m == 1)) (sym (shr_and_one bits row))

-- the bits from a row on
module _ (bits row rest : ℕ) (is : rest ≡ bit_and bits (2 ^ 32 - 2 ^ row)) where
  kept : (k : ℕ) → row ≤ k → k < 32 → bit_at rest k ≡ bit_at bits k
  kept k from inside =
      let ones : bit_at (2 ^ 32 - 2 ^ row) k ≡ 1 = bit_at_mask_inside row 32 k from inside in
      let least : min (bit_at bits k) (bit_at (2 ^ 32 - 2 ^ row) k) ≡ bit_at bits k =
      omega (arith, ones, bit_at-lt bits k) in
      ap (λ (n : ℕ). bit_at n k) is ∙ bit_at_and bits (2 ^ 32 - 2 ^ row) k ∙ least

  cleared : (k : ℕ) → k < row → bit_at rest k ≡ 0
  cleared k before =
      let none : bit_at (2 ^ 32 - 2 ^ row) k ≡ 0 = bit_at_mask_below row 32 k before in
      let least : min (bit_at bits k) (bit_at (2 ^ 32 - 2 ^ row) k) ≡ 0 = omega (arith, none) in
      ap (λ (n : ℕ). bit_at n k) is ∙ bit_at_and bits (2 ^ 32 - 2 ^ row) k ∙ least

  is_out : (k : ℕ) → row ≤ k → k < 25 → bit_at rest k ≡ 0 → slice_get (lines_of 25 bits) k ≡ Some false
  is_out k from inside none =
      let small : k < 32 = omega arith in
      line_at 25 bits k inside ∙ ap (λ (m : ℕ). Some (m == 1)) (sym (kept k from small) ∙ none)

  -- with no bits left no line behind is in the set
  pub none_behind : rest ≡ 0 → (k : ℕ) → row ≤ k → k < 25 → slice_get (lines_of 25 bits) k ≡ Some false
  none_behind empty k from inside = is_out k from inside (ap (λ (n : ℕ). bit_at n k) empty ∙ bit_at-zero k)

-- the bits from a row on, as they are computed
abbrev pub rest_from : ℕ → ℕ → ℕ
rest_from bits row = bit_and bits (4294967295 * 2 ^ row % 4294967296)

module _ (bits row : ℕ) (row_in : row ≤ 25) where
  masked : rest_from bits row ≡ bit_and bits (2 ^ 32 - 2 ^ row)
  masked =
      let within : row ≤ 32 = omega arith in
      ap (bit_and bits) (ones_shl 32 row within)

  small : rest_from bits row < 2 ^ 32
  small = omega (arith, and_le_r bits (4294967295 * 2 ^ row % 4294967296))

  -- with no bits left from a line on, none from it on is in the set
  pub nothing_left : rest_from bits row ≡ 0 → (k : ℕ) → row ≤ k → k < 25 → slice_get (lines_of 25 bits) k ≡ Some false
  nothing_left empty = none_behind bits row (rest_from bits row) masked empty

  module _ (some : rest_from bits row ≡ 0 → ⊥) (next : ℕ)
      (next_is : next ≡ min (trailing_zeros w32 (rest_from bits row)) 25) where
    positive : 0 < rest_from bits row
    positive = elim (cases_lt 0 (rest_from bits row)) [
      | inl more ↦ more
      | inr none ↦ absurd (some (omega arith))
    ]

    -- the place of the lowest of them
    abbrev place : ℕ
    place = trailing_zeros w32 (rest_from bits row)

    lowest : (place < 32) × (bit_at (rest_from bits row) place ≡ 1)
        × ((i : ℕ) → i < place → bit_at (rest_from bits row) i ≡ 0)
    lowest = bit_at-trailing_zeros w32 (rest_from bits row) positive small

    found_behind : row ≤ place
    found_behind = elim (cases_lt place row) [
      | inl before ↦ (
          let none : bit_at (rest_from bits row) place ≡ 0 =
          cleared bits row (rest_from bits row) masked place before in
          absurd (omega (arith, none, lowest.1)))
      | inr from ↦ from
    ]

    -- the next line stands no earlier than the first that is asked for
    pub next_on : row ≤ next
    next_on = omega (arith, found_behind, next_is, row_in)

    -- no line between them is in the set
    pub next_passed : (k : ℕ) → row ≤ k → k < next → slice_get (lines_of 25 bits) k ≡ Some false
    next_passed k from before =
        is_out bits row (rest_from bits row) masked k from (omega (arith, next_is, before))
        (lowest.2 k (omega (arith, next_is, before)))

    -- it is in the set, if it is a line
    pub next_there : next ≤ 24 → slice_get (lines_of 25 bits) next ≡ Some true
    next_there inside =
        let same : next ≡ place = omega (arith, next_is, inside) in
        let below : place < 25 = omega (arith, next_is, inside) in
        rw same (line_at 25 bits place below
        ∙ ap (λ (m : ℕ). Some (m == 1))
        (sym (kept bits row (rest_from bits row) masked place found_behind lowest.0) ∙ lowest.1))
