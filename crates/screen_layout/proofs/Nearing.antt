-- How wide columns are together, and which column is the nearest.
use Rattle.std.proofs.Common.{◌≡◌, ℕ, zero, suc, ◌+◌, ◌-◌, ◌≤◌, ◌<◌, true, false, refl, ap, sym, ◌∙◌, arith}
use Rattle.std.specs.Prelude.{nat_le}
use Rattle.std.proofs.lemmas.Bool.Decides.{nat_tests}
use Rattle.sheet_store.specs.Grid.{is_hidden}
use Rattle.screen_layout.specs.Corner.{nearest, wide}
use Rattle.work_sheet.specs.Seen.{Sheet}
use Rattle.screen_layout.specs.Sheets.{width_in}

-- no columns have no width
pub wide_none : (s : Sheet) (col : ℕ) → wide s 0 col ≡ 0
unfolding wide
wide_none s col = refl

-- the first of so many columns and the others
pub wide_first : (s : Sheet) (count col : ℕ) → wide s (suc count) col ≡ wide s 1 col + wide s count (col + 1)
unfolding wide
wide_first s count col = omega arith

-- one more column
pub wide_more : (s : Sheet) (count col : ℕ) → wide s (count + 1) col ≡ wide s count col + wide s 1 (col + count)
wide_more s zero col =
    let at : col + 0 ≡ col = omega arith in
    let one : wide s (0 + 1) col ≡ wide s 1 (col + 0) = ap (λ (c : ℕ). wide s 1 c) (sym at) in
    omega (arith, one, wide_none s col)
wide_more s (suc count) col =
    let at : col + 1 + count ≡ col + suc count = omega arith in
    let more : suc count + 1 ≡ suc (count + 1) = omega arith in
    let first : wide s (suc count + 1) col ≡ wide s 1 col + wide s (count + 1) (col + 1) =
    ap (λ (n : ℕ). wide s n col) more ∙ wide_first s (count + 1) col in
    let last : wide s 1 (col + 1 + count) ≡ wide s 1 (col + suc count) = ap (λ (c : ℕ). wide s 1 c) at in
    omega (arith, first, wide_more s count (col + 1), wide_first s count col, last)

-- the last column is the nearest, where none is further
pub nearest_last : (s : Sheet) (further col : ℕ) → further ≡ 0 → nearest s further col ≡ col
unfolding nearest
nearest_last s further col none = rw none refl

-- a column is the nearest, where all up to the last have room
pub nearest_here : (s : Sheet) (further col : ℕ) → 1 ≤ further → wide s (further + 1) col ≤ 76
    → nearest s further col ≡ col
unfolding nearest
nearest_here s zero col some fits = absurd (omega (arith, some))
nearest_here s (suc further) col some fits =
    let more : suc further + 1 ≡ suc (suc further) = omega arith in
    let same : wide s (suc further + 1) col ≡ wide s (suc (suc further)) col = ap (λ (n : ℕ). wide s n col) more in
    let test : nat_le (wide s (suc (suc further)) col) 76 ≡ true = grind (arith, nat_tests, same, fits) in
    rw test refl

-- else it is a later one
pub nearest_later : (s : Sheet) (further col : ℕ) → 1 ≤ further → 76 < wide s (further + 1) col
    → nearest s further col ≡ nearest s (further - 1) (col + 1)
unfolding nearest
nearest_later s zero col some wider = absurd (omega (arith, some))
nearest_later s (suc further) col some wider =
    let more : suc further + 1 ≡ suc (suc further) = omega arith in
    let same : wide s (suc further + 1) col ≡ wide s (suc (suc further)) col = ap (λ (n : ℕ). wide s n col) more in
    let test : nat_le (wide s (suc (suc further)) col) 76 ≡ false = grind (arith, nat_tests, same, wider) in
    let less : suc further - 1 ≡ further = omega arith in
    rw (test, less) refl

-- a hidden column has no width
pub wide_hidden : (s : Sheet) (col : ℕ) → is_hidden s.grid col ≡ true → wide s 1 col ≡ 0
unfolding wide
wide_hidden s col hidden = rw hidden refl

-- any other has its own
pub wide_seen : (s : Sheet) (col : ℕ) → is_hidden s.grid col ≡ false → wide s 1 col ≡ width_in s col
unfolding wide
wide_seen s col seen = rw seen (omega arith)
