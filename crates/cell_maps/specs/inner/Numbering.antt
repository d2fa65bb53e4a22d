-- How the numbers of cells are kept.
use Rattle.std.specs.Prelude.{ℕ, zero, suc, cond, ◌≡◌, ◌-◌, ◌*◌, ◌%◌, ◌<◌, ◌≤◌, ◌⊎◌, List, [], ◌∷◌, length, map, get_or, Some, slice_get}
use Rattle.cell_maps.specs.Numbers.{Numbers, number_at}
use Rattle.grid_address.specs.Place.{same_place, InSheet, Place}

-- the numbers above one of them, counted from there; those up to it are none
abbrev pub above : ℕ → Numbers → Numbers
above gone t = record { heads = t.heads; numbers = map (λ n. n - gone) t.numbers }

-- how many of the heads are those of pages with room
abbrev pub used : List ℕ → ℕ
used [] = 0
used (zero ∷ heads) = used heads
used (suc k ∷ heads) = suc (used heads)

-- the heads are those of all pages of the first bands, of which the sheet has 128, each of 64 pages
abbrev pub AreWholeBands : List ℕ → Type 0
AreWholeBands heads = (length heads % 64 ≡ 0) × (length heads ≤ 128 * 64)

-- each page with room has 256 numbers of its own, and there are no others
pub record AreParted (t : Numbers) : Type 0 where
  pub apart : (i j : ℕ) → get_or t.heads i 0 ≡ get_or t.heads j 0 → 0 < get_or t.heads i 0 → i ≡ j
  pub room : (i : ℕ) → get_or t.heads i 0 * 256 ≤ length t.numbers
  pub full : length t.numbers ≡ used t.heads * 256
  pub whole : AreWholeBands t.heads

-- a cell that has no number gets the one behind so many, and one that has a number keeps it
pub record IsGiven (old : Numbers) (count : ℕ) (cell : Place) (had : ℕ) (new : Numbers) : Type 0 where
  pub own : had ≡ number_at old cell
  pub same : 0 < had → new ≡ old
  pub set : had ≡ 0 → (d : Place) → InSheet d →
      number_at new d ≡ cond (same_place cell d) (suc count) (number_at old d)

-- a cell that has no number gets none
pub record IsUngiven (old : Numbers) (cell : Place) (new : Numbers) : Type 0 where
  pub absent : number_at old cell ≡ 0
  pub same : (d : Place) → number_at new d ≡ number_at old d

-- the cells that have numbers are these, the first with 1
pub record AreNumbered (bands : Numbers) (cells : List Place) : Type 0 where
  pub inside : (i : ℕ) (c : Place) → slice_get cells i ≡ Some c → InSheet c
  pub told : (i : ℕ) (c : Place) → slice_get cells i ≡ Some c → number_at bands c ≡ suc i
  pub found : (c : Place) (i : ℕ) → InSheet c → number_at bands c ≡ suc i → slice_get cells i ≡ Some c

-- the cells that were taken out last have the last numbers that are gone; there are none where the set has a cell
abbrev pub AreWaiting : ℕ → Numbers → List Place → List Place → Type 0
AreWaiting gone t cells before = (before ≡ [])
    ⊎ ((cells ≡ []) × ((length before ≤ gone) × AreNumbered (above (gone - length before) t) before))
