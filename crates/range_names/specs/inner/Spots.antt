-- Names that can be written for their spans, in the order in which a span's names are looked for.
use Rattle.std.specs.Prelude.{◌≡◌, ◌&&◌, not, ℕ, Bool, false, Option, Some, None, List, [], ◌∷◌, ◌++◌, take, drop, if◌then◌else◌, IsSome}
use Rattle.std.specs.BTreeMap.{is_at}
use Rattle.std.specs.FinMap.{get}
use Rattle.std.specs.Map.{lookup}
use Rattle.std.specs.Ordering.{eq_by_cmp, is_gt}
use Rattle.grid_address.specs.Place.{Extent}
use Rattle.range_names.specs.Names.{is_plain, name_cmp, name_in, same_extent, NameMap}

-- a span by its corners' numbers
abbrev pub corners_of : Extent → List ℕ
corners_of span = span.first.row ∷ span.first.col ∷ span.last.row ∷ span.last.col ∷ []

-- a span's corners, and behind them the key of a name: a span's names stand together, in byte order
abbrev pub spot_of : Extent → List ℕ → List ℕ
spot_of span key = corners_of span ++ key

-- whether a name, which has this span, can be written for the one with these corners
abbrev pub is_written : List ℕ → List ℕ → Option Extent → Bool
is_written corners key None = false
is_written corners key (Some span) = eq_by_cmp name_cmp (corners_of span) corners && is_plain (name_in key)

-- the key of a spot, where its name can be written for its span
abbrev pub key_at : NameMap → List ℕ → Option (List ℕ)
key_at names spot =
    if is_written (take 4 spot) (drop 4 spot) (get names (drop 4 spot)) then Some (drop 4 spot) else None

-- whether a name stood at a spot with the span that it had before it got another
abbrev pub is_left : Option Extent → Extent → List ℕ → List ℕ → Bool
is_left None span key spot = false
is_left (Some old) span key spot = not (same_extent old span) && eq_by_cmp name_cmp (spot_of old key) spot

-- what stands at a spot
abbrev pub kept_at : List (List ℕ × List ℕ) → List ℕ → Option (List ℕ)
kept_at spots spot = lookup (is_at (name_cmp spot)) spots

-- the spots are those of the names that can be written
abbrev pub AreSpots : List (List ℕ × List ℕ) → NameMap → Type 0
AreSpots spots names = (spot : List ℕ) → kept_at spots spot ≡ key_at names spot

-- the key of the first spot from one on, where it is of the same span
abbrev pub IsFirstAt : List (List ℕ × List ℕ) → List ℕ → List ℕ → Type 0
IsFirstAt spots from key = (spot : List ℕ) × (kept_at spots spot ≡ Some key) × (take 4 spot ≡ take 4 from)
    × ((q : List ℕ) → IsSome (kept_at spots q) → is_gt (name_cmp from q) ≡ false → is_gt (name_cmp spot q) ≡ false)

-- no spot from one on is of the same span
abbrev pub HasNoneAt : List (List ℕ × List ℕ) → List ℕ → Type 0
HasNoneAt spots from =
    (q : List ℕ) → IsSome (kept_at spots q) → is_gt (name_cmp from q) ≡ false → take 4 q ≡ take 4 from → ⊥
