-- Cells that come in row order.
use Rattle.std.specs.Prelude.{ℕ, ◌≡◌, ◌≤◌, ◌<◌, false, List, [], ◌∷◌, ◌++◌, ◌||◌}
use Rattle.std.proofs.Common.{ap, arith, sym, ◌∙◌, inl, inr}
use Rattle.std.proofs.lemmas.Bool.{false≢true, or_cases}
use Rattle.cell_maps.specs.Sets.{has}
use Rattle.grid_address.proofs.Places.{same_place_is}
use Rattle.grid_address.specs.Place.{rank, same_place, Place}
use Rattle.sheet_edits.proofs.Listed.{pushed}
use Rattle.sheet_edits.specs.inner.Ranks.{StandBefore}

-- of no cells each stands before any rank
pub none_before : (cells : List Place) (least : ℕ) → cells ≡ [] → StandBefore least cells
none_before cells least e c h = absurd (false≢true (sym (ap (λ l. has same_place l c) e) ∙ h))

-- with one cell more, all of them stand before what lies behind it
pub before_more : (cells now : List Place) (x : Place) → now ≡ cells ++ x ∷ [] → (least next : ℕ)
    → StandBefore least cells → least ≤ next → rank x < next → StandBefore next now
before_more cells now x one least next below le lt c h =
    elim (or_cases (has same_place cells c) (same_place c x || false) (sym (pushed cells now x one c) ∙ h)) [
      | inl t ↦ let b = below c t in omega (arith, b, le)
      | inr t ↦ elim (or_cases (same_place c x) false t) [
        | inl s ↦ let q = ap rank (same_place_is c x s) in omega (arith, q, lt)
        | inr f ↦ absurd (false≢true f)
      ]
    ]
