-- What a list has, by an equality of its items.
use Rattle.std.specs.Prelude.{ℕ, suc, zero, ◌≡◌, ◌<◌, Bool, true, List, [], ◌∷◌, get_or, length}
use Rattle.std.specs.List.{list_any}
use Rattle.std.proofs.Common.{sym, ◌∙◌, ap, arith, inl, inr}
use Rattle.std.proofs.lemmas.Bool.{false≢true, or_cases, or_left, or_right}
use Rattle.grid_address.specs.Place.{same_place, Place}
use Rattle.grid_address.proofs.Places.{same_place_itself}
use Rattle.cell_maps.specs.Sets.{has}

module _ {K : Type 0} (eq : K → K → Bool) (same : (x y : K) → eq x y ≡ true → x ≡ y)
    (itself : (x : K) → eq x x ≡ true) where
  -- an item of a list that passes
  pub any_at : (p : K → Bool) (xs : List K) (d : K) → has eq xs d ≡ true → p d ≡ true → list_any p xs ≡ true
  any_at p [] d m h = absurd (false≢true m)
  any_at p (x ∷ xs) d m h = elim (or_cases (eq d x) (has eq xs d) m) [
    | inl e ↦ or_left _ _ (ap p (sym (same d x e)) ∙ h)
    | inr k ↦ or_right _ _ (any_at p xs d k h)
  ]

  -- where an item of a list passes, there is one that the list has and that passes
  pub some_at : (p : K → Bool) (xs : List K) → list_any p xs ≡ true → (d : K) × (has eq xs d ≡ true) × (p d ≡ true)
  some_at p [] h = absurd (false≢true h)
  some_at p (x ∷ xs) h = elim (or_cases (p x) (list_any p xs) h) [
    | inl e ↦ (x, or_left _ _ (itself x), e)
    | inr k ↦ let r = some_at p xs k in (r.0, or_right _ _ r.1, r.2)
  ]

-- a list of cells has each of its items
pub has_get : (xs : List Place) (i : ℕ) (d : Place) → i < length xs → has same_place xs (get_or xs i d) ≡ true
has_get [] i d h = absurd (omega arith)
has_get (x ∷ xs) zero d h = or_left _ _ (same_place_itself x)
has_get (x ∷ xs) (suc i) d h = or_right _ _ (has_get xs i d (omega arith))
