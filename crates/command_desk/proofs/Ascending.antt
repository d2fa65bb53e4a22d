-- The first of the cells in row order that passes a test.
use Rattle.std.specs.Prelude.{◌≡◌, Bool, true, false, cond, refl, List, [], ◌∷◌, None, Some}
use Rattle.std.specs.List.{find}
use Rattle.std.specs.List.Sorted.{IsStrictlySortedBy}
use Rattle.std.specs.declared.cmp.Ordering.TheVariants.{Less}
use Rattle.std.proofs.Common.{sym, ◌∙◌, ap, inl, inr, subst}
use Rattle.std.proofs.lemmas.Bool.{cases_Bool, false≢true, or_cases, or_left, or_right, true≢false}
use Rattle.grid_address.proofs.Places.{same_place_is, same_place_itself}
use Rattle.grid_address.specs.Place.{place_cmp, same_place, Place}
use Rattle.cell_maps.specs.Sets.{has}
use Rattle.recalculation.proofs.Filled.{Before}
use Rattle.recalculation.specs.inner.Laws.{Ascends}

module _ (p : Place → Bool) where
  -- none passes
  pub none_found : (cells : List Place) → ((c : Place) → has same_place cells c ≡ true → p c ≡ false)
      → find p cells ≡ None
  none_found [] h = refl
  none_found (x ∷ xs) h =
      ap (λ b. cond b (Some x) (find p xs)) (h x (or_left _ _ (same_place_itself x)))
      ∙ none_found xs (λ c k. h c (or_right _ _ k))

  later : (x c : Place) (xs : List Place) → Before x xs → has same_place xs c ≡ true → place_cmp x c ≡ Less
  later x c [] b h = absurd (false≢true h)
  later x c (y ∷ ys) b h = elim (or_cases (same_place c y) (has same_place ys c) h) [
    | inl e ↦ subst (λ (z : Place). place_cmp x z ≡ Less) (sym (same_place_is c y e)) b.0
    | inr k ↦ later x c ys b.1 k
  ]

  -- the cell that passes and before which none does
  pub first_found : (cells : List Place) (c : Place) → Ascends cells → has same_place cells c ≡ true → p c ≡ true →
      ((d : Place) → has same_place cells d ≡ true → p d ≡ true → place_cmp d c ≡ Less → ⊥) → find p cells ≡ Some c
  unfolding IsStrictlySortedBy
  first_found [] c s h t f = absurd (false≢true h)
  first_found (x ∷ xs) c s h t f = elim (or_cases (same_place c x) (has same_place xs c) h) [
    | inl e ↦
        ap (λ b. cond b (Some x) (find p xs)) (ap p (sym (same_place_is c x e)) ∙ t)
        ∙ ap Some (sym (same_place_is c x e))
    | inr k ↦ elim (cases_Bool (p x)) [
      | inl y ↦ absurd (f x (or_left _ _ (same_place_itself x)) y (later x c xs s.0 k))
      | inr n ↦ ap (λ b. cond b (Some x) (find p xs)) n ∙ first_found xs c s.1 k t (λ d a. f d (or_right _ _ a))
    ]
  ]
