-- The first of some cells in row order.
use Rattle.std.specs.Prelude.{◌≡◌, Bool, ◌&&◌, ◌||◌, true, false, cond, refl, List, [], ◌∷◌, Option, None, Some}
use Rattle.std.specs.List.{filter}
use Rattle.std.specs.Ordering.{is_lt, ordering_reverse}
use Rattle.std.specs.declared.cmp.Ordering.{Ordering}
use Rattle.std.specs.declared.cmp.Ordering.TheVariants.{Less, Equal, Greater}
use Rattle.std.proofs.Common.{sym, ◌∙◌, ap, inl, inr, subst}
use Rattle.std.proofs.lemmas.Bool.{and_from, and_parts, cases_Bool, false≢true, or_cases, or_left, or_right}
use Rattle.std.proofs.lemmas.Option.{none-some, same_Some}
use Rattle.grid_address.proofs.Places.{cells_exact, cells_total, same_place_is, same_place_itself}
use Rattle.grid_address.specs.Place.{place_cmp, same_place, Place}
use Rattle.cell_maps.specs.Sets.{has}
use Rattle.recalculation.proofs.Filled.{has_filtered}
use Rattle.command_desk.specs.Writing.{first_in_order, unless_before}

not_less : (o : Ordering) → (o ≡ Less → ⊥) → is_lt o ≡ false
not_less Less h = absurd (h refl)
not_less Equal h = refl
not_less Greater h = refl

-- a cell before which no other comes
stays : (x : Place) (o : Option Place) → ((d : Place) → o ≡ Some d → place_cmp d x ≡ Less → ⊥) → unless_before x o ≡ x
stays x None h = refl
stays x (Some d) h = ap (λ b. cond b d x) (not_less (place_cmp d x) (h d refl))

-- a cell that none of a list comes before, beside one of the list
gives_way : (x c : Place) → (place_cmp x c ≡ Less → ⊥) → unless_before x (Some c) ≡ c
gives_way x c h = by (place_cmp c x) refl
  where
    by : (o : Ordering) → place_cmp c x ≡ o → cond (is_lt o) c x ≡ c
    by Less e = refl
    by Equal e = sym (cells_exact c x e)
    by Greater e = absurd (h (cells_total.antisymm x c ∙ ap ordering_reverse e))

module _ (x d : Place) (xs : List Place)
    (rest : (f : Place) → first_in_order xs ≡ Some f → has same_place xs f ≡ true) where
  itself : x ≡ d → (same_place d x || has same_place xs d) ≡ true
  itself s = or_left _ _ (subst (λ (z : Place). same_place z x ≡ true) s (same_place_itself x))

  among_more : (o : Option Place) → first_in_order xs ≡ o → Some (unless_before x o) ≡ Some d →
      (same_place d x || has same_place xs d) ≡ true
  among_more None is k = itself (same_Some x d k)
  among_more (Some f) is k = elim (cases_Bool (is_lt (place_cmp f x))) [
    | inl t ↦
        let same : f ≡ d = same_Some f d (sym (ap (λ b. Some (cond b f x)) t) ∙ k) in
        or_right _ _ (rest d (is ∙ ap Some same))
    | inr n ↦ itself (same_Some x d (sym (ap (λ b. Some (cond b f x)) n) ∙ k))
  ]

-- the first is one of them
is_among : (xs : List Place) (d : Place) → first_in_order xs ≡ Some d → has same_place xs d ≡ true
is_among [] d e = absurd (none-some _ e)
is_among (x ∷ xs) d e = among_more x d xs (is_among xs) (first_in_order xs) refl e

-- the cell that none of them comes before
pub least_found : (xs : List Place) (c : Place) → has same_place xs c ≡ true →
    ((d : Place) → has same_place xs d ≡ true → place_cmp d c ≡ Less → ⊥) → first_in_order xs ≡ Some c
least_found [] c m f = absurd (false≢true m)
least_found (x ∷ xs) c m f = elim (or_cases (same_place c x) (has same_place xs c) m) [
  | inl e ↦
      let is : c ≡ x = same_place_is c x e in
      ap Some (stays x (first_in_order xs)
      (λ d k l. f d (or_right _ _ (is_among xs d k)) (subst (λ (z : Place). place_cmp d z ≡ Less) (sym is) l)) ∙ sym is)
  | inr k ↦
      let rest : first_in_order xs ≡ Some c = least_found xs c k (λ d a. f d (or_right _ _ a)) in
      ap (λ (o : Option Place). Some (unless_before x o)) rest
      ∙ ap Some (gives_way x c (f x (or_left _ _ (same_place_itself x))))
]

module _ (p : Place → Bool) where
  -- none passes
  none_pass : (cells : List Place) → ((c : Place) → has same_place cells c ≡ true → p c ≡ false) → filter p cells ≡ []
  none_pass [] h = refl
  none_pass (x ∷ xs) h =
      ap (λ b. cond b (x ∷ filter p xs) (filter p xs)) (h x (or_left _ _ (same_place_itself x)))
      ∙ none_pass xs (λ c k. h c (or_right _ _ k))

  -- where no cell passes, none is the first that does
  pub none_first : (cells : List Place) → ((c : Place) → has same_place cells c ≡ true → p c ≡ false) →
      first_in_order (filter p cells) ≡ None
  none_first cells h = ap first_in_order (none_pass cells h)

  -- the cell that passes and before which none does
  pub first_passing : (cells : List Place) (c : Place) → has same_place cells c ≡ true → p c ≡ true →
      ((d : Place) → has same_place cells d ≡ true → p d ≡ true → place_cmp d c ≡ Less → ⊥) →
      first_in_order (filter p cells) ≡ Some c
  first_passing cells c m t f = least_found (filter p cells) c
      (has_filtered p cells c ∙ and_from _ _ t m)
      (λ d k l. let both = and_parts _ _ (sym (has_filtered p cells d) ∙ k) in f d both.1 both.0 l)
