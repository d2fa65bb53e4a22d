-- A span around those of all owners.
use Rattle.std.specs.Prelude.{◌≡◌, Bool, true, false, cond, refl, List, [], ◌∷◌, ◌++◌, Option, None, Some}
use Rattle.std.specs.FinMap.{get, get-insert, get-remove, remove}
use Rattle.std.specs.List.{list_any}
use Rattle.std.specs.Ordering.{eq_by_cmp}
use Rattle.std.proofs.Common.{sym, ◌∙◌, ap, subst, inl, inr}
use Rattle.std.proofs.lemmas.Bool.{cases_Bool, or_cases, or_left, false≢true, true≢false}
use Rattle.std.proofs.lemmas.List.Folds.{list_any-append}
use Rattle.grid_address.proofs.Places.{cells_total, same_place_itself}
use Rattle.grid_address.specs.Place.{is_within, place_cmp, same_place, Extent, Place}
use Rattle.range_index.specs.Hulls.{in_hull}
use Rattle.range_index.specs.inner.Around.{IsAround}
use Rattle.range_index.specs.Owners.{hold, owners_of, spans_in, with_span, Owners}
use Rattle.range_index.specs.declared.hull.Hull.{Hull}
use Rattle.range_index.proofs.Listed.{owner_told}

-- around more, it is around the same spans
pub wider : (m : Owners) (h k : Hull) → ((p : Place) → in_hull h p ≡ true → in_hull k p ≡ true) → IsAround h m
    → IsAround k m
wider m h k kept around = λ o p held. kept p (around o p held)

-- around one span more
pub one_more : (m : Owners) (h : Hull) (owner : Place) (span : Extent) → IsAround h m
    → ((p : Place) → is_within span p ≡ true → in_hull h p ≡ true) → IsAround h (with_span m owner span)
one_more m h owner span around here = λ o p held.
    either o p (eq_by_cmp place_cmp o owner) (subst (λ (s : Option (List Extent)). hold (spans_in s) p ≡ true)
    (get-insert cells_total m owner (spans_in (get m owner) ++ span ∷ []) o) held)
  where
    either : (o p : Place) (b : Bool)
        → hold (spans_in (cond b (Some (spans_in (get m owner) ++ span ∷ [])) (get m o))) p ≡ true → in_hull h p ≡ true
    either o p true held = elim (or_cases (hold (spans_in (get m owner)) p) (hold (span ∷ []) p)
        (sym (list_any-append (λ s. is_within s p) (spans_in (get m owner)) (span ∷ [])) ∙ held)) [
          | inl was ↦ around owner p was
          | inr new ↦ elim (or_cases (is_within span p) false new) [ inl t ↦ here p t | inr f ↦ absurd (false≢true f) ]
        ]
    either o p false held = around o p held

-- around the rest
pub rest : (m : Owners) (h : Hull) (owner : Place) → IsAround h m → IsAround h (remove m owner)
rest m h owner around = λ o p held. either o p (eq_by_cmp place_cmp o owner)
    (subst (λ (s : Option (List Extent)). hold (spans_in s) p ≡ true) (get-remove cells_total m owner o) held)
  where
    either : (o p : Place) (b : Bool) → hold (spans_in (cond b None (get m o))) p ≡ true → in_hull h p ≡ true
    either o p true held = absurd (false≢true held)
    either o p false held = around o p held

no_member : (l : List Place) → ((o : Place) → list_any (same_place o) l ≡ false) → l ≡ []
no_member [] none = refl
no_member (x ∷ l) none =
    absurd (true≢false (sym (or_left (same_place x x) (list_any (same_place x) l) (same_place_itself x)) ∙ none x))

-- no owner has a span that holds the place
pub no_owner : (m : Owners) (p : Place) → ((o : Place) → hold (spans_in (get m o)) p ≡ false) → owners_of m p ≡ []
no_owner m p none = no_member (owners_of m p) (λ o. owner_told p m o ∙ none o)

-- outside the hull no owner has one
pub outside : (m : Owners) (h : Hull) (p : Place) → IsAround h m → in_hull h p ≡ false → (o : Place)
    → hold (spans_in (get m o)) p ≡ false
outside m h p around out o = elim (cases_Bool (hold (spans_in (get m o)) p)) [
  | inl t ↦ absurd (true≢false (sym (around o p t) ∙ out))
  | inr f ↦ f
]
