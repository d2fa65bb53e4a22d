-- What is left from a place on, and behind it.
use Rattle.std.specs.Prelude.{◌≡◌, Bool, true, false, cond, refl, List, [], ◌∷◌, Option, None, Some, IfSome, IfNone}
use Rattle.std.specs.Ordering.{is_le, is_lt}
use Rattle.std.specs.FinMap.{entries, entries_sorted, find, get, get-entries}
use Rattle.std.specs.List.{filter}
use Rattle.std.proofs.Common.{sym, ◌∙◌, ap, rules}
use Rattle.grid_address.proofs.Maps.{in_order}
use Rattle.grid_address.proofs.Places.{cells_total}
use Rattle.grid_address.specs.Place.{place_cmp, InSheet, Place}
use Rattle.sheet_store.specs.inner.RowOrder.{entries_behind, EndsAt, IsUpTo, NextHeld, NoneHeldBehind}
use Rattle.sheet_store.specs.Grid.{AreHeld, Cells}
use Rattle.sheet_store.specs.inner.Scan.{entries_from, left_from}
use Rattle.sheet_store.specs.State.{CellState}
use Rattle.sheet_store.proofs.Grids.{first_found, found_later}
use Rattle.sheet_store.proofs.Scans.{behind, next_here, none_here}

-- two tests that agree on the keys leave the same
filter_agrees : (p q : Place → Bool) (es : List (Place × CellState))
    → ((c : Place) (s : CellState) → find place_cmp c es ≡ Some s → p c ≡ q c)
    → filter (λ e. p e.0) es ≡ filter (λ e. q e.0) es
filter_agrees p q [] h = refl
filter_agrees p q (e ∷ es) h =
    ap (λ b. cond b (e ∷ filter (λ e. p e.0) es) (filter (λ e. p e.0) es)) (h e.0 e.1 (first_found e es))
    ∙ ap (λ l. cond (q e.0) (e ∷ l) l) (filter_agrees p q es (λ c s k. (let t = found_later e es c s k in h c t.0 t.1)))

none_left : (es : List (Place × CellState)) → filter (λ e. false) es ≡ []
none_left [] = refl
none_left (e ∷ es) = none_left es

all_left : (es : List (Place × CellState)) → filter (λ e. true) es ≡ es
all_left [] = refl
all_left (e ∷ es) = ap (λ l. e ∷ l) (all_left es)

-- the next place up to where all end is the next one that may have a state
pub next_up_to : (m : Cells) (last c : Place) (next : Option Place) → EndsAt m last
    → IfSome next (λ d. (p : Place) → IsUpTo last p → is_lt (place_cmp c p) ≡ is_le (place_cmp d p))
    → IfSome next (λ d. NextHeld m c d)
next_up_to m last c None ends h = h
next_up_to m last c (Some d) ends h = λ p s i g. h p (ends p s g)

-- where there is none, no cell behind has a state
pub none_up_to : (m : Cells) (last c : Place) (next : Option Place) → EndsAt m last
    → IfNone next ((p : Place) → IsUpTo last p → is_lt (place_cmp c p) ≡ false) → IfNone next (NoneHeldBehind m c)
none_up_to m last c None ends h = λ p s i g. h p (ends p s g)
none_up_to m last c (Some d) ends h = h

module _ (m : Cells) (held : AreHeld m) where
  agrees_inside : (p q : Place → Bool) → ((c : Place) → InSheet c → p c ≡ q c)
      → filter (λ e. p e.0) (entries m) ≡ filter (λ e. q e.0) (entries m)
  agrees_inside p q h = filter_agrees p q (entries m) (λ c s k. h c (held c s (get-entries m c ∙ k)).inside)

  -- the same of a next one behind which nothing is left out
  pub left_past : (c : Place) (next : Option Place) → IfSome next (λ d. NextHeld m c d)
      → IfNone next (NoneHeldBehind m c) → entries_behind c (entries m) ≡ left_from next (entries m)
  left_past c None some none =
      filter_agrees (λ p. is_lt (place_cmp c p)) (λ p. false) (entries m)
      (λ p s k. none p s (held p s (get-entries m p ∙ k)).inside (get-entries m p ∙ k))
      ∙ none_left (entries m)
  left_past c (Some d) some none =
      filter_agrees (λ p. is_lt (place_cmp c p)) (λ p. is_le (place_cmp d p)) (entries m)
      (λ p s k. some p s (held p s (get-entries m p ∙ k)).inside (get-entries m p ∙ k))

  -- what stands behind a place is what is left from the next one on, up to where all end
  pub left_next : (last c : Place) (next : Option Place) → EndsAt m last
      → IfSome next (λ d. (p : Place) → IsUpTo last p → is_lt (place_cmp c p) ≡ is_le (place_cmp d p))
      → IfNone next ((p : Place) → IsUpTo last p → is_lt (place_cmp c p) ≡ false)
      → entries_behind c (entries m) ≡ left_from next (entries m)
  left_next last c next ends some none =
      left_past c next (next_up_to m last c next ends some) (none_up_to m last c next ends none)

  first_le : (p : Place) → is_le (place_cmp (record { row = 0; col = 0 }) p) ≡ true
  first_le p = search rules

  -- from the first place on, all is left
  pub all_from_first : left_from (Some (record { row = 0; col = 0 })) (entries m) ≡ entries m
  all_from_first =
      agrees_inside (λ p. is_le (place_cmp (record { row = 0; col = 0 }) p)) (λ p. true) (λ p i. first_le p)
      ∙ all_left (entries m)

  -- a place that has a state comes next
  pub left_here : (c : Place) (s : CellState) → get m c ≡ Some s
      → entries_from c (entries m) ≡ (c, s) ∷ entries_behind c (entries m)
  unfolding behind
  left_here c s h =
      next_here c s (entries m) (in_order cells_total (entries m) (entries_sorted m)) (sym (get-entries m c) ∙ h)

  -- a place that has none is passed over
  pub left_over_none : (c : Place) → get m c ≡ None → entries_from c (entries m) ≡ entries_behind c (entries m)
  unfolding behind
  left_over_none c h = none_here c (entries m) (sym (get-entries m c) ∙ h)
