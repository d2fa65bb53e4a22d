-- Every cell of the map lies in the sheet, and where the last used cell is.
use Rattle.std.specs.Prelude.{ℕ, ◌≡◌, ◌≤◌, ◌&&◌, cond, max, refl, List, [], ◌∷◌, None, Some}
use Rattle.std.specs.FinMap.{entries, find, from_entries, get, get-entries, get-from_entries}
use Rattle.std.specs.Ordering.{eq_by_cmp}
use Rattle.std.proofs.Common.{sym, ◌∙◌, ap, subst, arith, inl, inr}
use Rattle.std.proofs.lemmas.Bool.{cases_Bool}
use Rattle.std.proofs.lemmas.Option.{none-some, same_Some}
use Rattle.grid_address.proofs.Places.{cells_total, in_whole, place_tied, same_place_itself}
use Rattle.grid_address.specs.Place.{place_cmp, whole, InSheet, Place}
use Rattle.cell_maps.specs.Filled.{filled}
use Rattle.cell_maps.specs.declared.held.Held.{Held}
use Rattle.sheet_store.proofs.Held.{tied}
use Rattle.sheet_store.specs.Grid.{formulas_among, holds_formula, is_formula, last_among, picked, AreHeld, Cells}
use Rattle.sheet_store.specs.State.{CellState}
use Rattle.sheet_store.specs.inner.RowOrder.{EndsAt, IsUpTo}

-- the first entry is found at its place
pub first_found : (e : Place × CellState) (es : List (Place × CellState)) → find place_cmp e.0 (e ∷ es) ≡ Some e.1
first_found e es = ap (λ b. cond b (Some e.1) (find place_cmp e.0 es)) (place_tied e.0 e.0 ∙ same_place_itself e.0)

-- what is found in the rest is found, perhaps with another state
pub found_later : (e : Place × CellState) (es : List (Place × CellState)) (p : Place) (s : CellState)
    → find place_cmp p es ≡ Some s → (t : CellState) × (find place_cmp p (e ∷ es) ≡ Some t)
found_later e es p s h = elim (cases_Bool (eq_by_cmp place_cmp p e.0)) [
  | inl t ↦ (e.1, ap (λ b. cond b (Some e.1) (find place_cmp p es)) t)
  | inr f ↦ (s, ap (λ b. cond b (Some e.1) (find place_cmp p es)) f ∙ h)
]

whole_among : (es : List (Place × CellState)) → ((p : Place) (s : CellState) → find place_cmp p es ≡ Some s → InSheet p)
    → picked holds_formula whole es ≡ formulas_among es
whole_among [] h = refl
whole_among (e ∷ es) h =
    ap (λ b. cond (b && holds_formula e.1) (e.0 ∷ picked holds_formula whole es) (picked holds_formula whole es))
    (in_whole e.0 (h e.0 e.1 (first_found e es)))
    ∙ ap (λ l. cond (is_formula e.1.content) (e.0 ∷ l) l)
    (whole_among es (λ p s k. (let t = found_later e es p s k in h p t.0 t.1)))

-- the formulas of the whole sheet are all formulas
pub formulas_whole : (m : Cells) → AreHeld m → picked holds_formula whole (entries m) ≡ formulas_among (entries m)
formulas_whole m held = whole_among (entries m) (λ p s h. (held p s (get-entries m p ∙ h)).inside)

-- the largest number among the cells
most : (Place → ℕ) → ℕ → List (Place × CellState) → ℕ
most f n [] = n
most f n (e ∷ es) = most f (max n (f e.0)) es

last_is : (q : Place) (es : List (Place × CellState))
    → last_among (Some q) es ≡ Some (record { row = most (λ p. p.row) q.row es; col = most (λ p. p.col) q.col es })
unfolding most
last_is q [] = refl
last_is q (e ∷ es) = last_is (record { row = max q.row e.0.row; col = max q.col e.0.col }) es

module _ (f : Place → ℕ) where
  at_least : (n : ℕ) (es : List (Place × CellState)) → n ≤ most f n es
  unfolding most
  at_least n [] = omega arith
  at_least n (e ∷ es) = let k = at_least (max n (f e.0)) es in omega (arith, k)

  no_less : (n : ℕ) (es : List (Place × CellState)) (p : Place) (s : CellState) → find place_cmp p es ≡ Some s
      → f p ≤ most f n es
  unfolding most
  no_less n [] p s h = absurd cc
  no_less n (e ∷ es) p s h = elim (cases_Bool (eq_by_cmp place_cmp p e.0)) [
    | inl t ↦
        let k = at_least (max n (f e.0)) es in
        let same : f p ≡ f e.0 = ap f (tied p e.0 t) in
        omega (arith, k, same)
    | inr g ↦ no_less (max n (f e.0)) es p s (sym (ap (λ b. cond b (Some e.1) (find place_cmp p es)) g) ∙ h)
  ]

  -- nor is it less with the first cell's number to begin with
  no_less_of_all : (e : Place × CellState) (es : List (Place × CellState)) (p : Place) (s : CellState)
      → find place_cmp p (e ∷ es) ≡ Some s → f p ≤ most f (f e.0) es
  no_less_of_all e es p s h = elim (cases_Bool (eq_by_cmp place_cmp p e.0)) [
    | inl t ↦
        let k = at_least (f e.0) es in
        let is : f p ≡ f e.0 = ap f (tied p e.0 t) in
        omega (arith, k, is)
    | inr b ↦ no_less (f e.0) es p s (sym (ap (λ b. cond b (Some e.1) (find place_cmp p es)) b) ∙ h)
  ]

  -- it is the first number, or a cell's
  reached : (n : ℕ) (es : List (Place × CellState)) (bound : ℕ) → n ≤ bound
      → ((p : Place) (s : CellState) → find place_cmp p es ≡ Some s → f p ≤ bound) → most f n es ≤ bound
  unfolding most
  reached n [] bound h k = h
  reached n (e ∷ es) bound h k =
      let here = k e.0 e.1 (first_found e es) in
      reached (max n (f e.0)) es bound (omega (arith, h, here))
      (λ p s g. (let t = found_later e es p s g in k p t.0 t.1))

  below : (es fs : List (Place × CellState)) (e g : Place × CellState)
      → ((p : Place) → find place_cmp p (e ∷ es) ≡ find place_cmp p (g ∷ fs)) → most f (f e.0) es ≤ most f (f g.0) fs
  below es fs e g same =
      reached (f e.0) es (most f (f g.0) fs) (member e.0 e.1 (first_found e es))
      (λ p s h. (let t = found_later e es p s h in member p t.0 t.1))
    where
      member : (p : Place) (s : CellState) → find place_cmp p (e ∷ es) ≡ Some s → f p ≤ most f (f g.0) fs
      member p s h = no_less_of_all g fs p s (sym (same p) ∙ h)

-- no cell lies behind the last row or the last column
up_to_last : (es : List (Place × CellState)) (last : Place) → last_among None es ≡ Some last → (p : Place)
    (s : CellState) → find place_cmp p es ≡ Some s → IsUpTo last p
up_to_last [] last h p s k = absurd cc
up_to_last (e ∷ es) last h p s k =
    let is = same_Some _ last (sym (last_is e.0 es) ∙ h) in (
      subst (λ (q : Place). p.row ≤ q.row) is (no_less_of_all (λ p. p.row) e es p s k),
      subst (λ (q : Place). p.col ≤ q.col) is (no_less_of_all (λ p. p.col) e es p s k),
    )

-- so a map ends there
pub ends_at_last : (m : Cells) (last : Place) → last_among None (entries m) ≡ Some last → EndsAt m last
ends_at_last m last h p s k = up_to_last (entries m) last h p s (sym (get-entries m p) ∙ k)

-- nor do cells lie behind the sheet's end
pub ends_with_sheet : (m : Cells) → AreHeld m → EndsAt m (record { row = 8191; col = 255 })
ends_with_sheet m held p s h =
    let inside = (held p s h).inside in (omega (arith, inside.0), omega (arith, inside.1))

-- it is the same in any order
last_same : (es fs : List (Place × CellState)) → ((p : Place) → find place_cmp p es ≡ find place_cmp p fs)
    → last_among None es ≡ last_among None fs
last_same [] [] h = refl
last_same [] (g ∷ fs) h = absurd (none-some g.1 (h g.0 ∙ first_found g fs))
last_same (e ∷ es) [] h = absurd (none-some e.1 (sym (h e.0) ∙ first_found e es))
last_same (e ∷ es) (g ∷ fs) h =
    let back : (p : Place) → find place_cmp p (g ∷ fs) ≡ find place_cmp p (e ∷ es) = λ p. sym (h p) in
    let a = below (λ p. p.row) es fs e g h in
    let b = below (λ p. p.row) fs es g e back in
    let c = below (λ p. p.col) es fs e g h in
    let d = below (λ p. p.col) fs es g e back in
    let r : most (λ p. p.row) e.0.row es ≡ most (λ p. p.row) g.0.row fs = omega (arith, a, b) in
    let s : most (λ p. p.col) e.0.col es ≡ most (λ p. p.col) g.0.col fs = omega (arith, c, d) in
    last_is e.0 es ∙ (λ i. Some (record { row = r i; col = s i })) ∙ sym (last_is g.0 fs)

-- among the held cells, and among the map's entries
pub last_held : (hs : List (Held CellState)) (m : Cells) → from_entries (filled hs) ≡ m
    → last_among None (filled hs) ≡ last_among None (entries m)
last_held hs m e =
    last_same (filled hs) (entries m)
    (λ p. sym (get-from_entries cells_total (filled hs) p) ∙ ap (λ m. get m p) e ∙ get-entries m p)
