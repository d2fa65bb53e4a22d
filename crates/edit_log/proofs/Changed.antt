-- Cells beside those that change.
use Rattle.std.specs.Prelude.{◌≡◌, ◌<◌, ◌++◌, ◌||◌, ℕ, zero, suc, get_or, length, Bool, true, false, cond, refl}
use Rattle.std.specs.Prelude.{if◌then◌else◌, List, [], ◌∷◌, Option, None, Some, OnErr, OnOk, Result, Ok, Err}
use Rattle.std.specs.FinMap.{get, insert, remove}
use Rattle.std.proofs.Common.{ap, arith, sym, subst, ◌∙◌, inl, inr}
use Rattle.std.proofs.lemmas.Bool.{cases_Bool, false≢true, or_cases, or_left, or_parts, or_right}
use Rattle.cell_maps.specs.Sets.{has, insert_key}
use Rattle.grid_address.proofs.Places.{get_inserted, get_removed, same_place_is, same_place_itself, same_places}
use Rattle.grid_address.specs.Place.{same_place, Place}
use Rattle.sheet_store.specs.Grid.{Cells, Grid}
use Rattle.sheet_store.specs.State.{CellState}
use Rattle.edit_log.specs.Changes.{all_changed, cells_of, changed_at, is_noted, with_changes}

-- the last change is made last
pub all_and : (m : Cells) (es : List (Place × Option CellState)) (e : Place × Option CellState) →
    all_changed m (es ++ e ∷ []) ≡ changed_at (all_changed m es) e.0 e.1
all_and m [] e = refl
all_and m (x ∷ es) e = all_and (changed_at m x.0 x.1) es e

-- the last change is of the last cell
pub cells_and : (es : List (Place × Option CellState)) (e : Place × Option CellState) →
    cells_of (es ++ e ∷ []) ≡ cells_of es ++ e.0 ∷ []
cells_and [] e = refl
cells_and (x ∷ es) e = ap (λ cs. x.0 ∷ cs) (cells_and es e)

-- what a map has after a change
pub get_changed : (m : Cells) (c : Place) (o : Option CellState) (q : Place) →
    get (changed_at m c o) q ≡ cond (same_place q c) o (get m q)
get_changed m c None q = get_removed m c q
get_changed m c (Some s) q = get_inserted m c s q

-- where maps have the same beside the cells that change, they have the same after it
get_same : (m n : Cells) (es : List (Place × Option CellState)) (q : Place) →
    (is_noted es q ≡ false → get m q ≡ get n q) → get (all_changed m es) q ≡ get (all_changed n es) q
get_same m n [] q h = h refl
get_same m n (e ∷ es) q h = get_same (changed_at m e.0 e.1) (changed_at n e.0 e.1) es q (λ out.
    elim (cases_Bool (same_place q e.0)) [
      | inl t ↦
          get_changed m e.0 e.1 q ∙ ap (λ b. cond b e.1 (get m q)) t
          ∙ sym (get_changed n e.0 e.1 q ∙ ap (λ b. cond b e.1 (get n q)) t)
      | inr f ↦
          get_changed m e.0 e.1 q ∙ ap (λ b. cond b e.1 (get m q)) f ∙ h (ap (λ b. b || is_noted es q) f ∙ out)
          ∙ sym (get_changed n e.0 e.1 q ∙ ap (λ b. cond b e.1 (get n q)) f)
    ])

-- the changed maps are one where the maps have the same beside the cells that change
pub all_same : (m n : Cells) (es : List (Place × Option CellState)) →
    ((q : Place) → is_noted es q ≡ false → get m q ≡ get n q) → all_changed m es ≡ all_changed n es
all_same m n es h = same_places (all_changed m es) (all_changed n es) (λ q. get_same m n es q (h q))

-- a cell that doesn't change has what it had
pub get_beside : (m : Cells) (es : List (Place × Option CellState)) (q : Place) → is_noted es q ≡ false →
    get (all_changed m es) q ≡ get m q
get_beside m [] q h = refl
get_beside m (e ∷ es) q h = elim (cases_Bool (same_place q e.0)) [
  | inl t ↦ absurd (false≢true (sym h ∙ ap (λ b. b || is_noted es q) t))
  | inr f ↦
      get_beside (changed_at m e.0 e.1) es q (sym (ap (λ b. b || is_noted es q) f) ∙ h)
      ∙ get_changed m e.0 e.1 q ∙ ap (λ b. cond b e.1 (get m q)) f
]

-- a cell that doesn't change isn't one of those that do
pub is_beside : (es : List (Place × Option CellState)) (i : ℕ) (e : Place × Option CellState) (q : Place) →
    e ≡ get_or es i e → i < length es → is_noted es q ≡ false → same_place q e.0 ≡ false
is_beside [] i e q is l f = absurd (omega (arith, l))
is_beside (x ∷ es) zero e q is l f =
    subst (λ (y : Place × Option CellState). same_place q y.0 ≡ false) (sym is)
    (or_parts (same_place q x.0) (is_noted es q) f).0
is_beside (x ∷ es) (suc i) e q is l f =
    is_beside es i e q is (omega (arith, l)) (or_parts (same_place q x.0) (is_noted es q) f).1

-- one more change leaves the cells that don't change
pub beside_more : (m n : Cells) (es : List (Place × Option CellState)) (i : ℕ) (e : Place × Option CellState) →
    e ≡ get_or es i e → i < length es → ((q : Place) → is_noted es q ≡ false → get n q ≡ get m q) →
    (q : Place) → is_noted es q ≡ false → get (changed_at n e.0 e.1) q ≡ get m q
beside_more m n es i e is l h q f =
    get_changed n e.0 e.1 q ∙ ap (λ b. cond b e.1 (get n q)) (is_beside es i e q is l f) ∙ h q f

-- changes lead to the same from where the other cells and the columns are the same
pub again : (g h : Grid) (es : List (Place × Option CellState)) →
    ((q : Place) → is_noted es q ≡ false → get h.cells q ≡ get g.cells q) →
    h.widths ≡ g.widths → h.hidden ≡ g.hidden → with_changes h es ≡ with_changes g es
again g h es same wide hide =
    λ i. record { cells = all_same h.cells g.cells es same i; widths = wide i; hidden = hide i }

-- a cell that gets what it has changes nothing
pub same_put : (m : Cells) (es : List (Place × Option CellState)) (c : Place) (o : Option CellState) →
    is_noted es c ≡ false → o ≡ get m c → all_changed m (es ++ (c, o) ∷ []) ≡ all_changed m es
same_put m es c o out is =
    let made = all_changed m es in
    all_and m es (c, o) ∙ same_places (changed_at made c o) made (λ q. get_changed made c o q
    ∙ elim (cases_Bool (same_place q c)) [
      | inl t ↦
          ap (λ b. cond b o (get made q)) t ∙ is ∙ sym (get_beside m es c out)
          ∙ ap (get made) (sym (same_place_is q c t))
      | inr f ↦ ap (λ b. cond b o (get made q)) f
    ])

-- the cells that are noted, with one more
pub added : (keys : List Place) (items now : List (Place × Option CellState)) (cell : Place)
    (change : Place × Option CellState) → keys ≡ cells_of items → items ≡ now → is_noted now change.0 ≡ false →
    cell ≡ change.0 → insert_key same_place keys cell ≡ cells_of (items ++ change ∷ [])
added keys items now cell change inside view absent is =
    ap (λ k. insert_key same_place keys k) is ∙ ap (λ ks. insert_key same_place ks change.0) inside
    ∙ ap (λ (b : Bool). if b then cells_of items else cells_of items ++ change.0 ∷ [])
    (ap (λ l. is_noted l change.0) view ∙ absent) ∙ sym (cells_and items change)

-- what is noted stays so
pub noted_more : (es : List (Place × Option CellState)) (e : Place × Option CellState) (q : Place) →
    is_noted es q ≡ true → is_noted (es ++ e ∷ []) q ≡ true
noted_more [] e q h = absurd (false≢true h)
noted_more (x ∷ es) e q h = elim (or_cases (same_place q x.0) (is_noted es q) h) [
  | inl t ↦ or_left _ _ t
  | inr k ↦ or_right _ _ (noted_more es e q k)
]

-- and the last is
pub noted_last : (es : List (Place × Option CellState)) (e : Place × Option CellState) →
    is_noted (es ++ e ∷ []) e.0 ≡ true
noted_last [] e = or_left _ _ (same_place_itself e.0)
noted_last (x ∷ es) e = or_right _ _ (noted_last es e)

-- an answer, whichever it is
pub either : {A E : Type 0} (r : Result A E) {P Q R : Type 0} → OnOk r P → OnErr r Q → (P → R) → (Q → R) → R
either (Ok x) p q f g = f p
either (Err e) p q f g = g q
