-- Runs of cells that are noted at once, and the set of cells that follows.
use Rattle.std.specs.Prelude.{◌≡◌, ◌<◌, ◌≤◌, ◌+◌, ◌++◌, ◌||◌, ℕ, zero, suc, get_or, length, take, Bool, true, false}
use Rattle.std.specs.Prelude.{refl, if◌then◌else◌, List, [], ◌∷◌, Option}
use Rattle.std.specs.FinMap.{get}
use Rattle.std.specs.List.{IsDistinct}
use Rattle.std.proofs.Common.{ap, arith, sym, subst, ◌∙◌, inl, inr}
use Rattle.std.proofs.lemmas.Bool.{cases_Bool, false_from_ne_true, false≢true, or_cases, or_left, or_right}
use Rattle.std.proofs.lemmas.List.{append_assoc, length-take, take-append-le, take_all, take_more}
use Rattle.std.proofs.lemmas.List.Folds.{list_any-append}
use Rattle.std.proofs.lemmas.Map.Keys.{IsDistinct-push}
use Rattle.std.proofs.Math.Seq.{take-append_seam, take-length}
use Rattle.cell_maps.proofs.Sets.{fresh}
use Rattle.cell_maps.specs.Sets.{has, insert_key}
use Rattle.grid_address.proofs.Places.{same_place_is, same_place_itself, same_place_laws}
use Rattle.grid_address.specs.Place.{rank, same_place, Place}
use Rattle.sheet_store.specs.Grid.{Cells}
use Rattle.sheet_store.specs.State.{CellState}
use Rattle.edit_log.proofs.Changed.{cells_and, same_put}
use Rattle.edit_log.specs.Changes.{all_changed, cells_of, is_noted, AreOnce}
use Rattle.edit_log.specs.inner.Runs.{AreListed}

-- no cell of none comes twice
pub none_twice : IsDistinct same_place []
unfolding IsDistinct
none_twice = tt

module _ (cells : List Place) (i : ℕ) (x : Place) (is : x ≡ get_or cells i x) (lt : i < length cells) where
  -- the cells as far as the next one
  front_more : take (i + 1) cells ≡ take i cells ++ x ∷ []
  front_more = take_more cells i x lt ∙ ap (λ y. take i cells ++ y ∷ []) (sym is)

  -- one that lies behind all of those before it isn't among them
  behind : (least r : ℕ) → r ≡ rank x → least ≤ r →
      ((c : Place) → has same_place (take i cells) c ≡ true → rank c < least) → has same_place (take i cells) x ≡ false
  behind least r e le below = false_from_ne_true _ (λ h. let b = below x h in absurd (omega (arith, b, e, le)))

  -- so none of the cells comes twice
  pub distinct_next : (least r : ℕ) → r ≡ rank x → least ≤ r →
      ((c : Place) → has same_place (take i cells) c ≡ true → rank c < least) →
      IsDistinct same_place (take i cells) → IsDistinct same_place (take (i + 1) cells)
  distinct_next least r e le below d = subst (IsDistinct same_place) (sym front_more)
      (IsDistinct-push same_place_laws (take i cells) x d (behind least r e le below))

  -- and all of them lie before the next one's end
  pub below_next : (least r : ℕ) → r ≡ rank x → least ≤ r →
      ((c : Place) → has same_place (take i cells) c ≡ true → rank c < least) →
      (c : Place) → has same_place (take (i + 1) cells) c ≡ true → rank c < r + 1
  below_next least r e le below c h = elim (or_cases (has same_place (take i cells) c) (same_place c x || false)
      (sym (ap (λ l. has same_place l c) front_more ∙ list_any-append (same_place c) (take i cells) (x ∷ [])) ∙ h)) [
        | inl t ↦ let b = below c t in omega (arith, b, le)
        | inr t ↦ elim (or_cases (same_place c x) false t) [
          | inl s ↦ let q = ap rank (same_place_is c x s) in omega (arith, q, e)
          | inr f ↦ absurd (false≢true f)
        ]
      ]

-- a cell that stands among others is one of them
among : (cells : List Place) (i : ℕ) (x : Place) → x ≡ get_or cells i x → i < length cells →
    has same_place cells x ≡ true
among [] i x is lt = absurd (omega (arith, lt))
among (c ∷ cs) zero x is lt = or_left _ _ (subst (λ (y : Place). same_place x y ≡ true) is (same_place_itself x))
among (c ∷ cs) (suc i) x is lt = or_right _ _ (among cs i x is (omega (arith, lt)))

-- none of some cells is of one change more
pub beside_next : (es : List (Place × Option CellState)) (i : ℕ) (e : Place × Option CellState) → e ≡ get_or es i e →
    i < length es → (cells : List Place) → has same_place cells e.0 ≡ false →
    ((c : Place) → has same_place cells c ≡ true → is_noted (take i es) c ≡ false) →
    (c : Place) → has same_place cells c ≡ true → is_noted (take (i + 1) es) c ≡ false
beside_next es i e is lt cells out before c h =
    ap (λ l. is_noted l c) (take_more es i e lt ∙ ap (λ (y : Place × Option CellState). take i es ++ y ∷ []) (sym is))
    ∙ ap (λ l. has same_place l c) (cells_and (take i es) e)
    ∙ list_any-append (same_place c) (cells_of (take i es)) (e.0 ∷ [])
    ∙ ap (λ b. b || (same_place c e.0 || false)) (before c h) ∙ ap (λ b. b || false) other
  where
    other : same_place c e.0 ≡ false
    other = false_from_ne_true _ (λ t. false≢true (sym out
        ∙ subst (λ (y : Place). has same_place cells y ≡ true) (same_place_is c e.0 t) h))

-- what is listed stays so where one more change comes, of a cell that isn't noted
listed_more : (keys : List Place) (es : List (Place × Option CellState)) (e : Place × Option CellState) →
    is_noted es e.0 ≡ false → AreListed keys es → AreListed keys (es ++ e ∷ [])
listed_more keys es e out old =
    let cs = cells_of es in
    let fits : length keys ≤ length cs =
    let k = ap length old.first ∙ length-take (length keys) cs in omega (arith, k) in
    record {
      first = old.first ∙ sym (take-append-le (length keys) cs (e.0 ∷ []) fits)
          ∙ ap (take (length keys)) (sym (cells_and es e));
      once = subst (IsDistinct same_place) (sym (cells_and es e)) (IsDistinct-push same_place_laws cs e.0 old.once out);
    }

module _ (m : Cells) (before : List (Place × Option CellState)) (cells : List Place) (i : ℕ) (x : Place)
    (is : x ≡ get_or cells i x) (lt : i < length cells) (once : IsDistinct same_place cells)
    (beside : (c : Place) → has same_place cells c ≡ true → is_noted before c ≡ false)
    (old : List (Place × Option CellState)) (front : cells_of old ≡ cells_of before ++ take i cells)
    (new : List (Place × Option CellState)) (e : Place × Option CellState) (has_it : e ≡ (x, get m x))
    (more : new ≡ old ++ e ∷ []) where
  -- the cell of a change more
  cell_is : e.0 ≡ x
  cell_is = ap (λ (y : Place × Option CellState). y.0) has_it

  -- the next cell of a run isn't noted
  unnoted : is_noted old x ≡ false
  unnoted = ap (λ l. has same_place l x) front
      ∙ list_any-append (same_place x) (cells_of before) (take i cells)
      ∙ ap (λ b. b || has same_place (take i cells) x) (beside x (among cells i x is lt)) ∙ fresh cells i x once lt is

  -- what is noted of a run comes behind what was noted
  pub run_cells : cells_of new ≡ cells_of before ++ take (i + 1) cells
  run_cells = ap cells_of more ∙ cells_and old e ∙ ap (λ l. l ++ e.0 ∷ []) front
      ∙ ap (λ y. (cells_of before ++ take i cells) ++ y ∷ []) cell_is
      ∙ append_assoc (cells_of before) (take i cells) (x ∷ [])
      ∙ ap (λ l. cells_of before ++ l) (sym (front_more cells i x is lt))

  -- it changes nothing
  pub run_before : all_changed m old ≡ all_changed m before → all_changed m new ≡ all_changed m before
  run_before same = ap (all_changed m) more
      ∙ ap (λ (y : Place × Option CellState). all_changed m (old ++ y ∷ [])) has_it
      ∙ same_put m old x (get m x) unnoted refl ∙ same

  -- and what was listed still is
  pub run_listed : ((keys : List Place) → AreListed keys before → AreListed keys old) →
      (keys : List Place) → AreListed keys before → AreListed keys new
  run_listed all keys h = subst (AreListed keys) (sym more)
      (listed_more keys old e (ap (is_noted old) cell_is ∙ unnoted) (all keys h))

-- a front is as long as it is
front_itself : (i : ℕ) (cs : List Place) → take i cs ≡ take (length (take i cs)) cs
front_itself zero cs = refl
front_itself (suc i) [] = refl
front_itself (suc i) (c ∷ cs) = ap (λ l. c ∷ l) (front_itself i cs)

-- keys that are a front of the cells are listed
pub front_listed : (keys : List Place) (es : List (Place × Option CellState)) (i : ℕ) →
    keys ≡ take i (cells_of es) → AreOnce es → AreListed keys es
front_listed keys es i is once = record {
  first = is ∙ front_itself i (cells_of es) ∙ ap (λ (l : List Place). take (length l) (cells_of es)) (sym is);
  once = once;
}

-- and so are all of the cells
pub all_listed : (keys : List Place) (es : List (Place × Option CellState)) → keys ≡ cells_of es →
    IsDistinct same_place keys → AreListed keys es
all_listed keys es is d = front_listed keys es (length (cells_of es)) (is ∙ sym (take-length (cells_of es)))
    (subst (IsDistinct same_place) is d)

-- nothing is noted
pub none_listed : (keys : List Place) (es : List (Place × Option CellState)) → keys ≡ [] → es ≡ [] →
    AreListed keys es
none_listed keys es k e = all_listed keys es (k ∙ sym (ap cells_of e))
    (subst (IsDistinct same_place) (sym k) none_twice)

-- there are as many cells as changes
cells_long : (es : List (Place × Option CellState)) → length (cells_of es) ≡ length es
cells_long [] = refl
cells_long (e ∷ es) = ap suc (cells_long es)

-- the cell of a change
cell_at : (es : List (Place × Option CellState)) (i : ℕ) (e : Place × Option CellState) → e ≡ get_or es i e →
    i < length es → e.0 ≡ get_or (cells_of es) i e.0
cell_at [] i e is lt = absurd (omega (arith, lt))
cell_at (x ∷ es) zero e is lt = ap (λ (y : Place × Option CellState). y.0) is
cell_at (x ∷ es) (suc i) e is lt = cell_at es i e is (omega (arith, lt))

-- with one more key, a front is longer by one
pub key_more : (es : List (Place × Option CellState)) (i : ℕ) (e : Place × Option CellState) → e ≡ get_or es i e →
    i < length es → AreOnce es → (keys new : List Place) (cell : Place) → keys ≡ take i (cells_of es) →
    cell ≡ e.0 → new ≡ insert_key same_place keys cell → new ≡ take (i + 1) (cells_of es)
key_more es i e is lt once keys new cell front cell_is more =
    let cs = cells_of es in
    let there : e.0 ≡ get_or cs i e.0 = cell_at es i e is lt in
    let inside : i < length cs = let k = cells_long es in omega (arith, k, lt) in
    more ∙ ap (insert_key same_place keys) cell_is ∙ ap (λ ks. insert_key same_place ks e.0) front
    ∙ ap (λ (b : Bool). if b then take i cs else take i cs ++ e.0 ∷ []) (fresh cs i e.0 once inside there)
    ∙ sym (front_more cs i e.0 there inside)

-- all keys are there
pub key_all : (es : List (Place × Option CellState)) (i : ℕ) (keys : List Place) → keys ≡ take i (cells_of es) →
    length es ≤ i → keys ≡ cells_of es
key_all es i keys front le = front ∙ take_all i (cells_of es) (let k = cells_long es in omega (arith, k, le))

-- a key that was put in is taken out again
pub key_back : (keys : List Place) (c : Place) → take (length keys) (insert_key same_place keys c) ≡ keys
key_back keys c = elim (cases_Bool (has same_place keys c)) [
  | inl t ↦ ap (λ (b : Bool). take (length keys) (if b then keys else keys ++ c ∷ [])) t ∙ take-length keys
  | inr f ↦ ap (λ (b : Bool). take (length keys) (if b then keys else keys ++ c ∷ [])) f
      ∙ take-append_seam keys (c ∷ [])
]
