-- A scan that goes on at the next place of the span picks what lies in it.
use Rattle.std.specs.Prelude.{◌≤◌, ◌≡◌, ◌<◌, Bool, true, false, cond, ◌&&◌, refl, List, [], ◌∷◌, ◌++◌, Option, None}
use Rattle.std.specs.Prelude.{Some, IfSome, IfNone}
use Rattle.std.specs.declared.cmp.Ordering.{Ordering}
use Rattle.std.specs.declared.cmp.Ordering.TheVariants.{Less, Equal, Greater}
use Rattle.std.specs.Ordering.{eq_by_cmp, is_eq, is_le, is_lt, ordering_reverse}
use Rattle.std.specs.FinMap.{find}
use Rattle.std.specs.List.{filter, AllByRecursion}
use Rattle.std.specs.List.Sorted.{IsStrictlySortedBy}
use Rattle.std.specs.Map.{keys_of}
use Rattle.std.proofs.Common.{sym, ◌∙◌, ap, subst, inl, inr, append_assoc, arith, rules}
use Rattle.std.proofs.lemmas.Bool.{cases_Bool}
use Rattle.std.proofs.lemmas.Cmp.{tied_itself}
use Rattle.std.proofs.lemmas.Option.{none-some, same_Some}
use Rattle.grid_address.proofs.Places.{cells_total}
use Rattle.grid_address.specs.Place.{is_within, place_cmp, Extent, InSheet, Place}
use Rattle.sheet_store.specs.Grid.{picked}
use Rattle.sheet_store.specs.inner.Scan.{entries_from, left_from, number_of, passed_at, places_left}
use Rattle.sheet_store.specs.State.{CellState}
use Rattle.sheet_store.proofs.Held.{tied}

module _ (test : CellState → Bool) (span : Extent) where
  -- what is filtered out beside the span doesn't matter
  picked_filter : (p q : Place → Bool) → ((c : Place) → is_within span c ≡ true → p c ≡ q c)
      → (es : List (Place × CellState))
      → picked test span (filter (λ e. p e.0) es) ≡ picked test span (filter (λ e. q e.0) es)
  picked_filter p q h [] = refl
  picked_filter p q h (e ∷ es) = elim (cases_Bool (is_within span e.0)) [
    | inl t ↦
        ap (λ b. picked test span (cond b (e ∷ filter (λ e. p e.0) es) (filter (λ e. p e.0) es))) (h e.0 t)
        ∙ same (q e.0) (picked_filter p q h es)
    | inr f ↦
        beside (p e.0) (filter (λ e. p e.0) es) f ∙ picked_filter p q h es
        ∙ sym (beside (q e.0) (filter (λ e. q e.0) es) f)
  ]
    where
      same : (b : Bool) → picked test span (filter (λ e. p e.0) es) ≡ picked test span (filter (λ e. q e.0) es)
          → picked test span (cond b (e ∷ filter (λ e. p e.0) es) (filter (λ e. p e.0) es))
          ≡ picked test span (cond b (e ∷ filter (λ e. q e.0) es) (filter (λ e. q e.0) es))
      same true k = ap (λ l. cond (is_within span e.0 && test e.1) (e.0 ∷ l) l) k
      same false k = k

      beside : (b : Bool) (l : List (Place × CellState)) → is_within span e.0 ≡ false
          → picked test span (cond b (e ∷ l) l) ≡ picked test span l
      beside true l f = ap (λ x. cond (x && test e.1) (e.0 ∷ picked test span l) (picked test span l)) f
      beside false l f = refl

  picked_none : (es : List (Place × CellState)) → picked test span (filter (λ e. false) es) ≡ []
  picked_none [] = refl
  picked_none (e ∷ es) = picked_none es

  picked_all : (es : List (Place × CellState)) → picked test span (filter (λ e. true) es) ≡ picked test span es
  picked_all [] = refl
  picked_all (e ∷ es) = ap (λ l. cond (is_within span e.0 && test e.1) (e.0 ∷ l) l) (picked_all es)

-- the entries behind a place
unfoldable pub behind : Place → List (Place × CellState) → List (Place × CellState)
behind c es = filter (λ e. is_lt (place_cmp c e.0)) es

-- all entries pass
filter_all : (f : Place → Bool) (es : List (Place × CellState)) → AllByRecursion (λ y. f y ≡ true) (keys_of es)
    → filter (λ e. f e.0) es ≡ es
filter_all f [] h = refl
filter_all f (e ∷ es) h =
    ap (λ b. cond b (e ∷ filter (λ e. f e.0) es) (filter (λ e. f e.0) es)) h.0 ∙ ap (λ l. e ∷ l) (filter_all f es h.1)

all_weaker : (P Q : Place → Type 0) → ((y : Place) → P y → Q y) → (es : List (Place × CellState))
    → AllByRecursion P (keys_of es) → AllByRecursion Q (keys_of es)
all_weaker P Q f [] h = h
all_weaker P Q f (e ∷ es) h = (f e.0 h.0, all_weaker P Q f es h.1)

reversed : (o : Ordering) → o ≡ Less → is_lt (ordering_reverse o) ≡ false
reversed Less h = refl
reversed Equal h = absurd cc
reversed Greater h = absurd cc

not_behind : (e x : Place) → place_cmp x e ≡ Less → is_lt (place_cmp e x) ≡ false
not_behind e x h = ap is_lt (cells_total.antisymm e x) ∙ reversed (place_cmp x e) h

not_itself : (x : Place) → is_lt (place_cmp x x) ≡ false
not_itself x = ap is_lt (tied_itself cells_total x)

not_le : (e x : Place) → place_cmp x e ≡ Less → is_le (place_cmp e x) ≡ false
not_le e x h = ap is_le (cells_total.antisymm e x) ∙ over (place_cmp x e) h
  where
    over : (o : Ordering) → o ≡ Less → is_le (ordering_reverse o) ≡ false
    over Less h = refl
    over Equal h = absurd cc
    over Greater h = absurd cc

find_has : (P : Place → Type 0) (c : Place) (s : CellState) (es : List (Place × CellState))
    → AllByRecursion P (keys_of es) → find place_cmp c es ≡ Some s → P c
find_has P c s [] h k = absurd cc
find_has P c s (x ∷ es) h k = elim (cases_Bool (eq_by_cmp place_cmp c x.0)) [
  | inl t ↦ subst P (sym (tied c x.0 t)) h.0
  | inr f ↦ find_has P c s es h.1 (sym (ap (λ b. cond b (Some x.1) (find place_cmp c es)) f) ∙ k)
]

-- a place that has a state is the first from there on
pub next_here : (c : Place) (s : CellState) (es : List (Place × CellState)) → IsStrictlySortedBy place_cmp (keys_of es)
    → find place_cmp c es ≡ Some s → entries_from c es ≡ (c, s) ∷ behind c es
unfolding IsStrictlySortedBy behind
next_here c s [] h k = absurd cc
next_here c s (x ∷ xs) h k = elim (cases_Bool (eq_by_cmp place_cmp c x.0)) [
  | inl t ↦
      let same : c ≡ x.0 = tied c x.0 t in
      let value : x.1 ≡ s = same_Some x.1 s (sym (ap (λ b. cond b (Some x.1) (find place_cmp c xs)) t) ∙ k) in
      let le : (y : Place) → place_cmp x.0 y ≡ Less → is_le (place_cmp x.0 y) ≡ true = λ y l. ap is_le l in
      let lt : (y : Place) → place_cmp x.0 y ≡ Less → is_lt (place_cmp x.0 y) ≡ true = λ y l. ap is_lt l in
      ap (λ d. entries_from d (x ∷ xs)) same
      ∙ ap (λ b. cond b (x ∷ entries_from x.0 xs) (entries_from x.0 xs)) (ap is_le (tied_itself cells_total x.0))
      ∙ ap (λ l. x ∷ l) (filter_all (λ y. is_le (place_cmp x.0 y)) xs (all_weaker _ _ le xs h.0)
      ∙ sym (ap (λ b. cond b (x ∷ behind x.0 xs) (behind x.0 xs)) (not_itself x.0)
      ∙ filter_all (λ y. is_lt (place_cmp x.0 y)) xs (all_weaker _ _ lt xs h.0)))
      ∙ (λ i. (sym same i, value i) ∷ behind (sym same i) (x ∷ xs))
  | inr f ↦
      let later : find place_cmp c xs ≡ Some s = sym (ap (λ b. cond b (Some x.1) (find place_cmp c xs)) f) ∙ k in
      let less : place_cmp x.0 c ≡ Less = find_has (λ y. place_cmp x.0 y ≡ Less) c s xs h.0 later in
      ap (λ b. cond b (x ∷ entries_from c xs) (entries_from c xs)) (not_le c x.0 less) ∙ next_here c s xs h.1 later
      ∙ ap (λ l. (c, s) ∷ l) (sym (ap (λ b. cond b (x ∷ behind c xs) (behind c xs)) (not_behind c x.0 less)))
]

le_is_lt : (o : Ordering) → is_eq o ≡ false → is_le o ≡ is_lt o
le_is_lt Less h = refl
le_is_lt Equal h = absurd cc
le_is_lt Greater h = refl

-- one that has none isn't among them
pub none_here : (c : Place) (es : List (Place × CellState)) → find place_cmp c es ≡ None
    → entries_from c es ≡ behind c es
unfolding behind
none_here c [] h = refl
none_here c (x ∷ xs) h = elim (cases_Bool (eq_by_cmp place_cmp c x.0)) [
  | inl t ↦ absurd (none-some x.1 (sym h ∙ ap (λ b. cond b (Some x.1) (find place_cmp c xs)) t))
  | inr f ↦
      ap (λ b. cond b (x ∷ entries_from c xs) (entries_from c xs)) (le_is_lt (place_cmp c x.0) f)
      ∙ ap (λ l. cond (is_lt (place_cmp c x.0)) (x ∷ l) l)
      (none_here c xs (sym (ap (λ b. cond b (Some x.1) (find place_cmp c xs)) f) ∙ h))
]

-- a span has its first cell
pub first_within : (s : Extent) → s.first.col ≤ s.last.col → s.first.row ≤ s.last.row → is_within s s.first ≡ true
first_within s h k = search rules

-- no cell of a span is before its first
pub within_from : (s : Extent) (p : Place) → is_within s p ≡ true → is_le (place_cmp s.first p) ≡ true
within_from s p h = search rules

module _ (test : CellState → Bool) (span : Extent) (es : List (Place × CellState)) where
  -- from the span's first cell on, all that is picked in it is left
  pub scan_begins : ((p : Place) → is_within span p ≡ true → is_le (place_cmp span.first p) ≡ true)
      → picked test span (entries_from span.first es) ≡ picked test span es
  scan_begins h =
      picked_filter test span (λ p. is_le (place_cmp span.first p)) (λ p. true) h es ∙ picked_all test span es

  left_behind : (e : Place) (next : Option Place)
      → IfSome next (λ c. (p : Place) → is_within span p ≡ true → is_lt (place_cmp e p) ≡ is_le (place_cmp c p))
      → IfNone next ((p : Place) → is_within span p ≡ true → is_lt (place_cmp e p) ≡ false)
      → picked test span (behind e es) ≡ picked test span (left_from next es)
  unfolding behind
  left_behind e None some none =
      picked_filter test span (λ p. is_lt (place_cmp e p)) (λ p. false) none es ∙ picked_none test span es
  left_behind e (Some c) some none =
      picked_filter test span (λ p. is_lt (place_cmp e p)) (λ p. is_le (place_cmp c p)) some es

  -- a place of the span with what it has
  passed_first : (c : Place) (x : CellState) (rest : List (Place × CellState)) → is_within span c ≡ true
      → picked test span ((c, x) ∷ rest) ≡ passed_at test c (Some x) ++ picked test span rest
  passed_first c x rest within =
      ap (λ b. cond (b && test x) (c ∷ picked test span rest) (picked test span rest)) within ∙ with (test x)
    where
      with : (b : Bool)
          → cond b (c ∷ picked test span rest) (picked test span rest) ≡ cond b (c ∷ []) [] ++ picked test span rest
      with true = refl
      with false = refl

  picked_here : (c : Place) → is_within span c ≡ true → IsStrictlySortedBy place_cmp (keys_of es)
      → picked test span (entries_from c es) ≡ passed_at test c (find place_cmp c es) ++ picked test span (behind c es)
  picked_here c within s = with (find place_cmp c es) refl
    where
      with : (o : Option CellState) → find place_cmp c es ≡ o
          → picked test span (entries_from c es) ≡ passed_at test c o ++ picked test span (behind c es)
      with None e = ap (picked test span) (none_here c es e)
      with (Some x) e = ap (picked test span) (next_here c x es s e) ∙ passed_first c x (behind c es) within

  -- behind a cell and what is picked there, what is left from the next one on is picked
  pub scan_goes_on : (list new : List Place) (c : Place) (next : Option Place) → is_within span c ≡ true
      → IsStrictlySortedBy place_cmp (keys_of es)
      → IfSome next (λ d. (p : Place) → is_within span p ≡ true → is_lt (place_cmp c p) ≡ is_le (place_cmp d p))
      → IfNone next ((p : Place) → is_within span p ≡ true → is_lt (place_cmp c p) ≡ false)
      → new ≡ list ++ passed_at test c (find place_cmp c es)
      → list ++ picked test span (entries_from c es) ≡ picked test span es
      → new ++ picked test span (left_from next es) ≡ picked test span es
  scan_goes_on list new c next within s some none is h =
      ap (λ l. l ++ picked test span (left_from next es)) is
      ∙ append_assoc list (passed_at test c (find place_cmp c es)) (picked test span (left_from next es))
      ∙ ap (λ l. list ++ (passed_at test c (find place_cmp c es) ++ l)) (sym (left_behind c next some none))
      ∙ ap (λ l. list ++ l) (sym (picked_here c within s)) ∙ h

-- what is left gets less
pub scan_shrinks : (c : Place) (next : Option Place) → InSheet c → IfSome next (λ n. number_of c < number_of n)
    → places_left next < places_left (Some c)
scan_shrinks c None inside h = omega (arith, inside)
scan_shrinks c (Some n) inside h = omega (arith, inside, h)
