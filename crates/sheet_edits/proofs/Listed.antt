-- Cells of a list, one after another.
use Rattle.std.specs.Prelude.{ℕ, ◌≡◌, ◌+◌, ◌<◌, ◌&&◌, ◌||◌, Bool, true, false, cond, refl, take, length, List, [], ◌∷◌}
use Rattle.std.specs.Prelude.{◌++◌, Option, None, Some}
use Rattle.std.specs.FinMap.{get, remove}
use Rattle.std.proofs.Common.{sym, ◌∙◌, ap, get_or, inl, inr, subst}
use Rattle.std.proofs.lemmas.Bool.{cases_Bool, false≢true, or_cases, or_left, or_right, true≢false}
use Rattle.std.proofs.lemmas.List.{append_assoc, take_more}
use Rattle.std.proofs.lemmas.List.Folds.{list_any-append}
use Rattle.list_lemmas.proofs.Booleans.{same_from_both}
use Rattle.grid_address.proofs.Places.{get_inserted, get_removed, same_place_is}
use Rattle.grid_address.specs.Place.{same_place, Place}
use Rattle.depend_graph.specs.Sets.{Extends}
use Rattle.cell_maps.specs.Sets.{has, insert_key}
use Rattle.cell_maps.proofs.Members.{has_get}
use Rattle.sheet_store.specs.Grid.{Cells}
use Rattle.sheet_store.specs.State.{CellState}
use Rattle.sheet_edits.proofs.Dirtied.{inserted_members}
use Rattle.sheet_edits.specs.Spans.{AreGiven}
use Rattle.sheet_edits.specs.inner.Putting.{given_at}

module _ (cells : List Place) (i : ℕ) (x : Place) (is : x ≡ get_or cells i x) (lt : i < length cells) where
  -- the list as far as the next cell
  pub more_seen : (c : Place)
      → has same_place (take (i + 1) cells) c ≡ (has same_place (take i cells) c || (same_place c x || false))
  more_seen c = ap (λ l. has same_place l c) (take_more cells i x lt) ∙ list_any-append (same_place c) (take i cells)
      (get_or cells i x ∷ []) ∙ ap (λ y. has same_place (take i cells) c || (same_place c y || false)) (sym is)

  -- with one cell more gone over, the others were or weren't as before
  pub seen_beside : (c : Place) → same_place c x ≡ false
      → has same_place (take (i + 1) cells) c ≡ has same_place (take i cells) c
  seen_beside c f = more_seen c ∙ ap (λ b. has same_place (take i cells) c || (b || false)) f
      ∙ or_nothing (has same_place (take i cells) c)
    where
      or_nothing : (b : Bool) → (b || (false || false)) ≡ b
      or_nothing true = refl
      or_nothing false = refl

  -- the cell that comes next is one of the list
  pub is_among : has same_place cells x ≡ true
  is_among = subst (λ y. has same_place cells y ≡ true) (sym is) (has_get cells i x lt)

-- one case within another is the case of either
pub joined : {A : Type 0} (h s : Bool) (n o : A) → cond s n (cond h n o) ≡ cond (h || (s || false)) n o
joined true true n o = refl
joined true false n o = refl
joined false true n o = refl
joined false false n o = refl

-- a list into which a cell was put has what it had, or the cell
pub inserted_is : (keys : List Place) (k c : Place)
    → has same_place (insert_key same_place keys k) c ≡ (has same_place keys c || same_place c k)
inserted_is keys k c = same_from_both _ _
    (λ t. elim ((inserted_members keys k c).0 t) [ inl a ↦ or_left _ _ a | inr b ↦ or_right _ _ b ])
    (λ t. (inserted_members keys k c).1 (elim (or_cases _ _ t) [ inl a ↦ inl a | inr b ↦ inr b ]))

merge_then : (o h s f : Bool) → (s ≡ true → f ≡ true) → ((o || (h && f)) || s) ≡ (o || ((h || (s || false)) && f))
merge_then true h s f k = refl
merge_then false true s true k = refl
merge_then false true true false k = absurd (false≢true (k refl))
merge_then false true false false k = refl
merge_then false false true true k = refl
merge_then false false true false k = absurd (false≢true (k refl))
merge_then false false false f k = refl

merge_else : (o h s f : Bool) → (s ≡ true → f ≡ false) → (o || (h && f)) ≡ (o || ((h || (s || false)) && f))
merge_else true h s f k = refl
merge_else false true s f k = refl
merge_else false false true true k = absurd (true≢false (k refl))
merge_else false false true false k = refl
merge_else false false false f k = refl

module _ (cells : List Place) (i : ℕ) (x : Place) (is : x ≡ get_or cells i x) (lt : i < length cells) where
  module _ (old keys : List Place) (f : Place → Bool) (inv : (c : Place)
      → has same_place keys c ≡ (has same_place old c || (has same_place (take i cells) c && f c))) where
    -- one more cell that passes a test
    pub member_more : (new : List Place) → new ≡ insert_key same_place keys x → f x ≡ true → (c : Place)
        → has same_place new c ≡ (has same_place old c || (has same_place (take (i + 1) cells) c && f c))
    member_more new e t c =
        ap (λ l. has same_place l c) e ∙ inserted_is keys x c ∙ ap (λ b. b || same_place c x) (inv c)
        ∙ merge_then (has same_place old c) (has same_place (take i cells) c) (same_place c x) (f c)
        (λ s. ap f (same_place_is c x s) ∙ t)
        ∙ sym (ap (λ b. has same_place old c || (b && f c)) (more_seen cells i x is lt c))

    -- one that doesn't
    pub member_same : (new : List Place) → new ≡ keys → f x ≡ false → (c : Place)
        → has same_place new c ≡ (has same_place old c || (has same_place (take (i + 1) cells) c && f c))
    member_same new e t c =
        ap (λ l. has same_place l c) e ∙ inv c
        ∙ merge_else (has same_place old c) (has same_place (take i cells) c) (same_place c x) (f c)
        (λ s. ap f (same_place_is c x s) ∙ t)
        ∙ sym (ap (λ b. has same_place old c || (b && f c)) (more_seen cells i x is lt c))

  -- one more cell that is cleared
  pub cleared_more : (m m' old : Cells) → m' ≡ remove m x
      → ((c : Place) → get m c ≡ cond (has same_place (take i cells) c) None (get old c)) → (c : Place)
      → get m' c ≡ cond (has same_place (take (i + 1) cells) c) None (get old c)
  cleared_more m m' old e inv c =
      ap (λ k. get k c) e ∙ get_removed m x c ∙ ap (cond (same_place c x) None) (inv c)
      ∙ joined (has same_place (take i cells) c) (same_place c x) None (get old c)
      ∙ sym (ap (λ b. cond b None (get old c)) (more_seen cells i x is lt c))

  -- one more cell that is given what is told
  pub given_more : (m m' : Cells) (told : Place → Option CellState) → m' ≡ given_at m x (told x)
      → AreGiven m (has same_place (take i cells)) told → AreGiven m' (has same_place (take (i + 1) cells)) told
  given_more m m' told e inv c =
      ap (λ k. get k c) e ∙ at (told x) refl ∙ sym (ap (λ b. cond b (told c) None) (more_seen cells i x is lt c))
    where
      nothing : (h s : Bool) → told c ≡ None → cond h (told c) None ≡ cond (h || (s || false)) (told c) None
      nothing true s t = refl
      nothing false true t = sym t
      nothing false false t = refl

      some_here : (h s : Bool) (v : CellState) → (s ≡ true → told c ≡ Some v)
          → cond s (Some v) (cond h (told c) None) ≡ cond (h || (s || false)) (told c) None
      some_here true true v t = sym (t refl)
      some_here true false v t = refl
      some_here false true v t = sym (t refl)
      some_here false false v t = refl

      at : (o : Option CellState) → told x ≡ o
          → get (given_at m x o) c ≡ cond (has same_place (take i cells) c || (same_place c x || false)) (told c) None
      at (Some v) t = get_inserted m x v c ∙ ap (cond (same_place c x) (Some v)) (inv c)
          ∙ some_here (has same_place (take i cells) c) (same_place c x) v (λ s. ap told (same_place_is c x s) ∙ t)
      at None t = inv c ∙ elim (same_place c x) as (λ b. same_place c x ≡ b → cond (has same_place (take i cells) c)
          (told c) None ≡ cond (has same_place (take i cells) c || (b || false)) (told c) None) [
            | true ↦ λ s. nothing (has same_place (take i cells) c) true (ap told (same_place_is c x s) ∙ t)
            | false ↦ λ s. beside (has same_place (take i cells) c)
          ] refl
        where
          beside : (h : Bool) → cond h (told c) None ≡ cond (h || (false || false)) (told c) None
          beside true = refl
          beside false = refl

-- what extends an extension extends
pub extends_both : (a b c : List Place) → Extends a b → Extends b c → Extends a c
extends_both a b c h k =
    record { more = h.more ++ k.more; is = k.is ∙ ap (λ l. l ++ k.more) h.is ∙ append_assoc a h.more k.more }

-- a list with one more cell
module _ (old new : List Place) (x : Place) (e : new ≡ old ++ x ∷ []) where
  -- a list with one cell more has what it had, or the cell
  pub pushed : (c : Place) → has same_place new c ≡ (has same_place old c || (same_place c x || false))
  pushed c = ap (λ l. has same_place l c) e ∙ list_any-append (same_place c) old (x ∷ [])

  -- a cell that isn't in the list with one more isn't the one that was put in
  pub not_pushed : (c : Place) → has same_place new c ≡ false → same_place c x ≡ false
  not_pushed c f = elim (cases_Bool (same_place c x)) [
    | inl t ↦ absurd (true≢false (sym (pushed c ∙ or_right _ _ (or_left _ _ t)) ∙ f))
    | inr k ↦ k
  ]
