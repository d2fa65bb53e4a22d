-- Why the formulas that are held, tried in order, are those that stay dirty.
use Rattle.std.specs.Prelude.{ℕ, zero, suc, ◌≡◌, ◌<◌, Bool, true, false, cond, List, [], ◌∷◌, ◌++◌, Option, None, Some}
use Rattle.std.specs.Prelude.{◌||◌, ◌⊎◌, length, take}
use Rattle.std.specs.List.{filter}
use Rattle.std.proofs.Common.{sym, ◌∙◌, ap, subst, refl, inl, inr, arith, get_or}
use Rattle.std.proofs.lemmas.Bool.{true≢false, false≢true, false_from_ne_true, or_cases, or_left, or_parts}
use Rattle.std.proofs.lemmas.Bool.{cases_Bool}
use Rattle.std.proofs.lemmas.List.Folds.{list_any-append}
use Rattle.list_lemmas.proofs.Booleans.{or_turned}
use Rattle.grid_address.proofs.Places.{same_place_is, same_place_itself}
use Rattle.grid_address.specs.Place.{same_place, Place}
use Rattle.formula_tree.specs.Tree.{Tree}
use Rattle.natural_order.proofs.Cut.{filter_in, has-filter}
use Rattle.cell_maps.specs.Sets.{has}
use Rattle.cell_maps.proofs.Members.{any_at, some_at}
use Rattle.natural_order.specs.Walk.{Precedes, Reaches}
use Rattle.natural_order.specs.Walk.Reaches.{one, more}
use Rattle.sheet_store.specs.Grid.{Grid}
use Rattle.recalculation.specs.Context.{formula_at}
use Rattle.recalculation.specs.inner.Leaving.{is_held, LeftSoFar}
use Rattle.recalculation.specs.Reading.{pre, volatile_of, StaysDirty}
use Rattle.recalculation.specs.Reading.StaysDirty.{volatile, circle, reading}

-- where what is read precedes, what a cell of the order reads was seen before it, or the cell reaches itself
pub precedes_at : (p : Place → List Place) (seen xs : List Place) (i : ℕ) (x any : Place)
    → Precedes same_place p seen xs → i < length xs → x ≡ get_or xs i any → (d : Place) → has same_place (p x) d ≡ true
    → ((has same_place seen d || has same_place (take i xs) d) ≡ true) ⊎ Reaches same_place p x x
precedes_at p seen [] i x any s h e d m = absurd (omega arith)
precedes_at p seen (y ∷ ys) zero x any s h e d m =
    subst (λ z. ((has same_place seen d || false) ≡ true) ⊎ Reaches same_place p z z) (sym e)
    (elim (s.0 d (subst (λ z. has same_place (p z) d ≡ true) e m)) [ inl k ↦ inl (or_left _ _ k) | inr r ↦ inr r ])
precedes_at p seen (y ∷ ys) (suc i) x any s h e d m =
    elim (precedes_at p (y ∷ seen) ys i x any s.1 (omega arith) e d m) [
      | inl k ↦ inl (or_turned (same_place d y) (has same_place seen d) (has same_place (take i ys) d) k)
      | inr r ↦ inr r
    ]

wider : (g : Grid) (old : Place → Bool) → {c d : Place} → Reaches same_place (λ x. filter old (pre g x)) c d
    → Reaches same_place (pre g) c d
wider g old {c} (one {d = d} m) = one (filter_in same_place same_place_is old (pre g c) d m)
wider g old {c} (more {e = e} m r) = more (filter_in same_place same_place_is old (pre g c) e m) (wider g old r)

volatile_stays : (g : Grid) (c : Place) (o : Option Tree) → formula_at g c ≡ o → volatile_of o ≡ true → StaysDirty g c
volatile_stays g c None e h = absurd (false≢true h)
volatile_stays g c (Some f) e h = volatile e h

joined : (g : Grid) → {c d e : Place} → Reaches same_place (pre g) c d → has same_place (pre g d) e ≡ true
    → Reaches same_place (pre g) c e
joined g (one m) n = more m (one n)
joined g (more m r) n = more m (joined g r n)

module _ (g : Grid) (old now : Place → Bool) (seen : List Place) (x : Place) (so : LeftSoFar g old seen now) where
  -- one that is not held does not stay
  pub not_held : is_held g now x ≡ false → {c : Place} → StaysDirty g c → c ≡ x → ⊥
  not_held h (volatile {c = c} {t = f} e v) is =
      true≢false (sym (ap volatile_of (sym (ap (formula_at g) is) ∙ e) ∙ v) ∙ (or_parts _ _ h).0)
  not_held h (circle {c = c} (one m)) is = true≢false (sym (
      any_at same_place same_place_is same_place_itself now (pre g x) c
      (subst (λ y. has same_place (pre g y) c ≡ true) is m) (so.all c (circle (one m)))) ∙ (or_parts _ _ h).1)
  not_held h (circle {c = c} (more {e = e} m r)) is =
      true≢false (sym (any_at same_place same_place_is same_place_itself now (pre g x) e
      (subst (λ y. has same_place (pre g y) e ≡ true) is m)
      (so.all e (circle (joined g r m)))) ∙ (or_parts _ _ h).1)
  not_held h (reading {c = c} {d = d} m s) is = true≢false (sym (
      any_at same_place same_place_is same_place_itself now (pre g x) d
      (subst (λ y. has same_place (pre g y) d ≡ true) is m) (so.all d s)) ∙ (or_parts _ _ h).1)

  -- one that is held stays, where what it reads was tried before it
  pub held : ((d : Place) → has same_place (filter old (pre g x)) d ≡ true → (has same_place seen d ≡ true)
      ⊎ Reaches same_place (λ y. filter old (pre g y)) x x) → is_held g now x ≡ true → StaysDirty g x
  held before h = elim (or_cases _ _ h) [
    | inl v ↦ volatile_stays g x (formula_at g x) refl v
    | inr k ↦
        let r = some_at same_place same_place_is same_place_itself now (pre g x) k in
        elim (before r.0 (has-filter same_place same_place_is old r.0 (so.within r.0 r.2) (pre g x) ∙ r.1)) [
          | inl s ↦ reading r.1 (so.earned r.0 s r.2)
          | inr c ↦ circle (wider g old c)
        ]
  ]

seen_more : (seen : List Place) (x c : Place) → has same_place (seen ++ x ∷ []) c ≡ true
    → (has same_place seen c ≡ true) ⊎ (c ≡ x)
seen_more seen x c m = elim (or_cases _ _ (sym (list_any-append (same_place c) seen (x ∷ [])) ∙ m)) [
  | inl h ↦ inl h
  | inr h ↦
      inr (same_place_is c x (elim (or_cases (same_place c x) false h) [ inl e ↦ e | inr e ↦ absurd (false≢true e) ]))
]

unseen : (seen : List Place) (x c : Place) → has same_place (seen ++ x ∷ []) c ≡ false
    → (has same_place seen c ≡ false) × (c ≡ x → ⊥)
unseen seen x c m =
    let p = or_parts _ _ (sym (list_any-append (same_place c) seen (x ∷ [])) ∙ m) in
    (p.0, λ e. true≢false (sym (ap (λ y. same_place y x) e ∙ same_place_itself x) ∙ (or_parts _ _ p.1).0))

-- a formula that stays dirty is tried and kept
pub left_kept : (g : Grid) (old now : Place → Bool) (seen : List Place) (x : Place) → LeftSoFar g old seen now
    → StaysDirty g x → LeftSoFar g old (seen ++ x ∷ []) now
left_kept g old now seen x so h = record {
  within = so.within;
  later = λ c o m. so.later c o (unseen seen x c m).0;
  earned = λ c m n. elim (seen_more seen x c m) [ inl k ↦ so.earned c k n | inr e ↦ subst (StaysDirty g) (sym e) h ];
  all = so.all;
}

-- a formula that isn't held is tried and leaves the set
pub left_removed : (g : Grid) (old now after : Place → Bool) (seen : List Place) (x : Place) → LeftSoFar g old seen now
    → is_held g now x ≡ false
    → ((c : Place) → after c ≡ cond (same_place x c) false (now c)) → LeftSoFar g old (seen ++ x ∷ []) after
left_removed g old now after seen x so h u = record {
  within = λ c a. so.within c (was c a).0;
  later = λ c o m. let p = unseen seen x c m in stays_in c (so.later c o p.0) p.1;
  earned = λ c m a. elim (seen_more seen x c m) [ inl k ↦ so.earned c k (was c a).0 | inr e ↦ absurd ((was c a).1 e) ];
  all = λ c s. stays_in c (so.all c s) (λ e. not_held g old now seen x so h s e);
}
  where
    stays_in : (c : Place) → now c ≡ true → (c ≡ x → ⊥) → after c ≡ true
    stays_in c n ne = u c
        ∙ ap (λ b. cond b false (now c)) (false_from_ne_true (same_place x c) (λ e. ne (sym (same_place_is x c e)))) ∙ n

    was : (c : Place) → after c ≡ true → (now c ≡ true) × (c ≡ x → ⊥)
    was c a = elim (cases_Bool (same_place x c)) [
      | inl e ↦ absurd (false≢true (sym (u c ∙ ap (λ b. cond b false (now c)) e) ∙ a))
      | inr e ↦ (
        sym (u c ∙ ap (λ b. cond b false (now c)) e)
            ∙ a,
        λ k. true≢false (sym (ap (same_place x) k ∙ same_place_itself x) ∙ e),
      )
    ]
