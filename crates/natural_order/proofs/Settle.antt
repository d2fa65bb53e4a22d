-- Why a cell stands after all that it reads, unless it reaches itself.
use Rattle.std.specs.Prelude.{ℕ, zero, suc, ◌≡◌, ◌+◌, ◌<◌, Bool, true, false, cond, ◌||◌, List, [], ◌∷◌, ◌++◌, length}
use Rattle.std.specs.Prelude.{◌⊎◌}
use Rattle.std.specs.List.{fold, IsDistinct, AllByRecursion}
use Rattle.std.specs.Cmp.{IsEquivalence}
use Rattle.std.proofs.Common.{sym, ◌∙◌, ap, subst, refl, inl, inr, arith}
use Rattle.std.proofs.lemmas.Bool.{true≢false, or_cases, or_left, or_right, or_parts, cases_Bool}
use Rattle.std.proofs.lemmas.List.Folds.{list_any-append}
use Rattle.std.proofs.lemmas.Map.Made.{length-le_from_is_member}
use Rattle.std.proofs.lemmas.Map.Keys.{IsDistinct-cons}
use Rattle.list_lemmas.proofs.Booleans.{or_turned, same_from_both}
use Rattle.cell_maps.specs.Sets.{has}
use Rattle.natural_order.specs.Walk.{Walked, appended, raised, walk, unwalked, Reaches, IsExact, Precedes, OrderCovers}
use Rattle.natural_order.specs.Walk.{OrderPrecedes}
use Rattle.natural_order.specs.Walk.Reaches.{one, more}
use Rattle.natural_order.proofs.Cut.{reaches_read, Each, Each-from_has}

module _ {K : Type 0} (eq : K → K → Bool) (pre : K → List K) (exact : IsExact eq) where
  flips : (x y : K) → eq x y ≡ true → eq y x ≡ true
  flips x y e = subst (λ z. eq z x ≡ true) (exact.same x y e) (exact.refl_eq x)

  laws : IsEquivalence eq
  laws = record {
    refl = exact.refl_eq;
    symm = λ x y. same_from_both (eq x y) (eq y x) (flips x y) (flips y x);
    congr = λ x y z e. ap (λ v. eq v z) (exact.same x y e);
  }

  -- every cell on the path reaches c
  abbrev Leads : List K → K → Type 0
  Leads path c = (q : K) → has eq path q ≡ true → Reaches eq pre q c

  leads_on : (path : List K) (c d : K) → Leads path c → has eq (pre c) d ≡ true → Leads (c ∷ path) d
  leads_on path c d l m q on = elim (or_cases (eq q c) (has eq path q) on) [
    | inl h ↦ subst (λ t. Reaches eq pre t d) (sym (exact.same q c h)) (one m)
    | inr h ↦ reaches_read eq pre (l q h) m
  ]

  Precedes-snoc : (cs seen : List K) (c : K) → Precedes eq pre seen cs
      → ((d : K) → has eq (pre c) d ≡ true → ((has eq cs d || has eq seen d) ≡ true) ⊎ Reaches eq pre c c)
      → Precedes eq pre seen (cs ++ c ∷ [])
  Precedes-snoc [] seen c s h = (h, tt)
  Precedes-snoc (b ∷ cs) seen c s h = (
    s.0,
    Precedes-snoc cs (b ∷ seen) c s.1
        (λ d m. elim (h d m) [ inl k ↦ inl (or_turned (eq d b) (has eq cs d) (has eq seen d) k) | inr r ↦ inr r ]),
  )

  walk-cases : (P : Walked K → Type 0) (n : ℕ) (path : List K) (s : Walked K) (c : K)
      → (has eq s.done c ≡ true → P s)
      → (has eq s.done c ≡ false → has eq path c ≡ true → P (raised eq s))
      → (has eq s.done c ≡ false → has eq path c ≡ false
      → P (appended eq c (fold (walk eq pre n (c ∷ path)) s (pre c))))
      → P (walk eq pre (suc n) path s c)
  walk-cases P n path s c f g h =
      elim (has eq s.done c) as (λ b. has eq s.done c ≡ b
      → P (cond b s (cond (has eq path c) (raised eq s) (appended eq c (fold (walk eq pre n (c ∷ path)) s (pre c)))))) [
        | true ↦ f
        | false ↦
            λ d.
            elim (has eq path c) as (λ b. has eq path c ≡ b
            → P (cond b (raised eq s) (appended eq c (fold (walk eq pre n (c ∷ path)) s (pre c))))) [
              | true ↦ g d
              | false ↦ h d
            ] refl
      ] refl

  abbrev Stays : ℕ → Type 0
  Stays n =
      (path : List K) (s : Walked K) (c x : K) → has eq s.done x ≡ true → has eq (walk eq pre n path s c).done x ≡ true

  stays_all : (n : ℕ) → Stays n → (path : List K) (ds : List K) (s : Walked K) (x : K) → has eq s.done x ≡ true
      → has eq (fold (walk eq pre n path) s ds).done x ≡ true
  stays_all n step path [] s x h = h
  stays_all n step path (d ∷ ds) s x h = stays_all n step path ds (walk eq pre n path s d) x (step path s d x h)

  -- what is done stays done
  stays : (n : ℕ) → Stays n
  stays zero path s c x h = h
  stays (suc n) path s c x h = walk-cases (λ t. has eq t.done x ≡ true) n path s c (λ d. h) (λ d p. h)
      (λ d p. list_any-append (eq x) (fold (walk eq pre n (c ∷ path)) s (pre c)).done (c ∷ [])
      ∙ or_left _ _ (stays_all n (stays n) (c ∷ path) (pre c) s x h))

  all_apart : (c : K) (path : List K) → has eq path c ≡ false → AllByRecursion (λ y. eq c y ≡ false) path
  all_apart c [] h = tt
  all_apart c (y ∷ ys) h = let p = or_parts (eq c y) (has eq ys c) h in (p.0, all_apart c ys p.1)

  module _ (all : List K) where
    -- n levels are enough below the path
    record Roomy (n : ℕ) (path : List K) : Type 0 where
      distinct : IsDistinct eq path
      known : (q : K) → has eq path q ≡ true → has eq all q ≡ true
      room : length all < n + length path

    none_left : (path : List K) → Roomy zero path → ⊥
    none_left path r =
        let h = length-le_from_is_member laws path all r.distinct r.known in let k = r.room in omega arith

    roomy_on : (n : ℕ) (path : List K) (c : K) → Roomy (suc n) path → has eq path c ≡ false → has eq all c ≡ true
        → Roomy n (c ∷ path)
    roomy_on n path c r p a = record {
      distinct = IsDistinct-cons eq c path (all_apart c path p) r.distinct;
      known =
          λ q m. elim (or_cases (eq q c) (has eq path q) m)
          [ inl h ↦ subst (λ x. has eq all x ≡ true) (sym (exact.same q c h)) a | inr h ↦ r.known q h ];
      room = let k = r.room in omega arith;
    }

    reached : (n : ℕ) (path : List K) (s : Walked K) (c : K) → Roomy n path → has eq path c ≡ false
        → has eq (walk eq pre n path s c).done c ≡ true
    reached zero path s c r p = absurd (none_left path r)
    reached (suc n) path s c r p =
        walk-cases (λ t. has eq t.done c ≡ true) n path s c (λ d. d) (λ d q. absurd (true≢false (sym q ∙ p)))
        (λ d q. list_any-append (eq c) (fold (walk eq pre n (c ∷ path)) s (pre c)).done (c ∷ [])
        ∙ or_right _ _ (or_left _ _ (exact.refl_eq c)))

    all_reached : (n : ℕ) (path : List K) (ds : List K) (s : Walked K) → Roomy n path → (x : K) → has eq path x ≡ false
        → has eq ds x ≡ true
        → has eq (fold (walk eq pre n path) s ds).done x ≡ true
    all_reached n path [] s r x e m = absurd (true≢false (sym m))
    all_reached n path (d ∷ ds) s r x e m = elim (or_cases (eq x d) (has eq ds x) m) [
      | inl h ↦
          stays_all n (stays n) path ds (walk eq pre n path s d) x
          (subst (λ y. has eq (walk eq pre n path s d).done y ≡ true) (sym (exact.same x d h))
          (reached n path s d r (subst (λ y. has eq path y ≡ false) (exact.same x d h) e)))
      | inr h ↦ all_reached n path ds (walk eq pre n path s d) r x e h
    ]

    module _ (closed : (c d : K) → has eq (pre c) d ≡ true → has eq all d ≡ true) where
      abbrev Settles : ℕ → Type 0
      Settles n =
          (path : List K) (s : Walked K) (c : K) → Roomy n path → has eq all c ≡ true → Leads path c
          → Precedes eq pre [] s.done → Precedes eq pre [] (walk eq pre n path s c).done

      settles_all : (n : ℕ) → Settles n → (path : List K) (ds : List K) (s : Walked K) → Roomy n path
          → Each (λ d. (has eq all d ≡ true) × Leads path d) ds → Precedes eq pre [] s.done
          → Precedes eq pre [] (fold (walk eq pre n path) s ds).done
      settles_all n step path [] s r e h = h
      settles_all n step path (d ∷ ds) s r e h =
          settles_all n step path ds (walk eq pre n path s d) r e.1 (step path s d r e.0.0 e.0.1 h)

      circle : (path : List K) (c d : K) → Leads path c → has eq (pre c) d ≡ true → has eq (c ∷ path) d ≡ true
          → Reaches eq pre c c
      circle path c d l m on = elim (or_cases (eq d c) (has eq path d) on) [
        | inl h ↦ one (subst (λ y. has eq (pre c) y ≡ true) (exact.same d c h) m)
        | inr h ↦ more m (l d h)
      ]

      settles : (n : ℕ) → Settles n
      settles zero path s c r a l h = h
      settles (suc n) path s c r a l h = walk-cases (λ t. Precedes eq pre [] t.done) n path s c (λ d. h) (λ d p. h)
          (λ d p.
          let on : Roomy n (c ∷ path) = roomy_on n path c r p a in
          let inner : Walked K = fold (walk eq pre n (c ∷ path)) s (pre c) in
          Precedes-snoc inner.done [] c
          (settles_all n (settles n) (c ∷ path) (pre c) s on
          (Each-from_has eq exact.refl_eq _ (pre c) (λ x m. (closed c x m, leads_on path c x l m))) h)
          (λ x m. elim (cases_Bool (has eq (c ∷ path) x)) [
            | inl q ↦ inr (circle path c x l m q)
            | inr q ↦ inl (or_left _ _ (all_reached n (c ∷ path) (pre c) s on x q m))
          ]))

-- in the order of the roots a cell stands behind all that it reads, unless it reaches itself
pub order_precedes : {K : Type 0} (eq : K → K → Bool) → OrderPrecedes eq
unfolding IsDistinct
order_precedes eq exact pre all roots closed known =
    let n = suc (length all) in
    settles_all eq pre exact all closed n (settles eq pre exact all closed n) [] roots (unwalked eq)
    (record { distinct = tt; known = λ q m. absurd (true≢false (sym m)); room = omega arith })
    (Each-from_has eq exact.refl_eq _ roots (λ x m. (known x m, λ q k. absurd (true≢false (sym k))))) tt

-- each of the roots is in their order
pub order_covers : {K : Type 0} (eq : K → K → Bool) → OrderCovers eq
unfolding IsDistinct
order_covers eq exact pre all roots x m =
    all_reached eq pre exact all (suc (length all)) [] roots (unwalked eq)
    (record { distinct = tt; known = λ q k. absurd (true≢false (sym k)); room = omega arith }) x refl m
