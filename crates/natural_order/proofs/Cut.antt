-- Why the order without its clean cells is the order of the dirty ones.
use Rattle.std.specs.Prelude.{ℕ, zero, suc, ◌≡◌, Bool, true, false, cond, ◌||◌, List, [], ◌∷◌, ◌++◌}
use Rattle.std.specs.List.{fold, filter}
use Rattle.std.proofs.Common.{sym, ◌∙◌, ap, subst, refl, inl, inr, append-nil}
use Rattle.std.proofs.lemmas.Bool.{true≢false, or_cases, or_left, or_right, false_from_ne_true}
use Rattle.cell_maps.specs.Sets.{has}
use Rattle.natural_order.specs.Walk.{Walked, appended, raised, walk, unwalked, Reaches, IsSplit, cut, OrderIsCut}
use Rattle.natural_order.specs.Walk.Reaches.{one, more}

-- each member of a list, by cases on the list
abbrev pub Each : {K : Type 0} → (K → Type 0) → List K → Type 0
Each P [] = Unit {0}
Each P (x ∷ xs) = P x × Each P xs

-- what is so of every member of a list is so of each in its place
pub Each-from_has : {K : Type 0} (eq : K → K → Bool) → ((x : K) → eq x x ≡ true) → (P : K → Type 0) (xs : List K)
    → ((x : K) → has eq xs x ≡ true → P x) → Each P xs
Each-from_has eq r P [] h = tt
Each-from_has eq r P (x ∷ xs) h = (h x (or_left _ _ (r x)), Each-from_has eq r P xs (λ y m. h y (or_right _ _ m)))

-- a filter of two lists joined is the one's and then the other's
pub filter-append : {K : Type 0} (p : K → Bool) (xs ys : List K) → filter p (xs ++ ys) ≡ filter p xs ++ filter p ys
filter-append p [] ys = refl
filter-append p (x ∷ xs) ys =
    elim (p x) as (λ b. cond b (x ∷ filter p (xs ++ ys)) (filter p (xs ++ ys))
    ≡ cond b (x ∷ filter p xs) (filter p xs) ++ filter p ys) [
      | true ↦ ap (λ t. x ∷ t) (filter-append p xs ys)
      | false ↦ filter-append p xs ys
    ]

-- a member that passes the filter is in the filtered list exactly where it is in the list
pub has-filter : {K : Type 0} (eq : K → K → Bool) → ((x y : K) → eq x y ≡ true → x ≡ y) → (p : K → Bool) (c : K)
    → p c ≡ true → (xs : List K) → has eq (filter p xs) c ≡ has eq xs c
has-filter eq same p c h [] = refl
has-filter eq same p c h (x ∷ xs) =
    elim (p x) as (λ b. p x ≡ b → has eq (cond b (x ∷ filter p xs) (filter p xs)) c ≡ has eq (x ∷ xs) c) [
      | true ↦ λ e. ap (λ t. eq c x || t) (has-filter eq same p c h xs)
      | false ↦
          λ e. has-filter eq same p c h xs
          ∙ sym (ap (λ b. b || has eq xs c)
          (false_from_ne_true (eq c x) (λ m. true≢false (sym h ∙ ap p (same c x m) ∙ e))))
    ] refl

-- what reaches a cell reaches what that cell reads
pub reaches_read : {K : Type 0} (eq : K → K → Bool) (pre : K → List K) {q c d : K} → Reaches eq pre q c
    → has eq (pre c) d ≡ true → Reaches eq pre q d
reaches_read eq pre (one m) n = more m (one n)
reaches_read eq pre (more m r) n = more m (reaches_read eq pre r n)

module _ {K : Type 0} (eq : K → K → Bool) (pre : K → List K) (dirty : K → Bool) (split : IsSplit eq pre dirty) where
  -- what a clean cell reads is clean
  pub down : (c d : K) → dirty c ≡ false → has eq (pre c) d ≡ true → dirty d ≡ false
  down c d e m = false_from_ne_true (dirty d) (λ t. true≢false (sym (split.up c d m t) ∙ e))

  -- every clean cell on the path reaches c
  abbrev pub CleanLeads : List K → K → Type 0
  CleanLeads path c = (q : K) → has eq path q ≡ true → dirty q ≡ false → Reaches eq pre q c

  abbrev CleanStep : ℕ → Type 0
  CleanStep n =
      (path : List K) (s : Walked K) (c : K) → dirty c ≡ false → CleanLeads path c
      → cut eq dirty (walk eq pre n path s c) ≡ cut eq dirty s

  clean_fold : (n : ℕ) → CleanStep n → (path : List K) (ds : List K) (s : Walked K)
      → Each (λ d. (dirty d ≡ false) × CleanLeads path d) ds
      → cut eq dirty (fold (walk eq pre n path) s ds) ≡ cut eq dirty s
  clean_fold n step path [] s h = refl
  clean_fold n step path (d ∷ ds) s h =
      clean_fold n step path ds (walk eq pre n path s d) h.1 ∙ step path s d h.0.0 h.0.1

  -- where the clean cells on the path reach a cell, these and the cell reach what it reads
  pub clean_leads_on : (path : List K) (c d : K) → CleanLeads path c → has eq (pre c) d ≡ true → CleanLeads (c ∷ path) d
  clean_leads_on path c d l m q on e = elim (or_cases (eq q c) (has eq path q) on) [
    | inl h ↦ subst (λ t. Reaches eq pre t d) (sym (split.same q c h)) (one m)
    | inr h ↦ reaches_read eq pre (l q h e) m
  ]

  cut_clean : (c : K) (t : Walked K) → dirty c ≡ false → cut eq dirty (appended eq c t) ≡ cut eq dirty t
  cut_clean c t e = ap (λ ds. record { done = ds; circular = t.circular })
      (filter-append dirty t.done (c ∷ []) ∙ ap (λ b. filter dirty t.done ++ cond b (c ∷ []) []) e
      ∙ append-nil (filter dirty t.done))

  clean : (n : ℕ) → CleanStep n
  clean zero path s c e l = refl
  clean (suc n) path s c e l =
      let inner : Walked K = fold (walk eq pre n (c ∷ path)) s (pre c) in
      elim (has eq s.done c) as (λ b. cut eq dirty (cond b s (cond (has eq path c) (raised eq s) (appended eq c inner)))
      ≡ cut eq dirty s) [
        | true ↦ refl
        | false ↦
            elim (has eq path c) as (λ b. has eq path c ≡ b
            → cut eq dirty (cond b (raised eq s) (appended eq c inner)) ≡ cut eq dirty s) [
              | true ↦ λ m. absurd (split.acyclic c e (l c m e))
              | false ↦ λ m. cut_clean c inner e ∙ clean_fold n (clean n) (c ∷ path) (pre c) s
                  (Each-from_has eq split.refl_eq _ (pre c) (λ d k. (down c d e k, clean_leads_on path c d l k)))
            ] refl
      ]

  abbrev AllDirty : List K → Type 0
  AllDirty path = (q : K) → has eq path q ≡ true → dirty q ≡ true

  abbrev pre_dirty : K → List K
  pre_dirty c = filter dirty (pre c)

  no_lead : (path : List K) (c : K) → AllDirty path → CleanLeads path c
  no_lead path c a q m e = absurd (true≢false (sym (a q m) ∙ e))

  abbrev DirtyStep : ℕ → Type 0
  DirtyStep n =
      (path : List K) (s : Walked K) (c : K) → dirty c ≡ true → AllDirty path
      → cut eq dirty (walk eq pre n path s c) ≡ walk eq pre_dirty n path (cut eq dirty s) c

  dirty_fold : (n : ℕ) → DirtyStep n → (path : List K) (ds : List K) (s : Walked K) → AllDirty path →
      cut eq dirty (fold (walk eq pre n path) s ds) ≡ fold (walk eq pre_dirty n path) (cut eq dirty s) (filter dirty ds)
  dirty_fold n step path [] s a = refl
  dirty_fold n step path (d ∷ ds) s a =
      dirty_fold n step path ds (walk eq pre n path s d) a
      ∙ elim (dirty d) as (λ b. dirty d ≡ b
      → fold (walk eq pre_dirty n path) (cut eq dirty (walk eq pre n path s d)) (filter dirty ds)
      ≡ fold (walk eq pre_dirty n path) (cut eq dirty s) (cond b (d ∷ filter dirty ds) (filter dirty ds))) [
        | true ↦ λ e. ap (λ t. fold (walk eq pre_dirty n path) t (filter dirty ds)) (step path s d e a)
        | false ↦
            λ e. ap (λ t. fold (walk eq pre_dirty n path) t (filter dirty ds)) (clean n path s d e (no_lead path d a))
      ] refl

  cut_dirty : (c : K) (t : Walked K) → dirty c ≡ true → cut eq dirty (appended eq c t) ≡ appended eq c (cut eq dirty t)
  cut_dirty c t e = ap (λ ds. record { done = ds; circular = t.circular })
      (filter-append dirty t.done (c ∷ []) ∙ ap (λ b. filter dirty t.done ++ cond b (c ∷ []) []) e)

  all_dirty_on : (path : List K) (c : K) → AllDirty path → dirty c ≡ true → AllDirty (c ∷ path)
  all_dirty_on path c a e q m = elim (or_cases (eq q c) (has eq path q) m) [
    | inl h ↦ ap dirty (split.same q c h) ∙ e
    | inr h ↦ a q h
  ]

  dirty_walk : (n : ℕ) → DirtyStep n
  dirty_walk zero path s c e a = refl
  dirty_walk (suc n) path s c e a =
      let inner : Walked K = fold (walk eq pre n (c ∷ path)) s (pre c) in
      let inner_dirty : Walked K = fold (walk eq pre_dirty n (c ∷ path)) (cut eq dirty s) (pre_dirty c) in
      let here : has eq (filter dirty s.done) c ≡ has eq s.done c = has-filter eq split.same dirty c e s.done in
      elim (has eq s.done c) as (λ b. cut eq dirty (cond b s (cond (has eq path c) (raised eq s) (appended eq c inner)))
      ≡ cond b (cut eq dirty s) (cond (has eq path c) (raised eq (cut eq dirty s)) (appended eq c inner_dirty))) [
        | true ↦ refl
        | false ↦
            elim (has eq path c) as (λ b. cut eq dirty (cond b (raised eq s) (appended eq c inner))
            ≡ cond b (raised eq (cut eq dirty s)) (appended eq c inner_dirty)) [
              | true ↦ refl
              | false ↦
                  cut_dirty c inner e
                  ∙ ap (appended eq c) (dirty_fold n (dirty_walk n) (c ∷ path) (pre c) s (all_dirty_on path c a e))
            ]
      ]
      ∙ ap
      (λ b. cond b (cut eq dirty s) (cond (has eq path c) (raised eq (cut eq dirty s)) (appended eq c inner_dirty)))
      (sym here)

-- the order of all without its clean cells is the order of the dirty ones
pub order_is_cut : {K : Type 0} (eq : K → K → Bool) → OrderIsCut eq
order_is_cut eq pre dirty split n all =
    dirty_fold eq pre dirty split n (dirty_walk eq pre dirty split n) [] all (unwalked eq)
    (λ q m. absurd (true≢false (sym m)))

-- what a filter keeps passes its test
pub filter_passes : {K : Type 0} (eq : K → K → Bool) → ((x y : K) → eq x y ≡ true → x ≡ y)
    → (p : K → Bool) (xs : List K) (d : K) → has eq (filter p xs) d ≡ true → p d ≡ true
filter_passes eq same p [] d h = absurd (true≢false (sym h))
filter_passes eq same p (x ∷ xs) d h =
    elim (p x) as (λ b. p x ≡ b → has eq (cond b (x ∷ filter p xs) (filter p xs)) d ≡ true → p d ≡ true) [
      | true ↦
          λ e m. elim (or_cases (eq d x) (has eq (filter p xs) d) m)
          [ inl k ↦ ap p (same d x k) ∙ e | inr k ↦ filter_passes eq same p xs d k ]
      | false ↦ λ e m. filter_passes eq same p xs d m
    ] refl h

-- what a filter kept was in the list
pub filter_in : {K : Type 0} (eq : K → K → Bool) → ((x y : K) → eq x y ≡ true → x ≡ y)
    → (p : K → Bool) (xs : List K) (d : K) → has eq (filter p xs) d ≡ true → has eq xs d ≡ true
filter_in eq same p xs d h = sym (has-filter eq same p d (filter_passes eq same p xs d h) xs) ∙ h
