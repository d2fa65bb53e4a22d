-- What leads to a base is told by a test, where all that reads stands in one list.
use Rattle.std.specs.Prelude.{ℕ, zero, suc, ◌≡◌, ◌+◌, ◌<◌, ◌≤◌, ◌↔◌, ◌||◌, Bool, true, false, cond, refl, length, List}
use Rattle.std.specs.Prelude.{[], ◌∷◌}
use Rattle.std.specs.List.{filter, list_any}
use Rattle.std.proofs.Common.{sym, ap, ◌∙◌, inl, inr, arith}
use Rattle.std.proofs.lemmas.Bool.{cases_eq, false≢true, or_cases, or_left, or_right, true≢false}
use Rattle.cell_maps.specs.Sets.{has}
use Rattle.cell_maps.proofs.Members.{any_at, some_at}

module _ {K : Type 0} where
  -- a wider test passes as many or more
  more_pass : (p q : K → Bool) → ((x : K) → p x ≡ true → q x ≡ true) → (xs : List K)
      → length (filter p xs) ≤ length (filter q xs)
  more_pass p q h [] = omega arith
  more_pass p q h (x ∷ xs) = by (p x) (q x) (h x) (more_pass p q h xs)
    where
      by : (a b : Bool) → (a ≡ true → b ≡ true) → length (filter p xs) ≤ length (filter q xs)
          → length (cond a (x ∷ filter p xs) (filter p xs)) ≤ length (cond b (x ∷ filter q xs) (filter q xs))
      by true true k m = omega (arith, m)
      by true false k m = absurd (false≢true (k refl))
      by false true k m = omega (arith, m)
      by false false k m = m

  -- no more pass than there are
  all_pass : (p : K → Bool) (xs : List K) → length (filter p xs) ≤ length xs
  all_pass p [] = omega arith
  all_pass p (x ∷ xs) = by (p x) (all_pass p xs)
    where
      by : (a : Bool) → length (filter p xs) ≤ length xs
          → length (cond a (x ∷ filter p xs) (filter p xs)) ≤ length (x ∷ xs)
      by true m = omega (arith, m)
      by false m = omega (arith, m)

module _ {K : Type 0} (eq : K → K → Bool) where
  -- it lies on the base, or reads what leads there
  pub data Leads (pre : K → List K) (base : K → Bool) : K → Type 0 where
    here : {c : K} → base c ≡ true → Leads pre base c
    there : {c e : K} → has eq (pre c) e ≡ true → Leads pre base e → Leads pre base c

module _ {K : Type 0} (eq : K → K → Bool) (same : (x y : K) → eq x y ≡ true → x ≡ y)
    (itself : (x : K) → eq x x ≡ true) where
  -- a wider test that passes no more passes nothing else
  no_more : (p q : K → Bool) → ((x : K) → p x ≡ true → q x ≡ true) → (xs : List K)
      → length (filter p xs) ≡ length (filter q xs) → (c : K) → has eq xs c ≡ true → q c ≡ true → p c ≡ true
  no_more p q h [] e c m t = absurd (false≢true m)
  no_more p q h (x ∷ xs) e c m t =
      by (p x) (q x) refl refl (h x) (more_pass p q h xs) (λ k n. no_more p q h xs k c n t) e
    where
      by : (a b : Bool) → p x ≡ a → q x ≡ b → (a ≡ true → b ≡ true) → length (filter p xs) ≤ length (filter q xs)
          → (length (filter p xs) ≡ length (filter q xs) → has eq xs c ≡ true → p c ≡ true) →
          length (cond a (x ∷ filter p xs) (filter p xs)) ≡ length (cond b (x ∷ filter q xs) (filter q xs)) → p c ≡ true
      by true true i j w l rest k =
          elim (or_cases (eq c x) (has eq xs c) m) [ inl d ↦ ap p (same c x d) ∙ i | inr n ↦ rest (omega (arith, k)) n ]
      by true false i j w l rest k = absurd (false≢true (w refl))
      by false true i j w l rest k = absurd (omega (arith, l, k))
      by false false i j w l rest k = elim (or_cases (eq c x) (has eq xs c) m)
          [ inl d ↦ absurd (true≢false (sym t ∙ ap q (same c x d) ∙ j)) | inr n ↦ rest k n ]

  module _ (pre : K → List K) (base : K → Bool) where
    -- what lies on the base, or reads what passes
    abbrev spread : (K → Bool) → K → Bool
    spread s c = base c || list_any s (pre c)

    module _ (all : List K) (based : (c : K) → base c ≡ true → has eq all c ≡ true)
        (reading : (c e : K) → has eq (pre c) e ≡ true → has eq all c ≡ true) where
      -- all that a spread passes stands in the list
      within : (s : K → Bool) (c : K) → spread s c ≡ true → has eq all c ≡ true
      within s c h = elim (or_cases (base c) (list_any s (pre c)) h) [
        | inl b ↦ based c b
        | inr r ↦ let x = some_at eq same itself s (pre c) r in reading c x.0 x.1
      ]

      -- a wider test spreads wider
      wider : (s t : K → Bool) → ((c : K) → s c ≡ true → t c ≡ true) → (c : K) → spread s c ≡ true → spread t c ≡ true
      wider s t h c k = elim (or_cases (base c) (list_any s (pre c)) k) [
        | inl b ↦ or_left _ _ b
        | inr r ↦
            let x = some_at eq same itself s (pre c) r in
            or_right _ _ (any_at eq same itself t (pre c) x.0 x.1 (h x.0 x.2))
      ]

      -- what leads to the base is all that a spread passes
      sound_on : (s : K → Bool) → ((c : K) → s c ≡ true → Leads eq pre base c) → (c : K) → spread s c ≡ true
          → Leads eq pre base c
      sound_on s h c k = elim (or_cases (base c) (list_any s (pre c)) k) [
        | inl b ↦ here b
        | inr r ↦ let x = some_at eq same itself s (pre c) r in there x.1 (h x.0 x.2)
      ]

      -- from a test that its spread passes, spread until nothing more passes, which comes after as many turns as there
      -- are items that don't
      settled : (n : ℕ) (s : K → Bool) → ((c : K) → s c ≡ true → spread s c ≡ true)
          → ((c : K) → s c ≡ true → Leads eq pre base c) → length all < length (filter s all) + n
          → (t : K → Bool) × ((c : K) → t c ≡ true → Leads eq pre base c) × ((c : K) → spread t c ≡ true → t c ≡ true)
      settled zero s grows sound few = absurd (omega (arith, few, all_pass s all))
      settled (suc n) s grows sound few = elim (cases_eq (length (filter s all)) (length (filter (spread s) all))) [
        | inl e ↦ (s, sound, λ c k. no_more s (spread s) grows all e c (within s c k) k)
        | inr d ↦ settled n (spread s) (wider s (spread s) grows) (sound_on s sound)
            (omega (arith, few, d, more_pass s (spread s) grows all))
      ]

      -- and it passes all that does
      complete : (t : K → Bool) → ((c : K) → spread t c ≡ true → t c ≡ true) → {c : K} → Leads eq pre base c
          → t c ≡ true
      complete t closed (here {c = c} b) = closed c (or_left _ _ b)
      complete t closed (there {c = c} {e = e} m l) =
          closed c (or_right _ _ (any_at eq same itself t (pre c) e m (complete t closed l)))

      -- a test of what leads to the base
      pub leading : (t : K → Bool) × ((c : K) → (t c ≡ true) ↔ Leads eq pre base c)
      leading =
          let s = settled (suc (length all)) (λ c. false) (λ c k. absurd (false≢true k)) (λ c k. absurd (false≢true k))
          (omega arith) in
          (s.0, λ c. (s.1 c, complete s.0 s.2))
