-- What the first pass and the further ones come to.
use Rattle.std.specs.Prelude.{ℕ, zero, suc, ◌≡◌, Bool, true, false, List, [], ◌∷◌, length, cond}
use Rattle.std.specs.List.{filter, IsDistinct, AllByRecursion}
use Rattle.std.proofs.Common.{sym, ◌∙◌, ap, subst, refl}
use Rattle.std.specs.List.Sorted.{IsStrictlySortedBy}
use Rattle.std.specs.declared.cmp.Ordering.TheVariants.{Equal, Less}
use Rattle.std.proofs.lemmas.Bool.{false_from_ne_true, true≢false}
use Rattle.std.proofs.lemmas.Cmp.{tied_itself}
use Rattle.std.proofs.lemmas.Map.Made.{length-from_same_keys}
use Rattle.list_lemmas.proofs.Booleans.{same_from_both}
use Rattle.grid_address.proofs.Places.{cells_total, same_place_is, same_place_laws}
use Rattle.grid_address.specs.Place.{place_cmp, same_place, Place}
use Rattle.natural_order.proofs.Cut.{filter_passes, has-filter}
use Rattle.cell_maps.specs.Sets.{has}
use Rattle.natural_order.specs.Walk.{Precedes}
use Rattle.sheet_store.specs.Grid.{formulas, Grid}
use Rattle.recalculation.proofs.Ascending.{formulas_ascend}
use Rattle.recalculation.proofs.Cut.{sound_all}
use Rattle.recalculation.proofs.First.{filter_twice, rest_of, stays_along, stays_formula, stays_in, what_stays_along}
use Rattle.recalculation.proofs.Members.{pre_along}
use Rattle.recalculation.proofs.Rest.{formulas_all, further, settled_pass}
use Rattle.recalculation.specs.Context.{formula_at, Context}
use Rattle.recalculation.specs.inner.Laws.{has_formula, Ascends}
use Rattle.recalculation.specs.Passes.{IsPlain, IsRight, pass, passes, IsSound, IsWhatStays, Meaning}
use Rattle.recalculation.specs.inner.Meanings.{IsMeaning}
use Rattle.recalculation.specs.Reading.{is_formula_at, natural_order, pre, StaysDirty}
use Rattle.recalculation.specs.Reading.StaysDirty.{circle, reading, volatile}

module _ (mean : Meaning) (ctx : Context) (meaning : IsMeaning mean) where
  -- passes write no contents
  pub formulas_passes : (n : ℕ) (cells : List Place) (g : Grid) → formula_at (passes mean ctx n cells g) ≡ formula_at g
  formulas_passes zero cells g = refl
  formulas_passes (suc n) cells g = formulas_passes n cells (pass mean ctx cells g)
      ∙ formulas_all mean ctx (λ _. true) meaning cells g

  sound_passes : (n : ℕ) (cells : List Place) (g : Grid) (rest : Place → Bool) → IsSound mean ctx g rest
      → IsSound mean ctx (passes mean ctx n cells g) rest
  sound_passes zero cells g rest s = s
  sound_passes (suc n) cells g rest s =
      sound_passes n cells (pass mean ctx cells g) rest (sound_all mean ctx rest meaning g s cells)

  module _ (s s1 : Grid) (dirty : Place → Bool) (sound : IsSound mean ctx s dirty)
      (first : s1 ≡ pass mean ctx (natural_order s).done s) where
    same1 : formula_at s1 ≡ formula_at s
    same1 = ap formula_at first ∙ formulas_all mean ctx dirty meaning (natural_order s).done s

    -- what a formula reads comes before it after the first pass, where it did before
    pub order1 : (cells : List Place) → Precedes same_place (λ c. filter dirty (pre s c)) [] cells
        → Precedes same_place (λ c. filter dirty (pre s1 c)) [] cells
    order1 cells h = subst (λ (p : Place → List Place). Precedes same_place (λ c. filter dirty (p c)) [] cells)
        (sym (pre_along s1 s same1)) h

    -- what stays dirty after the first pass was dirty before
    pub all1 : (c : Place) → StaysDirty s1 c → dirty c ≡ true
    all1 c h = stays_in mean ctx s dirty sound (stays_along s1 s same1 h)

    module _ (rest : Place → Bool) (w : IsWhatStays s1 rest) where
      sound1 : IsSound mean ctx s1 rest
      sound1 = subst (λ g. IsSound mean ctx g rest) (sym first)
          (settled_pass mean ctx rest meaning s (rest_of s rest (what_stays_along s1 s same1 rest w)))

      -- the further passes over what stays make what all passes over all formulas make
      pub values : (times n : ℕ) → times ≡ suc n → (order cells : List Place)
          → order ≡ filter dirty (natural_order s).done → cells ≡ filter rest order
          → passes mean ctx n cells s1 ≡ passes mean ctx times (natural_order s).done s
      values times n e order cells o k =
          let xs : List Place = (natural_order s).done in
          ap (λ cs. passes mean ctx n cs s1)
          (k ∙ ap (filter rest) o ∙ filter_twice dirty rest (λ c t. all1 c ((w c).0 t)) xs)
          ∙ sym (further mean ctx rest meaning n xs s1 sound1)
          ∙ ap (passes mean ctx n xs) first
          ∙ sym (ap (λ t. passes mean ctx t xs s) e)

      -- after the further passes the same formulas stay dirty
      pub stays_end : (n : ℕ) (cells : List Place) → IsWhatStays (passes mean ctx n cells s1) rest
      stays_end n cells = what_stays_along s1 (passes mean ctx n cells s1) (sym (formulas_passes n cells s1)) rest w

      -- after the further passes what holds of the dirty formulas holds of those that stay dirty
      pub sound_end : (n : ℕ) (cells : List Place) → IsSound mean ctx (passes mean ctx n cells s1) rest
      sound_end n cells = sound_passes n cells s1 rest sound1

      -- the cells that stay hold formulas
      pub formulas_rest : (cells order : List Place) → cells ≡ filter rest order → (c : Place)
          → has same_place cells c ≡ true → is_formula_at s1 c ≡ true
      formulas_rest cells order k c m = stays_formula s1
          ((w c).0 (filter_passes same_place same_place_is rest order c (sym (ap (λ cs. has same_place cs c) k) ∙ m)))

apart_filter : (p : Place → Bool) (P : Place → Type 0) (xs : List Place) → AllByRecursion P xs
    → AllByRecursion P (filter p xs)
apart_filter p P [] h = tt
apart_filter p P (x ∷ xs) h = elim (p x) as (λ b. AllByRecursion P (cond b (x ∷ filter p xs) (filter p xs))) [
  | true ↦ (h.0, apart_filter p P xs h.1)
  | false ↦ apart_filter p P xs h.1
]

distinct_filter : (p : Place → Bool) (xs : List Place) → IsDistinct same_place xs → IsDistinct same_place (filter p xs)
unfolding IsDistinct
distinct_filter p [] h = tt
distinct_filter p (x ∷ xs) h = elim (p x) as (λ b. IsDistinct same_place (cond b (x ∷ filter p xs) (filter p xs))) [
  | true ↦ (apart_filter p (λ y. same_place x y ≡ false) xs h.0, distinct_filter p xs h.1)
  | false ↦ distinct_filter p xs h.1
]

-- the cells that are gone over again are as many as the rest
pub as_many_rest : (rest order cells : List Place) → IsDistinct same_place rest → IsDistinct same_place order
    → cells ≡ filter (has same_place rest) order
    → ((c : Place) → has same_place rest c ≡ true → has same_place order c ≡ true) → length cells ≡ length rest
as_many_rest rest order cells r o k h = length-from_same_keys same_place_laws cells rest
    (subst (IsDistinct same_place) (sym k) (distinct_filter (has same_place rest) order o)) r
    (λ q. same_from_both _ _
    (λ m. filter_passes same_place same_place_is (has same_place rest) order q
    (sym (ap (λ cs. has same_place cs q) k) ∙ m))
    (λ t. ap (λ cs. has same_place cs q) k
    ∙ has-filter same_place same_place_is (has same_place rest) q t order ∙ h q t))

after_apart : (x : Place) (ys : List Place) → AllByRecursion (λ y. place_cmp x y ≡ Less) ys
    → AllByRecursion (λ y. same_place x y ≡ false) ys
after_apart x [] h = tt
after_apart x (y ∷ ys) h = (
  false_from_ne_true (same_place x y) (λ e.
      differ (sym (tied_itself cells_total x) ∙ ap (place_cmp x) (same_place_is x y e) ∙ h.0)),
  after_apart x ys h.1,
)
  where
    differ : Equal ≡ Less → ⊥
    differ e = absurd cc

-- cells in row order are distinct
pub distinct_ascending : (xs : List Place) → Ascends xs → IsDistinct same_place xs
unfolding IsDistinct IsStrictlySortedBy
distinct_ascending [] h = tt
distinct_ascending (x ∷ xs) h = (after_apart x xs h.0, distinct_ascending xs h.1)

-- the dirty formulas in row order are as many as the set has
pub as_many_dirty : (g : Grid) (dirty : List Place) → IsDistinct same_place dirty
    → ((c : Place) → has same_place dirty c ≡ true → is_formula_at g c ≡ true)
    → length (filter (has same_place dirty) (formulas g)) ≡ length dirty
as_many_dirty g dirty d only = length-from_same_keys same_place_laws (filter (has same_place dirty) (formulas g)) dirty
    (distinct_filter (has same_place dirty) (formulas g) (distinct_ascending (formulas g) (formulas_ascend g))) d
    (λ q. same_from_both _ _
    (λ m. filter_passes same_place same_place_is (has same_place dirty) (formulas g) q m)
    (λ t. has-filter same_place same_place_is (has same_place dirty) q t (formulas g) ∙ has_formula g q ∙ only q t))

-- where no formula is volatile and none reaches itself, none stays dirty
pub none_stays : (g : Grid) → IsPlain g → {c : Place} → StaysDirty g c → ⊥
none_stays g p (volatile {c = c} {t = t} e v) = true≢false (sym v ∙ p.steady c t e)
none_stays g p (circle {c = c} r) = p.acyclic c r
none_stays g p (reading {d = d} m s) = none_stays g p s

-- and every value is its meaning
pub right_plain : (mean : Meaning) (ctx : Context) (old new : Grid) (rest : Place → Bool)
    → formula_at new ≡ formula_at old → IsWhatStays new rest → IsSound mean ctx new rest → IsPlain old
    → IsRight mean ctx new
right_plain mean ctx old new rest same w sound p c t here =
    sound.right c t here (false_from_ne_true (rest c) (λ h. none_stays old p (stays_along new old same ((w c).0 h))))
