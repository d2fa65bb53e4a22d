-- What the walk over the dirty formulas makes of the natural order.
use Rattle.std.specs.Prelude.{◌≡◌, ◌&&◌, Bool, true, false, cond, Option, None, Some, List, [], ◌∷◌}
use Rattle.std.specs.List.{filter}
use Rattle.std.specs.Option.{is_some}
use Rattle.std.proofs.Common.{sym, ◌∙◌, ap, subst, refl, inl, inr}
use Rattle.std.proofs.lemmas.Bool.{true≢false, cases_Bool, false_from_ne_true, cond-false}
use Rattle.list_lemmas.proofs.Booleans.{same_from_both}
use Rattle.grid_address.proofs.Places.{same_place_is, same_place_itself}
use Rattle.grid_address.specs.Place.{same_place, Place}
use Rattle.formula_tree.specs.Tree.{Tree}
use Rattle.natural_order.proofs.Cut.{filter_in, filter_passes, has-filter, order_is_cut}
use Rattle.natural_order.proofs.Settle.{order_covers, order_precedes}
use Rattle.natural_order.specs.Machine.{fuel}
use Rattle.cell_maps.specs.Sets.{has}
use Rattle.natural_order.specs.Walk.{order, IsExact, IsSplit, Precedes, Reaches, Walked}
use Rattle.natural_order.specs.Walk.Reaches.{one, more}
use Rattle.range_index.specs.Owners.{hold}
use Rattle.sheet_store.specs.Grid.{formulas, Grid}
use Rattle.recalculation.specs.inner.Laws.{has_formula, has_in}
use Rattle.recalculation.proofs.Members.{pre_along, pre_formulas}
use Rattle.recalculation.specs.Context.{formula_at, Context}
use Rattle.recalculation.specs.Passes.{IsRest, IsSound, IsWhatStays, Meaning}
use Rattle.recalculation.specs.Reading.{is_formula_at, natural_order, pre, spans_at, spans_in, StaysDirty}
use Rattle.recalculation.specs.Reading.StaysDirty.{volatile, circle, reading}

-- what holds of the dirty formulas splits the order
pub split_of : (mean : Meaning) (ctx : Context) (g : Grid) (dirty : Place → Bool) → IsSound mean ctx g dirty
    → IsSplit same_place (pre g) dirty
split_of mean ctx g dirty sound =
    record { same = same_place_is; refl_eq = same_place_itself; up = sound.up; acyclic = sound.acyclic }

-- what stays dirty is dirty
pub stays_in : (mean : Meaning) (ctx : Context) (g : Grid) (dirty : Place → Bool) → IsSound mean ctx g dirty
    → {c : Place} → StaysDirty g c → dirty c ≡ true
stays_in mean ctx g dirty sound {c} (volatile {t = t} e v) =
    elim (cases_Bool (dirty c)) [ inl h ↦ h | inr k ↦ absurd (true≢false (sym v ∙ sound.calm c t e k)) ]
stays_in mean ctx g dirty sound {c} (circle r) =
    elim (cases_Bool (dirty c)) [ inl h ↦ h | inr k ↦ absurd (sound.acyclic c k r) ]
stays_in mean ctx g dirty sound {c} (reading {d = d} m s) = sound.up c d m (stays_in mean ctx g dirty sound s)

exact : IsExact same_place
exact = record { same = same_place_is; refl_eq = same_place_itself }

-- the walk over the dirty formulas
abbrev pub walked_dirty : Grid → (Place → Bool) → Walked Place
walked_dirty g dirty = order same_place (λ c. filter dirty (pre g c)) (fuel (formulas g)) (filter dirty (formulas g))

module _ (g : Grid) (dirty : Place → Bool) (split : IsSplit same_place (pre g) dirty)
    (only : (c : Place) → dirty c ≡ true → is_formula_at g c ≡ true) where
  -- it gives the natural order without the clean ones
  pub dirty_done : (walked_dirty g dirty).done ≡ filter dirty (natural_order g).done
  dirty_done = sym
      (ap (λ (s : Walked Place). s.done) (order_is_cut same_place (pre g) dirty split (fuel (formulas g)) (formulas g)))

  -- the walk over the dirty formulas tells a circle where the natural order does
  pub dirty_circular : (walked_dirty g dirty).circular ≡ (natural_order g).circular
  dirty_circular = sym (ap (λ (s : Walked Place). s.circular)
      (order_is_cut same_place (pre g) dirty split (fuel (formulas g)) (formulas g)))

  -- it has each dirty formula
  order_has : (c : Place) → dirty c ≡ true → has same_place (filter dirty (natural_order g).done) c ≡ true
  order_has c t = has-filter same_place same_place_is dirty c t (natural_order g).done
      ∙ order_covers same_place exact (pre g) (formulas g) (formulas g) c (has_formula g c ∙ only c t)

  -- and no other
  pub order_same : (c : Place) → has same_place (filter dirty (natural_order g).done) c ≡ dirty c
  order_same c =
      same_from_both _ _ (filter_passes same_place same_place_is dirty (natural_order g).done c) (order_has c)

  -- along it what a formula reads comes first, unless it reaches itself
  pub order_goes : Precedes same_place (λ c. filter dirty (pre g c)) [] (walked_dirty g dirty).done
  order_goes = order_precedes same_place exact (λ c. filter dirty (pre g c)) (formulas g) (filter dirty (formulas g))
      (λ c d m. pre_formulas g c d (filter_in same_place same_place_is dirty (pre g c) d m))
      (λ c m. filter_in same_place same_place_is dirty (formulas g) c m)

-- what stays dirty stays so in a grid with the same formulas
pub stays_along : (a b : Grid) → formula_at a ≡ formula_at b → {c : Place} → StaysDirty a c → StaysDirty b c
stays_along a b e {c} (volatile h v) = volatile (sym (ap (λ (k : Place → Option Tree). k c) e) ∙ h) v
stays_along a b e {c} (circle r) =
    circle (subst (λ (p : Place → List Place). Reaches same_place p c c) (pre_along a b e) r)
stays_along a b e {c} (reading {d = d} m s) =
    reading (sym (ap (λ (p : Place → List Place). has same_place (p c) d) (pre_along a b e)) ∙ m) (stays_along a b e s)

-- a cell that reads a formula holds one
pub reads_formula : (g : Grid) (c d : Place) → has same_place (pre g c) d ≡ true → is_formula_at g c ≡ true
reads_formula g c d m = formed (formula_at g c) (sym (has_in g (spans_at g c) d) ∙ m)
  where
    none : (b : Bool) → (b && false) ≡ true → false ≡ true
    none true h = h
    none false h = h

    formed : (o : Option Tree) → (is_formula_at g d && hold (spans_in o c) d) ≡ true → is_some o ≡ true
    formed None h = none (is_formula_at g d) h
    formed (Some t) h = refl

-- what stays dirty is a formula
pub stays_formula : (g : Grid) → {c : Place} → StaysDirty g c → is_formula_at g c ≡ true
stays_formula g (volatile e v) = ap is_some e
stays_formula g {c} (circle (one m)) = reads_formula g c _ m
stays_formula g {c} (circle (more m r)) = reads_formula g c _ m
stays_formula g {c} (reading {d = d} m s) = reads_formula g c d m

-- what stays is a rest
pub rest_of : (g : Grid) (rest : Place → Bool) → IsWhatStays g rest → IsRest g rest
rest_of g rest w = record {
  only = λ c t. stays_formula g ((w c).0 t);
  volatile = λ c f e k. false_from_ne_true _ (λ v. true≢false (sym ((w c).1 (volatile e v)) ∙ k));
  up = λ c d m t. (w c).1 (reading m ((w d).0 t));
  acyclic = λ c k r. true≢false (sym ((w c).1 (circle r)) ∙ k);
}

-- what stays dirty is the same in a grid with the same formulas
pub what_stays_along : (a b : Grid) → formula_at a ≡ formula_at b → (rest : Place → Bool) → IsWhatStays a rest
    → IsWhatStays b rest
what_stays_along a b e rest w = λ c. (λ t. stays_along a b e ((w c).0 t), λ s. (w c).1 (stays_along b a (sym e) s))

-- a filter by a weaker test and then by a stronger one is one by the stronger
pub filter_twice : (p q : Place → Bool) → ((c : Place) → q c ≡ true → p c ≡ true) → (xs : List Place)
    → filter q (filter p xs) ≡ filter q xs
filter_twice p q h [] = refl
filter_twice p q h (x ∷ xs) = elim (p x) as
    (λ b. p x ≡ b → filter q (cond b (x ∷ filter p xs) (filter p xs)) ≡ cond (q x) (x ∷ filter q xs) (filter q xs)) [
      | true ↦ λ e. ap (λ (ys : List Place). cond (q x) (x ∷ ys) ys) (filter_twice p q h xs)
      | false ↦ λ e. filter_twice p q h xs ∙ sym
          (cond-false (q x) (x ∷ filter q xs) (filter q xs) (false_from_ne_true _ (λ t. true≢false (sym (h x t) ∙ e))))
    ] refl
