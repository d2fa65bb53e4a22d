-- What happened leaves one set of dirty formulas, and one count.
use Rattle.std.proofs.Common.{◌≡◌, ℕ, ◌+◌, ◌-◌, ◌*◌, Bool, true, false, List, [], ◌∷◌, ◌++◌, length, refl, sym, ap, ◌∙◌}
use Rattle.std.proofs.Common.{subst, inl, inr}
use Rattle.std.specs.List.{filter, IsDistinct}
use Rattle.std.proofs.lemmas.Map.Made.{length-from_same_keys}
use Rattle.list_lemmas.proofs.Booleans.{same_from_both}
use Rattle.grid_address.proofs.Places.{same_place_laws}
use Rattle.grid_address.specs.Place.{same_place, Extent, Place}
use Rattle.cell_maps.specs.Sets.{has}
use Rattle.recalculation.specs.Passes.{raised_by, IsDirtyAfter}
use Rattle.sheet_edits.specs.Edits.{AreDirtied, IsDirtied}
use Rattle.sheet_edits.specs.inner.Undoing.{evaluations}
use Rattle.sheet_store.specs.Grid.{formulas_within, Grid}
use Rattle.sheet_store.specs.declared.order.Order.{Order}
use Rattle.sheet_store.specs.declared.order.Order.TheVariants as orders
use Rattle.work_sheet.specs.Doing.{all_dirty, evaluated_once, evaluation_if, passed, swept, wrote, Happened}
use Rattle.work_sheet.specs.Work.{dirty_within, HasAllDirty, HasMarked, HasPassed, HasWorked, IsSameWork, Work, Works}

module _ (g : Grid) (old before marked : Place → Bool) (same : (c : Place) → old c ≡ before c) where
  dirtied_too : (c : Place) → IsDirtied g old marked c → IsDirtied g before marked c
  dirtied_too c d = record { formula = d.formula; why = elim d.why [ inl o ↦ inl (sym (same c) ∙ o) | inr w ↦ inr w ] }

dirtied_same : (g : Grid) (old before marked new now : Place → Bool) → ((c : Place) → old c ≡ before c)
    → AreDirtied g old marked new → AreDirtied g before marked now → (c : Place) → new c ≡ now c
dirtied_same g old before marked new now same p q c = same_from_both (new c) (now c)
    (λ t. (q c).1 (dirtied_too g old before marked same c ((p c).0 t)))
    (λ t. (p c).1 (dirtied_too g before old marked (λ x. sym (same x)) c ((q c).0 t)))

one_mark : (cells : Place → Bool) (g : Grid) (w v w' v' : Work) → IsSameWork w v → HasMarked cells g w w'
    → HasMarked cells g v v' → IsSameWork w' v'
one_mark cells g w v w' v' same p q =
    let dirty : (d : Place) → has same_place w'.dirty d ≡ has same_place v'.dirty d =
    dirtied_same g (has same_place w.dirty) (has same_place v.dirty) cells (has same_place w'.dirty)
    (has same_place v'.dirty) same.dirty p.dirty q.dirty in
    record {
      dirty = dirty;
      long = length-from_same_keys same_place_laws w'.dirty v'.dirty p.distinct q.distinct dirty;
      count = p.count ∙ same.count ∙ sym q.count;
    }

after_same : (o : Order) (g : Grid) (old before new now : Place → Bool) → ((c : Place) → old c ≡ before c)
    → IsDirtyAfter o g old new → IsDirtyAfter o g before now → (c : Place) → new c ≡ now c
after_same orders.Natural g old before new now same p q c =
    same_from_both (new c) (now c) (λ t. (q c).1 ((p c).0 t)) (λ t. (p c).1 ((q c).0 t))
after_same orders.Columnwise g old before new now same p q c = p c ∙ same c ∙ sym (q c)
after_same orders.Rowwise g old before new now same p q c = p c ∙ same c ∙ sym (q c)

one_pass : (o : Order) (n : ℕ) (g : Grid) (w v w' v' : Work) → IsSameWork w v → HasPassed o n g w w'
    → HasPassed o n g v v' → IsSameWork w' v'
one_pass o n g w v w' v' same p q =
    let dirty : (d : Place) → has same_place w'.dirty d ≡ has same_place v'.dirty d =
    after_same o g (has same_place w.dirty) (has same_place v.dirty) (has same_place w'.dirty)
    (has same_place v'.dirty) same.dirty p.dirty q.dirty in
    let long : length w'.dirty ≡ length v'.dirty =
    length-from_same_keys same_place_laws w'.dirty v'.dirty p.distinct q.distinct dirty in
    record {
      dirty = dirty;
      long = long;
      count = p.count ∙ ap (raised_by (length w.dirty + (n - 1) * length w'.dirty)) same.count
          ∙ ap (λ (m : ℕ). raised_by (m + (n - 1) * length w'.dirty) v.count) same.long
          ∙ ap (λ (m : ℕ). raised_by (length v.dirty + (n - 1) * m) v.count) long ∙ sym q.count;
    }

-- evaluations that leave the same formulas dirty
one_raise : (n m : ℕ) (w v w' v' : Work) → n ≡ m → IsSameWork w v → w' ≡ record w { count = raised_by n w.count }
    → v' ≡ record v { count = raised_by m v.count } → IsSameWork w' v'
one_raise n m w v w' v' e same p q =
    let more : IsSameWork (record w { count = raised_by n w.count })
    (record v { count = raised_by m v.count }) = record {
      dirty = same.dirty;
      long = same.long;
      count = ap (raised_by n) same.count ∙ ap (λ (k : ℕ). raised_by k v.count) e;
    } in
    subst (λ x. IsSameWork x v') (sym p)
    (subst (λ x. IsSameWork (record w { count = raised_by n w.count }) x) (sym q) more)

one_within : (g : Grid) (span : Extent) (w v : Work) → IsSameWork w v → dirty_within g span w ≡ dirty_within g span v
one_within g span w v same = λ i. length (filter (λ c. same.dirty c i) (formulas_within g span))

one_all : (g : Grid) (w v w' v' : Work) → IsSameWork w v → HasAllDirty g w w' → HasAllDirty g v v' → IsSameWork w' v'
one_all g w v w' v' same p q =
    let dirty : (c : Place) → has same_place w'.dirty c ≡ has same_place v'.dirty c = λ c. p.dirty c
    ∙ sym (q.dirty c) in
    record {
      dirty = dirty;
      long = length-from_same_keys same_place_laws w'.dirty v'.dirty p.distinct q.distinct dirty;
      count = p.count ∙ same.count ∙ sym q.count;
    }

one_thing : (h : Happened) (w v w' v' : Work) → IsSameWork w v → Works h w w' → Works h v v' → IsSameWork w' v'
one_thing (wrote cells g) w v w' v' same p q = one_mark cells g w v w' v' same p q
one_thing evaluated_once w v w' v' same p q = one_raise 1 1 w v w' v' refl same p q
one_thing (passed o n g) w v w' v' same p q = one_pass o n g w v w' v' same p q
one_thing (all_dirty g) w v w' v' same p q = one_all g w v w' v' same p q
one_thing (swept span n g) w v w' v' same p q = one_raise (n * dirty_within g span w)
    (n * dirty_within g span v) w v w' v' (ap (λ (k : ℕ). n * k) (one_within g span w v same)) same p q

-- what happened leaves the same work where the work was the same before
pub one_work : (log : List Happened) (w v w' v' : Work) → IsSameWork w v → HasWorked log w w' → HasWorked log v v'
    → IsSameWork w' v'
one_work [] w v w' v' same p q = subst (λ x. IsSameWork x v') (sym p) (subst (λ x. IsSameWork w x) (sym q) same)
one_work (h ∷ hs) w v w' v' same p q = one_work hs p.0 q.0 w' v' (one_thing h w v p.0 q.0 same p.1 q.1) p.2 q.2

-- the work of one log and then of another
pub worked_both : (one other : List Happened) (w between v : Work) → HasWorked one w between → HasWorked other between v
    → HasWorked (one ++ other) w v
worked_both [] other w between v p q = subst (λ x. HasWorked other x v) p q
worked_both (h ∷ hs) other w between v p q = (p.0, p.1, worked_both hs other p.0 between v p.2 q)

-- the work of an entry, with the evaluation that may follow it
pub put_worked : (b : Bool) (cells : Place → Bool) (g : Grid) (w v : Work)
    → AreDirtied g (has same_place w.dirty) cells (has same_place v.dirty) → IsDistinct same_place v.dirty
    → v.count ≡ raised_by (evaluations b) w.count →
    HasWorked (wrote cells g ∷ evaluation_if b) w v
put_worked true cells g w v dirty distinct count = (
  record { dirty = v.dirty; count = w.count },
  record { dirty = dirty; distinct = distinct; count = refl },
  (v, ap (λ (n : ℕ). record { dirty = v.dirty; count = n }) count, refl),
)
put_worked false cells g w v dirty distinct count =
    (v, record { dirty = dirty; distinct = distinct; count = count }, refl)
