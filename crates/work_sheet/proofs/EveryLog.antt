-- Whatever happened in a sheet, there is work that it leaves.
use Rattle.std.specs.Prelude.{◌≡◌, ◌+◌, ◌-◌, ◌*◌, ◌↔◌, ◌||◌, Bool, true, false, is_some, refl, length, List, [], ◌∷◌}
use Rattle.std.specs.Prelude.{Option, None, Some}
use Rattle.std.specs.List.{filter, list_any, AllByRecursion, IsDistinct}
use Rattle.std.proofs.Common.{sym, ap, ◌∙◌, inl, inr}
use Rattle.std.proofs.lemmas.Bool.{cases_Bool, false≢true, or_cases, or_left, or_parts, or_right}
use Rattle.formula_tree.specs.Tree.{Tree}
use Rattle.grid_address.proofs.Places.{same_place_is, same_place_itself}
use Rattle.grid_address.specs.Place.{is_within, same_place, Extent, Place}
use Rattle.depend_graph.specs.Network.{ReachesCell}
use Rattle.depend_graph.specs.Network.ReachesCell.{direct, through}
use Rattle.natural_order.proofs.Cut.{filter_in, filter_passes, has-filter}
use Rattle.cell_maps.specs.Sets.{has}
use Rattle.cell_maps.proofs.Members.{any_at, some_at}
use Rattle.natural_order.specs.Walk.{Reaches}
use Rattle.natural_order.specs.Walk.Reaches.{one, more}
use Rattle.recalculation.proofs.First.{reads_formula, stays_formula}
use Rattle.recalculation.proofs.Members.{pre_of_read, read_of_pre}
use Rattle.recalculation.specs.Context.{formula_at}
use Rattle.recalculation.specs.inner.Laws.{has_formula}
use Rattle.recalculation.specs.Passes.{raised_by, IsDirtyAfter, IsWhatStays}
use Rattle.recalculation.specs.Reading.{is_formula_at, pre, reads_at, spans_at, spans_in, volatile_of, StaysDirty}
use Rattle.recalculation.specs.Reading.StaysDirty.{circle, reading, volatile}
use Rattle.range_index.specs.Owners.{hold}
use Rattle.sheet_edits.proofs.Reaching.{reaching_formula}
use Rattle.sheet_edits.specs.Edits.{AreDirtied, IsDirtied, ReachesWritten}
use Rattle.sheet_store.specs.Grid.{formulas, Grid}
use Rattle.sheet_store.specs.declared.order.Order.{Order}
use Rattle.sheet_store.specs.declared.order.Order.TheVariants as orders
use Rattle.recalculation.proofs.Filled.{has_cells}
use Rattle.work_sheet.proofs.Leading.{leading, Leads}
use Rattle.work_sheet.proofs.Leading.Leads.{here, there}
use Rattle.formula_parts.specs.Outlook.{cells_of}
use Rattle.recalculation.proofs.Fresh.{reaching_is_formula}
use Rattle.work_sheet.specs.Doing.{all_dirty, evaluated_once, passed, swept, wrote, Happened}
use Rattle.work_sheet.specs.Work.{dirty_within, HasWorked, Work, Works}

-- a test tells it
abbrev IsTold : (Place → Type 0) → Type 0
IsTold P = (t : Place → Bool) × ((c : Place) → (t c ≡ true) ↔ P c)

-- a list with the same cells, each once
each_once : (xs : List Place) → (ys : List Place) × ((c : Place) → has same_place ys c ≡ has same_place xs c)
    × IsDistinct same_place ys
unfolding IsDistinct
each_once [] = ([], λ c. refl, tt)
each_once (x ∷ xs) = with (each_once xs)
  where
    in_it : (c : Place) (b : Bool) → same_place c x ≡ b → has same_place xs x ≡ true
        → has same_place xs c ≡ (b || has same_place xs c)
    in_it c true e m = ap (has same_place xs) (same_place_is c x e) ∙ m
    in_it c false e m = refl

    apart : (ys : List Place) → has same_place ys x ≡ false → AllByRecursion (λ y. same_place x y ≡ false) ys
    apart [] n = tt
    apart (y ∷ ys) n = let p = or_parts (same_place x y) (has same_place ys x) n in (p.0, apart ys p.1)

    with : ((ys : List Place) × ((c : Place) → has same_place ys c ≡ has same_place xs c) × IsDistinct same_place ys)
        → (zs : List Place) × ((c : Place) → has same_place zs c ≡ has same_place (x ∷ xs) c) × IsDistinct same_place zs
    with r = elim (cases_Bool (has same_place r.0 x)) [
      | inl m ↦ (r.0, λ c. r.1 c ∙ in_it c (same_place c x) refl (sym (r.1 x) ∙ m), r.2)
      | inr n ↦ (x ∷ r.0, λ c. ap (λ b. same_place c x || b) (r.1 c), (apart r.0 n, r.2))
    ]

module _ (g : Grid) where
  -- what leads to a base of formulas
  leading_told : (base : Place → Bool) → ((c : Place) → base c ≡ true → is_formula_at g c ≡ true)
      → IsTold (Leads same_place (pre g) base)
  leading_told base formed = leading same_place same_place_is same_place_itself (pre g) base (formulas g)
      (λ c b. has_formula g c ∙ formed c b) (λ c e m. has_formula g c ∙ reads_formula g c e m)

  -- the formulas that pass a test, each once
  passing : (p : Place → Bool) → (ys : List Place) × ((c : Place)
      → (has same_place ys c ≡ true) ↔ ((is_formula_at g c ≡ true) × (p c ≡ true))) × IsDistinct same_place ys
  passing p = of (each_once (filter p (formulas g)))
    where
      of : ((ys : List Place) × ((c : Place) → has same_place ys c ≡ has same_place (filter p (formulas g)) c)
          × IsDistinct same_place ys)
          → (ys : List Place) × ((c : Place)
          → (has same_place ys c ≡ true) ↔ ((is_formula_at g c ≡ true) × (p c ≡ true))) × IsDistinct same_place ys
      of r = (
        r.0,
        λ c. (
          λ m. (
            sym (has_formula g c) ∙ filter_in same_place same_place_is p (formulas g) c (sym (r.1 c) ∙ m),
            filter_passes same_place same_place_is p (formulas g) c (sym (r.1 c) ∙ m),
          ),
          λ f. r.1 c ∙ has-filter same_place same_place_is p c f.1 (formulas g) ∙ has_formula g c ∙ f.0,
        ),
        r.2,
      )

  module _ (cells : Place → Bool) where
    -- spans that hold one of the cells, and the cell
    read_in : (ss : List Extent) → list_any (λ s. list_any cells (cells_of s)) ss ≡ true
        → (w : Place) × (cells w ≡ true) × (hold ss w ≡ true)
    read_in [] h = absurd (false≢true h)
    read_in (s ∷ ss) h =
        elim (or_cases (list_any cells (cells_of s)) (list_any (λ x. list_any cells (cells_of x)) ss) h) [
          | inl k ↦
              let x = some_at same_place same_place_is same_place_itself cells (cells_of s) k in
              (x.0, x.2, or_left _ _ (sym (has_cells s x.0) ∙ x.1))
          | inr k ↦ let r = read_in ss k in (r.0, r.1, or_right _ _ r.2)
        ]

    in_read : (ss : List Extent) (w : Place) → cells w ≡ true → hold ss w ≡ true
        → list_any (λ s. list_any cells (cells_of s)) ss ≡ true
    in_read [] w t h = absurd (false≢true h)
    in_read (s ∷ ss) w t h = elim (or_cases (is_within s w) (hold ss w) h) [
      | inl k ↦
          or_left _ _ (any_at same_place same_place_is same_place_itself cells (cells_of s) w (has_cells s w ∙ k) t)
      | inr k ↦ or_right _ _ (in_read ss w t k)
    ]

    -- the formula of a cell reads one of the cells
    abbrev reads_one : Place → Bool
    reads_one c = list_any (λ s. list_any cells (cells_of s)) (spans_at g c)

    one_formula : (c : Place) → reads_one c ≡ true → is_formula_at g c ≡ true
    one_formula c = by (formula_at g c)
      where
        by : (o : Option Tree) → list_any (λ s. list_any cells (cells_of s)) (spans_in o c) ≡ true → is_some o ≡ true
        by None h = h
        by (Some t) h = refl

    leads_written : {c : Place} → Leads same_place (pre g) reads_one c → ReachesWritten g cells c
    leads_written (here {c = c} b) = let r = read_in (spans_at g c) b in (r.0, r.1, direct r.2)
    leads_written (there {c = c} {e = e} m l) = let r = leads_written l in (r.0, r.1, through (read_of_pre g c e m) r.2)

    written_leads : (w : Place) → cells w ≡ true → {c : Place} → ReachesCell (reads_at g) c w
        → Leads same_place (pre g) reads_one c
    written_leads w t (direct {c = c} h) = here (in_read (spans_at g c) w t h)
    written_leads w t (through {c = c} {e = e} m r) =
        there (pre_of_read g c e m (reaching_formula g r)) (written_leads w t r)

    written_told : IsTold (ReachesWritten g cells)
    written_told = let t = leading_told reads_one one_formula in
        (t.0, λ c. (λ h. leads_written ((t.1 c).0 h), λ r. (t.1 c).1 (written_leads r.0 r.1 r.2)))

    -- the formulas that are dirty after the cells were written, each once
    dirtied : (old : Place → Bool) → (ys : List Place) × AreDirtied g old cells (has same_place ys)
        × IsDistinct same_place ys
    dirtied old = of written_told
      where
        of : IsTold (ReachesWritten g cells) → (ys : List Place) × AreDirtied g old cells (has same_place ys)
            × IsDistinct same_place ys
        of t =
            let r = passing (λ c. old c || (cells c || t.0 c)) in (
              r.0,
              λ c. (
                λ m. let f = (r.1 c).0 m in record {
                  formula = f.0;
                  why = elim (or_cases (old c) (cells c || t.0 c) f.1) [
                    | inl o ↦ inl o
                    | inr k ↦ inr (elim (or_cases (cells c) (t.0 c) k) [ inl w ↦ inl w | inr u ↦ inr ((t.1 c).0 u) ])
                  ];
                },
                λ (d : IsDirtied g old cells c). (r.1 c).1 (
                  d.formula,
                  elim d.why [
                    | inl o ↦ or_left (old c) (cells c || t.0 c) o
                    | inr k ↦ or_right (old c) (cells c || t.0 c) (elim k
                        [ inl w ↦ or_left (cells c) (t.0 c) w | inr u ↦ or_right (cells c) (t.0 c) ((t.1 c).1 u) ])
                  ],
                ),
              ),
              r.2,
            )

  leads_reach : (d : Place) {c : Place} → Leads same_place (pre g) (λ x. has same_place (pre g x) d) c
      → Reaches same_place (pre g) c d
  leads_reach d (here m) = one m
  leads_reach d (there m l) = more m (leads_reach d l)

  reach_leads : {c d : Place} → Reaches same_place (pre g) c d
      → Leads same_place (pre g) (λ x. has same_place (pre g x) d) c
  reach_leads (one m) = here m
  reach_leads (more m r) = there m (reach_leads r)

  -- a formula that reaches itself
  circle_told : IsTold (λ c. Reaches same_place (pre g) c c)
  circle_told = (
    λ c. (reaching c).0 c,
    λ c. (λ h. leads_reach c (((reaching c).1 c).0 h), λ r. ((reaching c).1 c).1 (reach_leads r)),
  )
    where
      reaching : (d : Place) → IsTold (Leads same_place (pre g) (λ x. has same_place (pre g x) d))
      reaching d = leading_told (λ x. has same_place (pre g x) d) (λ c m. reads_formula g c d m)

  volatile_is : (c : Place) (o : Option Tree) → formula_at g c ≡ o → volatile_of o ≡ true → StaysDirty g c
  volatile_is c None e h = absurd (false≢true h)
  volatile_is c (Some t) e h = volatile e h

  volatile_formula : (o : Option Tree) → volatile_of o ≡ true → is_some o ≡ true
  volatile_formula None h = h
  volatile_formula (Some t) h = refl

  module _ (circular : Place → Bool) (is : (c : Place) → (circular c ≡ true) ↔ Reaches same_place (pre g) c c) where
    abbrev stays_first : Place → Bool
    stays_first c = volatile_of (formula_at g c) || circular c

    first_formula : (c : Place) → stays_first c ≡ true → is_formula_at g c ≡ true
    first_formula c h = elim (or_cases (volatile_of (formula_at g c)) (circular c) h)
        [ inl v ↦ volatile_formula (formula_at g c) v | inr k ↦ reaching_is_formula g ((is c).0 k) ]

    leads_stay : {c : Place} → Leads same_place (pre g) stays_first c → StaysDirty g c
    leads_stay (here {c = c} b) = elim (or_cases (volatile_of (formula_at g c)) (circular c) b)
        [ inl v ↦ volatile_is c (formula_at g c) refl v | inr k ↦ circle ((is c).0 k) ]
    leads_stay (there m l) = reading m (leads_stay l)

    stay_leads : {c : Place} → StaysDirty g c → Leads same_place (pre g) stays_first c
    stay_leads (volatile e v) = here (or_left _ _ (ap volatile_of e ∙ v))
    stay_leads (circle {c = c} r) = here (or_right _ _ ((is c).1 r))
    stay_leads (reading m s) = there m (stay_leads s)

    stay_told : IsTold (StaysDirty g)
    stay_told = let t = leading_told stays_first first_formula in
        (t.0, λ c. (λ h. leads_stay ((t.1 c).0 h), λ s. (t.1 c).1 (stay_leads s)))

  -- the formulas that stay dirty, each once
  staying : (ys : List Place) × IsWhatStays g (has same_place ys) × IsDistinct same_place ys
  staying = of (stay_told circle_told.0 circle_told.1)
    where
      of : IsTold (StaysDirty g) → (ys : List Place) × IsWhatStays g (has same_place ys) × IsDistinct same_place ys
      of t = let r = passing t.0 in
          (r.0, λ c. (λ m. (t.1 c).0 ((r.1 c).0 m).1, λ s. (r.1 c).1 (stays_formula g s, (t.1 c).1 s)), r.2)

  -- the formulas that are dirty after a recalculation, each once
  left_by : (o : Order) (old : List Place)
      → (ys : List Place) × IsDirtyAfter o g (has same_place old) (has same_place ys) × IsDistinct same_place ys
  left_by orders.Natural old = staying
  left_by orders.Columnwise old = each_once old
  left_by orders.Rowwise old = each_once old

-- the work of one thing
works : (h : Happened) (w : Work) → (v : Work) × Works h w v
works (wrote cells g) w = let r = dirtied g cells (has same_place w.dirty) in
    (record { dirty = r.0; count = w.count }, record { dirty = r.1; distinct = r.2; count = refl })
works evaluated_once w = (record w { count = raised_by 1 w.count }, refl)
works (passed o n g) w =
    let r = left_by g o w.dirty in (
      record { dirty = r.0; count = raised_by (length w.dirty + (n - 1) * length r.0) w.count },
      record { dirty = r.1; distinct = r.2; count = refl },
    )
works (all_dirty g) w = let r = each_once (formulas g) in (
  record { dirty = r.0; count = w.count },
  record { dirty = λ c. r.1 c ∙ has_formula g c; distinct = r.2; count = refl },
)
works (swept span n g) w = (record w { count = raised_by (n * dirty_within g span w) w.count }, refl)

-- and of one after another
pub every_log : (log : List Happened) (w : Work) → (v : Work) × HasWorked log w v
every_log [] w = (w, refl)
every_log (h ∷ hs) w = let p = works h w in let q = every_log hs p.0 in (q.0, (p.0, p.1, q.1))
