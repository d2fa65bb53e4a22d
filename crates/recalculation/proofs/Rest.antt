-- Why a formula that leaves the dirty set has its meaning after one pass.
use Rattle.std.specs.Prelude.{ℕ, zero, suc, ◌≡◌, Bool, true, false, List, [], ◌∷◌, Option, None, Some}
use Rattle.std.specs.List.{filter}
use Rattle.std.specs.Option.{is_some}
use Rattle.std.specs.FinMap.{get}
use Rattle.std.proofs.Common.{sym, ◌∙◌, ap, subst, refl, inl, inr}
use Rattle.std.proofs.lemmas.Bool.{true≢false, false≢true, cond-true, false_from_ne_true, or_cases, or_left, or_right}
use Rattle.std.proofs.lemmas.Bool.{cases_Bool}
use Rattle.grid_address.proofs.Places.{same_place_is, same_place_itself}
use Rattle.grid_address.specs.Place.{same_place, Place}
use Rattle.formula_tree.specs.Spans.{spans_of}
use Rattle.formula_tree.specs.Tree.{Tree}
use Rattle.formula_tree.specs.declared.value.Value.{Value}
use Rattle.natural_order.proofs.Settle.{order_covers, order_precedes}
use Rattle.cell_maps.specs.Sets.{has}
use Rattle.natural_order.specs.Walk.{IsExact, Precedes, Reaches}
use Rattle.natural_order.specs.Walk.Reaches.{one}
use Rattle.range_index.specs.Owners.{hold}
use Rattle.sheet_store.specs.Grid.{formulas, value_at, value_of, Grid}
use Rattle.sheet_store.specs.State.{CellState}
use Rattle.recalculation.proofs.Cut.{formulas_stay, pass_is_cut, pre_stays, read_formula, revalued_same, sound_all}
use Rattle.recalculation.proofs.Cut.{value_revalued}
use Rattle.recalculation.specs.inner.Laws.{has_formula}
use Rattle.recalculation.proofs.Members.{pre_formulas}
use Rattle.recalculation.proofs.Valued.{get_valued, with_value}
use Rattle.recalculation.specs.Context.{formula_at, formula_of, outlook_at, Context}
use Rattle.recalculation.specs.Passes.{evaluated, pass, passes, revalued, IsRest, IsSound, Meaning, RecalculationIsCut}
use Rattle.recalculation.specs.inner.Meanings.{IsMeaning}
use Rattle.recalculation.specs.Reading.{is_formula_at, natural_order, pre}

module _ (mean : Meaning) (ctx : Context) (rest : Place → Bool) (meaning : IsMeaning mean) where
  -- the calm formulas among the seen have their meaning, and read only what was seen
  pub record IsRight (seen : List Place) (g : Grid) : Type 0 where
    pub value : (x : Place) (f : Tree) → has same_place seen x ≡ true → rest x ≡ false → formula_at g x ≡ Some f
        → value_at g x ≡ mean f x (outlook_at ctx g)
    pub closed : (x d : Place) → has same_place seen x ≡ true → rest x ≡ false → has same_place (pre g x) d ≡ true
        → has same_place seen d ≡ true

  value_kept : (g : Grid) (c : Place) (o : Option Tree) (d : Place) → (is_some o ≡ true → same_place d c ≡ false)
      → value_at (revalued mean ctx g c o) d ≡ value_at g d
  value_kept g c None d h = refl
  value_kept g c (Some f) d h = value_revalued mean ctx g c (Some f) d (h refl)

  value_set : (g : Grid) (c : Place) (o : Option Tree) (f : Tree) → formula_at g c ≡ o → o ≡ Some f
      → value_at (revalued mean ctx g c o) c ≡ mean f c (outlook_at ctx g)
  value_set g c None f is e = absurd (false≢true (ap is_some e))
  value_set g c (Some f') f is e =
      let v : Value = mean f' c (outlook_at ctx g) in
      ap value_of (get_valued g.cells (get g.cells c) c v c refl
      ∙ cond-true _ (with_value (get g.cells c) v) (get g.cells c) (same_place_itself c))
      ∙ taken (get g.cells c) v is ∙ ap (λ (h : Option Tree). meant h) e
    where
      meant : Option Tree → Value
      meant None = mean f c (outlook_at ctx g)
      meant (Some h) = mean h c (outlook_at ctx g)

      taken : (o : Option CellState) (v : Value) → formula_of o ≡ Some f' → value_of (with_value o v) ≡ v
      taken None v h = absurd (false≢true (ap is_some h))
      taken (Some s) v h = refl

  mean_kept : (g : Grid) → IsRest g rest → (c x : Place) (f : Tree) → formula_at g x ≡ Some f → rest x ≡ false
      → (is_formula_at g c ≡ true → hold (spans_of f x) c ≡ true → ⊥)
      → mean f x (outlook_at ctx g) ≡ mean f x (outlook_at ctx (evaluated mean ctx g c))
  mean_kept g r c x f here e free =
      meaning.reads f x (outlook_at ctx g) (outlook_at ctx (evaluated mean ctx g c)) (r.volatile x f here e)
      (λ d m. sym (value_kept g c (formula_at g c) d (λ k. false_from_ne_true _
      (λ q. free k (subst (λ y. hold (spans_of f x) y ≡ true) (same_place_is d c q) m)))))

  right_idle : (seen : List Place) (c : Place) (g : Grid) → IsRight seen g → has same_place seen c ≡ true
      → rest c ≡ false → IsRight (c ∷ seen) (evaluated mean ctx g c)
  right_idle seen c g i s k = subst (IsRight (c ∷ seen))
      (sym (revalued_same mean ctx g c (formula_at g c) (λ f h. i.value c f s k h))) (record {
        value = λ x f m e here. i.value x f (among x m) e here;
        closed = λ x d m e p. or_right _ _ (i.closed x d (among x m) e p);
      })
    where
      among : (x : Place) → has same_place (c ∷ seen) x ≡ true → has same_place seen x ≡ true
      among x m = elim (or_cases (same_place x c) (has same_place seen x) m)
          [ inl h ↦ subst (λ y. has same_place seen y ≡ true) (sym (same_place_is x c h)) s | inr h ↦ h ]

  right_new : (seen : List Place) (c : Place) (g : Grid) → IsRest g rest → IsRight seen g
      → (rest c ≡ false → (d : Place) → has same_place (pre g c) d ≡ true → has same_place seen d ≡ true)
      → (has same_place seen c ≡ true → rest c ≡ false → ⊥) → IsRight (c ∷ seen) (evaluated mean ctx g c)
  right_new seen c g r i h fresh = record {
    value = λ x f m e there.
        let here : formula_at g x ≡ Some f =
        sym (ap (λ (k : Place → Option Tree). k x) (formulas_stay mean ctx g c)) ∙ there in
        elim (cases_Bool (same_place x c)) [
          | inl q ↦
              let xc : x ≡ c = same_place_is x c q in
              let e' : rest c ≡ false = sym (ap rest xc) ∙ e in
              let here' : formula_at g c ≡ Some f = sym (ap (formula_at g) xc) ∙ here in
              let at : value_at (evaluated mean ctx g c) c ≡ mean f c (outlook_at ctx (evaluated mean ctx g c)) =
              value_set g c (formula_at g c) f refl here'
              ∙ mean_kept g r c c f here' e' (λ k w. r.acyclic c e' (one (read_formula g c c f here' w k))) in
              subst (λ y. value_at (evaluated mean ctx g c) y ≡ mean f y (outlook_at ctx (evaluated mean ctx g c)))
              (sym xc) at
          | inr q ↦
              let s : has same_place seen x ≡ true = elim (or_cases (same_place x c) (has same_place seen x) m)
              [ inl w ↦ absurd (true≢false (sym w ∙ q)) | inr w ↦ w ] in
              value_kept g c (formula_at g c) x (λ _. q) ∙ i.value x f s e here
              ∙ mean_kept g r c x f here e (λ k w.
              let p : has same_place (pre g x) c ≡ true = read_formula g x c f here w k in
              fresh (i.closed x c s e p) (false_from_ne_true (rest c) (λ t. true≢false (sym (r.up x c p t) ∙ e))))
        ];
    closed = λ x d m e p'.
        let p : has same_place (pre g x) d ≡ true =
        sym (ap (λ (k : Place → List Place). has same_place (k x) d) (pre_stays mean ctx g c)) ∙ p' in
        elim (or_cases (same_place x c) (has same_place seen x) m) [
          | inl w ↦
              let xc : x ≡ c = same_place_is x c w in
              or_right _ _ (h (sym (ap rest xc) ∙ e) d (sym (ap (λ y. has same_place (pre g y) d) xc) ∙ p))
          | inr w ↦ or_right _ _ (i.closed x d w e p)
        ];
  }

  right_on : (seen : List Place) (c : Place) (g : Grid) → IsRest g rest → IsRight seen g
      → (rest c ≡ false → (d : Place) → has same_place (pre g c) d ≡ true → has same_place seen d ≡ true)
      → IsRight (c ∷ seen) (evaluated mean ctx g c)
  right_on seen c g r i h = elim (cases_Bool (has same_place seen c)) [
    | inl s ↦ elim (cases_Bool (rest c)) [
      | inl t ↦ right_new seen c g r i h (λ _ k. true≢false (sym t ∙ k))
      | inr k ↦ right_idle seen c g i s k
    ]
    | inr n ↦ right_new seen c g r i h (λ s _. true≢false (sym s ∙ n))
  ]

  rest_stays : (g : Grid) (c : Place) → IsRest g rest → IsRest (evaluated mean ctx g c) rest
  rest_stays g c r = record {
    only = λ d h. ap (λ (k : Place → Option Tree). is_some (k d)) (formulas_stay mean ctx g c) ∙ r.only d h;
    volatile =
        λ d f h e. r.volatile d f (sym (ap (λ (k : Place → Option Tree). k d) (formulas_stay mean ctx g c)) ∙ h) e;
    up = λ d e m h.
        r.up d e (sym (ap (λ (p : Place → List Place). has same_place (p d) e) (pre_stays mean ctx g c)) ∙ m) h;
    acyclic = λ d e w. r.acyclic d e
        (subst (λ (p : Place → List Place). Reaches same_place p d d) (pre_stays mean ctx g c) w);
  }

  -- the cells of a pass before those that were seen, the last first
  abbrev pub onto : List Place → List Place → List Place
  onto [] seen = seen
  onto (c ∷ cs) seen = onto cs (c ∷ seen)

  -- what was seen is still seen
  pub onto-seen : (cs seen : List Place) (x : Place) → has same_place seen x ≡ true
      → has same_place (onto cs seen) x ≡ true
  onto-seen [] seen x h = h
  onto-seen (c ∷ cs) seen x h = onto-seen cs (c ∷ seen) x (or_right _ _ h)

  -- each cell of the pass is seen after it
  pub onto-has : (cs seen : List Place) (x : Place) → has same_place cs x ≡ true
      → has same_place (onto cs seen) x ≡ true
  onto-has [] seen x h = absurd (true≢false (sym h))
  onto-has (c ∷ cs) seen x h = elim (or_cases (same_place x c) (has same_place cs x) h)
      [ inl e ↦ onto-seen cs (c ∷ seen) x (or_left _ _ e) | inr m ↦ onto-has cs (c ∷ seen) x m ]

  -- after a pass each formula that was seen and leaves the set has its meaning
  pub right_all : (cs seen : List Place) (g : Grid) → IsRest g rest → IsRight seen g
      → Precedes same_place (pre g) seen cs → IsRight (onto cs seen) (pass mean ctx cs g)
  right_all [] seen g r i s = i
  right_all (c ∷ cs) seen g r i s = right_all cs (c ∷ seen) (evaluated mean ctx g c) (rest_stays g c r)
      (right_on seen c g r i (λ e d m. elim (s.0 d m) [ inl h ↦ h | inr q ↦ absurd (r.acyclic c e q) ]))
      (subst (λ (p : Place → List Place). Precedes same_place p (c ∷ seen) cs) (sym (pre_stays mean ctx g c)) s.1)

  rest_all : (cs : List Place) (g : Grid) → IsRest g rest → IsRest (pass mean ctx cs g) rest
  rest_all [] g r = r
  rest_all (c ∷ cs) g r = rest_all cs (evaluated mean ctx g c) (rest_stays g c r)

  -- a pass leaves the formulas
  pub formulas_all : (cs : List Place) (g : Grid) → formula_at (pass mean ctx cs g) ≡ formula_at g
  formulas_all [] g = refl
  formulas_all (c ∷ cs) g = formulas_all cs (evaluated mean ctx g c) ∙ formulas_stay mean ctx g c

  -- after a pass over all, the formulas that are not of the rest are right
  pub settled_pass : (g : Grid) → IsRest g rest → IsSound mean ctx (pass mean ctx (natural_order g).done g) rest
  settled_pass g r =
      let exact : IsExact same_place = record { same = same_place_is; refl_eq = same_place_itself } in
      let cells : List Place = (natural_order g).done in
      let right = right_all cells [] g r
      (record { value = λ x f m. absurd (true≢false (sym m)); closed = λ x d m. absurd (true≢false (sym m)) })
      (order_precedes same_place exact (pre g) (formulas g) (formulas g) (pre_formulas g) (λ x m. m)) in
      let rest' = rest_all cells g r in
      record {
        only = rest'.only;
        up = rest'.up;
        calm = rest'.volatile;
        acyclic = rest'.acyclic;
        right = λ x f here e. right.value x f
            (onto-has cells [] x (order_covers same_place exact (pre g) (formulas g) (formulas g) x
            (has_formula g x ∙ (sym (ap (λ (k : Place → Option Tree). is_some (k x)) (formulas_all cells g))
            ∙ ap is_some here)))) e here;
      }

-- further passes over all formulas are such over those that stay dirty
pub further : (mean : Meaning) (ctx : Context) (rest : Place → Bool) → IsMeaning mean
    → (n : ℕ) (cells : List Place) (g : Grid) → IsSound mean ctx g rest
    → passes mean ctx n cells g ≡ passes mean ctx n (filter rest cells) g
further mean ctx rest meaning zero cells g s = refl
further mean ctx rest meaning (suc n) cells g s =
    further mean ctx rest meaning n cells (pass mean ctx cells g) (sound_all mean ctx rest meaning g s cells)
    ∙ ap (passes mean ctx n (filter rest cells)) (pass_is_cut mean ctx meaning g rest s cells)

-- the passes over all formulas are one over the dirty ones and the further ones over the rest
pub recalculation_is_cut : (mean : Meaning) (ctx : Context) → IsMeaning mean → RecalculationIsCut mean ctx
recalculation_is_cut mean ctx meaning g dirty rest sound r n =
    let cells : List Place = (natural_order g).done in
    further mean ctx rest meaning n cells (pass mean ctx cells g) (settled_pass mean ctx rest meaning g r)
    ∙ ap (passes mean ctx n (filter rest cells)) (pass_is_cut mean ctx meaning g dirty sound cells)
