-- Why a pass along an order of the dirty formulas is a pass along all formulas in their natural order.
use Rattle.std.specs.Prelude.{ℕ, zero, suc, ◌≡◌, ◌<◌, ◌||◌, Bool, true, false, cond, not, List, [], ◌∷◌, Option}
use Rattle.std.specs.Prelude.{None, Some}
use Rattle.std.specs.FinMap.{get}
use Rattle.std.specs.List.{filter}
use Rattle.std.specs.Option.{is_some}
use Rattle.std.proofs.Common.{sym, ◌∙◌, ap, subst, refl, inl, inr, arith}
use Rattle.std.proofs.lemmas.Bool.{and_parts, true≢false, false≢true, cases_Bool, false_from_ne_true, or_cases, or_left}
use Rattle.std.proofs.lemmas.Bool.{not-true, not_from_false, or_right}
use Rattle.grid_address.proofs.Places.{same_place_is, same_place_itself, same_places}
use Rattle.grid_address.specs.Place.{same_place, Place}
use Rattle.formula_tree.specs.Spans.{is_volatile, spans_of}
use Rattle.formula_tree.specs.Tree.{Tree}
use Rattle.formula_tree.specs.declared.value.Value.{Value}
use Rattle.natural_order.proofs.Cut.{filter_passes, has-filter, order_is_cut}
use Rattle.natural_order.specs.Machine.{fuel}
use Rattle.cell_maps.specs.Sets.{has}
use Rattle.natural_order.specs.Walk.{order, IsSplit, Precedes, Reaches, Walked}
use Rattle.natural_order.specs.Walk.Reaches.{one, more}
use Rattle.range_index.specs.Owners.{hold}
use Rattle.sheet_store.specs.Grid.{formulas, value_at, value_of, Grid}
use Rattle.sheet_store.specs.State.{CellState}
use Rattle.recalculation.proofs.Contents.{same_evaluated, same_itself, same_on}
use Rattle.recalculation.proofs.Cut.{pass_is_cut, value_revalued}
use Rattle.recalculation.proofs.Ends.{none_stays}
use Rattle.recalculation.proofs.First.{rest_of, what_stays_along}
use Rattle.recalculation.proofs.Members.{has_pre}
use Rattle.recalculation.proofs.Rest.{formulas_all, further, onto, onto-has, onto-seen, right_all, settled_pass}
use Rattle.recalculation.proofs.Rest.{IsRight}
use Rattle.recalculation.proofs.Valued.{told_valued, with_value}
use Rattle.recalculation.specs.Context.{formula_at, outlook_at, Context}
use Rattle.recalculation.specs.InOrder.{GoesInOrder}
use Rattle.recalculation.specs.inner.Laws.{has_formula}
use Rattle.recalculation.specs.Passes.{evaluated, pass, passes, revalued, IsPlain, IsRest, IsSound, IsWhatStays}
use Rattle.recalculation.specs.Passes.{Meaning, SameContents}
use Rattle.recalculation.specs.inner.Meanings.{IsMeaning}
use Rattle.recalculation.specs.Reading.{is_formula_at, natural_order, pre, spans_at, spans_in, volatile_of}

-- no formula
abbrev pub none : Place → Bool
none c = false

filter_none : (xs : List Place) → filter none xs ≡ []
filter_none [] = refl
filter_none (x ∷ xs) = filter_none xs

-- where a cell first stands
abbrev place_in : List Place → Place → ℕ
place_in [] c = 0
place_in (x ∷ xs) c = cond (same_place c x) 0 (suc (place_in xs c))

read_held : (g : Grid) (c d : Place) → has same_place (pre g c) d ≡ true
    → (is_formula_at g d ≡ true) × (hold (spans_at g c) d ≡ true)
read_held g c d m = and_parts (is_formula_at g d) (hold (spans_at g c) d) (sym (has_pre g c d) ∙ m)

rest_has : (x : Place) (xs : List Place) (c : Place) → same_place c x ≡ false → has same_place (x ∷ xs) c ≡ true
    → has same_place xs c ≡ true
rest_has x xs c f m =
    elim (or_cases (same_place c x) (has same_place xs c) m) [ inl h ↦ absurd (true≢false (sym h ∙ f)) | inr h ↦ h ]

-- what a formula reads of the list stands before it
earlier : (g : Grid) (cs : List Place) → GoesInOrder g cs → (c d : Place) → has same_place cs c ≡ true
    → has same_place cs d ≡ true → hold (spans_at g c) d ≡ true → place_in cs d < place_in cs c
earlier g [] o c d mc md h = absurd (false≢true mc)
earlier g (x ∷ cs) o c d mc md h = elim (cases_Bool (same_place c x)) [
  | inl e ↦ absurd (true≢false (sym h ∙ ap (λ y. hold (spans_at g y) d) (same_place_is c x e) ∙ o.0.ahead d md))
  | inr f ↦ elim (cases_Bool (same_place d x)) [
    | inl e ↦ first e f
    | inr k ↦ later k f (earlier g cs o.1 c d (rest_has x cs c f mc) (rest_has x cs d k md) h)
  ]
]
  where
    first : same_place d x ≡ true → same_place c x ≡ false → place_in (x ∷ cs) d < place_in (x ∷ cs) c
    first e f =
        let a : place_in (x ∷ cs) d ≡ 0 = ap (λ b. cond b 0 (suc (place_in cs d))) e in
        let b : place_in (x ∷ cs) c ≡ suc (place_in cs c) = ap (λ b. cond b 0 (suc (place_in cs c))) f in
        omega (arith, a, b)

    later : same_place d x ≡ false → same_place c x ≡ false → place_in cs d < place_in cs c
        → place_in (x ∷ cs) d < place_in (x ∷ cs) c
    later k f h =
        let a : place_in (x ∷ cs) d ≡ suc (place_in cs d) = ap (λ b. cond b 0 (suc (place_in cs d))) k in
        let b : place_in (x ∷ cs) c ≡ suc (place_in cs c) = ap (λ b. cond b 0 (suc (place_in cs c))) f in
        omega (arith, a, b, h)

steady_in : (g : Grid) (cs : List Place) → GoesInOrder g cs → (c : Place) → has same_place cs c ≡ true
    → volatile_of (formula_at g c) ≡ false
steady_in g [] o c m = absurd (false≢true m)
steady_in g (x ∷ cs) o c m = elim (or_cases (same_place c x) (has same_place cs c) m) [
  | inl e ↦ ap (λ y. volatile_of (formula_at g y)) (same_place_is c x e) ∙ o.0.steady
  | inr k ↦ steady_in g cs o.1 c k
]

-- along the order each formula comes after those that it reads, where the others were seen before
precedes : (g : Grid) (cs seen : List Place) → GoesInOrder g cs → ((d : Place) → is_formula_at g d ≡ true
    → has same_place cs d ≡ false → has same_place seen d ≡ true) → Precedes same_place (pre g) seen cs
precedes g [] seen o h = tt
precedes g (c ∷ cs) seen o h = (
  λ d m.
      let r = read_held g c d m in
      inl (h d r.0 (false_from_ne_true _ (λ k. true≢false (sym r.1 ∙ o.0.ahead d k)))),
  precedes g cs (c ∷ seen) o.1 (λ d f k. elim (cases_Bool (same_place d c)) [
    | inl e ↦ or_left _ _ e
    | inr n ↦ or_right _ _ (h d f (ap (λ b. b || has same_place cs d) n ∙ k))
  ]),
)

-- a state is its content and format with its value
own_value : (o : Option CellState) → with_value o (value_of o) ≡ o
own_value None = refl
own_value (Some s) = refl

value_blind : (v : Value) (o : Option CellState) (w : Value) → with_value (with_value o w) v ≡ with_value o v
value_blind v None w = refl
value_blind v (Some s) w = refl

module _ (mean : Meaning) (ctx : Context) where
  rest_evaluated : (v : Value) (g : Grid) (c : Place) (o : Option Tree) (d : Place)
      → with_value (get (revalued mean ctx g c o).cells d) v ≡ with_value (get g.cells d) v
  rest_evaluated v g c None d = refl
  rest_evaluated v g c (Some t) d =
      told_valued (λ o. with_value o v) (value_blind v) g.cells (get g.cells c) c (mean t c (outlook_at ctx g)) d refl

  -- a pass writes values alone
  rest_passed : (v : Value) (cs : List Place) (g : Grid) (d : Place)
      → with_value (get (pass mean ctx cs g).cells d) v ≡ with_value (get g.cells d) v
  rest_passed v [] g d = refl
  rest_passed v (c ∷ cs) g d = rest_passed v cs (evaluated mean ctx g c) d ∙ rest_evaluated v g c (formula_at g c) d

  -- and those of its cells
  others_passed : (cs : List Place) (g : Grid) (d : Place) → has same_place cs d ≡ false
      → value_at (pass mean ctx cs g) d ≡ value_at g d
  others_passed [] g d h = refl
  others_passed (c ∷ cs) g d h = elim (cases_Bool (same_place d c)) [
    | inl e ↦ absurd (true≢false (sym (or_left _ _ e) ∙ h))
    | inr n ↦ others_passed cs (evaluated mean ctx g c) d (false_from_ne_true _
        (λ k. true≢false (sym (or_right _ _ k) ∙ h))) ∙ value_revalued mean ctx g c (formula_at g c) d n
  ]

  same_passed : (cs : List Place) (g : Grid) → SameContents g (pass mean ctx cs g)
  same_passed [] g = same_itself g
  same_passed (c ∷ cs) g = same_on g (evaluated mean ctx g c) (pass mean ctx cs (evaluated mean ctx g c))
      (same_evaluated mean ctx g c) (same_passed cs (evaluated mean ctx g c))

  passes_nothing : (n : ℕ) (g : Grid) → passes mean ctx n [] g ≡ g
  passes_nothing zero g = refl
  passes_nothing (suc n) g = passes_nothing n g

  module _ (meaning : IsMeaning mean) (g : Grid) (keys : List Place) (sound : IsSound mean ctx g (has same_place keys))
      (goes : GoesInOrder g keys) where
    steady : (c : Place) (t : Tree) → formula_at g c ≡ Some t → is_volatile t ≡ false
    steady c t e = elim (cases_Bool (has same_place keys c)) [
      | inl m ↦ sym (ap volatile_of e) ∙ steady_in g keys goes c m
      | inr k ↦ sound.calm c t e k
    ]

    reached : {c d : Place} → Reaches same_place (pre g) c d → has same_place keys d ≡ true
        → (has same_place keys c ≡ true) × (place_in keys d < place_in keys c)
    reached {c} {d} (one m) t =
        let k : has same_place keys c ≡ true = sound.up c d m t in
        (k, earlier g keys goes c d k t (read_held g c d m).1)
    reached {c} {d} (more {e = e} m r) t =
        let h = reached r t in
        let k : has same_place keys c ≡ true = sound.up c e m h.0 in
        let a : place_in keys d < place_in keys e = h.1 in
        let b : place_in keys e < place_in keys c = earlier g keys goes c e k h.0 (read_held g c e m).1 in
        (k, omega (arith, a, b))

    acyclic : (c : Place) → Reaches same_place (pre g) c c → ⊥
    acyclic c r = elim (cases_Bool (has same_place keys c)) [
      | inl m ↦ let h : place_in keys c < place_in keys c = (reached r m).1 in omega (arith, h)
      | inr k ↦ sound.acyclic c k r
    ]

    plain : IsPlain g
    plain = record { steady = steady; acyclic = acyclic }

    none_left : IsWhatStays g none
    none_left c = ((λ e. absurd (false≢true e)), (λ s. absurd (none_stays g plain s)))

    rest_none : IsRest g none
    rest_none = rest_of g none none_left

    no_split : IsSplit same_place (pre g) none
    no_split = record {
      same = same_place_is;
      refl_eq = same_place_itself;
      up = λ c d m t. absurd (false≢true t);
      acyclic = λ c e. acyclic c;
    }

    -- where all dirty formulas go in an order, no circle is told
    pub not_circular : (natural_order g).circular ≡ false
    not_circular =
        ap (λ (s : Walked Place). s.circular)
        (order_is_cut same_place (pre g) none no_split (fuel (formulas g)) (formulas g))
        ∙ ap (λ (xs : List Place). (order same_place (λ c. filter none (pre g c)) (fuel (formulas g)) xs).circular)
        (filter_none (formulas g))

    abbrev clean : List Place
    clean = filter (λ c. not (has same_place keys c)) (formulas g)

    clean_is : (c : Place) → has same_place clean c ≡ true → has same_place keys c ≡ false
    clean_is c m = not-true (has same_place keys c)
        (filter_passes same_place same_place_is (λ x. not (has same_place keys x)) (formulas g) c m)

    clean_has : (c : Place) → is_formula_at g c ≡ true → has same_place keys c ≡ false → has same_place clean c ≡ true
    clean_has c f k = has-filter same_place same_place_is (λ x. not (has same_place keys x)) c
        (not_from_false (has same_place keys c) k) (formulas g) ∙ has_formula g c ∙ f

    right_first : IsRight mean ctx none meaning clean g
    right_first = record {
      value = λ x t m e here. sound.right x t here (clean_is x m);
      closed = λ x d m e p.
          let r = read_held g x d p in
          clean_has d r.0 (false_from_ne_true _ (λ k. true≢false (sym (sound.up x d p k) ∙ clean_is x m)));
    }

    abbrev one_pass : Grid
    one_pass = pass mean ctx keys g

    abbrev whole_pass : Grid
    whole_pass = pass mean ctx (natural_order g).done g

    same_formulas : (cs : List Place) (c : Place) (t : Tree) → formula_at g c ≡ Some t
        → formula_at (pass mean ctx cs g) c ≡ Some t
    same_formulas cs c t e = ap (λ (k : Place → Option Tree). k c) (formulas_all mean ctx none meaning cs g) ∙ e

    right_one : (c : Place) (t : Tree) → formula_at g c ≡ Some t
        → value_at one_pass c ≡ mean t c (outlook_at ctx one_pass)
    right_one c t e =
        let right =
        right_all mean ctx none meaning keys clean g rest_none right_first (precedes g keys clean goes clean_has) in
        let seen : has same_place (onto mean ctx none meaning keys clean) c ≡ true =
        elim (cases_Bool (has same_place keys c)) [
          | inl m ↦ onto-has mean ctx none meaning keys clean c m
          | inr k ↦ onto-seen mean ctx none meaning keys clean c (clean_has c (ap is_some e) k)
        ] in
        right.value c t seen refl (same_formulas keys c t e)

    settled : IsSound mean ctx whole_pass none
    settled = settled_pass mean ctx none meaning g rest_none

    right_whole : (c : Place) (t : Tree) → formula_at g c ≡ Some t
        → value_at whole_pass c ≡ mean t c (outlook_at ctx whole_pass)
    right_whole c t e = settled.right c t (same_formulas (natural_order g).done c t e) refl

    -- a clean cell keeps its value in both
    same_clean : (d : Place) → has same_place keys d ≡ false → value_at one_pass d ≡ value_at whole_pass d
    same_clean d k =
        others_passed keys g d k
        ∙ sym (others_passed (filter (has same_place keys) (natural_order g).done) g d
        (false_from_ne_true _ (λ m. true≢false
        (sym (filter_passes same_place same_place_is (has same_place keys) (natural_order g).done d m) ∙ k))))
        ∙ sym (ap (λ (h : Grid). value_at h d)
        (pass_is_cut mean ctx meaning g (has same_place keys) sound (natural_order g).done))

    -- and each of the others takes its meaning over the same values
    same_along : (cs : List Place) → GoesInOrder g cs
        → ((c : Place) → has same_place cs c ≡ true → is_formula_at g c ≡ true)
        → ((d : Place) → has same_place cs d ≡ false → value_at one_pass d ≡ value_at whole_pass d) → (d : Place)
        → value_at one_pass d ≡ value_at whole_pass d
    same_along [] o f h d = h d refl
    same_along (c ∷ cs) o f h d =
        same_along cs o.1 (λ x m. f x (or_right _ _ m)) (λ x k. elim (cases_Bool (same_place x c)) [
          | inl e ↦ ap (value_at one_pass) (same_place_is x c e) ∙ here (formula_at g c) refl
              ∙ sym (ap (value_at whole_pass) (same_place_is x c e))
          | inr n ↦ h x (ap (λ b. b || has same_place cs x) n ∙ k)
        ]) d
      where
        formed : (o : Option Tree) → formula_at g c ≡ o → is_some o ≡ true
        formed o e = sym (ap is_some e) ∙ f c (or_left _ _ (same_place_itself c))

        here : (o : Option Tree) → formula_at g c ≡ o → value_at one_pass c ≡ value_at whole_pass c
        here None e = absurd (false≢true (formed None e))
        here (Some t) e =
            right_one c t e
            ∙ meaning.reads t c (outlook_at ctx one_pass) (outlook_at ctx whole_pass) (steady c t e)
            (λ x m. h x (false_from_ne_true _ (λ k. true≢false (sym (read t e x m) ∙ o.0.ahead x k))))
            ∙ sym (right_whole c t e)
          where
            read : (t : Tree) → formula_at g c ≡ Some t → (x : Place) → hold (spans_of t c) x ≡ true
                → hold (spans_at g c) x ≡ true
            read t e x m = ap (λ (q : Option Tree). hold (spans_in q c) x) e ∙ m

    same_values : (d : Place) → value_at one_pass d ≡ value_at whole_pass d
    same_values = same_along keys goes sound.only same_clean

    same_states : (d : Place) → get one_pass.cells d ≡ get whole_pass.cells d
    same_states d =
        sym (own_value (get one_pass.cells d))
        ∙ ap (with_value (get one_pass.cells d)) (same_values d)
        ∙ rest_passed (value_at whole_pass d) keys g d
        ∙ sym (rest_passed (value_at whole_pass d) (natural_order g).done g d)
        ∙ own_value (get whole_pass.cells d)

    -- one pass along the order is one along all formulas in their natural order
    pub same_pass : one_pass ≡ whole_pass
    same_pass =
        let a = same_passed keys g in
        let b = same_passed (natural_order g).done g in
        let cells = same_places one_pass.cells whole_pass.cells same_states in
        let widths = a.widths ∙ sym b.widths in
        let hidden = a.hidden ∙ sym b.hidden in
        λ i. record { cells = cells i; widths = widths i; hidden = hidden i }

    -- one pass along the order is as many as there are along all formulas
    pub values : (times n : ℕ) → times ≡ suc n → pass mean ctx keys g ≡ passes mean ctx times (natural_order g).done g
    values times n e =
        let xs : List Place = (natural_order g).done in
        same_pass
        ∙ sym (passes_nothing n whole_pass)
        ∙ sym (ap (λ cs. passes mean ctx n cs whole_pass) (filter_none xs))
        ∙ sym (further mean ctx none meaning n xs whole_pass settled)
        ∙ sym (ap (λ t. passes mean ctx t xs g) e)

    -- after it nothing is dirty, and what held still holds
    pub sound_after : IsSound mean ctx (pass mean ctx keys g) none
    sound_after = subst (λ h. IsSound mean ctx h none) (sym same_pass) settled

    -- after one pass along the order nothing stays dirty
    pub stays_after : IsWhatStays (pass mean ctx keys g) none
    stays_after =
        what_stays_along g (pass mean ctx keys g) (sym (formulas_all mean ctx none meaning keys g)) none none_left
