-- Why a sheet keeps what it keeps.
use Rattle.std.specs.Prelude.{◌≡◌, Bool, true, false, is_some, refl, List, [], ◌∷◌, Option, None, Some}
use Rattle.std.specs.FinMap.{empty, get, get-empty}
use Rattle.std.proofs.Common.{sym, ◌∙◌, ap, subst, inl, inr}
use Rattle.std.proofs.lemmas.Bool.{cases_Bool, true≢false}
use Rattle.grid_address.specs.Place.{place_cmp, same_place, Place}
use Rattle.formula_tree.specs.Tree.{Tree}
use Rattle.depend_graph.specs.Network.{Network}
use Rattle.cell_maps.specs.Sets.{has}
use Rattle.natural_order.specs.Walk.{Reaches}
use Rattle.sheet_store.specs.Grid.{put_state, value_of, Cells, Grid}
use Rattle.sheet_store.specs.declared.order.Order.{Order}
use Rattle.sheet_store.specs.declared.order.Order.TheVariants as orders
use Rattle.sheet_store.specs.State.{CellState}
use Rattle.recalculation.proofs.Contents.{formulas_same, matches_on, same_evaluated}
use Rattle.recalculation.proofs.Cut.{sound_all}
use Rattle.recalculation.proofs.Edit.{edit_keeps_sound}
use Rattle.recalculation.proofs.First.{reads_formula}
use Rattle.recalculation.proofs.Members.{pre_along}
use Rattle.recalculation.specs.Context.{formula_at, formula_of, outlook_at, Context}
use Rattle.recalculation.specs.Passes.{evaluated, IsDirtyAfter, IsSound, IsSpread, Meaning, SameContents}
use Rattle.recalculation.specs.inner.Meanings.{IsMeaning}
use Rattle.recalculation.specs.Reading.{is_formula_at, node_of, Matches}
use Rattle.recalculation.proofs.Fresh.{reaching_is_formula}
use Rattle.sheet_edits.proofs.Beside.{beside}
use Rattle.sheet_edits.proofs.Reaching.{reaching_formula}
use Rattle.sheet_edits.specs.Edits.{just, AreDirtied}
use Rattle.work_sheet.specs.Sheets.{AllDirtyIn}
use Rattle.work_sheet.specs.inner.Keeping.{IsKept}

module _ (mean : Meaning) (meaning : IsMeaning mean) where
  -- what holds in one context holds in each, where formulas and values are the same
  pub same_sound : (g h : Grid) (dirty : Place → Bool) (x y : Context) → ((c : Place) → formula_at h c ≡ formula_at g c)
      → ((c : Place) → value_of (get h.cells c) ≡ value_of (get g.cells c)) → IsSound mean x g dirty
      → IsSound mean y h dirty
  same_sound g h dirty x y formula_same values s =
      let formulas : formula_at h ≡ formula_at g = λ i c. formula_same c i in
      record {
        only = λ c t. ap is_some (formula_same c) ∙ s.only c t;
        up = λ c d m t.
            s.up c d (sym (ap (λ (p : Place → List Place). has same_place (p c) d) (pre_along h g formulas)) ∙ m) t;
        calm = λ c t here k. s.calm c t (sym (formula_same c) ∙ here) k;
        acyclic = λ c k r. s.acyclic c k
            (subst (λ (p : Place → List Place). Reaches same_place p c c) (pre_along h g formulas) r);
        right = λ c t here k.
            let there : formula_at g c ≡ Some t = sym (formula_same c) ∙ here in
            values c ∙ s.right c t there k
            ∙ meaning.reads t c (outlook_at x g) (outlook_at y h) (s.calm c t there k) (λ d _. sym (values d));
      }

  -- so it does whatever the columns are
  pub anywhere : (g h : Grid) (dirty : Place → Bool) (x y : Context) → h.cells ≡ g.cells → IsSound mean x g dirty
      → IsSound mean y h dirty
  anywhere g h dirty x y e = same_sound g h dirty x y (λ c. ap (λ (m : Cells). formula_of (get m c)) e)
      (λ c. ap (λ (m : Cells). value_of (get m c)) e)

  -- cells were written, and the others are as they were
  module _ (g h : Grid) (written : Place → Bool)
      (others : (c : Place) → written c ≡ false → get h.cells c ≡ get g.cells c) (old new : List Place)
      (d : AreDirtied h (has same_place old) written (has same_place new)) where
    spreads : IsSpread g h written (has same_place old) (has same_place new)
    spreads = record {
      others = others;
      only = λ c t. ((d c).0 t).formula;
      written_too = λ c w f. (d c).1 (record { formula = f; why = inr (inl w) });
      reaching = λ c w t r. (d c).1 (record { formula = reaching_formula h r; why = inr (inr (w, t, r)) });
      kept = λ c t f. (d c).1 (record { formula = f; why = inl t });
      exact = λ c t. elim ((d c).0 t).why [
        | inl o ↦ inr (inr o)
        | inr r ↦ elim r [ inl e ↦ inl e | inr q ↦ inr (inl q) ]
      ];
    }

    stays : (c : Place) → (is_formula_at g c ≡ true → has same_place old c ≡ true) → is_formula_at h c ≡ true
        → has same_place new c ≡ true
    stays c all f = elim (cases_Bool (written c)) [
      | inl t ↦ (d c).1 (record { formula = f; why = inr (inl t) })
      | inr e ↦
          (d c).1 (record { formula = f; why = inl (all (sym (ap (λ o. is_some (formula_of o)) (others c e)) ∙ f)) })
    ]

    whole : (order : Order) → AllDirtyIn order g old → AllDirtyIn order h new
    whole orders.Natural a = tt
    whole orders.Columnwise a = λ c. stays c (a c)
    whole orders.Rowwise a = λ c. stays c (a c)

    -- after an edit
    pub kept_changed : (order : Order) (n o : Network) → IsKept mean n g old order → Matches o h
        → IsKept mean o h new order
    kept_changed order n o k after = record {
      matches = after;
      only = λ c t. ((d c).0 t).formula;
      sound = λ x. edit_keeps_sound mean x meaning g h written (has same_place old) (has same_place new)
          (k.sound x) spreads;
      whole = whole order k.whole;
    }

  -- after an edit of one cell, told of the grid that there is
  pub kept_edit : (g h : Grid) (cell : Place) (s : CellState) (old new : List Place) → h ≡ put_state g cell s
      → AreDirtied h (has same_place old) (just cell) (has same_place new)
      → (order : Order) (n o : Network) → IsKept mean n g old order → Matches o h → IsKept mean o h new order
  kept_edit g h cell s old new e d =
      kept_changed g h (just cell) (λ c k. ap (λ (x : Grid). get x.cells c) e ∙ beside g cell s c k) old new d

  all_along : (order : Order) (g h : Grid) (dirty : List Place) → ((c : Place) → is_formula_at h c ≡ is_formula_at g c)
      → AllDirtyIn order g dirty → AllDirtyIn order h dirty
  all_along orders.Natural g h dirty e a = tt
  all_along orders.Columnwise g h dirty e a = λ c f. a c (sym (e c) ∙ f)
  all_along orders.Rowwise g h dirty e a = λ c f. a c (sym (e c) ∙ f)

  -- where formulas and values stay
  pub kept_values : (n : Network) (g h : Grid) (dirty : List Place) (order : Order) → ((c : Place)
      → formula_at h c ≡ formula_at g c) → ((c : Place) → value_of (get h.cells c) ≡ value_of (get g.cells c))
      → IsKept mean n g dirty order → IsKept mean n h dirty order
  kept_values n g h dirty order formulas values k = record {
    matches = λ c. k.matches c ∙ ap (λ o. node_of o c) (sym (formulas c));
    only = λ c t. ap is_some (formulas c) ∙ k.only c t;
    sound = λ x. same_sound g h (has same_place dirty) x x formulas values (k.sound x);
    whole = all_along order g h dirty (λ c. ap is_some (formulas c)) k.whole;
  }

  -- where columns change
  pub kept_beside : (n : Network) (g h : Grid) (dirty : List Place) (order : Order) → h.cells ≡ g.cells
      → IsKept mean n g dirty order → IsKept mean n h dirty order
  kept_beside n g h dirty order e = kept_values n g h dirty order (λ c. ap (λ (m : Cells). formula_of (get m c)) e)
      (λ c. ap (λ (m : Cells). value_of (get m c)) e)

  after_order : (order : Order) (g h : Grid) (old new : List Place) → formula_at h ≡ formula_at g
      → IsDirtyAfter order h (has same_place old) (has same_place new) → AllDirtyIn order g old → AllDirtyIn order h new
  after_order orders.Natural g h old new e d a = tt
  after_order orders.Columnwise g h old new e d a =
      λ c f. d c ∙ a c (sym (ap (λ (k : Place → Option Tree). is_some (k c)) e) ∙ f)
  after_order orders.Rowwise g h old new e d a =
      λ c f. d c ∙ a c (sym (ap (λ (k : Place → Option Tree). is_some (k c)) e) ∙ f)

  -- after a recalculation
  pub kept_after : (n : Network) (g h : Grid) (old new : List Place) (order : Order) (x : Context)
      → SameContents g h → Matches n h → IsSound mean x h (has same_place new)
      → IsDirtyAfter order h (has same_place old) (has same_place new)
      → IsKept mean n g old order → IsKept mean n h new order
  kept_after n g h old new order x same m s d k = record {
    matches = m;
    only = s.only;
    sound = λ y. anywhere h h (has same_place new) x y refl s;
    whole = after_order order g h old new (formulas_same g h same) d k.whole;
  }

  -- after one that found no memory
  pub kept_same : (n : Network) (g h : Grid) (old new : List Place) (order : Order) (x : Context) → SameContents g h
      → Matches n h → IsSound mean x h (has same_place new) → new ≡ old
      → IsKept mean n g old order → IsKept mean n h new order
  kept_same n g h old new order x same m s e k = record {
    matches = m;
    only = s.only;
    sound = λ y. anywhere h h (has same_place new) x y refl s;
    whole = subst (AllDirtyIn order h) (sym e) (all_along order g h old
        (λ c. ap (λ (f : Place → Option Tree). is_some (f c)) (formulas_same g h same)) k.whole);
  }

  -- after a formula was evaluated in its cell
  pub kept_evaluated : (n : Network) (g : Grid) (dirty : List Place) (order : Order) (x : Context) (cell : Place)
      → IsKept mean n g dirty order → IsKept mean n (evaluated mean x g cell) dirty order
  kept_evaluated n g dirty order x cell k =
      let h : Grid = evaluated mean x g cell in
      let same : SameContents g h = same_evaluated mean x g cell in
      let formula : (c : Place) → is_formula_at h c ≡ is_formula_at g c =
      λ c. ap (λ (f : Place → Option Tree). is_some (f c)) (formulas_same g h same) in
      record {
        matches = matches_on n g h same k.matches;
        only = λ c t. formula c ∙ k.only c t;
        sound = λ y. anywhere h h (has same_place dirty) x y refl
            (sound_all mean x (has same_place dirty) meaning g (k.sound x) (cell ∷ []));
        whole = all_along order g h dirty formula k.whole;
      }

  -- after an entry that is evaluated once
  pub kept_line : (g h : Grid) (cell : Place) (s : CellState) (old new : List Place) (x : Context)
      → h ≡ evaluated mean x (put_state g cell s) cell
      → AreDirtied (put_state g cell s) (has same_place old) (just cell) (has same_place new)
      → (order : Order) (n o : Network) → IsKept mean n g old order → Matches o (put_state g cell s)
      → IsKept mean o h new order
  kept_line g h cell s old new x e d order n o k after = subst (λ (y : Grid). IsKept mean o y new order) (sym e)
      (kept_evaluated o (put_state g cell s) new order x cell
      (kept_edit g (put_state g cell s) cell s old new refl d order n o k after))

  -- where there is no cell
  module _ (g : Grid) (none : g.cells ≡ empty) where
    no_formula : (c : Place) → formula_at g c ≡ None
    no_formula c = ap (λ (m : Cells). formula_of (get m c)) none ∙ ap formula_of (get-empty place_cmp c)

    not_formula : (c : Place) → is_formula_at g c ≡ true → ⊥
    not_formula c h = true≢false (sym h ∙ ap is_some (no_formula c))

    nothing_whole : (order : Order) (dirty : List Place) → AllDirtyIn order g dirty
    nothing_whole orders.Natural dirty = tt
    nothing_whole orders.Columnwise dirty = λ c f. absurd (not_formula c f)
    nothing_whole orders.Rowwise dirty = λ c f. absurd (not_formula c f)

    -- with no formula in the graph and none that is dirty, a sheet without cells keeps what it is to keep
    pub kept_empty : (n : Network) (dirty : List Place) (order : Order) → n.formulas ≡ empty → dirty ≡ []
        → IsKept mean n g dirty order
    kept_empty n dirty order e clean = record {
      matches = λ c. ap (λ f. get f c) e ∙ get-empty place_cmp c ∙ sym (ap (λ o. node_of o c) (no_formula c));
      only = λ c t. absurd (true≢false (sym t ∙ ap (λ ks. has same_place ks c) clean));
      sound = λ x. record {
        only = λ c t. absurd (true≢false (sym t ∙ ap (λ ks. has same_place ks c) clean));
        up = λ c d m t. absurd (not_formula c (reads_formula g c d m));
        calm = λ c t h k. absurd (not_formula c (ap is_some h));
        acyclic = λ c k r. not_formula c (reaching_is_formula g r);
        right = λ c t h k. absurd (not_formula c (ap is_some h));
      };
      whole = nothing_whole order dirty;
    }
