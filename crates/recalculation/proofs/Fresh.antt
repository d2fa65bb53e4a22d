-- A store whose formulas all are dirty, and the graph of a store.
use Rattle.std.specs.Prelude.{ℕ, ◌≡◌, ◌+◌, ◌<◌, Bool, true, false, cond, ◌&&◌, ◌||◌, refl, take, length, List, [], ◌∷◌}
use Rattle.std.specs.Prelude.{Option, None, Some}
use Rattle.std.specs.FinMap.{empty, get, get-empty}
use Rattle.std.specs.Option.{is_some}
use Rattle.std.proofs.Common.{sym, ◌∙◌, ap, get_or}
use Rattle.std.proofs.lemmas.Bool.{true≢false}
use Rattle.std.proofs.lemmas.List.{take_more}
use Rattle.std.proofs.lemmas.List.Folds.{list_any-append}
use Rattle.grid_address.proofs.Places.{get_inserted, same_place_is}
use Rattle.grid_address.specs.Place.{place_cmp, same_place, Place}
use Rattle.formula_tree.specs.Tree.{Tree}
use Rattle.depend_graph.specs.Network.{Network}
use Rattle.depend_graph.specs.Network.{Nodes}
use Rattle.cell_maps.specs.Sets.{has}
use Rattle.natural_order.specs.Walk.{Reaches}
use Rattle.natural_order.specs.Walk.Reaches.{more, one}
use Rattle.sheet_store.specs.Grid.{Grid}
use Rattle.recalculation.proofs.First.{reads_formula}
use Rattle.recalculation.specs.Context.{formula_at, Context}
use Rattle.recalculation.specs.Passes.{IsSound, Meaning}
use Rattle.recalculation.specs.Reading.{is_formula_at, node_of, pre}
use Rattle.recalculation.specs.inner.Graphs.{with_formula}

-- what reaches a cell is a formula
pub reaching_is_formula : (g : Grid) {c d : Place} → Reaches same_place (pre g) c d → is_formula_at g c ≡ true
reaching_is_formula g {c} {d} (one m) = reads_formula g c d m
reaching_is_formula g {c} (more {e = e} m r) = reads_formula g c e m

-- where every formula is dirty, what holds of the dirty ones holds
pub sound_whole : (g : Grid) (dirty : Place → Bool) → ((c : Place) → dirty c ≡ is_formula_at g c)
    → (mean : Meaning) (ctx : Context) → IsSound mean ctx g dirty
sound_whole g dirty h mean ctx = record {
  only = λ c t. sym (h c) ∙ t;
  up = λ c d m t. h c ∙ reads_formula g c d m;
  calm = λ c t here e. absurd (true≢false (sym (h c ∙ ap is_some here) ∙ e));
  acyclic = λ c e r. true≢false (sym (h c ∙ reaching_is_formula g r) ∙ e);
  right = λ c t here e. absurd (true≢false (sym (h c ∙ ap is_some here) ∙ e));
}

module _ (g : Grid) (n : Network) (x : Place) where
  told : (o : Option Tree) → formula_at g x ≡ o → (c : Place) → get (with_formula (node_of o x) n x).formulas c
      ≡ cond (same_place c x && is_formula_at g c) (node_of (formula_at g c) c) (get n.formulas c)
  told None e c = elim (same_place c x) as (λ b. same_place c x ≡ b
      → get n.formulas c ≡ cond (b && is_formula_at g c) (node_of (formula_at g c) c) (get n.formulas c)) [
        | true ↦ λ h. sym (ap (λ b. cond b (node_of (formula_at g c) c) (get n.formulas c))
            (ap (is_formula_at g) (same_place_is c x h) ∙ ap is_some e))
        | false ↦ λ h. refl
      ] refl
  told (Some t) e c =
      get_inserted n.formulas x _ c ∙ elim (same_place c x) as (λ b. same_place c x ≡ b → cond b (node_of (Some t) x)
      (get n.formulas c) ≡ cond (b && is_formula_at g c) (node_of (formula_at g c) c) (get n.formulas c)) [
        | true ↦ λ h. sym (ap (λ b. cond b (node_of (formula_at g c) c) (get n.formulas c))
            (ap (is_formula_at g) (same_place_is c x h) ∙ ap is_some e)
            ∙ ap (λ y. node_of (formula_at g y) y) (same_place_is c x h) ∙ ap (λ o. node_of o x) e)
        | false ↦ λ h. refl
      ] refl

joined : {A : Type 0} (h s f : Bool) (n o : A)
    → cond (s && f) n (cond (h && f) n o) ≡ cond ((h || (s || false)) && f) n o
joined true true true n o = refl
joined true true false n o = refl
joined true false f n o = refl
joined false true true n o = refl
joined false true false n o = refl
joined false false f n o = refl

-- one more formula of a loop
pub graph_step : (g : Grid) (n new : Network) (old : Nodes) (cells : List Place) (i : ℕ) (x : Place)
    → x ≡ get_or cells i x → i < length cells → new ≡ with_formula (node_of (formula_at g x) x) n x
    → ((c : Place) → get n.formulas c ≡ cond (has same_place (take i cells) c && is_formula_at g c)
    (node_of (formula_at g c) c) (get old c))
    → (c : Place) → get new.formulas c ≡ cond (has same_place (take (i + 1) cells) c && is_formula_at g c) (node_of
    (formula_at g c) c) (get old c)
graph_step g n new old cells i x is lt e inv c =
    let seen : Bool = has same_place (take i cells) c in
    let more_seen : has same_place (take (i + 1) cells) c ≡ (seen || (same_place c x || false)) =
    ap (λ l. has same_place l c) (take_more cells i x lt) ∙ list_any-append (same_place c) (take i cells)
    (get_or cells i x ∷ []) ∙ ap (λ y. seen || (same_place c y || false)) (sym is) in
    ap (λ (m : Network). get m.formulas c) e ∙ told g n x (formula_at g x) refl c
    ∙ ap (cond (same_place c x && is_formula_at g c) (node_of (formula_at g c) c)) (inv c)
    ∙ joined seen (same_place c x) (is_formula_at g c) (node_of (formula_at g c) c) (get old c)
    ∙ sym (ap (λ b. cond (b && is_formula_at g c) (node_of (formula_at g c) c) (get old c)) more_seen)

-- all formulas were put in
pub graph_whole : (g : Grid) (n : Network) (old : Nodes) (cells : List Place) → old ≡ empty
    → ((c : Place) → has same_place cells c ≡ is_formula_at g c)
    → ((c : Place) → get n.formulas c ≡ cond (has same_place cells c && is_formula_at g c) (node_of (formula_at g c) c)
    (get old c)) → (c : Place) → get n.formulas c ≡ node_of (formula_at g c) c
graph_whole g n old cells none h inv c =
    inv c ∙ ap (λ b. cond (b && is_formula_at g c) (node_of (formula_at g c) c) (get old c)) (h c)
    ∙ ap (λ (m : Nodes). cond (is_formula_at g c && is_formula_at g c) (node_of (formula_at g c) c) (get m c)) none
    ∙ ap (cond (is_formula_at g c && is_formula_at g c) (node_of (formula_at g c) c)) (get-empty place_cmp c)
    ∙ whole (formula_at g c)
  where
    whole : (o : Option Tree) → cond (is_some o && is_some o) (node_of o c) None ≡ node_of o c
    whole None = refl
    whole (Some t) = refl
