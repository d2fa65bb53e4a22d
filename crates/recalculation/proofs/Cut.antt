-- Why a pass leaves clean formulas as they are.
use Rattle.std.proofs.Math.Seq.{drop-cons}
use Rattle.std.specs.Prelude.{ℕ, suc, ◌+◌, ◌<◌, length, drop, ◌≡◌, ◌&&◌, Bool, true, false, cond, List, [], ◌∷◌, Option}
use Rattle.std.specs.Prelude.{None, Some}
use Rattle.std.specs.List.{filter}
use Rattle.std.specs.Option.{is_some}
use Rattle.std.specs.FinMap.{get}
use Rattle.std.proofs.Common.{sym, ◌∙◌, ap, subst, refl, inl, inr, arith, get_or}
use Rattle.std.proofs.lemmas.Bool.{true≢false, cases_Bool, false_from_ne_true}
use Rattle.grid_address.proofs.Places.{same_place_is}
use Rattle.grid_address.specs.Place.{same_place, Place}
use Rattle.formula_parts.specs.Outlook.{Outlook}
use Rattle.formula_tree.specs.Spans.{spans_of}
use Rattle.formula_tree.specs.Tree.{Tree}
use Rattle.cell_maps.specs.Sets.{has}
use Rattle.natural_order.specs.Walk.{Reaches}
use Rattle.range_index.specs.Owners.{hold}
use Rattle.sheet_store.specs.Grid.{set_value_at, value_at, Grid}
use Rattle.recalculation.proofs.Members.{has_pre, pre_along}
use Rattle.recalculation.proofs.Valued.{formula_blind, told_valued, value_valued, valued_same}
use Rattle.recalculation.specs.Context.{formula_at, formula_of, outlook_at, Context}
use Rattle.recalculation.specs.Passes.{evaluated, pass, revalued, IsSound, Meaning}
use Rattle.recalculation.specs.inner.Meanings.{IsMeaning}
use Rattle.recalculation.specs.Reading.{is_formula_at, pre, spans_in}

-- a formula that one of a formula's spans holds is among those that it reads
pub read_formula : (g : Grid) (d c : Place) (t : Tree) → formula_at g d ≡ Some t → hold (spans_of t d) c ≡ true
    → is_formula_at g c ≡ true → has same_place (pre g d) c ≡ true
read_formula g d c t h m k = has_pre g d c ∙ (λ i. k i && hold (spans_in (h i) d) c) ∙ m

module _ (mean : Meaning) (ctx : Context) where
  -- what formulas look at in a grid
  abbrev pub outlook : Grid → Outlook
  outlook g = outlook_at ctx g

  -- a new value leaves each cell's formula
  pub formula_revalued : (g : Grid) (c : Place) (o : Option Tree) (d : Place)
      → formula_at (revalued mean ctx g c o) d ≡ formula_at g d
  formula_revalued g c None d = refl
  formula_revalued g c (Some f) d =
      told_valued formula_of formula_blind g.cells (get g.cells c) c (mean f c (outlook g)) d refl

  -- a new value leaves the values of the other cells
  pub value_revalued : (g : Grid) (c : Place) (o : Option Tree) (d : Place) → same_place d c ≡ false
      → value_at (revalued mean ctx g c o) d ≡ value_at g d
  value_revalued g c None d h = refl
  value_revalued g c (Some f) d h = value_valued g.cells (get g.cells c) c (mean f c (outlook g)) d refl h

  -- a formula's cell that has its meaning already stays as it is
  pub revalued_same : (g : Grid) (c : Place) (o : Option Tree)
      → ((f : Tree) → o ≡ Some f → value_at g c ≡ mean f c (outlook g)) → revalued mean ctx g c o ≡ g
  revalued_same g c None h = refl
  revalued_same g c (Some f) h =
      ap (set_value_at g c) (sym (h f refl))
      ∙ ap (λ m. record g { cells = m }) (valued_same g.cells (get g.cells c) c refl)

  -- an evaluation leaves the formulas
  pub formulas_stay : (g : Grid) (c : Place) → formula_at (evaluated mean ctx g c) ≡ formula_at g
  formulas_stay g c = λ i d. formula_revalued g c (formula_at g c) d i

  -- an evaluation leaves what the formulas read
  pub pre_stays : (g : Grid) (c : Place) → pre (evaluated mean ctx g c) ≡ pre g
  pre_stays g c = pre_along (evaluated mean ctx g c) g (formulas_stay g c)

  module _ (dirty : Place → Bool) (meaning : IsMeaning mean) where
    idle : (g : Grid) → IsSound mean ctx g dirty → (c : Place) → dirty c ≡ false → evaluated mean ctx g c ≡ g
    idle g s c e = revalued_same g c (formula_at g c) (λ f h. s.right c f h e)

    apart : (c d : Place) → dirty c ≡ true → dirty d ≡ false → same_place d c ≡ false
    apart c d t f = false_from_ne_true _ (λ h. true≢false (sym t ∙ ap dirty (sym (same_place_is d c h)) ∙ f))

    -- where a dirty formula is evaluated, what holds of the dirty ones still holds
    pub stays : (g : Grid) → IsSound mean ctx g dirty → (c : Place) → dirty c ≡ true
        → IsSound mean ctx (evaluated mean ctx g c) dirty
    stays g s c t =
        let g' : Grid = evaluated mean ctx g c in
        record {
          only = λ d h. ap (λ (k : Place → Option Tree). is_some (k d)) (formulas_stay g c) ∙ s.only d h;
          up =
              λ d e m h. s.up d e (sym (ap (λ (p : Place → List Place). has same_place (p d) e) (pre_stays g c)) ∙ m) h;
          calm = λ d f h e. s.calm d f (sym (ap (λ (k : Place → Option Tree). k d) (formulas_stay g c)) ∙ h) e;
          acyclic =
              λ d e r. s.acyclic d e (subst (λ (p : Place → List Place). Reaches same_place p d d) (pre_stays g c) r);
          right = λ d f h e.
              let here : formula_at g d ≡ Some f =
              sym (ap (λ (k : Place → Option Tree). k d) (formulas_stay g c)) ∙ h in
              value_revalued g c (formula_at g c) d (apart c d t e) ∙ s.right d f here e
              ∙ meaning.reads f d (outlook g) (outlook g') (s.calm d f here e)
              (λ r m. sym (value_revalued g c (formula_at g c) r (false_from_ne_true _ (λ q.
              true≢false (sym (s.up d c (read_formula g d c f here
              (subst (λ x. hold (spans_of f d) x ≡ true) (same_place_is r c q) m) (s.only c t)) t) ∙ e)))));
        }

-- one pass over the dirty formulas is one pass over all
pub pass_is_cut : (mean : Meaning) (ctx : Context) → IsMeaning mean → (g : Grid) (dirty : Place → Bool)
    → IsSound mean ctx g dirty → (cells : List Place) → pass mean ctx cells g ≡ pass mean ctx (filter dirty cells) g
pass_is_cut mean ctx meaning g dirty sound [] = refl
pass_is_cut mean ctx meaning g dirty sound (c ∷ cells) = elim (dirty c) as (λ b. dirty c ≡ b → pass mean ctx cells
    (evaluated mean ctx g c) ≡ pass mean ctx (cond b (c ∷ filter dirty cells) (filter dirty cells)) g) [
      | true ↦ λ e. pass_is_cut mean ctx meaning (evaluated mean ctx g c) dirty
          (stays mean ctx dirty meaning g sound c e) cells
      | false ↦ λ e. ap (pass mean ctx cells) (idle mean ctx dirty meaning g sound c e)
          ∙ pass_is_cut mean ctx meaning g dirty sound cells
    ] refl

-- where some cells are evaluated, what holds of the dirty formulas still holds
pub sound_all : (mean : Meaning) (ctx : Context) (dirty : Place → Bool) → IsMeaning mean → (g : Grid)
    → IsSound mean ctx g dirty → (cells : List Place) → IsSound mean ctx (pass mean ctx cells g) dirty
sound_all mean ctx dirty meaning g s [] = s
sound_all mean ctx dirty meaning g s (c ∷ cells) =
    sound_all mean ctx dirty meaning (evaluated mean ctx g c) (elim (cases_Bool (dirty c)) [
      | inl t ↦ stays mean ctx dirty meaning g s c t
      | inr e ↦ subst (λ h. IsSound mean ctx h dirty) (sym (idle mean ctx dirty meaning g s c e)) s
    ]) cells

-- one more cell of a pass
pub pass_step : (mean : Meaning) (ctx : Context) (cells : List Place) (i : ℕ) (d : Place) (g : Grid) → i < length cells
    → pass mean ctx (drop i cells) g ≡ pass mean ctx (drop (i + 1) cells) (evaluated mean ctx g (get_or cells i d))
pass_step mean ctx cells i d g h =
    let e : suc i ≡ i + 1 = omega arith in
    ap (λ cs. pass mean ctx cs g) (drop-cons cells i d h)
    ∙ ap (λ k. pass mean ctx (drop k cells) (evaluated mean ctx g (get_or cells i d))) e
