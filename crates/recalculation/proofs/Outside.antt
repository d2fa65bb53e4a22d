-- Cells that aren't evaluated have what they had.
use Rattle.std.specs.Prelude.{ℕ, zero, suc, ◌≡◌, ◌<◌, Bool, true, false, cond, get_or, length, refl, List, [], ◌∷◌}
use Rattle.std.specs.Prelude.{Option, None, Some}
use Rattle.std.specs.FinMap.{get}
use Rattle.std.specs.List.{filter}
use Rattle.std.proofs.Common.{◌∙◌, ap, arith, subst, sym, inl, inr}
use Rattle.std.proofs.lemmas.Bool.{cases_Bool, or_left, or_right, true≢false}
use Rattle.cell_maps.specs.Sets.{has}
use Rattle.formula_tree.specs.Tree.{Tree}
use Rattle.formula_tree.specs.declared.value.Value.{Value}
use Rattle.grid_address.proofs.Places.{get_inserted, same_place_is}
use Rattle.grid_address.specs.Place.{same_place, Extent, Place}
use Rattle.natural_order.proofs.Cut.{filter_in, filter_passes}
use Rattle.recalculation.proofs.ByColumn.{has_columns}
use Rattle.recalculation.specs.Spans.{span_order}
use Rattle.sheet_store.specs.Grid.{formulas_within, valued, Grid}
use Rattle.sheet_store.specs.State.{CellState}
use Rattle.recalculation.specs.Context.{formula_at, outlook_at, Context}
use Rattle.recalculation.specs.Passes.{evaluated, revalued, Meaning, SameOutside}

-- a place in a list is one of its cells
is_in : (cells : List Place) (i : ℕ) (x q : Place) → x ≡ get_or cells i x → i < length cells → same_place q x ≡ true
    → has same_place cells q ≡ true
is_in [] i x q e l t = absurd (omega (arith, l))
is_in (y ∷ ys) zero x q e l t = or_left _ _ (subst (λ z. same_place q z ≡ true) e t)
is_in (y ∷ ys) (suc i) x q e l t = or_right _ _ (is_in ys i x q e (omega (arith, l)) t)

-- outside of a list no cell is one of it
is_other : (cells : List Place) (i : ℕ) (x q : Place) → x ≡ get_or cells i x → i < length cells
    → has same_place cells q ≡ false → same_place q x ≡ false
is_other cells i x q e l f = elim (cases_Bool (same_place q x)) [
  | inl t ↦ absurd (true≢false (sym (is_in cells i x q e l t) ∙ f))
  | inr n ↦ n
]

module _ (mean : Meaning) (ctx : Context) where
  -- an evaluation leaves what is held of the other cells
  pub get_evaluated : (g : Grid) (c q : Place) → same_place q c ≡ false
      → get (evaluated mean ctx g c).cells q ≡ get g.cells q
  get_evaluated g c q f = with (formula_at g c)
    where
      held : (o : Option CellState) (v : Value) → get (valued o g.cells c v) q ≡ get g.cells q
      held None v = refl
      held (Some s) v = get_inserted g.cells c (record s { value = v }) q
          ∙ ap (λ b. cond b (Some (record s { value = v })) (get g.cells q)) f

      with : (o : Option Tree) → get (revalued mean ctx g c o).cells q ≡ get g.cells q
      with None = refl
      with (Some t) = held (get g.cells c) (mean t c (outlook_at ctx g))

  -- one more of the cells is evaluated
  pub outside_more : (cells : List Place) (i : ℕ) (x : Place) → x ≡ get_or cells i x → i < length cells
      → (old g h : Grid) → h ≡ evaluated mean ctx g x → SameOutside (has same_place cells) old g
      → SameOutside (has same_place cells) old h
  outside_more cells i x e l old g h is same q f =
      ap (λ (s : Grid). get s.cells q) is ∙ get_evaluated g x q (is_other cells i x q e l f) ∙ same q f

-- outside of any cells a grid is the same as itself
pub outside_itself : (among : Place → Bool) (g : Grid) → SameOutside among g g
outside_itself among g q f = refl

-- what two steps leave outside of some cells, both together leave
pub outside_both : (among : Place → Bool) (a b d : Grid) → SameOutside among a b → SameOutside among b d
    → SameOutside among a d
outside_both among a b d s t q f = t q f ∙ s q f

-- what isn't in a list isn't among those of it that pass a test
pub filtered_out : (p : Place → Bool) (xs : List Place) (q : Place) → has same_place xs q ≡ false
    → has same_place (filter p xs) q ≡ false
filtered_out p xs q f = elim (cases_Bool (has same_place (filter p xs) q)) [
  | inl t ↦ absurd (true≢false (sym (filter_in same_place same_place_is p xs q t) ∙ f))
  | inr n ↦ n
]

-- nor is what doesn't pass
pub passed_out : (p : Place → Bool) (xs : List Place) (q : Place) → p q ≡ false → has same_place (filter p xs) q ≡ false
passed_out p xs q f = elim (cases_Bool (has same_place (filter p xs) q)) [
  | inl t ↦ absurd (true≢false (sym (filter_passes same_place same_place_is p xs q t) ∙ f))
  | inr n ↦ n
]

-- nor is what isn't a formula of a span among those in its order
pub ordered_out : (b : Bool) (span : Extent) (g : Grid) (q : Place) → has same_place (formulas_within g span) q ≡ false
    → has same_place (span_order b span g) q ≡ false
ordered_out true span g q f = elim (cases_Bool (has same_place (span_order true span g) q)) [
  | inl t ↦ absurd (true≢false (sym (has_columns (formulas_within g span) q t) ∙ f))
  | inr n ↦ n
]
ordered_out false span g q f = f
