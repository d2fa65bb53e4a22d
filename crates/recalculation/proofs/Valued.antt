-- What a grid has where one of its formulas got a value.
use Rattle.std.specs.Prelude.{◌≡◌, true, false, cond, refl, Option, None, Some}
use Rattle.std.specs.FinMap.{get}
use Rattle.std.proofs.Common.{sym, ◌∙◌, ap}
use Rattle.std.proofs.lemmas.Bool.{cond-false}
use Rattle.grid_address.proofs.Places.{get_inserted, same_place_is, same_places}
use Rattle.grid_address.specs.Place.{same_place, Place}
use Rattle.formula_tree.specs.declared.value.Value.{Value}
use Rattle.sheet_store.specs.Grid.{value_of, valued, Cells}
use Rattle.sheet_store.specs.State.{CellState}
use Rattle.recalculation.specs.Context.{content_of, format_of, formula_of}

-- what is held of a cell, with another value
abbrev pub with_value : Option CellState → Value → Option CellState
with_value None v = None
with_value (Some s) v = Some (record s { value = v })

-- a cell whose value was set has it, and the others are as they were
pub get_valued : (m : Cells) (o : Option CellState) (c : Place) (v : Value) (d : Place) → get m c ≡ o
    → get (valued o m c v) d ≡ cond (same_place d c) (with_value o v) (get m d)
get_valued m None c v d e = elim (same_place d c) as (λ b. same_place d c ≡ b → get m d ≡ cond b None (get m d)) [
  | true ↦ λ h. ap (get m) (same_place_is d c h) ∙ e
  | false ↦ λ h. refl
] refl
get_valued m (Some s) c v d e = get_inserted m c (record s { value = v }) d

-- what doesn't look at the value is the same at each place
pub told_valued : {A : Type 0} (f : Option CellState → A) → ((o : Option CellState) (v : Value)
    → f (with_value o v) ≡ f o) → (m : Cells) (o : Option CellState) (c : Place) (v : Value) (d : Place) → get m c ≡ o
    → f (get (valued o m c v) d) ≡ f (get m d)
told_valued f blind m o c v d e = ap f (get_valued m o c v d e)
    ∙ elim (same_place d c) as (λ b. same_place d c ≡ b → f (cond b (with_value o v) (get m d)) ≡ f (get m d)) [
      | true ↦ λ h. blind o v ∙ ap f (sym (ap (get m) (same_place_is d c h) ∙ e))
      | false ↦ λ h. refl
    ] refl

-- a value leaves the formula
pub formula_blind : (o : Option CellState) (v : Value) → formula_of (with_value o v) ≡ formula_of o
formula_blind None v = refl
formula_blind (Some s) v = refl

-- a value leaves the content
pub content_blind : (o : Option CellState) (v : Value) → content_of (with_value o v) ≡ content_of o
content_blind None v = refl
content_blind (Some s) v = refl

-- a value leaves the format
pub format_blind : (o : Option CellState) (v : Value) → format_of (with_value o v) ≡ format_of o
format_blind None v = refl
format_blind (Some s) v = refl

-- a value of one cell leaves the values of the others
pub value_valued : (m : Cells) (o : Option CellState) (c : Place) (v : Value) (d : Place) → get m c ≡ o
    → same_place d c ≡ false
    → value_of (get (valued o m c v) d) ≡ value_of (get m d)
value_valued m o c v d e h = ap value_of (get_valued m o c v d e ∙ cond-false _ (with_value o v) (get m d) h)

-- a value that is there already
pub valued_same : (m : Cells) (o : Option CellState) (c : Place) → get m c ≡ o → valued o m c (value_of o) ≡ m
valued_same m None c e = refl
valued_same m (Some s) c e = same_places _ _ (λ q. get_inserted m c s q
    ∙ elim (same_place q c) as (λ b. same_place q c ≡ b → cond b (Some s) (get m q) ≡ get m q) [
      | true ↦ λ h. sym (ap (get m) (same_place_is q c h) ∙ e)
      | false ↦ λ h. refl
    ] refl)
