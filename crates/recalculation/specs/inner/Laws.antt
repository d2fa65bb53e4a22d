-- Which cells the formulas of a span are: what the law of this crate's graph cites. The proofs stand here, since a law
-- in the code can cite none of the crate's own proofs.
use Rattle.std.specs.Prelude.{◌≡◌, ◌&&◌, ◌||◌, Bool, true, false, cond, is_some, refl, List, [], ◌∷◌, Option, None, Some}
use Rattle.std.specs.BTreeMap.{is_at}
use Rattle.std.specs.FinMap.{entries, entries_sorted, get}
use Rattle.std.specs.List.{AllByRecursion, filter}
use Rattle.std.specs.List.Sorted.{IsStrictlySortedBy}
use Rattle.std.specs.Map.{keys_of, lookup}
use Rattle.std.specs.declared.cmp.Ordering.TheVariants.{Less, Equal}
use Rattle.std.proofs.Common.{sym, ◌∙◌, ap, subst, inl, inr}
use Rattle.std.proofs.lemmas.Bool.{and_parts, cases_Bool, false_from_ne_true}
use Rattle.std.proofs.lemmas.Cmp.{tied_itself}
use Rattle.std.proofs.lemmas.List.Folds.{list_any-append}
use Rattle.grid_address.proofs.Maps.{get_lookup, in_order}
use Rattle.grid_address.proofs.Places.{cells_total, place_tied, same_place_is}
use Rattle.grid_address.specs.Place.{is_within, place_cmp, same_place, Extent, Place}
use Rattle.formula_tree.specs.declared.value.Content.{Content}
use Rattle.formula_tree.specs.declared.value.Content.TheVariants as content
use Rattle.natural_order.proofs.Cut.{filter_in}
use Rattle.cell_maps.specs.Sets.{has}
use Rattle.range_index.specs.Owners.{hold}
use Rattle.sheet_store.specs.Grid.{formulas, formulas_among, formulas_within, holds_formula, is_formula, picked, Grid}
use Rattle.sheet_store.specs.State.{CellState}
use Rattle.recalculation.specs.Context.{formula_in, formula_of}
use Rattle.recalculation.specs.Reading.{formulas_in, is_formula_at}

-- in row order, each cell once
abbrev pub Ascends : List Place → Type 0
Ascends xs = IsStrictlySortedBy place_cmp xs

-- the keys of the entries that pass a test
abbrev pub chosen : (Place × CellState → Bool) → List (Place × CellState) → List Place
chosen p [] = []
chosen p (e ∷ es) = cond (p e) (e.0 ∷ chosen p es) (chosen p es)

pub chosen_above : (p : Place × CellState → Bool) (x : Place) (es : List (Place × CellState)) →
    AllByRecursion (λ y. place_cmp x y ≡ Less) (keys_of es) → AllByRecursion (λ y. place_cmp x y ≡ Less) (chosen p es)
chosen_above p x [] h = tt
chosen_above p x (e ∷ es) h = with (p e) (chosen_above p x es h.1)
  where
    with : (b : Bool) → AllByRecursion (λ y. place_cmp x y ≡ Less) (chosen p es) →
        AllByRecursion (λ y. place_cmp x y ≡ Less) (cond b (e.0 ∷ chosen p es) (chosen p es))
    with true a = (h.0, a)
    with false a = a

pub ahead : (x : Place) (ys : List Place) → AllByRecursion (λ y. place_cmp x y ≡ Less) ys → has same_place ys x ≡ false
ahead x [] h = refl
ahead x (y ∷ ys) h =
    ap (λ b. b || has same_place ys x) (false_from_ne_true (same_place x y)
    (λ e. apart (subst (λ z. place_cmp x z ≡ Less) (sym (same_place_is x y e)) h.0)))
    ∙ ahead x ys h.1
  where
    differ : Equal ≡ Less → ⊥
    differ e = absurd cc

    apart : place_cmp x x ≡ Less → ⊥
    apart k = differ (sym (tied_itself cells_total x) ∙ k)

-- whether what is held of a cell, where something is, passes a test
abbrev pub passes_at : (Place × CellState → Bool) → Place → Option CellState → Bool
passes_at p d None = false
passes_at p d (Some s) = p (d, s)

pub has_chosen : (p : Place × CellState → Bool) (es : List (Place × CellState)) → Ascends (keys_of es) → (d : Place) →
    has same_place (chosen p es) d ≡ passes_at p d (lookup (is_at (place_cmp d)) es)
unfolding IsStrictlySortedBy
has_chosen p [] h d = refl
has_chosen p (e ∷ es) h d = elim (cases_Bool (same_place d e.0)) [
  | inl t ↦ here t (p e) refl
      ∙ sym (ap (λ b. passes_at p d (cond b (Some e.1) (lookup (is_at (place_cmp d)) es))) (place_tied d e.0 ∙ t))
  | inr f ↦ there f (p e) (has_chosen p es h.1 d)
      ∙ sym (ap (λ b. passes_at p d (cond b (Some e.1) (lookup (is_at (place_cmp d)) es))) (place_tied d e.0 ∙ f))
]
  where
    here : same_place d e.0 ≡ true → (b : Bool) → p e ≡ b →
        has same_place (cond b (e.0 ∷ chosen p es) (chosen p es)) d ≡ p (d, e.1)
    here t true k = ap (λ b. b || has same_place (chosen p es) d) t
        ∙ sym (ap (λ x. p (x, e.1)) (same_place_is d e.0 t) ∙ k)
    here t false k = ap (has same_place (chosen p es)) (same_place_is d e.0 t)
        ∙ ahead e.0 (chosen p es) (chosen_above p e.0 es h.0) ∙ sym (ap (λ x. p (x, e.1)) (same_place_is d e.0 t) ∙ k)

    there : same_place d e.0 ≡ false → (b : Bool) →
        has same_place (chosen p es) d ≡ passes_at p d (lookup (is_at (place_cmp d)) es) →
        has same_place (cond b (e.0 ∷ chosen p es) (chosen p es)) d ≡ passes_at p d (lookup (is_at (place_cmp d)) es)
    there f true k = ap (λ b. b || has same_place (chosen p es) d) f ∙ k
    there f false k = k

pub entries_ascend : (g : Grid) → Ascends (keys_of (entries g.cells))
entries_ascend g = in_order cells_total (entries g.cells) (entries_sorted g.cells)

pub picked_chosen : (test : CellState → Bool) (s : Extent) (es : List (Place × CellState)) →
    picked test s es ≡ chosen (λ e. is_within s e.0 && test e.1) es
picked_chosen test s [] = refl
picked_chosen test s (e ∷ es) = ap (λ l. cond (is_within s e.0 && test e.1) (e.0 ∷ l) l) (picked_chosen test s es)

pub among_chosen : (es : List (Place × CellState)) → formulas_among es ≡ chosen (λ e. is_formula e.1.content) es
among_chosen [] = refl
among_chosen (e ∷ es) = ap (λ l. cond (is_formula e.1.content) (e.0 ∷ l) l) (among_chosen es)

formula_in_is : (c : Content) → is_formula c ≡ is_some (formula_in c)
formula_in_is content.Blank = refl
formula_in_is (content.Number n) = refl
formula_in_is (content.Label p t) = refl
formula_in_is (content.Formula f) = refl

pub has_picked : (test : CellState → Bool) (g : Grid) (s : Extent) (d : Place) →
    has same_place (picked test s (entries g.cells)) d ≡ passes_at (λ e. is_within s e.0 && test e.1) d (get g.cells d)
has_picked test g s d =
    ap (λ l. has same_place l d) (picked_chosen test s (entries g.cells))
    ∙ has_chosen (λ e. is_within s e.0 && test e.1) (entries g.cells) (entries_ascend g) d
    ∙ ap (passes_at (λ e. is_within s e.0 && test e.1) d) (sym (get_lookup cells_total g.cells d))

-- the formulas of a span
pub has_within : (g : Grid) (s : Extent) (d : Place) →
    has same_place (formulas_within g s) d ≡ (is_within s d && is_formula_at g d)
has_within g s d = has_picked holds_formula g s d ∙ told (get g.cells d)
  where
    none : (b : Bool) → false ≡ (b && false)
    none true = refl
    none false = refl

    told : (o : Option CellState) →
        passes_at (λ e. is_within s e.0 && holds_formula e.1) d o ≡ (is_within s d && is_some (formula_of o))
    told None = none (is_within s d)
    told (Some x) = ap (λ b. is_within s d && b) (formula_in_is x.content)

-- all formulas
pub has_formula : (g : Grid) (d : Place) → has same_place (formulas g) d ≡ is_formula_at g d
has_formula g d = ap (λ l. has same_place l d) (among_chosen (entries g.cells))
    ∙ has_chosen (λ e. is_formula e.1.content) (entries g.cells) (entries_ascend g) d
    ∙ ap (passes_at (λ e. is_formula e.1.content) d) (sym (get_lookup cells_total g.cells d)) ∙ told (get g.cells d)
  where
    told : (o : Option CellState) → passes_at (λ e. is_formula e.1.content) d o ≡ is_some (formula_of o)
    told None = refl
    told (Some x) = formula_in_is x.content

pub has_in : (g : Grid) (ss : List Extent) (d : Place) →
    has same_place (formulas_in g ss) d ≡ (is_formula_at g d && hold ss d)
has_in g [] d = none (is_formula_at g d)
  where
    none : (b : Bool) → false ≡ (b && false)
    none true = refl
    none false = refl
has_in g (s ∷ ss) d =
    list_any-append (same_place d) (formulas_within g s) (formulas_in g ss)
    ∙ (λ i. has_within g s d i || has_in g ss d i) ∙ shared (is_within s d) (is_formula_at g d) (hold ss d)
  where
    shared : (w f h : Bool) → ((w && f) || (f && h)) ≡ (f && (w || h))
    shared true true h = refl
    shared true false h = refl
    shared false true h = refl
    shared false false h = refl

-- what is read is a formula, whichever test it passes
pub told_formulas : (g : Grid) (ss : List Extent) (p : Place → Bool) (d : Place) →
    has same_place (filter p (formulas_in g ss)) d ≡ true → has same_place (formulas g) d ≡ true
told_formulas g ss p d h =
    has_formula g d
    ∙ (and_parts (is_formula_at g d) (hold ss d)
    (sym (has_in g ss d) ∙ filter_in same_place same_place_is p (formulas_in g ss) d h)).0
