-- Cells are written where there is no formula, and none comes.
use Rattle.std.specs.Prelude.{◌≡◌, Bool, true, false, cond, is_some, refl, List, Option, None, Some}
use Rattle.std.specs.FinMap as map
use Rattle.std.proofs.Common.{sym, ◌∙◌, ap, inl, inr}
use Rattle.std.proofs.lemmas.Bool.{cases_Bool, true≢false}
use Rattle.cell_maps.specs.Sets.{has}
use Rattle.formula_tree.specs.Tree.{Tree}
use Rattle.formula_tree.specs.declared.value.Content.{Content}
use Rattle.formula_tree.specs.declared.value.Content.TheVariants as content
use Rattle.grid_address.proofs.Places.{get_inserted, get_removed}
use Rattle.grid_address.specs.Place.{place_cmp, same_place, Place}
use Rattle.depend_graph.specs.Network.{Network}
use Rattle.recalculation.specs.Context.{formula_at, formula_in, formula_of}
use Rattle.recalculation.specs.Reading.{is_formula_at, node_of, Matches}
use Rattle.sheet_store.specs.Grid.{is_formula, is_kept, Cells, Grid}
use Rattle.sheet_store.specs.State.{CellState}
use Rattle.sheet_edits.specs.Edits.{AreDirtied}
use Rattle.sheet_edits.specs.Spans.{changed, Becomes}
use Rattle.sheet_edits.specs.inner.Putting.{gives_formula, GivePlain}

-- where there are no states, none is a formula
pub plain_empty : (m : Cells) → m ≡ map.empty → GivePlain m
plain_empty m e c = ap gives_formula (ap (λ (x : Cells). map.get x c) e ∙ map.get-empty place_cmp c)

-- a state that is no formula is given beside others
pub plain_inserted : (m : Cells) (c : Place) (s : CellState) → GivePlain m → is_formula s.content ≡ false
    → GivePlain (map.insert m c s)
plain_inserted m c s was h d = ap gives_formula (get_inserted m c s d) ∙ elim (cases_Bool (same_place d c)) [
  | inl t ↦ ap (λ b. gives_formula (cond b (Some s) (map.get m d))) t ∙ h
  | inr n ↦ ap (λ b. gives_formula (cond b (Some s) (map.get m d))) n ∙ was d
]

-- a state is taken out
pub plain_removed : (m : Cells) (c : Place) → GivePlain m → GivePlain (map.remove m c)
plain_removed m c was d = ap gives_formula (get_removed m c d) ∙ elim (cases_Bool (same_place d c)) [
  | inl t ↦ ap (λ b. gives_formula (cond b None (map.get m d))) t
  | inr n ↦ ap (λ b. gives_formula (cond b None (map.get m d))) n ∙ was d
]

no_tree : (x : Content) → is_formula x ≡ false → formula_in x ≡ None
no_tree content.Blank h = refl
no_tree (content.Number n) h = refl
no_tree (content.Label p t) h = refl
no_tree (content.Formula f) h = absurd (true≢false h)

no_node : (o : Option Tree) (c : Place) → node_of o c ≡ None → o ≡ None
no_node None c h = refl
no_node (Some t) c h = absurd (true≢false (ap is_some h))

kept_plain : (b : Bool) (s : CellState) → formula_in s.content ≡ None → formula_of (cond b (Some s) None) ≡ None
kept_plain true s h = h
kept_plain false s h = refl

changed_plain : (o held : Option CellState) → gives_formula o ≡ false → formula_of held ≡ None
    → formula_of (changed o held) ≡ None
changed_plain None held p h = h
changed_plain (Some s) held p h = kept_plain (is_kept s) s (no_tree s.content p)

module _ (n : Network) (g h : Grid) (changes : Cells) (none : n.formulas ≡ map.empty) (matches : Matches n g)
    (plain : GivePlain changes)
    (becomes : Becomes g (λ c. changed (map.get changes c) (map.get g.cells c)) h) where
  none_before : (c : Place) → formula_of (map.get g.cells c) ≡ None
  none_before c = no_node (formula_at g c) c
      (sym (matches c) ∙ ap (λ m. map.get m c) none ∙ map.get-empty place_cmp c)

  none_after : (c : Place) → formula_of (map.get h.cells c) ≡ None
  none_after c = ap formula_of (becomes.cells c)
      ∙ changed_plain (map.get changes c) (map.get g.cells c) (plain c) (none_before c)

  -- the graph, which has no formula, tells what is there afterwards
  pub plain_matches : Matches n h
  plain_matches c = matches c ∙ ap (λ o. node_of o c) (none_before c ∙ sym (none_after c))

  -- nothing is dirty
  pub plain_dirtied : (dirty : List Place) (written : Place → Bool)
      → ((c : Place) → has same_place dirty c ≡ true → is_formula_at g c ≡ true)
      → AreDirtied h (has same_place dirty) written (has same_place dirty)
  plain_dirtied dirty written only c = (
    (λ m. absurd (true≢false (sym (only c m) ∙ ap is_some (none_before c)))),
    (λ d. absurd (true≢false (sym d.formula ∙ ap is_some (none_after c)))),
  )
