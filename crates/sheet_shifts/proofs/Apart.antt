-- No two cells come to one place, and no two names to one key.
use Rattle.std.specs.Prelude.{◌≡◌, cond, List, [], ◌∷◌, Option, None, Some, refl}
use Rattle.std.specs.Cmp.{tied_itself}
use Rattle.std.specs.FinMap.{empty, entries, find, get-entries, FinMap}
use Rattle.std.specs.List.{cons_option, filter_map, AllByRecursion}
use Rattle.std.specs.List.Sorted.{IsStrictlySortedBy}
use Rattle.std.specs.Map.{keys_of}
use Rattle.std.specs.Ordering.{eq_by_cmp, is_eq}
use Rattle.std.specs.declared.cmp.Ordering.{Ordering}
use Rattle.std.specs.declared.cmp.Ordering.TheVariants.{Equal, Less}
use Rattle.std.proofs.Common.{ℕ, sym, subst, ◌∙◌, ap, inl, inr}
use Rattle.std.proofs.lemmas.Bool.{cases_Bool}
use Rattle.grid_address.proofs.Maps.{equal_of}
use Rattle.grid_address.proofs.Places.{cells_exact, cells_total}
use Rattle.grid_address.specs.Place.{place_cmp, whole, Extent, InSheet, Place}
use Rattle.range_names.proofs.NameMaps.{names_exact, names_total}
use Rattle.range_names.specs.Names.{name_cmp, AreKeys, IsKey, NameMap}
use Rattle.ref_adjust.proofs.Following.{changes_apart, moves_apart}
use Rattle.ref_adjust.specs.Laws.{IsOneToOne}
use Rattle.sheet_store.specs.Grid.{any_state, picked, AreHeld, Cells, Grid}
use Rattle.sheet_store.specs.State.{CellState}
use Rattle.sheet_shifts.specs.inner.Puts.{entry_at, put_all, put_all_at, AreAllKeys, IsNaming}
use Rattle.sheet_shifts.specs.Shifts.{cells_after, entry_after, name_after, name_at, names_after, place_after}
use Rattle.sheet_shifts.specs.Shifts.{span_after, state_after, state_at, IsShift}
use Rattle.sheet_shifts.specs.declared.shift.Shift.{Shift}
use Rattle.sheet_shifts.specs.declared.shift.Shift.TheVariants.{Lines, Block}
use Rattle.sheet_shifts.proofs.Listed.{all_held, all_states, entries_at, whole_picked, AreAllHeld}
use Rattle.sheet_shifts.proofs.Maps.{all_put, each, entries_apart, entries_ordered, AreApart}

-- a shift brings no two cells to one place
pub shift_apart : (shift : Shift) → IsShift shift → IsOneToOne (place_after shift)
shift_apart (Lines change) lines p q here a b e f = changes_apart change p q here a b e f
shift_apart (Block from to) fits p q here a b e f = moves_apart from to fits p q here a b e f

equal_less : {o : Ordering} → o ≡ Equal → o ≡ Less → ⊥
equal_less e l = absurd cc

not_itself : (x y : Place) → x ≡ y → place_cmp x y ≡ Less → ⊥
not_itself x y e l = equal_less (tied_itself cells_total x) (ap (place_cmp x) e ∙ l)

module _ (shift : Shift) (is : IsShift shift) where
  -- no later cell comes where one comes
  no_other : (x here : Place) → InSheet x → place_after shift x ≡ Some here → (es : List (Place × CellState))
      → AreAllHeld es → AllByRecursion (λ y. place_cmp x y ≡ Less) (keys_of es)
      → find place_cmp here (filter_map (entry_after shift) es) ≡ None
  no_other x here inside came [] held later = refl
  no_other x here inside came (e ∷ es) held later =
      by (no_other x here inside came es held.1 later.1) (place_after shift e.0) refl
    where
      by : find place_cmp here (filter_map (entry_after shift) es) ≡ None → (o : Option Place)
          → place_after shift e.0 ≡ o
          → find place_cmp here (cons_option (state_at shift e o) (filter_map (entry_after shift) es)) ≡ None
      by rest None h = rest
      by rest (Some p) h = elim (cases_Bool (eq_by_cmp place_cmp here p)) [
        | inl same ↦
            absurd (not_itself x e.0
            (shift_apart shift is x e.0 here inside held.0.inside came
            (h ∙ ap Some (sym (cells_exact here p (equal_of (place_cmp here p) same))))) later.0)
        | inr other ↦
            ap (λ b. cond b (Some (state_after shift e.0 p e.1))
            (find place_cmp here (filter_map (entry_after shift) es))) other ∙ rest
      ]

  moved_apart : (es : List (Place × CellState)) → AreAllHeld es → IsStrictlySortedBy place_cmp (keys_of es)
      → AreApart place_cmp (filter_map (entry_after shift) es)
  unfolding IsStrictlySortedBy
  moved_apart [] held sorted = tt
  moved_apart (e ∷ es) held sorted = by (moved_apart es held.1 sorted.1) (place_after shift e.0) refl
    where
      by : AreApart place_cmp (filter_map (entry_after shift) es) → (o : Option Place) → place_after shift e.0 ≡ o
          → AreApart place_cmp (cons_option (state_at shift e o) (filter_map (entry_after shift) es))
      by rest None h = rest
      by rest (Some p) h = (no_other e.0 p held.0.inside h es held.1 sorted.0, rest)

  -- the cells that are put one after another are the cells afterwards
  pub cells_put : (m : Cells) → AreHeld m
      → put_all empty (filter_map (entry_after shift) (entries m)) ≡ cells_after shift m
  cells_put m held =
      all_put cells_total cells_exact (filter_map (entry_after shift) (entries m))
      (moved_apart (entries m) (all_held m held) (entries_ordered cells_total cells_exact m))

  no_name : (key : List ℕ) (es : List (List ℕ × Extent)) → AllByRecursion (λ y. name_cmp key y ≡ Less) (keys_of es)
      → find name_cmp key (filter_map (name_after shift) es) ≡ None
  no_name key [] later = refl
  no_name key (e ∷ es) later = by (no_name key es later.1) (span_after shift e.1)
    where
      by : find name_cmp key (filter_map (name_after shift) es) ≡ None → (o : Option Extent)
          → find name_cmp key (cons_option (name_at e.0 o) (filter_map (name_after shift) es)) ≡ None
      by rest None = rest
      by rest (Some s) =
          ap (λ r. cond (is_eq r) (Some s) (find name_cmp key (filter_map (name_after shift) es))) later.0 ∙ rest

  names_apart : (es : List (List ℕ × Extent)) → IsStrictlySortedBy name_cmp (keys_of es)
      → AreApart name_cmp (filter_map (name_after shift) es)
  unfolding IsStrictlySortedBy
  names_apart [] sorted = tt
  names_apart (e ∷ es) sorted = by (names_apart es sorted.1) (span_after shift e.1)
    where
      by : AreApart name_cmp (filter_map (name_after shift) es) → (o : Option Extent)
          → AreApart name_cmp (cons_option (name_at e.0 o) (filter_map (name_after shift) es))
      by rest None = rest
      by rest (Some s) = (no_name e.0 es sorted.0, rest)

  -- and so are the names
  pub names_put : (m : NameMap) → put_all empty (filter_map (name_after shift) (entries m)) ≡ names_after shift m
  names_put m =
      all_put names_total names_exact (filter_map (name_after shift) (entries m))
      (names_apart (entries m) (entries_ordered names_total names_exact m))

-- the entries of names have keys
pub all_keys : (m : NameMap) → AreKeys m → AreAllKeys (entries m)
all_keys m keyed =
    each names_total names_exact (λ k s. IsKey k) (entries m) (entries_apart names_total names_exact m)
    (λ k s h. keyed k s (get-entries m k ∙ h))

put_first : {K X : Type 0} {R : K → K → Ordering} (m : FinMap R X) (o : Option (K × X)) (es : List (K × X))
    → put_all (put_all m (cons_option o [])) es ≡ put_all m (cons_option o es)
put_first m None es = refl
put_first m (Some e) es = refl

-- all cells that are put where they go are the cells behind the shift
pub cells_put_at : (shift : Shift) → IsShift shift → (m : Cells) → AreHeld m → (into : Grid) (cells : List Place)
    → into.cells ≡ empty → cells ≡ picked any_state whole (entries m)
    → put_all_at shift m into cells ≡ record into { cells = cells_after shift m }
cells_put_at shift is m held into cells none all = ap (λ (l : Cells). record into { cells = l })
    (ap (λ l. put_all into.cells (filter_map (entry_at shift m) l)) (all ∙ whole_picked (entries m) (all_held m held))
    ∙ ap (put_all into.cells) (entries_at shift m (entries m) (all_states m))
    ∙ ap (λ k. put_all k (filter_map (entry_after shift) (entries m))) none ∙ cells_put shift is m held)

-- no name is put yet
pub none_named : (shift : Shift) → IsShift shift → (m : NameMap) → AreKeys m
    → (now : NameMap) (rest : List (List ℕ × Extent)) → now ≡ empty → rest ≡ entries m → IsNaming shift m now rest
none_named shift is m keyed now rest none all = record {
  keyed = subst AreAllKeys (sym all) (all_keys m keyed);
  names =
      ap (λ l. put_all now (filter_map (name_after shift) l)) all
      ∙ ap (λ k. put_all k (filter_map (name_after shift) (entries m))) none ∙ names_put shift is m;
}

-- one name more
pub one_named : (shift : Shift) (names now next : NameMap) (e : List ℕ × Extent) (rest more : List (List ℕ × Extent))
    → IsNaming shift names now more → more ≡ e ∷ rest
    → next ≡ put_all now (cons_option (name_after shift e) []) → IsNaming shift names next rest
one_named shift names now next e rest more so here is = record {
  keyed = (subst AreAllKeys here so.keyed).1;
  names =
      ap (λ n. put_all n (filter_map (name_after shift) rest)) is
      ∙ put_first now (name_after shift e) (filter_map (name_after shift) rest)
      ∙ ap (λ l. put_all now (filter_map (name_after shift) l)) (sym here) ∙ so.names;
}

-- past the last entry all names are put
pub all_named : (shift : Shift) (names now : NameMap) (rest : List (List ℕ × Extent)) → IsNaming shift names now rest
    → rest ≡ [] → now ≡ names_after shift names
all_named shift names now rest so none = ap (λ l. put_all now (filter_map (name_after shift) l)) (sym none) ∙ so.names
