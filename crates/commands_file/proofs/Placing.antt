-- A file's cells are written in row order.
use Rattle.std.specs.Prelude.{ℕ, ◌≡◌, ◌<◌, ◌+◌, ◌++◌, ◌⊎◌, ℤ, Bool, true, false, refl, List, [], ◌∷◌, flat_map, Option}
use Rattle.std.specs.Prelude.{None, Some, ◌&&◌, nat_lt, if◌then◌else◌}
use Rattle.std.specs.Cmp.{nat_cmp_is}
use Rattle.std.specs.FinMap as map
use Rattle.std.specs.List.{AllByRecursion}
use Rattle.std.specs.List.Sorted.{IsStrictlySortedBy}
use Rattle.std.specs.Map.{keys_of}
use Rattle.std.specs.Ordering.{nat_cmp, ordering_then}
use Rattle.std.specs.declared.cmp.Ordering.TheVariants.{Less, Equal, Greater}
use Rattle.std.proofs.Common.{ap, arith, inl, inr, subst, sym, ◌∙◌}
use Rattle.std.proofs.lemmas.Bool.{cases_lt}
use Rattle.std.proofs.lemmas.List.{map-append}
use Rattle.recalculation.proofs.Filled.{Before}
use Rattle.recalculation.specs.inner.Laws.{Ascends}
use Rattle.commands_file.specs.Combined.{combined_writes, from_pointer, is_taken, number_held, placed, totalled}
use Rattle.commands_file.specs.Combined.{write_at, write_of, write_placed, Entry}
use Rattle.commands_file.specs.declared.combining.Combining.{Combining}
use Rattle.commands_file.specs.declared.combining.Combining.TheVariants.{Copy, Add, Subtract}
use Rattle.formula_tree.specs.declared.value.Value.{Value}
use Rattle.formula_tree.specs.declared.value.Value.TheVariants as value
use Rattle.grid_address.proofs.Places.{cells_exact, cells_total}
use Rattle.grid_address.specs.Place.{place_cmp, Place}
use Rattle.sheet_edits.specs.Spans.{written_cells}
use Rattle.sheet_shifts.proofs.Maps.{entries_ordered}
use Rattle.sheet_store.specs.Grid.{Grid}
use Rattle.sheet_store.specs.State.{CellState}
use Rattle.sheet_store.specs.declared.writes.Write.{Write}

-- a distance more on both sides leaves the order
same_order : (n a b : ℕ) → nat_cmp (n + a) (n + b) ≡ nat_cmp a b
same_order n a b = elim (cases_lt a b) [
  | inl less ↦
      sym (nat_cmp_is (n + a) (n + b) Less (let h : n + a < n + b = omega (arith, less) in h))
      ∙ nat_cmp_is a b Less less
  | inr most ↦ elim (cases_lt b a) [
    | inl more ↦
        sym (nat_cmp_is (n + a) (n + b) Greater (let h : n + b < n + a = omega (arith, more) in h))
        ∙ nat_cmp_is a b Greater more
    | inr least ↦ sym (nat_cmp_is (n + a) (n + b) Equal (let h : n + a ≡ n + b = omega (arith, most, least) in h))
        ∙ nat_cmp_is a b Equal (let h : a ≡ b = omega (arith, most, least) in h)
  ]
]

same_places : (p a b : Place) → place_cmp (from_pointer p a) (from_pointer p b) ≡ place_cmp a b
same_places p a b =
    ap (λ o. ordering_then o (nat_cmp (p.col + a.col) (p.col + b.col))) (same_order p.row a.row b.row)
    ∙ ap (λ o. ordering_then (nat_cmp a.row b.row) o) (same_order p.col a.col b.col)

-- one write at a place, or none
abbrev WritesAt : Place → List Write → Type 0
WritesAt to ws = (written_cells ws ≡ []) ⊎ (written_cells ws ≡ to ∷ [])

totalled_at : (k : Combining) (to : Place) (here : Option ℤ) (v : Value) → WritesAt to (totalled k to here v)
totalled_at k to None v = inl refl
totalled_at k to (Some x) value.Blank = inl refl
totalled_at k to (Some x) (value.Num y) = inr refl
totalled_at k to (Some x) (value.Str t) = inl refl
totalled_at k to (Some x) value.Err = inl refl
totalled_at k to (Some x) value.Na = inl refl

writes_at : (k : Combining) (g : Grid) (to : Place) (s : CellState) → WritesAt to (write_at k g to s)
writes_at Copy g to s = inr refl
writes_at Add g to s = totalled_at Add to (number_held (map.get g.cells to)) s.value
writes_at Subtract g to s = totalled_at Subtract to (number_held (map.get g.cells to)) s.value

module _ (k : Combining) (g : Grid) (pointer : Place) where
  writes_one : (e : Entry) → WritesAt (from_pointer pointer e.0) (write_of k g pointer e)
  writes_one e = by (is_taken k e.1)
    where
      by_placed : (b : Bool) → WritesAt (from_pointer pointer e.0)
          (write_placed k g (if b then Some (from_pointer pointer e.0) else None) e.1)
      by_placed true = writes_at k g (from_pointer pointer e.0) e.1
      by_placed false = inl refl

      by : (b : Bool) → WritesAt (from_pointer pointer e.0)
          (if b then write_placed k g (placed pointer e.0) e.1 else [])
      by true = by_placed (nat_lt (pointer.row + e.0.row) 8192 && nat_lt (pointer.col + e.0.col) 256)
      by false = inl refl

  abbrev cells : List Entry → List Place
  cells es = written_cells (flat_map (write_of k g pointer) es)

  joined : (e : Entry) (es : List Entry) → cells (e ∷ es) ≡ written_cells (write_of k g pointer e) ++ cells es
  joined e es = map-append (λ (w : Write). w.cell) (write_of k g pointer e) (flat_map (write_of k g pointer) es)

  -- a place before what is written, and before what is written later
  before_with : (x p : Place) (ws : List Write) (later : List Place) → WritesAt p ws → place_cmp x p ≡ Less
      → Before x later →
      Before x (written_cells ws ++ later)
  before_with x p ws later (inl none) first before = subst (λ (l : List Place). Before x (l ++ later)) (sym none) before
  before_with x p ws later (inr one) first before =
      subst (λ (l : List Place). Before x (l ++ later)) (sym one) (first, before)

  before_all : (x : Place) (es : List Entry) → AllByRecursion (λ y. place_cmp x y ≡ Less) (keys_of es)
      → Before (from_pointer pointer x) (cells es)
  before_all x [] h = tt
  before_all x (e ∷ es) h = subst (Before (from_pointer pointer x)) (sym (joined e es))
      (before_with (from_pointer pointer x) (from_pointer pointer e.0) (write_of k g pointer e) (cells es)
      (writes_one e)
      (same_places pointer x e.0 ∙ h.0) (before_all x es h.1))

  -- what is written at a place, before cells behind it
  ascend_with : (p : Place) (ws : List Write) (later : List Place) → WritesAt p ws → Before p later → Ascends later →
      Ascends (written_cells ws ++ later)
  unfolding IsStrictlySortedBy
  ascend_with p ws later (inl none) before ascends = subst (λ (l : List Place). Ascends (l ++ later)) (sym none) ascends
  ascend_with p ws later (inr one) before ascends =
      subst (λ (l : List Place). Ascends (l ++ later)) (sym one) (before, ascends)

  all_ascend : (es : List Entry) → IsStrictlySortedBy place_cmp (keys_of es) → Ascends (cells es)
  unfolding IsStrictlySortedBy
  all_ascend [] s = tt
  all_ascend (e ∷ es) s = subst Ascends (sym (joined e es))
      (ascend_with (from_pointer pointer e.0) (write_of k g pointer e) (cells es) (writes_one e)
      (before_all e.0 es s.0) (all_ascend es s.1))

  -- the combined cells come in their order, each once
  pub combined_ascend : (file : Grid) → Ascends (written_cells (combined_writes k file g pointer))
  combined_ascend file = all_ascend (map.entries file.cells) (entries_ordered cells_total cells_exact file.cells)
