-- The rows that a word's writes change.
use Rattle.std.proofs.Common.{◌≡◌, ℕ, Bool, true, false, List, [], ◌∷◌, Option, None, Some, refl, ap, subst, sym, ◌∙◌}
use Rattle.std.specs.FinMap.{get}
use Rattle.std.specs.Prelude.{IfSome, if◌then◌else◌, length, slice_get, OnErr, OnOk, Result, Ok, Err}
use Rattle.std.proofs.lemmas.Bool.{false_from_ne_true, or_left, or_right, true≢false}
use Rattle.cell_maps.specs.Sets.{has}
use Rattle.formula_eval.specs.Mean.{mean}
use Rattle.formula_parts.specs.declared.look.Scene.{Scene}
use Rattle.grid_address.proofs.Places.{same_place_is}
use Rattle.grid_address.specs.Place.{same_place, Place}
use Rattle.recalculation.specs.Context.{Context}
use Rattle.recalculation.specs.Passes.{IsSound, RecalculationIsCut}
use Rattle.sheet_edits.proofs.Beside.{beside}
use Rattle.sheet_edits.specs.Spans.{write_state, written_all, written_by, written_cells}
use Rattle.sheet_store.specs.Grid.{Grid}
use Rattle.sheet_store.specs.declared.writes.SheetFault.{SheetFault}
use Rattle.sheet_store.specs.declared.writes.Write.{Write}
use Rattle.work_sheet.proofs.Alone.{alone, only_cell}
use Rattle.work_sheet.specs.Did.{DidEdit}
use Rattle.work_sheet.specs.Doing.{quiet, recalculated, settled}
use Rattle.work_sheet.specs.Editing.{all_written}
use Rattle.work_sheet.specs.Seen.{of_worksheet, Sheet}
use Rattle.work_sheet.specs.Sheets.{AllDirtyIn, Worksheet}
use Rattle.macro_engine.proofs.Settled.{recalculated_beside}
use Rattle.macro_engine.specs.RowSpans.{is_in, ChangesRows, IsBeside}
use Rattle.macro_engine.specs.declared.row_span.RowSpan.{RowSpan}
use Rattle.macro_engine.specs.inner.Carried.{HasSettled}
use Rattle.macro_engine.specs.inner.Settling.{CoversWrites}

-- a sheet beside itself, and beside another that is beside a third
same_beside : (rows : ℕ → Bool) (s : Sheet) → IsBeside rows s s
same_beside rows s =
    record { names = refl; settings = refl; widths = refl; hidden = refl; cells = λ c apart. refl }

beside_on : (rows : ℕ → Bool) (s m t : Sheet) → IsBeside rows s m → IsBeside rows m t → IsBeside rows s t
beside_on rows s m t a b = record {
  names = b.names ∙ a.names;
  settings = b.settings ∙ a.settings;
  widths = b.widths ∙ a.widths;
  hidden = b.hidden ∙ a.hidden;
  cells = λ c apart. b.cells c apart ∙ a.cells c apart;
}

-- writes leave the widths of columns, and which are hidden
widths_written : (ws : List Write) (g : Grid) → (written_all g ws).widths ≡ g.widths
widths_written [] g = refl
widths_written (w ∷ ws) g = widths_written ws (written_by g w)

hidden_written : (ws : List Write) (g : Grid) → (written_all g ws).hidden ≡ g.hidden
hidden_written [] g = refl
hidden_written (w ∷ ws) g = hidden_written ws (written_by g w)

-- and all cells that none of them is for
cells_written : (ws : List Write) (g : Grid) (c : Place) → has same_place (written_cells ws) c ≡ false
    → get (written_all g ws).cells c ≡ get g.cells c
cells_written [] g c out = refl
cells_written (w ∷ ws) g c out =
    cells_written ws (written_by g w) c (false_from_ne_true (has same_place (written_cells ws) c)
    (λ k. true≢false (sym (or_right (same_place c w.cell) (has same_place (written_cells ws) c) k) ∙ out)))
    ∙ beside g w.cell (write_state w (get g.cells w.cell)) c (false_from_ne_true (same_place c w.cell)
    (λ k. true≢false (sym (or_left (same_place c w.cell) (has same_place (written_cells ws) c) k) ∙ out)))

-- a span that has the row of the only write, and those of the dirty formulas
pub covering : (first span : RowSpan) (ws : List Write) (x : Write) (w : Worksheet) → slice_get ws 0 ≡ Some x
    → length ws ≡ 1 → is_in first x.cell.row ≡ true → ((k : ℕ) → is_in first k ≡ true → is_in span k ≡ true) →
    ((d : Place) → has same_place w.dirty d ≡ true → is_in span d.row ≡ true) → w.settings.automatic ≡ true →
    ((x : Context) → RecalculationIsCut mean x) → ((x : Context) → IsSound mean x w.grid (has same_place w.dirty))
    → AllDirtyIn w.settings.order w.grid w.dirty → CoversWrites span ws w
covering first span ws x w at one row more dirty automatic cut sound all = record {
  written = λ c k. more c.row (subst (λ (p : Place). is_in first p.row ≡ true) (sym (only_here c k)) row);
  automatic = automatic;
  settles = recalculated_beside (of_worksheet w) w.dirty (is_in span) cut sound all
      (λ d apart. false_from_ne_true (has same_place w.dirty d) (λ k. true≢false (sym (dirty d k) ∙ apart)));
}
  where
    only_here : (c : Place) → has same_place (written_cells ws) c ≡ true → c ≡ x.cell
    only_here c k = same_place_is c x.cell (only_cell x.cell c
        ∙ ap (λ (ys : List Write). has same_place (written_cells ys) c) (sym (alone ws x at one)) ∙ k)

-- Writes were made, and what follows by itself was done, where the rows cover both.
module _ (scene : Scene) (ws : List Write) (v mid w : Worksheet) (n : ℕ) (span : RowSpan)
    (covers : CoversWrites span ws mid) where
  written_beside : of_worksheet mid ≡ (all_written ws (of_worksheet v)).sheet
      → IsBeside (is_in span) (of_worksheet v) (of_worksheet mid)
  written_beside is = subst (IsBeside (is_in span) (of_worksheet v)) (sym is) (record {
    names = refl;
    settings = refl;
    widths = widths_written ws v.grid;
    hidden = hidden_written ws v.grid;
    cells = λ c apart. cells_written ws v.grid c (false_from_ne_true (has same_place (written_cells ws) c)
        (λ k. true≢false (sym (covers.written c k) ∙ apart)));
  })

  settled_is : (settled mean scene (of_worksheet mid)).sheet ≡ (recalculated mean scene (of_worksheet mid)).sheet
  settled_is =
      ap (λ (b : Bool). (if b then recalculated mean scene (of_worksheet mid) else quiet (of_worksheet mid)).sheet)
      covers.automatic

  written_changes : of_worksheet mid ≡ (all_written ws (of_worksheet v)).sheet
      → of_worksheet w ≡ (settled mean scene (of_worksheet mid)).sheet
      → IsBeside (is_in span) (of_worksheet v) (of_worksheet w)
  written_changes is after = beside_on (is_in span) (of_worksheet v) (of_worksheet mid) (of_worksheet w)
      (written_beside is)
      (subst (IsBeside (is_in span) (of_worksheet mid)) (sym (after ∙ settled_is)) (covers.settles scene))

-- rows that are told cover the writes
pub covered : (ws : List Write) (w : Worksheet) (rows : Option RowSpan)
    → IfSome rows (λ span. CoversWrites span ws w) → (span : RowSpan) → rows ≡ Some span → CoversWrites span ws w
covered ws w rows h span is = subst (λ (o : Option RowSpan). IfSome o (λ x. CoversWrites x ws w)) is h

-- the rows that are told of writes that were made or refused
pub told_of_writes : (scene : Scene) (ws : List Write) (v mid w : Worksheet) (m n : ℕ) (rows : Option RowSpan)
    (answer : Result (Unit {0}) SheetFault) (cell : Option Place)
    → ((span : RowSpan) → rows ≡ Some span → CoversWrites span ws mid)
    → OnOk answer (DidEdit (all_written ws) v mid) → OnErr answer (mid ≡ v) → HasSettled answer scene cell mid w m n
    → ChangesRows rows (of_worksheet v) (of_worksheet w)
told_of_writes scene ws v mid w m n None answer cell covers did kept settles = tt
told_of_writes scene ws v mid w m n (Some span) (Ok x) cell covers did kept settles =
    written_changes scene ws v mid w n span (covers span refl) (did m).sheet settles.1.sheet
told_of_writes scene ws v mid w m n (Some span) (Err f) cell covers did kept settles =
    subst (λ (u : Worksheet). IsBeside (is_in span) (of_worksheet v) (of_worksheet u))
    (sym (settles.1 ∙ kept)) (same_beside (is_in span) (of_worksheet v))
