-- From what is known of the parts of a worksheet to what was done to it.
use Rattle.std.specs.Prelude.{ℕ, ◌≡◌, ◌+◌, ◌-◌, ◌*◌, Bool, true, false, if◌then◌else◌, refl, length, List, [], ◌∷◌}
use Rattle.std.specs.Prelude.{Option, Some, OnOk, Result, Ok, Err}
use Rattle.std.specs.FinMap.{get}
use Rattle.std.specs.List.{IsDistinct}
use Rattle.std.proofs.Common.{ap, subst, sym, ◌∙◌}
use Rattle.formula_parts.specs.declared.look.Scene.{Scene}
use Rattle.formula_tree.specs.declared.value.Content.{Content}
use Rattle.grid_address.specs.Place.{is_within, same_place, Extent, Place}
use Rattle.cell_maps.specs.Sets.{has}
use Rattle.recalculation.specs.Context.{context_of}
use Rattle.recalculation.specs.Passes.{raised_by, IsDirtyAfter, Meaning}
use Rattle.recalculation.specs.Reading.{is_formula_at, order_in}
use Rattle.sheet_edits.specs.Edits.{entered, is_evaluated, just, written, AreDirtied}
use Rattle.sheet_edits.specs.inner.Undoing.{evaluations}
use Rattle.sheet_edits.specs.Spans.{changed, reformatted_state, AreGiven, Becomes}
use Rattle.sheet_store.specs.Grid.{Cells, Grid}
use Rattle.sheet_store.specs.declared.order.Order.{Order}
use Rattle.sheet_store.specs.declared.order.Order.TheVariants as orders
use Rattle.sheet_store.specs.State.{CellState}
use Rattle.work_sheet.proofs.Filled.{held_is}
use Rattle.work_sheet.proofs.OneWork.{put_worked, worked_both}
use Rattle.work_sheet.specs.Cells.{with_cells_in}
use Rattle.work_sheet.specs.Did.{work_of, Did}
use Rattle.work_sheet.specs.Doing.{all_dirty, all_passed, and_then, edited, evaluation_if, put, quiet, recalculated}
use Rattle.work_sheet.specs.Doing.{with_content, wrote, Done}
use Rattle.work_sheet.specs.Editing.{reformatted, reordered, same_order}
use Rattle.work_sheet.specs.Seen.{of_worksheet, Sheet}
use Rattle.work_sheet.specs.Sheets.{Worksheet}
use Rattle.work_sheet.specs.inner.Keeping.{SameBeside}
use Rattle.work_sheet.specs.Work.{HasWorked}

-- one act, and then another
pub did_both : (d : Done) (act : Sheet → Done) (a b c : Worksheet) (m n o : ℕ) → Did d a b m n
    → Did (act (of_worksheet b)) b c n o → Did (and_then d act) a c m o
did_both d act a b c m n o p q = record {
  sheet = q.sheet ∙ ap (λ s. (act s).sheet) p.sheet;
  work = worked_both d.log (act d.sheet).log (work_of a m) (work_of b n) (work_of c o) p.work
      (subst (λ s. HasWorked (act s).log (work_of b n) (work_of c o)) p.sheet q.work);
  history = q.history ∙ p.history;
}

module _ (a b : Worksheet) where
  -- cells were written
  pub edited_did : (cells marked : Place → Bool) (g : Grid) (n : ℕ) → ((c : Place) → cells c ≡ marked c) → b.grid ≡ g
      → AreDirtied b.grid (has same_place a.dirty) cells (has same_place b.dirty)
      → IsDistinct same_place b.dirty → b.stale ≡ true → SameBeside a b → b.history ≡ a.history
      → Did (edited marked g (of_worksheet a)) a b n n
  edited_did cells marked g n same e dirty distinct stale beside history = record {
    sheet = λ i. record {
      grid = e i;
      circular = beside.circular i;
      stale = stale i;
      names = beside.names i;
      settings = beside.settings i;
    };
    work = (
      work_of b n,
      record {
        dirty = subst (λ m. AreDirtied g (has same_place a.dirty) m (has same_place b.dirty)) (λ i c. same c i)
            (subst (λ x. AreDirtied x (has same_place a.dirty) cells (has same_place b.dirty)) e dirty);
        distinct = distinct;
        count = refl;
      },
      refl,
    );
    history = history;
  }

  -- the cells of a span were given what they hold
  pub spanned_did : (s : Extent) (told : Place → Option CellState) (listed : List Place) (changes : Cells) (n : ℕ)
      → ((c : Place) → has same_place listed c ≡ is_within s c) → AreGiven changes (has same_place listed) told
      → Becomes a.grid (λ c. changed (get changes c) (get a.grid.cells c)) b.grid
      → AreDirtied b.grid (has same_place a.dirty) (has same_place listed) (has same_place b.dirty)
      → IsDistinct same_place b.dirty → b.stale ≡ true → SameBeside a b → b.history ≡ a.history → Did (edited
      (is_within s) (with_cells_in s (λ c. changed (told c) (get a.grid.cells c)) a.grid) (of_worksheet a)) a b n n
  spanned_did s told listed changes n among given becomes dirty distinct stale beside history =
      edited_did (has same_place listed) (is_within s)
      (with_cells_in s (λ c. changed (told c) (get a.grid.cells c)) a.grid) n among
      (held_is a.grid b.grid s told listed changes among given becomes) dirty distinct stale beside history

  module _ (mean : Meaning) (scene : Scene) where
    -- a line was entered, and in Manual mode evaluated
    pub put_did : (c : Place) (x : Content) (m n : ℕ)
        → b.grid ≡ entered mean (context_of a.names a.settings scene) (is_evaluated a.settings x) a.grid c x
        → AreDirtied (written a.grid c x) (has same_place a.dirty) (just c) (has same_place b.dirty)
        → IsDistinct same_place b.dirty → b.stale ≡ true → SameBeside a b
        → n ≡ raised_by (evaluations (is_evaluated a.settings x)) m → b.history ≡ a.history
        → Did (put mean scene c x (of_worksheet a)) a b m n
    put_did c x m n e dirty distinct stale beside count history = record {
      sheet = λ i. record {
        grid = e i;
        circular = beside.circular i;
        stale = stale i;
        names = beside.names i;
        settings = beside.settings i;
      };
      work = put_worked (is_evaluated a.settings x) (just c) (written a.grid c x) (work_of a m)
          (work_of b n) dirty distinct count;
      history = history;
    }

    -- a line that isn't evaluated is a content
    pub content_did : (c : Place) (x : Content) (m : ℕ) → is_evaluated a.settings x ≡ false
        → Did (with_content c x (of_worksheet a)) a b m m → Did (put mean scene c x (of_worksheet a)) a b m m
    content_did c x m f d = subst (λ t. Did (line t) a b m m) (sym f) d
      where
        line : Bool → Done
        line t = record {
          sheet = record (of_worksheet a) {
            grid = entered mean (context_of a.names a.settings scene) t a.grid c x;
            stale = true;
          };
          log = wrote (just c) (written a.grid c x) ∷ evaluation_if t;
        }

    -- all was recalculated
    pub recalculated_did : (m n : ℕ) → b.grid ≡ all_passed mean scene (of_worksheet a)
        → b.circular ≡ (order_in a.settings.order a.grid).circular
        → b.stale ≡ false → b.names ≡ a.names → b.settings ≡ a.settings
        → IsDirtyAfter a.settings.order b.grid (has same_place a.dirty) (has same_place b.dirty)
        → IsDistinct same_place b.dirty → n ≡ raised_by (length a.dirty + (a.settings.passes - 1) * length b.dirty) m
        → b.history ≡ a.history → Did (recalculated mean scene (of_worksheet a)) a b m n
    recalculated_did m n e circular stale names settings dirty distinct count history = record {
      sheet =
          λ i. record { grid = e i; circular = circular i; stale = stale i; names = names i; settings = settings i };
      work = (
        work_of b n,
        record {
          dirty = subst (λ x. IsDirtyAfter a.settings.order x (has same_place a.dirty)
              (has same_place b.dirty)) e dirty;
          distinct = distinct;
          count = count;
        },
        refl,
      );
      history = history;
    }

-- where an answer is Ok, all that is told of it together
pub on_all : {A B : Type 0} (r : Result A B) {P Q R S T : Type 0} → (P → Q → R → S → T) → OnOk r P → OnOk r Q → OnOk r R
    → OnOk r S → OnOk r T
on_all (Ok x) f p q r s = f p q r s
on_all (Err e) f p q r s = p

-- other formats
pub reformatted_did : (a b : Worksheet) (s : Extent) (rule : ℕ → ℕ) (listed : List Place) (changes : Cells) (n : ℕ)
    → ((c : Place) → has same_place listed c ≡ is_within s c)
    → AreGiven changes (has same_place listed) (λ c. Some (reformatted_state rule (get a.grid.cells c)))
    → Becomes a.grid (λ c. changed (get changes c) (get a.grid.cells c)) b.grid → b ≡ record a { grid = b.grid }
    → Did (reformatted s rule (of_worksheet a)) a b n n
reformatted_did a b s rule listed changes n among given becomes beside = record {
  sheet = λ i. record {
    grid = held_is a.grid b.grid s (λ c. Some (reformatted_state rule (get a.grid.cells c))) listed changes among
        given becomes i;
    circular = (beside i).circular;
    stale = (beside i).stale;
    names = (beside i).names;
    settings = (beside i).settings;
  };
  work = λ i. record { dirty = (beside i).dirty; count = n };
  history = ap (λ (w : Worksheet). w.history) beside;
}

apart : (x y : Order) → (y ≡ x → ⊥) → same_order x y ≡ false
apart orders.Natural orders.Natural h = absurd (h refl)
apart orders.Natural orders.Columnwise h = refl
apart orders.Natural orders.Rowwise h = refl
apart orders.Columnwise orders.Natural h = refl
apart orders.Columnwise orders.Columnwise h = absurd (h refl)
apart orders.Columnwise orders.Rowwise h = refl
apart orders.Rowwise orders.Natural h = refl
apart orders.Rowwise orders.Columnwise h = refl
apart orders.Rowwise orders.Rowwise h = absurd (h refl)

-- another order
pub reordered_did : (a b : Worksheet) (order : Order) (n : ℕ) → (a.settings.order ≡ order → ⊥)
    → of_worksheet b ≡ record (of_worksheet a) { settings = record a.settings { order = order } }
    → ((c : Place) → has same_place b.dirty c ≡ is_formula_at a.grid c) → IsDistinct same_place b.dirty
    → b.history ≡ a.history → Did (reordered order (of_worksheet a)) a b n n
reordered_did a b order n other sheet dirty distinct history =
    subst (λ t. Did (by t) a b n n) (sym (apart order a.settings.order other))
    (record {
      sheet = sheet;
      work = (work_of b n, record { dirty = dirty; distinct = distinct; count = refl }, refl);
      history = history;
    })
  where
    by : Bool → Done
    by t = if t then quiet (of_worksheet a) else record {
      sheet = record (of_worksheet a) { settings = record a.settings { order = order } };
      log = all_dirty a.grid ∷ [];
    }

-- nothing was done
pub left : (v w : Worksheet) (m n : ℕ) → w ≡ v → n ≡ m → Did (quiet (of_worksheet v)) v w m n
left v w m n same count = record {
  sheet = ap of_worksheet same;
  work = λ i. work_of (same i) (count i);
  history = ap (λ (x : Worksheet). x.history) same;
}
