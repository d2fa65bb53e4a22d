-- What a sheet is after contents were entered, and a recalculation behind that.
use Rattle.std.specs.Prelude.{ℕ, ◌≡◌, refl, Bool, true, List, Result, Ok, Err, OnErr, OnOk}
use Rattle.std.specs.FinMap.{get}
use Rattle.std.proofs.Common.{ap, ◌∙◌}
use Rattle.block_writes.specs.Writing.{content_or_blank}
use Rattle.commands_data.proofs.Behind.{content_put, contents_written, format_put, formats_written, other_behind, there}
use Rattle.commands_data.specs.inner.Benched.{contents_behind, keep_formats, IsSameBut}
use Rattle.commands_data.specs.Trying.{content_at}
use Rattle.data_blocks.specs.Benches as bench
use Rattle.formula_eval.specs.Mean.{mean}
use Rattle.formula_parts.specs.declared.look.Scene.{Scene}
use Rattle.formula_tree.specs.declared.value.Content.{Content}
use Rattle.grid_address.specs.Place.{same_place, Place}
use Rattle.lics_text.specs.declared.faults.Memory.{Memory}
use Rattle.cell_maps.specs.Sets.{has}
use Rattle.recalculation.specs.Context.{format_of}
use Rattle.recalculation.specs.Passes.{SameContents}
use Rattle.sheet_edits.specs.Edits.{just, written_state}
use Rattle.sheet_edits.specs.Spans.{written_cells}
use Rattle.sheet_store.specs.Grid.{Grid}
use Rattle.sheet_store.specs.declared.writes.Write.{Write}
use Rattle.work_sheet.specs.Did.{Did, DidEdit}
use Rattle.work_sheet.specs.Doing.{recalculated, with_content}
use Rattle.work_sheet.specs.Editing.{all_written}
use Rattle.work_sheet.specs.Seen.{of_worksheet}
use Rattle.work_sheet.specs.Sheets.{Worksheet}

-- an edit of one cell leaves all of the sheet but it
pub entered_same : (c : Place) (x : Content) (a b : Worksheet) → DidEdit (with_content c x) a b → IsSameBut (just c) a b
entered_same c x a b did = record {
  settings = ap (λ s. s.settings) (did 0).sheet;
  formats =
      λ p. ap (λ s. format_of (get s.grid.cells p)) (did 0).sheet
      ∙ format_put a.grid c (written_state a.grid c x) p refl;
  contents =
      λ p f. ap (λ s. content_at s.grid p) (did 0).sheet ∙ content_put a.grid c (written_state a.grid c x) p
      ∙ there c p x (content_at a.grid) f;
}

-- writes were made that leave the formats
pub written_same : (ws : List Write) (a b : Worksheet) → DidEdit (all_written ws) a b → keep_formats ws ≡ true
    → IsSameBut (has same_place (written_cells ws)) a b
written_same ws a b did keep = record {
  settings = ap (λ s. s.settings) (did 0).sheet;
  formats = λ p. ap (λ s. format_of (get s.grid.cells p)) (did 0).sheet ∙ formats_written ws a.grid p keep;
  contents =
      λ p f. ap (λ s. content_at s.grid p) (did 0).sheet ∙ contents_written ws a.grid p
      ∙ other_behind ws (content_at a.grid) p f;
}

-- contents that are the same
same_content : (g h : Grid) → SameContents g h → (p : Place) → content_at h p ≡ content_at g p
same_content g h same p = ap content_or_blank (same.contents p)

-- a recalculation behind that
pub recalculated_same : (among : Place → Bool) (a b c : Worksheet) → IsSameBut among a b → SameContents b.grid c.grid
    → c.settings ≡ b.settings → IsSameBut among a c
recalculated_same among a b c same contents settings = record {
  settings = settings ∙ same.settings;
  formats = λ p. contents.formats p ∙ same.formats p;
  contents = λ p f. same_content b.grid c.grid contents p ∙ same.contents p f;
}

-- what cells hold then
pub entered_holds : (c : Place) (x : Content) (a b d : Worksheet) → DidEdit (with_content c x) a b
    → SameContents b.grid d.grid → content_at d.grid ≡ bench.with_content c x (content_at a.grid)
entered_holds c x a b d did contents = λ i p.
    (same_content b.grid d.grid contents p ∙ ap (λ s. content_at s.grid p) (did 0).sheet
    ∙ content_put a.grid c (written_state a.grid c x) p) i

-- what the cells hold behind a list of writes is what the list tells
pub written_holds : (ws : List Write) (a b d : Worksheet) → DidEdit (all_written ws) a b → SameContents b.grid d.grid
    → content_at d.grid ≡ contents_behind ws (content_at a.grid)
written_holds ws a b d did contents = λ i p.
    (same_content b.grid d.grid contents p ∙ ap (λ s. content_at s.grid p) (did 0).sheet
    ∙ contents_written ws a.grid p) i

-- a recalculation leaves the settings, whether there was memory for it or not
pub settings_kept : (r : Result (Unit {0}) Memory) (scene : Scene) (b c : Worksheet) (m n : ℕ)
    → OnOk r (Did (recalculated mean scene (of_worksheet b)) b c m n) →
    OnErr r (c ≡ record b { grid = c.grid }) → c.settings ≡ b.settings
settings_kept (Ok x) scene b c m n did err = ap (λ s. s.settings) did.sheet
settings_kept (Err e) scene b c m n did err = ap (λ (w : Worksheet). w.settings) err

-- what is so in any case
pub always : {A E : Type 0} (r : Result A E) {P : Type 0} → P → OnOk r P
always (Ok x) p = p
always (Err e) p = tt
