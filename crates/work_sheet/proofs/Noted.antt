-- Which cells an edit changes, which were noted before.
use Rattle.std.specs.Prelude.{◌≡◌, ◌||◌, Bool, true, false, cond, refl, List, [], ◌∷◌, Option, None, Some}
use Rattle.std.specs.FinMap.{get}
use Rattle.std.proofs.Common.{ap, subst, sym, ◌∙◌}
use Rattle.cell_maps.specs.Sets.{has}
use Rattle.grid_address.specs.Place.{same_place, Place}
use Rattle.recalculation.proofs.Contents.{same_evaluated}
use Rattle.recalculation.proofs.Outside.{get_evaluated}
use Rattle.recalculation.specs.Context.{Context}
use Rattle.recalculation.specs.Passes.{evaluated, Meaning, SameContents, SameOutside}
use Rattle.sheet_edits.proofs.Beside.{beside}
use Rattle.sheet_edits.specs.Spans.{changed, AreGiven, Becomes}
use Rattle.sheet_store.specs.Grid.{put_state, Cells, Grid}
use Rattle.sheet_store.specs.State.{CellState}
use Rattle.sheet_undo.specs.inner.Keeping.{IsSameBut}

-- a cell outside of one
not_it : (q c : Place) → has same_place (c ∷ []) q ≡ false → same_place q c ≡ false
not_it q c f = by (same_place q c) f
  where
    by : (b : Bool) → (b || false) ≡ false → b ≡ false
    by true h = h
    by false h = refl

-- a state was put into a cell
pub one_changed : (g h : Grid) (c : Place) (s : CellState) → h ≡ put_state g c s
    → IsSameBut (has same_place (c ∷ [])) g h
one_changed g h c s e = record {
  others = λ q f. ap (λ (x : Grid). get x.cells q) e ∙ beside g c s q (not_it q c f);
  widths = ap (λ (x : Grid). x.widths) e;
  hidden = ap (λ (x : Grid). x.hidden) e;
}

-- and was evaluated
pub line_changed : (mean : Meaning) (ctx : Context) (g h : Grid) (c : Place) (s : CellState)
    → h ≡ evaluated mean ctx (put_state g c s) c → IsSameBut (has same_place (c ∷ [])) g h
line_changed mean ctx g h c s e =
    let same = same_evaluated mean ctx (put_state g c s) c in
    record {
      others = λ q f. ap (λ (x : Grid). get x.cells q) e ∙ get_evaluated mean ctx (put_state g c s) c q (not_it q c f)
          ∙ beside g c s q (not_it q c f);
      widths = ap (λ (x : Grid). x.widths) e ∙ same.widths;
      hidden = ap (λ (x : Grid). x.hidden) e ∙ same.hidden;
    }

-- cells were given states
pub many_changed : (g h : Grid) (cells : List Place) (changes : Cells)
    → ((c : Place) → has same_place cells c ≡ false → get changes c ≡ None) →
    Becomes g (λ c. changed (get changes c) (get g.cells c)) h → IsSameBut (has same_place cells) g h
many_changed g h cells changes given becomes = record {
  others = λ q f. becomes.cells q ∙ ap (λ o. changed o (get g.cells q)) (given q f);
  widths = becomes.widths;
  hidden = becomes.hidden;
}

-- a cell that isn't listed is given none
pub not_given : (listed cells : List Place) (changes : Cells) (told : Place → Option CellState) → listed ≡ cells
    → AreGiven changes (has same_place cells) told → (c : Place) → has same_place listed c ≡ false
    → get changes c ≡ None
not_given listed cells changes told e given c f =
    given c ∙ ap (λ b. cond b (told c) None) (subst (λ (l : List Place). has same_place l c ≡ false) e f)

-- formulas were evaluated
pub values_changed : (among : Place → Bool) (g h : Grid) → SameContents g h → SameOutside among g h
    → IsSameBut among g h
values_changed among g h same outside = record { others = outside; widths = same.widths; hidden = same.hidden }

-- the cells of a list were evaluated
pub listed_changed : (listed cells : List Place) (g h : Grid) → listed ≡ cells → SameContents g h
    → SameOutside (has same_place cells) g h → IsSameBut (has same_place listed) g h
listed_changed listed cells g h e same outside =
    values_changed (has same_place listed) g h same
    (λ q f. outside q (subst (λ (l : List Place). has same_place l q ≡ false) e f))
