-- Passes leave contents, formats, widths and marks.
use Rattle.std.specs.Prelude.{◌≡◌, refl, Option, None, Some}
use Rattle.std.specs.FinMap.{get}
use Rattle.std.proofs.Common.{◌∙◌, ap, sym}
use Rattle.grid_address.specs.Place.{Place}
use Rattle.formula_tree.specs.Tree.{Tree}
use Rattle.formula_tree.specs.declared.value.Content.{Content}
use Rattle.depend_graph.specs.Network.{Network}
use Rattle.sheet_store.specs.Grid.{Grid}
use Rattle.sheet_store.specs.State.{CellState}
use Rattle.recalculation.proofs.Valued.{content_blind, format_blind, told_valued}
use Rattle.recalculation.specs.Context.{content_of, format_of, formula_at, formula_in, formula_of, outlook_at, Context}
use Rattle.recalculation.specs.Passes.{evaluated, revalued, Meaning, SameContents}
use Rattle.recalculation.specs.Reading.{node_of, Matches}

-- a grid has its own contents
pub same_itself : (g : Grid) → SameContents g g
same_itself g = record { contents = λ c. refl; formats = λ c. refl; widths = refl; hidden = refl }

-- what two steps leave, both together leave
pub same_on : (a b d : Grid) → SameContents a b → SameContents b d → SameContents a d
same_on a b d s t = record {
  contents = λ c. t.contents c ∙ s.contents c;
  formats = λ c. t.formats c ∙ s.formats c;
  widths = t.widths ∙ s.widths;
  hidden = t.hidden ∙ s.hidden;
}

module _ (mean : Meaning) (ctx : Context) where
  -- an evaluation leaves contents, formats, widths and marks
  pub same_evaluated : (g : Grid) (c : Place) → SameContents g (evaluated mean ctx g c)
  same_evaluated g c = with (formula_at g c)
    where
      with : (o : Option Tree) → SameContents g (revalued mean ctx g c o)
      with None = same_itself g
      with (Some t) = record {
        contents =
            λ d. told_valued content_of content_blind g.cells (get g.cells c) c (mean t c (outlook_at ctx g)) d refl;
        formats =
            λ d. told_valued format_of format_blind g.cells (get g.cells c) c (mean t c (outlook_at ctx g)) d refl;
        widths = refl;
        hidden = refl;
      }

formula_told : Option Content → Option Tree
formula_told None = None
formula_told (Some c) = formula_in c

-- the formulas are the same
pub formulas_same : (a b : Grid) → SameContents a b → formula_at b ≡ formula_at a
unfolding formula_told
formulas_same a b s = λ i c. (told (get b.cells c) ∙ ap formula_told (s.contents c) ∙ sym (told (get a.cells c))) i
  where
    told : (o : Option CellState) → formula_of o ≡ formula_told (content_of o)
    told None = refl
    told (Some x) = refl

-- and the graph still holds them
pub matches_on : (n : Network) (a b : Grid) → SameContents a b → Matches n a → Matches n b
matches_on n a b s m = λ c. m c ∙ ap (λ (h : Place → Option Tree). node_of (h c) c) (sym (formulas_same a b s))
