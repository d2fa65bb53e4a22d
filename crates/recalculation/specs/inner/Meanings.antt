-- What a meaning of formulas hangs on.
use Rattle.std.specs.Prelude.{◌≡◌, false}
use Rattle.grid_address.specs.Place.{Place}
use Rattle.formula_tree.specs.Spans.{is_volatile}
use Rattle.formula_tree.specs.Tree.{Tree}
use Rattle.formula_eval.specs.Mean.{Reads}
use Rattle.formula_parts.specs.Outlook.{Outlook}
use Rattle.recalculation.specs.Passes.{Meaning}

-- a meaning that hangs on the values that are read alone, where the formula isn't volatile
pub record IsMeaning (mean : Meaning) : Type 0 where
  pub reads : (t : Tree) (at : Place) (w u : Outlook) → is_volatile t ≡ false →
      ((c : Place) → Reads t at c → w.sight.values c ≡ u.sight.values c) → mean t at w ≡ mean t at u
