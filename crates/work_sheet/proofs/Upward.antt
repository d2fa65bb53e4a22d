-- Why a formula that reads a dirty one is dirty, as the graph tells it.
use Rattle.std.specs.Prelude.{◌≡◌, true, List, None}
use Rattle.std.proofs.Common.{ap, arith, sym, ◌∙◌}
use Rattle.std.proofs.lemmas.Option.{none-some}
use Rattle.grid_address.specs.Place.{same_place, Place}
use Rattle.cell_maps.specs.Sets.{has}
use Rattle.depend_graph.specs.Network.{holds, Network}
use Rattle.formula_parts.specs.declared.look.Scene.{Scene}
use Rattle.range_names.specs.Names.{NameMap}
use Rattle.recalculation.proofs.Members.{pre_of_read}
use Rattle.recalculation.proofs.Ordered.{held_told}
use Rattle.recalculation.specs.Context.{context_of, formula_at}
use Rattle.recalculation.specs.Passes.{Meaning}
use Rattle.sheet_edits.specs.Edits.{AreUpward}
use Rattle.sheet_store.specs.Choices.{Choices}
use Rattle.sheet_store.specs.Grid.{Grid}
use Rattle.sheet_store.specs.declared.order.Order.{Order}
use Rattle.work_sheet.specs.inner.Keeping.{IsKept}

-- the pointer at a cell, with a clock that can't be read
without_clock : Place → Scene
without_clock c = record {
  cursor = c;
  now = record {
    day = None;
    second = 0;
    day_in_range = λ d e. absurd (none-some d e);
    second_in_range = omega arith;
  };
}

-- what a sheet keeps tells it
pub upward : (mean : Meaning) (n : Network) (g : Grid) (dirty : List Place) (order : Order) → NameMap → Choices
    → IsKept mean n g dirty order → AreUpward n (has same_place dirty)
upward mean n g dirty order names settings k c d r t =
    (k.sound (context_of names settings (without_clock c))).up c d
    (pre_of_read g c d (sym (held_told (formula_at g c) c d) ∙ ap (λ o. holds o d) (sym (k.matches c)) ∙ r)
    (k.only d t)) t
