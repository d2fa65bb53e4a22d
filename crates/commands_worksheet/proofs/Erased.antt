-- A fresh sheet in the place of another.
use Rattle.std.specs.Prelude.{ℕ, ◌≡◌, [], false, refl, is_some, List}
use Rattle.std.specs.FinMap as map
use Rattle.std.specs.List.{IsDistinct}
use Rattle.std.proofs.Common.{ap, subst, sym, ◌∙◌}
use Rattle.command_desk.specs.Acting.{HasActedBy}
use Rattle.command_desk.specs.declared.ending.CommandEnd.TheVariants.{Finished}
use Rattle.formula_eval.specs.Mean.{mean}
use Rattle.formula_parts.specs.declared.look.Scene.{Scene}
use Rattle.grid_address.specs.Place.{place_cmp, same_place, Place}
use Rattle.cell_maps.specs.Sets.{has}
use Rattle.recalculation.specs.Context.{formula_of}
use Rattle.recalculation.specs.Reading.{is_formula_at}
use Rattle.work_sheet.proofs.Done.{did_both}
use Rattle.work_sheet.specs.Did.{work_of, Did, DidEdit}
use Rattle.work_sheet.specs.Doing.{settled}
use Rattle.work_sheet.specs.Editing.{restored}
use Rattle.work_sheet.specs.Seen.{fresh_sheet, of_worksheet}
use Rattle.work_sheet.specs.Sheets.{Worksheet}
use Rattle.commands_worksheet.specs.Commands.{erased}

-- a fresh sheet holds no formula
no_formula : (c : Place) → is_formula_at fresh_sheet.grid c ≡ false
no_formula c = ap (λ o. is_some (formula_of o)) (map.get-empty place_cmp c)

none_twice : IsDistinct same_place []
unfolding IsDistinct
none_twice = tt

-- none of its formulas is dirty, and so all are
fresh_did : (v w : Worksheet) → of_worksheet w ≡ fresh_sheet → w.dirty ≡ [] → w.history ≡ v.history →
    DidEdit (restored fresh_sheet.grid fresh_sheet.names fresh_sheet.settings) v w
fresh_did v w is none history = λ n. record {
  sheet = is;
  work = (
    work_of w n,
    record {
      dirty = λ c. ap (λ (l : List Place). has same_place l c) none ∙ sym (no_formula c);
      distinct = subst (λ (l : List Place). IsDistinct same_place l) (sym none) none_twice;
      count = refl;
    },
    refl,
  );
  history = history;
}

-- a fresh sheet, after which all is recalculated
pub erased_acted : (scene : Scene) (v mid w : Worksheet) (m n : ℕ) → of_worksheet mid ≡ fresh_sheet → mid.dirty ≡ [] →
    mid.history ≡ v.history → Did (settled mean scene (of_worksheet mid)) mid w m n →
    HasActedBy (erased scene) Finished v w m n
erased_acted scene v mid w m n is none history did = record {
  end = refl;
  did =
      did_both (restored fresh_sheet.grid fresh_sheet.names fresh_sheet.settings (of_worksheet v)) (settled mean scene)
      v mid w m m n (fresh_did v mid is none history m) did;
}
