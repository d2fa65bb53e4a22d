-- A run to which nothing is typed, in which nothing fails and memory lasts.
use Rattle.std.proofs.Common.{◌+◌, [], ◌∷◌, ◌++◌, Some, refl}
use Rattle.std.proofs.Common.{arith, inl}
use Rattle.std.specs.FinMap as map
use Rattle.commands_file.specs.Calls.{shelf_view}
use Rattle.key_words.specs.Notation.{nothing}
use Rattle.outside_world.specs.Causes.{Rose}
use Rattle.outside_world.specs.Shelf.{on_shelf}
use Rattle.serial_date.specs.declared.moment.Moment.{Moment}
use Rattle.work_sheet.proofs.EveryLog.{every_log}
use Rattle.work_sheet.specs.Work.{no_work}
use Rattle.sheet_run.specs.Displays.{no_screen, none as no_display}
use Rattle.sheet_run.specs.Opening.{fresh, opening}
use Rattle.sheet_run.specs.Options.{no_options}
use Rattle.sheet_run.specs.Outcome.{AreAlike, WentWell}
use Rattle.sheet_run.specs.Run.{outside, Outside}
use Rattle.sheet_run.specs.Status.{finished, ran, surroundings, IsRun, Surroundings}
use Rattle.sheet_run.specs.declared.drive.Ending.TheVariants.{KeysEnded}

-- no bytes, this reading, no files, no displays and no notes
silent : Moment → Outside
silent first = outside (Some []) 0 (Some (first ∷ [])) (shelf_view (Some (on_shelf map.empty [])) 0) [] []

around : Moment → Surroundings
around first = surroundings (silent first) (Some []) 0

never_rose : Rose 0 0 → ⊥
never_rose rose = omega (arith, rose)

-- the run ends at once, having shown nothing
ends_at_once : (first : Moment) → IsRun [] (around first) (around first) 0
unfolding around silent
ends_at_once first =
    let work = every_log ((opening fresh first).log ++ []) no_work in
    ran no_options refl (finished 0 [] (record {
      start = fresh;
      first = first;
      begun = silent first;
      opened = record {
        named = tt;
        shelf = (silent first).shelf;
        answered = refl;
        readings = Some (first ∷ []);
        took = (refl, refl);
        now_is = refl;
      };
      ending = KeysEnded;
      leaves = tt;
      steps = [];
      left = [];
      out = [];
      middle = silent first;
      ended = record {
        taken = [];
        did = record {
          fit = tt;
          bytes = ([], refl, refl);
          readings = refl;
          shelf = refl;
          sent = no_screen;
          displays = refl;
          failed = refl;
          within = omega arith;
          few = omega arith;
        };
        go_on = tt;
        wanted = refl;
        spelled = ([], nothing, refl);
        ended = inl refl;
        done = refl;
        no_fault = refl;
      };
      work = work.0;
      worked = work.1;
      left_now = [];
      out_now = [];
      closed = no_display;
      now_is = refl;
      found_is = refl;
      text_is = refl;
    }) (inl (refl, refl, refl)))

alike_itself : (first : Moment) → AreAlike (around first) (around first)
unfolding around silent
alike_itself first = record {
  keys = ([], refl, refl);
  clock = (first ∷ [], refl, refl);
  files = record {
    one = on_shelf map.empty [];
    other = on_shelf map.empty [];
    one_told = refl;
    other_told = refl;
    files = refl;
  };
  displays = refl;
  notes = refl;
}

went_well : (first : Moment) → WentWell (around first) (around first) 0
unfolding around silent
went_well first = record {
  keys = never_rose;
  shelf = never_rose;
  displays = refl;
  notes = never_rose;
  memory = λ is. omega (arith, is);
}

-- there are runs that begin alike and go well
pub such_a_run : (first : Moment) → (before : Surroundings) × (now : Surroundings) × IsRun [] before now 0
    × AreAlike before before × WentWell before now 0
such_a_run first = (around first, around first, ends_at_once first, alike_itself first, went_well first)
