-- How commands end, by what their call was answered.
use Rattle.std.specs.Prelude.{◌≡◌, ℕ, Bool, true, false, refl, List, None, Some, Ok, Err, if◌then◌else◌}
use Rattle.std.proofs.Common.{ap, subst, sym}
use Rattle.std.proofs.lemmas.Bool.{false≢true, true≢false}
use Rattle.command_desk.specs.Acting.{on_desk, Acted, DeskActed, HasActedBy, HasActedOn}
use Rattle.command_desk.specs.Desks.{of_desk, on_sheet}
use Rattle.command_desk.specs.declared.desk.Desk as declared
use Rattle.command_desk.specs.declared.ending.CommandEnd.{CommandEnd}
use Rattle.command_desk.specs.declared.ending.CommandEnd.TheVariants.{Finished, Refused}
use Rattle.commands_file.specs.Calls.{failed, fetched, gets, loaded, puts, there, written, HasAnswered, Reply}
use Rattle.commands_file.specs.Calls.{ShelfCall, ShelfView}
use Rattle.commands_file.specs.Commands.{by_call, is_readable, put_readable, recalculated_there, refused}
use Rattle.commands_file.specs.Commands.{retrieved_sheet, saved_as, scene_in, with_file, without_call}
use Rattle.commands_file.specs.Commands.{HasActedOver}
use Rattle.commands_file.specs.Steps.{is_written, HasCalled}
use Rattle.commands_file.specs.inner.Placing.{loaded_as, IsPlaced}
use Rattle.commands_file.specs.declared.calling.Placed.TheVariants as place
use Rattle.commands_file.specs.declared.loading.Loaded.{Loaded}
use Rattle.commands_file.specs.declared.loading.Loaded.TheVariants as load
use Rattle.desk_errors.specs.declared.error.CommandError.{CommandError}
use Rattle.desk_errors.specs.declared.error.CommandError.TheVariants as error
use Rattle.formula_eval.specs.Mean.{mean}
use Rattle.formula_parts.specs.declared.look.Scene.{Scene}
use Rattle.sheet_store.specs.declared.writes.SavedSheet.{SavedSheet}
use Rattle.work_sheet.proofs.Done.{did_both}
use Rattle.work_sheet.specs.Did.{Did, DidEdit}
use Rattle.work_sheet.specs.Doing.{recalculated, Done}
use Rattle.work_sheet.specs.Editing.{restored}
use Rattle.work_sheet.specs.Seen.{of_worksheet, Sheet}
use Rattle.work_sheet.specs.Sheets.{Worksheet}

-- the call was answered so
abbrev IsAnswer : ShelfCall → Reply → ShelfView → ShelfView → Type 0
IsAnswer call reply before now = HasAnswered (record { call = call; reply = reply }) before now

-- a command by its one call, whose answer is this
over : (call : ShelfCall) (act : Reply → DeskActed) (reply : Reply) (came : CommandEnd) (v w : declared.Desk) (m n : ℕ)
    (before now : ShelfView) →
    HasActedOn (act reply) came v w m n → IsAnswer call reply before now →
    HasActedOver (λ r. by_call call r act) came v w m n before now
over call act reply came v w m n before now acted answered =
    record { reply = reply; acted = acted; answered = (now, answered, refl) }

-- a refused command
refused_on : (e : CommandError) (came : CommandEnd) (v : declared.Desk) (n : ℕ) → came ≡ Refused e
    → HasActedOn (refused e (of_desk v)) came v v n n
refused_on e came v n is = record { end = is; desk = refl; work = refl; history = refl }

module _ (v : declared.Desk) (n : ℕ) (before now : ShelfView) where
  -- a save whose call wrote the file is finished
  pub saved_over : (name bytes : List ℕ) (w : declared.Desk) →
      HasActedOn (saved_as name (of_desk v) written) Finished v w n n
      → HasCalled (puts name bytes) is_written true before now →
      HasActedOver (λ r. by_call (puts name bytes) r (saved_as name (of_desk v))) Finished v w n n before now
  saved_over name bytes w acted called = by called.reply called.came_so called.answered
    where
      act : Reply → DeskActed
      act = saved_as name (of_desk v)

      by : (r : Reply) → true ≡ is_written r → IsAnswer (puts name bytes) r before now →
          HasActedOver (λ s. by_call (puts name bytes) s (saved_as name (of_desk v))) Finished v w n n before now
      by written e a = over (puts name bytes) act written Finished v w n n before now acted a
      by failed e a = absurd (true≢false e)
      by (there b) e a = absurd (true≢false e)
      by (fetched got) e a = absurd (true≢false e)
      by (loaded f) e a = absurd (true≢false e)

  -- it wasn't
  pub unsaved_over : (name bytes : List ℕ) → HasCalled (puts name bytes) is_written false before now →
      HasActedOver (λ r. by_call (puts name bytes) r (saved_as name (of_desk v))) (Refused error.DiskError) v v n n
      before now
  unsaved_over name bytes called = by called.reply called.came_so called.answered
    where
      act : Reply → DeskActed
      act = saved_as name (of_desk v)

      by : (r : Reply) → false ≡ is_written r → IsAnswer (puts name bytes) r before now →
          HasActedOver (λ s. by_call (puts name bytes) s (saved_as name (of_desk v))) (Refused error.DiskError) v v n n
          before now
      by written e a = absurd (false≢true e)
      by failed e a =
          over (puts name bytes) act failed (Refused error.DiskError) v v n n before now
          (refused_on error.DiskError (Refused error.DiskError) v n refl) a
      by (there b) e a =
          over (puts name bytes) act (there b) (Refused error.DiskError) v v n n before now
          (refused_on error.DiskError (Refused error.DiskError) v n refl) a
      by (fetched got) e a =
          over (puts name bytes) act (fetched got) (Refused error.DiskError) v v n n before now
          (refused_on error.DiskError (Refused error.DiskError) v n refl) a
      by (loaded f) e a =
          over (puts name bytes) act (loaded f) (Refused error.DiskError) v v n n before now
          (refused_on error.DiskError (Refused error.DiskError) v n refl) a

module _ (name bytes : List ℕ) (v : declared.Desk) (n : ℕ) (before now : ShelfView) where
  -- what the placing of a worksheet's file does, by whether it would be read again
  abbrev IsSo : (Reply → DeskActed) → CommandEnd → declared.Desk → Bool → Type 0
  IsSo act came w b =
      HasActedOver (λ r. if b then by_call (puts name bytes) r act else without_call
      (refused error.WorksheetTooLarge (of_desk v))) came v w n n before now

  -- a file that would be read again
  short_over : (act : Reply → DeskActed) (came : CommandEnd) (w : declared.Desk) → is_readable bytes ≡ true →
      HasActedOver (λ r. by_call (puts name bytes) r act) came v w n n before now →
      HasActedOver (λ r. put_readable name bytes r act (of_desk v)) came v w n n before now
  short_over act came w short acted = subst (IsSo act came w) (sym short) acted

  -- one that would not
  pub large_over : (act : Reply → DeskActed) → IsPlaced name bytes place.TooLarge before now →
      HasActedOver (λ r. put_readable name bytes r act (of_desk v)) (Refused error.WorksheetTooLarge) v v n n before now
  large_over act placed = subst (IsSo act (Refused error.WorksheetTooLarge) v) (sym placed.0) (record {
    reply = failed;
    acted = refused_on error.WorksheetTooLarge (Refused error.WorksheetTooLarge) v n refl;
    answered = placed.1;
  })

  -- so is one whose sheet could be read back
  pub saved_so : (w : declared.Desk) → HasActedOn (saved_as name (of_desk v) written) Finished v w n n →
      IsPlaced name bytes place.Written before now →
      HasActedOver (λ r. put_readable name bytes r (saved_as name (of_desk v)) (of_desk v)) Finished v w n n before now
  saved_so w acted placed = short_over (saved_as name (of_desk v)) Finished w placed.0
      (saved_over v n before now name bytes w acted placed.1)

  -- it wasn't
  pub unsaved_so : IsPlaced name bytes place.Failed before now →
      HasActedOver (λ r. put_readable name bytes r (saved_as name (of_desk v)) (of_desk v)) (Refused error.DiskError) v
      v n n before now
  unsaved_so placed = short_over (saved_as name (of_desk v)) (Refused error.DiskError) v placed.0
      (unsaved_over v n before now name bytes placed.1)

-- a sheet was loaded, or none
abbrev IsSheet : Loaded → Type 0
IsSheet (load.Sheet s) = Unit {0}
IsSheet (load.Refused e) = ⊥

abbrev sheet_or : SavedSheet → Loaded → SavedSheet
sheet_or other (load.Sheet s) = s
sheet_or other (load.Refused e) = other

abbrev end_or : CommandEnd → Loaded → CommandEnd
end_or other (load.Sheet s) = other
end_or other (load.Refused e) = Refused e

module _ (make : SavedSheet → DeskActed) (name : List ℕ) (v : declared.Desk) (before now : ShelfView) where
  -- something was made of a file's sheet
  pub made_over : (saved : SavedSheet) (came : CommandEnd) (w : declared.Desk) (m n : ℕ)
      → HasActedOn (make saved) came v w m n →
      HasCalled (gets name) loaded_as (load.Sheet saved) before now →
      HasActedOver (λ r. by_call (gets name) r (with_file make (of_desk v))) came v w m n before now
  made_over saved came w m n acted called = by called.reply called.came_so called.answered
    where
      act : Reply → DeskActed
      act = with_file make (of_desk v)

      none : {e : CommandError} → load.Sheet saved ≡ load.Refused e → ⊥
      none e = subst IsSheet e tt

      by : (r : Reply) → load.Sheet saved ≡ loaded_as r → IsAnswer (gets name) r before now →
          HasActedOver (λ s. by_call (gets name) s (with_file make (of_desk v))) came v w m n before now
      by (loaded (Some (Ok s))) e a = over (gets name) act (loaded (Some (Ok s))) came v w m n before now
          (subst (λ (x : SavedSheet). HasActedOn (make x) came v w m n) (ap (sheet_or saved) e) acted) a
      by (loaded (Some (Err f))) e a = absurd (none e)
      by (loaded None) e a = absurd (none e)
      by failed e a = absurd (none e)
      by (there b) e a = absurd (none e)
      by (fetched got) e a = absurd (none e)
      by written e a = absurd (none e)

  -- the file was refused
  pub refused_over : (why : CommandError) (n : ℕ) → HasCalled (gets name) loaded_as (load.Refused why) before now →
      HasActedOver (λ r. by_call (gets name) r (with_file make (of_desk v))) (Refused why) v v n n before now
  refused_over why n called = by called.reply called.came_so called.answered
    where
      act : Reply → DeskActed
      act = with_file make (of_desk v)

      is : {e : CommandError} → load.Refused why ≡ load.Refused e → Refused why ≡ Refused e
      is e = ap (end_or (Refused why)) e

      by : (r : Reply) → load.Refused why ≡ loaded_as r → IsAnswer (gets name) r before now →
          HasActedOver (λ s. by_call (gets name) s (with_file make (of_desk v))) (Refused why) v v n n before now
      by (loaded (Some (Ok s))) e a = absurd (subst IsSheet (sym e) tt)
      by (loaded (Some (Err f))) e a =
          over (gets name) act (loaded (Some (Err f))) (Refused why) v v n n before now
          (refused_on _ (Refused why) v n (is e)) a
      by (loaded None) e a =
          over (gets name) act (loaded None) (Refused why) v v n n before now
          (refused_on error.FileNotFound (Refused why) v n (is e)) a
      by failed e a =
          over (gets name) act failed (Refused why) v v n n before now
          (refused_on error.DiskError (Refused why) v n (is e)) a
      by (there b) e a =
          over (gets name) act (there b) (Refused why) v v n n before now
          (refused_on error.DiskError (Refused why) v n (is e)) a
      by (fetched got) e a =
          over (gets name) act (fetched got) (Refused why) v v n n before now
          (refused_on error.DiskError (Refused why) v n (is e)) a
      by written e a =
          over (gets name) act written (Refused why) v v n n before now
          (refused_on error.DiskError (Refused why) v n (is e)) a

-- a command over the worksheet is one over the desk
pub acted_on : (act : Sheet → Acted) (came : CommandEnd) (v : declared.Desk) (new : Worksheet) (m n : ℕ)
    → HasActedBy act came v.sheet new m n →
    HasActedOn (on_desk act (of_desk v)) came v (record v { sheet = new }) m n
acted_on act came v new m n acted =
    record {
      end = acted.end;
      desk = ap (λ (s : Sheet). on_sheet (of_desk v) s) acted.did.sheet;
      work = acted.did.work;
      history = acted.did.history;
    }

-- a file's sheet took the place of the sheet, and was recalculated
pub retrieved_acts : (saved : SavedSheet) (scene there_seen : Scene) (v mid w : Worksheet) (m n : ℕ) →
    DidEdit (restored saved.store saved.names saved.settings) v mid → there_seen ≡ scene_in scene (of_worksheet mid) →
    Did (recalculated mean there_seen (of_worksheet mid)) mid w m n
    → Did (retrieved_sheet saved scene (of_worksheet v)) v w m n
retrieved_acts saved scene there_seen v mid w m n edit is did =
    did_both (restored saved.store saved.names saved.settings (of_worksheet v)) (recalculated_there scene) v mid w m m
    n (edit m)
    (subst (λ (t : Scene). Did (recalculated mean t (of_worksheet mid)) mid w m n) is did)
