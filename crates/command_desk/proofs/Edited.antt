-- An edit of contents as a command.
use Rattle.std.specs.Prelude.{ℕ, ◌≡◌, Bool, true, false, refl, List, Option, None, Some, OnErr, OnOk, Result, Ok}
use Rattle.std.specs.Prelude.{Err}
use Rattle.std.proofs.Common.{ap, sym, ◌∙◌, subst}
use Rattle.desk_errors.specs.declared.error.CommandError.TheVariants as error
use Rattle.formula_eval.specs.Mean.{mean}
use Rattle.formula_parts.specs.declared.look.Scene.{Scene}
use Rattle.grid_address.specs.Place.{same_place, Place}
use Rattle.cell_maps.specs.Sets.{has}
use Rattle.sheet_edits.specs.Edits.{is_protected}
use Rattle.sheet_edits.specs.Spans.{IsAnswered, IsFirstProtected, NoneProtected}
use Rattle.sheet_shifts.specs.Refusals.{refusal}
use Rattle.sheet_shifts.specs.declared.shift.Shift.{Shift}
use Rattle.sheet_store.specs.declared.writes.SheetFault.{SheetFault}
use Rattle.sheet_store.specs.declared.writes.SheetFault.TheVariants as fault
use Rattle.work_sheet.proofs.Done.{did_both, left}
use Rattle.work_sheet.specs.Did.{Did, DidEdit}
use Rattle.work_sheet.specs.Doing.{quiet, settled, Done}
use Rattle.work_sheet.specs.Editing.{shifted}
use Rattle.work_sheet.specs.Seen.{of_worksheet, Sheet}
use Rattle.work_sheet.specs.Sheets.{IsRefusedBy, Worksheet}
use Rattle.command_desk.proofs.Ascending.{first_found, none_found}
use Rattle.recalculation.specs.inner.Laws.{Ascends}
use Rattle.command_desk.specs.Acting.{edited, error_of, first_protected, moved_by, refusal_of, refused}
use Rattle.command_desk.specs.Acting.{unless_protected, unless_refused, written, Acted, HasActed, HasSettled}
use Rattle.command_desk.specs.declared.ending.CommandEnd.{CommandEnd}
use Rattle.command_desk.specs.declared.ending.CommandEnd.TheVariants.{Finished, Refused}

-- what an option holds
some_is : (a b : CommandEnd) → Some a ≡ Some b → a ≡ b
some_is a b e = ap (λ (o : Option CommandEnd). held o) e
  where
    held : Option CommandEnd → CommandEnd
    held None = a
    held (Some x) = x

-- a refused edit
pub was_refused : (f : SheetFault) (e : CommandEnd) (scene : Scene) (end : CommandEnd) (v mid w : Worksheet) (m n : ℕ) →
    refusal_of f ≡ Some e → mid ≡ v → HasSettled (Err f) scene end mid w m n
    → (end ≡ e) × Did (quiet (of_worksheet v)) v w m n
was_refused f e scene end v mid w m n is kept settles =
    (some_is end e (sym settles.0 ∙ is), left v w m n (settles.1 ∙ kept) settles.2)

-- want of memory is told otherwise
pub memory_is_none : (scene : Scene) (end : CommandEnd) (v w : Worksheet) (m n : ℕ)
    → HasSettled (Err fault.Memory) scene end v w m n → ⊥
memory_is_none scene end v w m n settles = absurd (none_is_some settles.0)
  where
    is_none : Option CommandEnd → Type 0
    is_none None = Unit {0}
    is_none (Some e) = ⊥

    none_is_some : {e : CommandEnd} → None ≡ Some e → ⊥
    none_is_some h = subst is_none h tt

module _ (cells : List Place) (among : Place → Bool) (ascends : Ascends cells)
    (same : (c : Place) → has same_place cells c ≡ among c)
    (edit : Sheet → Done) (scene : Scene) (v mid w : Worksheet) (m n : ℕ) where
  -- what the command is, by the first protected cell
  as_told : (first : Option Place) → first_protected cells (of_worksheet v) ≡ first → (end : CommandEnd) →
      HasActed (unless_protected first (edited scene (edit (of_worksheet v))) (of_worksheet v)) end v w m n →
      HasActed (written cells (edit (of_worksheet v)) scene (of_worksheet v)) end v w m n
  as_told first is end acted =
      subst (λ (o : Option Place). HasActed
      (unless_protected o (edited scene (edit (of_worksheet v))) (of_worksheet v)) end v w m n) (sym is) acted

  none_is : NoneProtected v.settings v.grid among → first_protected cells (of_worksheet v) ≡ None
  none_is h = none_found (is_protected v.settings v.grid) cells (λ c k. h c (sym (same c) ∙ k))

  first_is : (c : Place) → IsFirstProtected v.settings v.grid among c → first_protected cells (of_worksheet v) ≡ Some c
  first_is c h = first_found (is_protected v.settings v.grid) cells c ascends (same c ∙ h.among) h.protected
      (λ d k t l. h.first d (sym (same d) ∙ k) t l)

  -- an edit of these cells, after which all is recalculated in Automatic mode, or which is refused
  pub edit_acted : (answer : Result (Unit {0}) SheetFault) (end : CommandEnd)
      → IsAnswered v.settings v.grid among answer →
      OnOk answer (DidEdit edit v mid) → OnErr answer (mid ≡ v) → HasSettled answer scene end mid w m n →
      HasActed (written cells (edit (of_worksheet v)) scene (of_worksheet v)) end v w m n
  edit_acted (Ok x) end answered did kept settles = as_told None (none_is answered) end
      (record {
        end = settles.0;
        did = did_both (edit (of_worksheet v)) (settled mean scene) v mid w m m n (did m) settles.1;
      })
  edit_acted (Err (fault.Protected c)) end answered did kept settles =
      let was = was_refused (fault.Protected c) (Refused (error.Protected c)) scene end v mid w m n refl kept settles in
      as_told (Some c) (first_is c answered) end (record { end = was.0; did = was.1 })
  edit_acted (Err (fault.PushedOff c)) end answered did kept settles = absurd answered
  edit_acted (Err (fault.OutOfSheet s)) end answered did kept settles = absurd answered
  edit_acted (Err fault.Memory) end answered did kept settles = absurd (memory_is_none scene end mid w m n settles)

module _ (shift : Shift) (scene : Scene) (v mid w : Worksheet) (m n : ℕ) where
  -- by the fault that there is
  shift_by : (why : Option SheetFault) (answer : Result (Unit {0}) SheetFault) (end : CommandEnd)
      → IsRefusedBy why answer →
      OnOk answer (DidEdit (shifted shift) v mid) → OnErr answer (mid ≡ v) → HasSettled answer scene end mid w m n →
      HasActed (unless_refused why (edited scene (shifted shift (of_worksheet v))) (of_worksheet v)) end v w m n
  shift_by None (Ok x) end is did kept settles =
      record {
        end = settles.0;
        did = did_both (shifted shift (of_worksheet v)) (settled mean scene) v mid w m m n (did m) settles.1;
      }
  shift_by None (Err f) end is did kept settles =
      absurd (memory_is_none scene end mid w m n
      (subst (λ (g : SheetFault). HasSettled (Err g) scene end mid w m n) is settles))
  shift_by (Some f) answer end is did kept settles =
      let stays : mid ≡ v = subst (λ (a : Result (Unit {0}) SheetFault). OnErr a (mid ≡ v)) is kept in
      refused_by f (subst (λ (a : Result (Unit {0}) SheetFault). HasSettled a scene end mid w m n) is settles) stays
    where
      refused_by : (g : SheetFault) → HasSettled (Err g) scene end mid w m n → mid ≡ v →
          HasActed (refused (error_of g) (of_worksheet v)) end v w m n
      refused_by (fault.Protected c) s same =
          let was = was_refused (fault.Protected c) (Refused (error.Protected c)) scene end v mid w m n refl same s in
          record { end = was.0; did = was.1 }
      refused_by (fault.PushedOff c) s same =
          let was = was_refused (fault.PushedOff c) (Refused (error.PushedOff c)) scene end v mid w m n refl same s in
          record { end = was.0; did = was.1 }
      refused_by (fault.OutOfSheet p) s same =
          let was = was_refused (fault.OutOfSheet p) (Refused (error.OutOfSheet p)) scene end v mid w m n refl same s in
          record { end = was.0; did = was.1 }
      refused_by fault.Memory s same = absurd (memory_is_none scene end mid w m n s)

  -- cells are moved, after which all is recalculated in Automatic mode, or the edit is refused
  pub shift_acted : (answer : Result (Unit {0}) SheetFault) (end : CommandEnd)
      → IsRefusedBy (refusal v.settings v.grid.cells shift) answer →
      OnOk answer (DidEdit (shifted shift) v mid) → OnErr answer (mid ≡ v) → HasSettled answer scene end mid w m n →
      HasActed (moved_by shift scene (of_worksheet v)) end v w m n
  shift_acted answer end = shift_by (refusal v.settings v.grid.cells shift) answer end
