-- From what the calls of the sheet do to what commands do.
use Rattle.std.specs.Prelude.{ℕ, suc, zero, ◌+◌, ◌≡◌, Bool, refl, Option, Result, Ok, Err}
use Rattle.std.specs.List.{range_with_len}
use Rattle.std.proofs.Common.{ap, subst, sym, ◌∙◌}
use Rattle.command_desk.specs.Acting.{given, Acted, HasActed}
use Rattle.command_desk.specs.declared.ending.CommandEnd.{CommandEnd}
use Rattle.command_desk.specs.declared.ending.CommandEnd.TheVariants.{Refused}
use Rattle.desk_errors.specs.declared.error.CommandError.{CommandError}
use Rattle.grid_address.specs.Place.{Extent}
use Rattle.work_sheet.specs.Did.{work_of, Did, DidEdit}
use Rattle.work_sheet.specs.Doing.{quiet}
use Rattle.work_sheet.specs.Editing.{with_hidden, with_width}
use Rattle.work_sheet.specs.Seen.{of_worksheet, Sheet}
use Rattle.work_sheet.specs.Sheets.{Worksheet}
use Rattle.work_sheet.proofs.Done.{left}
use Rattle.commands_worksheet.specs.Commands.{all_hidden, columns_of, hidden_in}

-- a value that a command needs was given
pub was_given : {A : Type 0} (r : Result A CommandError) (a : A) (next : A → Acted) (end : CommandEnd)
    (v w : Worksheet) (n : ℕ) → r ≡ Ok a →
    HasActed (next a) end v w n n → HasActed (given r next (of_worksheet v)) end v w n n
was_given r a next end v w n is acted = subst (λ x. HasActed (given x next (of_worksheet v)) end v w n n) (sym is) acted

-- its answer was refused
pub was_refused : {A : Type 0} (r : Result A CommandError) (e : CommandError) (next : A → Acted) (v : Worksheet)
    (n : ℕ) → r ≡ Err e →
    HasActed (given r next (of_worksheet v)) (Refused e) v v n n
was_refused r e next v n is =
    subst (λ x. HasActed (given x next (of_worksheet v)) (Refused e) v v n n) (sym is)
    (record { end = refl; did = left v v n n refl refl })

-- the whole worksheet, where nothing happened to its formulas
quiet_is : (s : Sheet) (v w : Worksheet) (n : ℕ) → Did (quiet s) v w n n →
    w ≡ record {
      grid = s.grid;
      dirty = v.dirty;
      circular = s.circular;
      stale = s.stale;
      names = s.names;
      settings = s.settings;
      history = v.history;
    }
quiet_is s v w n did = λ i. record {
  grid = (did.sheet i).grid;
  dirty = (did.work i).dirty;
  circular = (did.sheet i).circular;
  stale = (did.sheet i).stale;
  names = (did.sheet i).names;
  settings = (did.sheet i).settings;
  history = did.history i;
}

-- one column was hidden, or shown, and the others are still to come
pub hidden_more : (v w : Worksheet) (col left all : ℕ) (hidden : Bool) → all ≡ suc left
    → DidEdit (with_hidden col hidden) v w →
    record w { grid = all_hidden (range_with_len (col + 1) left) hidden w.grid }
    ≡ record v { grid = all_hidden (range_with_len col all) hidden v.grid }
hidden_more v w col left all hidden e did =
    ap (λ (x : Worksheet). record x { grid = all_hidden (range_with_len (col + 1) left) hidden x.grid })
    (quiet_is _ v w 0 (did 0))
    ∙ ap (λ (k : ℕ). record v { grid = all_hidden (range_with_len col k) hidden v.grid }) (sym e)

-- none is still to come
pub hidden_all : (v w : Worksheet) (span : Extent) (hidden : Bool) (col left : ℕ) → left ≡ zero →
    record w { grid = all_hidden (range_with_len col left) hidden w.grid }
    ≡ record v { grid = all_hidden (columns_of span) hidden v.grid } →
    DidEdit (hidden_in hidden span) v w
hidden_all v w span hidden col left e h =
    λ n. record {
      sheet = ap of_worksheet is;
      work = ap (λ (x : Worksheet). work_of x n) is;
      history = ap (λ (x : Worksheet). x.history) is;
    }
  where
    is : w ≡ record v { grid = all_hidden (columns_of span) hidden v.grid }
    is = ap (λ (k : ℕ). record w { grid = all_hidden (range_with_len col k) hidden w.grid }) (sym e) ∙ h

-- the pointer's column was given a width
pub pointer_widened : (v w : Worksheet) (col : ℕ) (width : Option ℕ) → col ≡ v.settings.pointer.col
    → DidEdit (with_width col width) v w →
    DidEdit (with_width v.settings.pointer.col width) v w
pointer_widened v w col width e did = subst (λ (k : ℕ). DidEdit (with_width k width) v w) e did

-- an act under another word
pub named : (a b : Acted) (end : CommandEnd) (v w : Worksheet) (m n : ℕ) → a ≡ b → HasActed b end v w m n
    → HasActed a end v w m n
named a b end v w m n e acted = subst (λ x. HasActed x end v w m n) (sym e) acted
