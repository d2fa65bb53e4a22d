-- Memory that runs out where calls are made of the shelf.
use Rattle.std.specs.Prelude.{◌≡◌, if◌then◌else◌, ℕ, Bool, false, refl, List, [], ◌∷◌, ◌++◌}
use Rattle.std.specs.Prelude.{Option, None, Some, Result, Ok, Err}
use Rattle.std.specs.Str.{bytes_eq}
use Rattle.std.proofs.Common.{ap, inl, inr, subst, sym}
use Rattle.std.proofs.lemmas.Bool.{cases_Bool}
use Rattle.std.proofs.lemmas.Slice.Eq.{bytes_eq-Decides}
use Rattle.command_desk.specs.Acting.{DeskActed}
use Rattle.command_desk.specs.Desks.{Desk}
use Rattle.commands_file.specs.Calls.{failed, puts, removes, shelf_view, Asked, HasBrokenOver, HaveAnswered}
use Rattle.commands_file.specs.Calls.{HaveBrokenOff, IsUnfinished, KeepsUnwritten, Reply, ShelfCall, ShelfView}
use Rattle.commands_file.specs.Commands.{by_call, put_readable, refused, without_call, HasBrokenIn}
use Rattle.commands_file.specs.Steps.{HasCalled}
use Rattle.commands_file.specs.inner.Placing.{IsUnplaced}
use Rattle.desk_errors.specs.declared.error.CommandError.TheVariants as error
use Rattle.outside_world.specs.Shelf.{Files, file_in, HasCause, HasPut, HasRead, HasRemoved, OnShelf}
use Rattle.outside_world.specs.declared.faults.ShelfFault.{ShelfFault}
use Rattle.outside_world.specs.declared.faults.ShelfFault.TheVariants.{Failed, Memory}
use Rattle.outside_world.proofs.Found.{passed}

-- ---- one call

other_than : (other name : List ℕ) → (other ≡ name → ⊥) → bytes_eq other name ≡ false
other_than other name apart = elim (cases_Bool (bytes_eq other name)) [
  | inl same ↦ absurd (apart ((bytes_eq-Decides other name).0 same))
  | inr differ ↦ differ
]

-- no file changed
keeps_all : (call : ShelfCall) (s t : OnShelf) (now : Option OnShelf) → now ≡ Some t → t.files ≡ s.files
    → KeepsUnwritten call (Some s) now
keeps_all call s t now is files = (t, is, λ name unwritten. ap (λ (f : Files). file_in name f) files)

-- the shelf is the same
same_keeps : (call : ShelfCall) (before now : Option OnShelf) → now ≡ before → KeepsUnwritten call before now
same_keeps call None now is = is
same_keeps call (Some s) now is = keeps_all call s s now is refl

-- a read leaves every file
read_keeps : {A : Type 0} (call : ShelfCall) (told : Files → A) (name : List ℕ) (before now : Option OnShelf)
    (result : Result A ShelfFault) → HasRead told name before now result → KeepsUnwritten call before now
read_keeps call told name None now result h = h
read_keeps call told name (Some s) now (Ok value) h = keeps_all call s _ now h.1 refl
read_keeps call told name (Some s) now (Err Failed) h = keeps_all call s _ now h refl
read_keeps call told name (Some s) now (Err Memory) h = keeps_all call s _ now h refl

-- a write that finds no memory leaves every other file
put_keeps : (name bytes : List ℕ) (before now : Option OnShelf) → HasPut name bytes before now (Err Memory)
    → KeepsUnwritten (puts name bytes) before now
put_keeps name bytes None now h = h
put_keeps name bytes (Some s) now (held, is) =
    (_, is, λ other apart. passed held name other s.files (other_than other name apart))

-- a removal that finds no memory leaves every file
removed_keeps : (name : List ℕ) (before now : Option OnShelf) → HasRemoved name before now (Err Memory)
    → KeepsUnwritten (removes name) before now
removed_keeps name None now h = h
removed_keeps name (Some s) now h = keeps_all (removes name) s s now h refl

-- memory ran out before the call
pub none_unfinished : (call : ShelfCall) (shelf : ShelfView) → IsUnfinished call shelf shelf
none_unfinished call shelf = record { told = same_keeps call shelf.told shelf.told refl; faults = refl }

-- memory ran out in a read, or behind it
pub read_unfinished : {A : Type 0} (call : ShelfCall) (told : Files → A) (name : List ℕ) (before now : Option OnShelf)
    (m n : ℕ) (result : Result A ShelfFault) → HasRead told name before now result → n ≡ m
    → IsUnfinished call (shelf_view before m) (shelf_view now n)
read_unfinished call told name before now m n result h stands =
    record { told = read_keeps call told name before now result h; faults = stands }

-- the count of faults stands where a call finds no memory
pub memory_stands : (A : Type 0) (m n : ℕ) (e : ShelfFault) → e ≡ Memory → HasCause {A = A} m n (Err e) → n ≡ m
memory_stands A m n e is cause = subst (λ (f : ShelfFault). HasCause {A = A} m n (Err f)) is cause

-- it ran out in a write
pub put_unfinished : (name bytes : List ℕ) (before now : Option OnShelf) (m n : ℕ) (e : ShelfFault) → e ≡ Memory
    → HasPut name bytes before now (Err e) → n ≡ m
    → IsUnfinished (puts name bytes) (shelf_view before m) (shelf_view now n)
put_unfinished name bytes before now m n e is h stands = record {
  told = put_keeps name bytes before now (subst (λ (f : ShelfFault). HasPut name bytes before now (Err f)) is h);
  faults = stands;
}

-- it ran out in a removal
pub removed_unfinished : (name : List ℕ) (before now : Option OnShelf) (m n : ℕ) (e : ShelfFault) → e ≡ Memory
    → HasRemoved name before now (Err e) → n ≡ m
    → IsUnfinished (removes name) (shelf_view before m) (shelf_view now n)
removed_unfinished name before now m n e is h stands = record {
  told = removed_keeps name before now (subst (λ (f : ShelfFault). HasRemoved name before now (Err f)) is h);
  faults = stands;
}

-- ---- calls in order

-- memory ran out before any of these calls
pub none_broken : (calls : List Asked) (shelf : ShelfView) → HaveBrokenOff calls shelf shelf
none_broken [] shelf = refl
none_broken (a ∷ later) shelf = inl (none_unfinished a.call shelf)

-- it ran out behind all of them
pub answered_broken : (calls : List Asked) (a b : ShelfView) → HaveAnswered calls a b → HaveBrokenOff calls a b
answered_broken [] a b same = same
answered_broken (x ∷ xs) a b (middle, was, rest) = inr (middle, was, answered_broken xs middle b rest)

-- it ran out before others of them
pub broken_before : (first more : List Asked) (a b : ShelfView) → HaveBrokenOff first a b
    → HaveBrokenOff (first ++ more) a b
broken_before [] more a b same = subst (λ (v : ShelfView). HaveBrokenOff more a v) (sym same) (none_broken more a)
broken_before (x ∷ xs) more a b (inl unfinished) = inl unfinished
broken_before (x ∷ xs) more a b (inr (middle, was, rest)) = inr (middle, was, broken_before xs more middle b rest)

-- it ran out behind others of them
pub broken_behind : (first more : List Asked) (a b c : ShelfView) → HaveAnswered first a b → HaveBrokenOff more b c
    → HaveBrokenOff (first ++ more) a c
broken_behind [] more a b c same next = subst (λ (v : ShelfView). HaveBrokenOff more v c) same next
broken_behind (x ∷ xs) more a b c (middle, was, rest) next =
    inr (middle, was, broken_behind xs more middle b c rest next)

-- it ran out before any call, whatever would be answered
pub none_over : {A : Type 0} (calls : A → List Asked) (answers : A) (shelf : ShelfView)
    → HasBrokenOver calls shelf shelf
none_over calls answers shelf = record { answers = answers; broke = none_broken (calls answers) shelf }

-- ---- commands

module _ (call : ShelfCall) (act : Reply → DeskActed) (before now : ShelfView) where
  -- memory ran out in the call of a command
  pub unfinished_in : IsUnfinished call before now → HasBrokenIn (λ r. by_call call r act) before now
  unfinished_in unfinished = record { answers = failed; broke = inl unfinished }

  -- it ran out behind the call
  pub called_in : {A : Type 0} (told : Reply → A) (came : A) → HasCalled call told came before now
      → HasBrokenIn (λ r. by_call call r act) before now
  called_in told came called = record { answers = called.reply; broke = inr (now, called.answered, refl) }

module _ (name bytes : List ℕ) (act : Reply → DeskActed) (d : Desk) (before now : ShelfView) where
  -- where memory ran out, by whether the file would be read again
  abbrev IsBroken : Bool → Type 0
  IsBroken b =
      HasBrokenIn (λ r. if b then by_call (puts name bytes) r act else without_call (refused error.WorksheetTooLarge d))
      before now

  -- memory ran out before a worksheet's file was put, or in the put
  pub unplaced_in : IsUnplaced name bytes before now → HasBrokenIn (λ r. put_readable name bytes r act d) before now
  unplaced_in (inl same) =
      subst (λ (v : ShelfView). HasBrokenIn (λ r. put_readable name bytes r act d) before v) (sym same)
      (none_over _ failed before)
  unplaced_in (inr (short, unfinished)) =
      subst IsBroken (sym short) (unfinished_in (puts name bytes) act before now unfinished)
