-- Runs that begin alike begin with one sheet, or are told alike why there is none.
use Rattle.std.proofs.Common.{◌≡◌, ℕ, List, Some, Ok, refl, sym, ap, ◌∙◌}
use Rattle.std.proofs.Common.{subst}
use Rattle.commands_file.specs.Alike.{HoldAlike}
use Rattle.commands_file.specs.Calls.{gets, loaded, Asked, HaveAnswered, Reply, ShelfView}
use Rattle.sheet_store.specs.declared.writes.SavedSheet.{SavedSheet}
use Rattle.sheet_gen.proofs.OneSheet.{one_sheet}
use Rattle.sheet_gen.specs.Rows.{IsGenerated}
use Rattle.session_core.specs.Unfailing.{NoneFailed}
use Rattle.sheet_run.specs.Opening.{answer_of, asked_for, calls_from, fresh, of_file, of_rows}
use Rattle.sheet_run.specs.Opening.{IsAskedFor, StartSheet}
use Rattle.sheet_run.specs.declared.opening.NotRead.{NotRead}
use Rattle.sheet_run.specs.declared.opening.NotRead.TheVariants.{NoSuchFile, Faulty, DiskError}
use Rattle.sheet_run.specs.declared.options.Start.{Start}
use Rattle.sheet_run.specs.declared.options.Start.TheVariants as given
use Rattle.commands_file.proofs.OneAnswer.{one_answer}

-- a start file was asked for with this answer
one_asked : (name : List ℕ) (r q : Reply) (a b c d : ShelfView) → HoldAlike a b → HaveAnswered (asked_for name r) a c →
    HaveAnswered (asked_for name q) b d → NoneFailed (asked_for name r) → NoneFailed (asked_for name q) → r ≡ q
one_asked name r q a b c d alike had had' fine fine' =
    (one_answer (gets name) r q a b had.0 had'.0 alike fine.0 fine'.0 had.1.told had'.1.told).0

-- what the words ask for
from_fresh : (start : StartSheet) → IsAskedFor given.Fresh start → start ≡ fresh
from_fresh fresh named = refl
from_fresh (of_file name saved) named = absurd named
from_fresh (of_rows rows saved) named = absurd named

from_file : (name : List ℕ) (start : StartSheet) → IsAskedFor (given.File name) start →
    (saved : SavedSheet) × (start ≡ of_file name saved)
from_file name fresh named = absurd named
from_file name (of_file other saved) named = (saved, ap (λ (n : List ℕ). of_file n saved) named)
from_file name (of_rows rows saved) named = absurd named

from_rows : (rows : ℕ) (start : StartSheet) → IsAskedFor (given.Rows rows) start →
    (saved : SavedSheet) × (start ≡ of_rows rows saved) × IsGenerated rows saved
from_rows rows fresh named = absurd named
from_rows rows (of_file name saved) named = absurd named
from_rows rows (of_rows other saved) named = (saved, ap (λ (n : ℕ). of_rows n saved) named.0, named.1)

-- one sheet is what the words ask for
pub one_start : (asks : Start) (one other : StartSheet) (a b c d : ShelfView) → HoldAlike a b → IsAskedFor asks one →
    IsAskedFor asks other → HaveAnswered (calls_from one) a c → HaveAnswered (calls_from other) b d →
    NoneFailed (calls_from one) → NoneFailed (calls_from other) → one ≡ other
one_start given.Fresh one other a b c d alike named named' had had' fine fine' = from_fresh one named
    ∙ sym (from_fresh other named')
one_start (given.File name) one other a b c d alike named named' had had' fine fine' =
    let s = from_file name one named in
    let t = from_file name other named' in
    let calls : calls_from one ≡ asked_for name (loaded (Some (Ok s.0))) = ap calls_from s.1 in
    let calls' : calls_from other ≡ asked_for name (loaded (Some (Ok t.0))) = ap calls_from t.1 in
    let same : ◌≡◌ {A = Reply} (loaded (Some (Ok s.0))) (loaded (Some (Ok t.0))) =
    one_asked name (loaded (Some (Ok s.0))) (loaded (Some (Ok t.0))) a b c d alike
    (subst (λ (l : List Asked). HaveAnswered l a c) calls had) (subst (λ (l : List Asked). HaveAnswered l b d)
    calls' had')
    (subst NoneFailed calls fine) (subst NoneFailed calls' fine') in
    let saved : s.0 ≡ t.0 = cc in
    s.1 ∙ ap (of_file name) saved ∙ sym t.1
one_start (given.Rows rows) one other a b c d alike named named' had had' fine fine' =
    let s = from_rows rows one named in
    let t = from_rows rows other named' in
    s.1 ∙ ap (of_rows rows) (one_sheet rows s.0 t.0 s.2 t.2) ∙ sym t.1

-- one cause keeps a start file from being read
one_cause : (why other : NotRead) → (why ≡ DiskError → ⊥) → (other ≡ DiskError → ⊥) → answer_of why ≡ answer_of other →
    why ≡ other
one_cause NoSuchFile NoSuchFile fine fine' same = refl
one_cause NoSuchFile (Faulty f) fine fine' same = absurd cc
one_cause NoSuchFile DiskError fine fine' same = absurd (fine' refl)
one_cause (Faulty f) NoSuchFile fine fine' same = absurd cc
one_cause (Faulty f) (Faulty g) fine fine' same = let faults : f ≡ g = cc in ap Faulty faults
one_cause (Faulty f) DiskError fine fine' same = absurd (fine' refl)
one_cause DiskError other fine fine' same = absurd (fine refl)

no_disk_error : (name : List ℕ) (why : NotRead) → NoneFailed (asked_for name (answer_of why)) → why ≡ DiskError → ⊥
no_disk_error name why fine is = fine.0 (ap answer_of is)

-- shelves with the same files refuse a start file for the same cause
pub one_refusal : (name : List ℕ) (why other : NotRead) (a b c d : ShelfView) → HoldAlike a b →
    HaveAnswered (asked_for name (answer_of why)) a c → HaveAnswered (asked_for name (answer_of other)) b d →
    NoneFailed (asked_for name (answer_of why)) → NoneFailed (asked_for name (answer_of other)) → why ≡ other
one_refusal name why other a b c d alike had had' fine fine' =
    one_cause why other (no_disk_error name why fine) (no_disk_error name other fine')
    (one_asked name (answer_of why) (answer_of other) a b c d alike had had' fine fine')

sheet_or_cause : (saved : SavedSheet) (why : NotRead) → (why ≡ DiskError → ⊥) →
    ◌≡◌ {A = Reply} (loaded (Some (Ok saved))) (answer_of why) → ⊥
sheet_or_cause saved NoSuchFile fine same = absurd cc
sheet_or_cause saved (Faulty f) fine same = absurd cc
sheet_or_cause saved DiskError fine same = fine refl

-- a start file isn't both read and refused
pub read_or_refused : (asks : Start) (name : List ℕ) (start : StartSheet) (why : NotRead) (a b c d : ShelfView) →
    asks ≡ given.File name → HoldAlike a b → IsAskedFor asks start → HaveAnswered (calls_from start) a c →
    HaveAnswered (asked_for name (answer_of why)) b d → NoneFailed (calls_from start) →
    NoneFailed (asked_for name (answer_of why)) → ⊥
read_or_refused asks name start why a b c d is alike named had had' fine fine' =
    let s = from_file name start (subst (λ (x : Start). IsAskedFor x start) is named) in
    let calls : calls_from start ≡ asked_for name (loaded (Some (Ok s.0))) = ap calls_from s.1 in
    sheet_or_cause s.0 why (no_disk_error name why fine')
    (one_asked name (loaded (Some (Ok s.0))) (answer_of why) a b c d alike
    (subst (λ (l : List Asked). HaveAnswered l a c) calls had) had' (subst NoneFailed calls fine) fine')
