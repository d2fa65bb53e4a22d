-- Two runs that begin alike, in which nothing fails and memory lasts, have one outcome.
use Rattle.std.proofs.Common.{◌≡◌, ℕ, ◌+◌, Bool, List, [], ◌++◌, length, map, Option, Some, None}
use Rattle.std.proofs.Common.{Result, Ok, Err, refl, sym, ap, ◌∙◌, subst, arith, inl, inr, length-append}
use Rattle.std.specs.Prelude.{if◌then◌else◌}
use Rattle.std.proofs.lemmas.List.{length-map, nil_from_length}
use Rattle.outside_world.specs.Causes.{Rose}
use Rattle.outside_world.specs.Clock.{TakesReading}
use Rattle.serial_date.specs.declared.moment.Moment.{Moment}
use Rattle.commands_file.specs.Alike.{HoldAlike}
use Rattle.commands_file.specs.Calls.{Asked, HaveAnswered, ShelfView}
use Rattle.session_core.specs.Machine.{State}
use Rattle.session_core.specs.Unfailing.{NoneFailed}
use Rattle.work_sheet.specs.Work.{no_work, HasWorked, Work}
use Rattle.screen_show.specs.declared.display.DisplayKind.{DisplayKind}
use Rattle.sheet_run.specs.Displays.{same_kind, views_of, HasClosed, HasFailed, Partitions, Screen, Watched}
use Rattle.sheet_run.specs.Notes.{count_note, ending_note, ending_status, file_note, file_status, refused_note}
use Rattle.sheet_run.specs.Notes.{rows_notes, session_notes, AddsText, Tells}
use Rattle.sheet_run.specs.Opening.{answer_of, asked_for, calls_from, opening, StartSheet}
use Rattle.sheet_run.specs.Options.{bounds_of, limit_of, shown_kind}
use Rattle.sheet_run.specs.Outcome.{evaluated_with, shown_on, AreAlike, HaveOneOutcome, TellOne, WentWell}
use Rattle.sheet_run.specs.Run.{after, calls_of, happened, keys_of, moments_of, screens, Outside}
use Rattle.sheet_run.specs.Status.{finished, is_any, shelved, no_memory, no_note, no_room, no_session, no_sheet}
use Rattle.sheet_run.specs.Status.{not_read, ran, refused, HasFinished, IsRun, RunsWith, Surroundings}
use Rattle.sheet_run.specs.Taking.{TakesReadings}
use Rattle.sheet_run.specs.declared.drive.Ending.{Ending}
use Rattle.sheet_run.specs.declared.opening.NotRead.{NotRead}
use Rattle.sheet_run.specs.declared.options.Options.{Options}
use Rattle.sheet_run.specs.declared.options.Start.TheVariants as given
use Rattle.sheet_run.proofs.Completing.{none_failed}
use Rattle.commands_file.proofs.Answered.{answered_then}
use Rattle.session_core.proofs.OneResult.{left_alike}
use Rattle.work_sheet.proofs.OneWork.{one_work as one_work_of}
use Rattle.work_sheet.specs.Doing.{Happened}
use Rattle.sheet_run.proofs.OneBeginning.{one_refusal, one_start, read_or_refused}
use Rattle.sheet_run.proofs.OneEnding.{cancel, closed, one_end, Closed}
use Rattle.sheet_run.proofs.OneText.{both_give}
use Rattle.sheet_run.proofs.SameSteps.{compare, one_reading, same_after, same_calls, same_happened, same_readings}
use Rattle.sheet_run.proofs.SameSteps.{same_screens, split_fine}
use Rattle.sheet_run.proofs.ShownAlike.{all_alike, all_left, befores, filtered_alike}

-- where no write of a note failed, its text was added, and the status is the one found
pub told_well : (text : List ℕ) (found : ℕ) (before now : Option (List ℕ)) (faults faults' status : ℕ) →
    Tells text found before now faults faults' status → (Rose faults faults' → ⊥) →
    (status ≡ found) × AddsText text before now
told_well text found before now faults faults' status (inl t) fine = (t.0, t.1)
told_well text found before now faults faults' status (inr t) fine = absurd (fine t.2)

adds_one : (text other : List ℕ) (a b c d : Option (List ℕ)) → text ≡ other → a ≡ b → AddsText text a c →
    AddsText other b d → c ≡ d
adds_one text other None None c d texts same p q = p ∙ sym q
adds_one text other None (Some b) c d texts same p q = absurd cc
adds_one text other (Some a) None c d texts same p q = absurd cc
adds_one text other (Some a) (Some b) c d texts same p q = let old : a ≡ b = cc in p ∙ (λ i. Some (old i ++ texts i))
    ∙ sym q

-- one note on both sides
record OneNote (c d : Surroundings) (m n : ℕ) : Type 0 where
  status : m ≡ n
  notes : c.notes ≡ d.notes

one_note : (a b c d : Surroundings) (m n found found' : ℕ) (text text' : List ℕ) → a.notes ≡ b.notes
    → found ≡ found' → text ≡ text' → Tells text found a.notes c.notes a.note_faults c.note_faults m
    → Tells text' found' b.notes d.notes b.note_faults d.note_faults n → (Rose a.note_faults c.note_faults → ⊥)
    → (Rose b.note_faults d.note_faults → ⊥) → OneNote c d m n
one_note a b c d m n found found' text text' same founds texts told told' fine fine' =
    let one = told_well text found a.notes c.notes a.note_faults c.note_faults m told fine in
    let other = told_well text' found' b.notes d.notes b.note_faults d.note_faults n told' fine' in
    record {
      status = one.0 ∙ founds ∙ sym other.0;
      notes = adds_one text text' a.notes b.notes c.notes d.notes texts
          same one.1 other.1;
    }

-- the state behind the beginning
abbrev state_of : StartSheet → Moment → State
state_of start first = (opening start first).state

-- one of two runs that went well to an ending
record Half (o : Options) (before now : Outside) (found : ℕ) (text : List ℕ) (bytes : List ℕ)
    (fin : HasFinished o before now found text) : Type 0 where
  closed : Closed (bounds_of o)
      (state_of fin.start fin.first) fin.steps fin.left fin.out fin.begun fin.middle bytes fin.ending
  had : HaveAnswered (calls_of (state_of fin.start fin.first) fin.steps) fin.opened.shelf now.shelf
  fine_start : NoneFailed (calls_from fin.start)
  fine_steps : NoneFailed (calls_of (state_of fin.start fin.first) fin.steps)
  none_out : fin.out ≡ []
  none_out_now : fin.out_now ≡ []

half : (o : Options) (before now : Surroundings) (status found : ℕ) (text bytes : List ℕ)
    (fin : HasFinished o before.outside now.outside found text) → before.outside.bytes ≡ Some bytes →
    WentWell before now status →
    Half o before.outside now.outside found text bytes fin
half o before now status found text bytes fin told well =
    let s : State = state_of fin.start fin.first in
    let b0 : fin.begun.bytes ≡ before.outside.bytes = ap (λ (x : Outside). x.bytes) fin.opened.now_is in
    let k0 : fin.begun.key_faults ≡ before.outside.key_faults = ap (λ (x : Outside). x.key_faults) fin.opened.now_is in
    let k1 : now.outside.key_faults ≡ fin.middle.key_faults = ap (λ (x : Outside). x.key_faults) fin.now_is in
    let f0 : fin.begun.failed ≡ before.outside.failed = ap (λ (x : Outside). x.failed) fin.opened.now_is in
    let f1 : now.outside.failed ≡ fin.middle.failed ++ views_of fin.out_now =
    ap (λ (x : Outside). x.failed) fin.now_is in
    let v0 : fin.begun.shelf ≡ fin.opened.shelf = ap (λ (x : Outside). x.shelf) fin.opened.now_is in
    let v1 : now.outside.shelf ≡ fin.middle.shelf = ap (λ (x : Outside). x.shelf) fin.now_is in
    let keys_fine : Rose fin.begun.key_faults fin.middle.key_faults → ⊥ =
    λ rose. well.keys (subst (λ (n : ℕ). Rose n now.outside.key_faults) k0
    (subst (λ (n : ℕ). Rose fin.begun.key_faults n) (sym k1) rose)) in
    let c = closed (bounds_of o) s fin.steps fin.left fin.out fin.begun fin.middle bytes (b0 ∙ told) fin.ending
    fin.leaves keys_fine fin.ended in
    let had : HaveAnswered (calls_of s fin.steps) fin.opened.shelf now.outside.shelf =
    subst (λ (v : ShelfView). HaveAnswered (calls_of s fin.steps) v now.outside.shelf) v0
    (subst (λ (v : ShelfView). HaveAnswered (calls_of s fin.steps) fin.begun.shelf v) (sym v1) c.did.shelf) in
    let all : HaveAnswered (calls_from fin.start ++ calls_of s fin.steps) before.outside.shelf now.outside.shelf =
    answered_then (calls_from fin.start) (calls_of s fin.steps) before.outside.shelf fin.opened.shelf now.outside.shelf
    fin.opened.answered had in
    let fine = split_fine (calls_from fin.start) (calls_of s fin.steps)
    (none_failed (calls_from fin.start ++ calls_of s fin.steps) before.outside.shelf now.outside.shelf all
    well.shelf) in
    let none : length fin.out + length fin.out_now ≡ 0 =
    omega (
      arith,
      well.displays,
      ap length f1,
      ap length c.did.failed,
      ap length f0,
      length-append fin.middle.failed (views_of fin.out_now),
      length-append fin.begun.failed (views_of fin.out),
      length-map fin.out (λ (d : Watched). d.now),
      length-map fin.out_now (λ (d : Watched). d.now),
    ) in
    record {
      closed = c;
      had = had;
      fine_start = fine.0;
      fine_steps = fine.1;
      none_out = nil_from_length fin.out (omega (arith, none));
      none_out_now = nil_from_length fin.out_now (omega (arith, none));
    }

-- what two tell of the same, seen from what is told as they do
tell_on : {A : Type 0} {one other c d : Option A} → TellOne one other → c ≡ one → d ≡ other → TellOne c d
tell_on told one other = (told.0, one ∙ told.1, other ∙ told.2)

-- what two runs that finished left
record FinishedAlike (c d : Outside) (found found' : ℕ) (text text' : List ℕ) (count count' : ℕ) : Type 0 where
  founds : found ≡ found'
  texts : text ≡ text'
  counts : count ≡ count'
  keys : TellOne c.bytes d.bytes
  clock : TellOne c.readings d.readings
  files : HoldAlike c.shelf d.shelf
  displays : map shown_on c.displays ≡ map shown_on d.displays

-- one status is found of one ending
one_found : {found other : ℕ} {moved moved' : Bool} {e f : Ending} → moved ≡ moved' → e ≡ f →
    found ≡ ending_status moved e → other ≡ ending_status moved' f → found ≡ other
one_found moved ending a b = a ∙ (λ i. ending_status (moved i) (ending i)) ∙ sym b

-- one text is told of one state, count and ending
one_text : (o : Options) (w v : Work) {s t : State} {moved moved' : Bool} {e f : Ending} {text other : List ℕ} → s ≡ t →
    w.count ≡ v.count → moved ≡ moved' → e ≡ f → text ≡ session_notes o s w ++ ending_note (limit_of o) s moved e →
    other ≡ session_notes o t v ++ ending_note (limit_of o) t moved' f → text ≡ other
one_text o w v state count moved ending a b =
    a
    ∙ (λ i. (rows_notes o.start (state i) ++ count_note (if o.count then Some (count i) else None))
    ++ ending_note (limit_of o) (state i) (moved i) (ending i)) ∙ sym b

-- the count of evaluations of what happened
one_work : (log : List Happened) (w v : Work) → HasWorked log no_work w → HasWorked log no_work v → w.count ≡ v.count
one_work log w v p q = (one_work_of log no_work no_work w v (record { dirty = λ c. refl; long = refl; count = refl }) p
    q).count

from_halves : (o : Options) (a b c d : Surroundings) (found found' : ℕ) (text text' : List ℕ)
    (x : HasFinished o a.outside c.outside found text) (y : HasFinished o b.outside d.outside found' text')
    (alike : AreAlike a b) → Half o a.outside c.outside found text alike.keys.0 x →
    Half o b.outside d.outside found' text' alike.keys.0 y →
    FinishedAlike c.outside d.outside found found' text text' x.work.count y.work.count
from_halves o a b c d found found' text text' x y alike hx hy =
    let bytes : List ℕ = alike.keys.0 in
    let told : List Moment = alike.clock.0 in
    let s : State = state_of x.start x.first in
    let t : State = state_of y.start y.first in
    let start : x.start ≡ y.start =
    one_start o.start x.start y.start a.outside.shelf b.outside.shelf x.opened.shelf y.opened.shelf alike.files
    x.opened.named y.opened.named x.opened.answered y.opened.answered hx.fine_start hy.fine_start in
    let r = one_reading told x.opened.readings y.opened.readings x.first y.first
    (subst (λ (l : Option (List Moment)). TakesReading l x.opened.readings x.first) alike.clock.1 x.opened.took)
    (subst (λ (l : Option (List Moment)). TakesReading l y.opened.readings y.first) alike.clock.2 y.opened.took) in
    let state : s ≡ t = (λ i. state_of (start i) (r.same i)) in
    let begun : HoldAlike x.opened.shelf y.opened.shelf =
    left_alike (calls_from x.start) a.outside.shelf b.outside.shelf x.opened.shelf y.opened.shelf alike.files
    x.opened.answered
    (subst (λ (z : StartSheet). HaveAnswered (calls_from z) b.outside.shelf y.opened.shelf) (sym start)
    y.opened.answered) hx.fine_start in
    let one = hx.closed.closing in
    let other = hy.closed.closing in
    let keys = both_give one.read one.behind other.read other.behind (keys_of x.steps) (keys_of y.steps) (sym one.parts
    ∙ other.parts) one.give other.give in
    let took : TakesReadings (Some r.rest) (moments_of x.steps) x.middle.readings =
    subst (λ (l : Option (List Moment)). TakesReadings l (moments_of x.steps) x.middle.readings)
    (ap (λ (z : Outside). z.readings) x.opened.now_is ∙ r.one_is) hx.closed.did.readings in
    let took' : TakesReadings (Some r.rest) (moments_of y.steps) y.middle.readings =
    subst (λ (l : Option (List Moment)). TakesReadings l (moments_of y.steps) y.middle.readings)
    (ap (λ (z : Outside). z.readings) y.opened.now_is ∙ r.other_is) hy.closed.did.readings in
    let compared = compare x.steps y.steps s t r.rest x.middle.readings y.middle.readings x.opened.shelf y.opened.shelf
    c.outside.shelf d.outside.shelf keys.0 keys.1 state took took'
    one.fit other.fit begun hx.had hy.had hx.fine_steps hy.fine_steps keys.2 in
    let end = one_end (bounds_of o) s t x.steps y.steps bytes hx.closed.taken hy.closed.taken hx.closed.rest
    hy.closed.rest x.ending y.ending state one other compared in
    let afters : after s x.steps ≡ after t y.steps = same_after s t x.steps y.steps state end.alike in
    let shows : screens s x.steps ≡ screens t y.steps = same_screens s t x.steps y.steps state end.alike in
    let calls : calls_of s x.steps ≡ calls_of t y.steps = same_calls s t x.steps y.steps state end.alike in
    let happens : happened s x.steps ≡ happened t y.steps = same_happened s t x.steps y.steps state end.alike in
    let log : (opening x.start x.first).log ++ happened s x.steps ≡ (opening y.start y.first).log ++ happened t
    y.steps = (λ i. (opening (start i) (r.same i)).log ++ happens i) in
    let work : x.work.count ≡ y.work.count =
    one_work ((opening x.start x.first).log ++ happened s x.steps) x.work y.work x.worked
    (subst (λ (l : List Happened). HasWorked l no_work y.work) (sym log) y.worked) in
    let outs : x.out ++ x.out_now ≡ [] = (λ i. hx.none_out i ++ hx.none_out_now i) in
    let outs' : y.out ++ y.out_now ≡ [] = (λ i. hy.none_out i ++ hy.none_out_now i) in
    let moved : is_any (x.out ++ x.out_now) ≡ is_any (y.out ++ y.out_now) = ap is_any outs ∙ sym (ap is_any outs') in
    let rests : hx.closed.rest ≡ hy.closed.rest =
    cancel hy.closed.taken hx.closed.rest hy.closed.rest ((λ i. sym end.bytes i ++ hx.closed.rest) ∙ sym one.split
    ∙ other.split) in
    let readings = same_readings (moments_of x.steps) r.rest x.middle.readings y.middle.readings took
    (subst (λ (l : List Moment). TakesReadings (Some r.rest) l y.middle.readings) (sym end.alike.moments) took') in
    let shown : map shown_on (befores x.left) ≡ map shown_on (befores y.left) =
    ap (map shown_on) (all_left x.begun.displays (screens s x.steps) x.left x.out hx.closed.did.sent hx.none_out
    ∙ ap (λ (z : Outside). z.displays) x.opened.now_is)
    ∙ filtered_alike (λ (k : DisplayKind). same_kind k (shown_kind o)) a.outside.displays b.outside.displays
    alike.displays
    ∙ sym (ap (map shown_on) (all_left y.begun.displays (screens t y.steps) y.left y.out hy.closed.did.sent hy.none_out
    ∙ ap (λ (z : Outside). z.displays) y.opened.now_is)) in
    let now_shown : map shown_on (views_of x.left_now) ≡ map shown_on (views_of y.left_now) =
    all_alike (screens s x.steps) x.left x.left_now x.out_now y.left y.left_now y.out_now x.closed
    (subst (λ (l : List Screen). Partitions (HasClosed l) (HasFailed l) y.left y.left_now y.out_now) (sym shows)
    y.closed) hx.none_out_now hy.none_out_now shown in
    record {
      founds = one_found moved end.ending x.found_is y.found_is;
      texts = one_text o x.work y.work afters work moved end.ending x.text_is y.text_is;
      counts = work;
      keys = (
        hy.closed.rest,
        ap (λ (z : Outside). z.bytes) x.now_is ∙ hx.closed.now_left ∙ ap Some rests,
        ap (λ (z : Outside). z.bytes) y.now_is ∙ hy.closed.now_left,
      );
      clock = tell_on readings (ap (λ (z : Outside). z.readings) x.now_is) (ap (λ (z : Outside). z.readings) y.now_is);
      files = left_alike (calls_of s x.steps) x.opened.shelf y.opened.shelf c.outside.shelf d.outside.shelf begun hx.had
          (subst (λ (l : List Asked). HaveAnswered l y.opened.shelf d.outside.shelf) (sym calls) hy.had) hx.fine_steps;
      displays = ap (λ (z : Outside). map shown_on z.displays) x.now_is ∙ now_shown
          ∙ sym (ap (λ (z : Outside). map shown_on z.displays) y.now_is);
    }

both_finished : (o : Options) (a b c d : Surroundings) (m n found found' : ℕ) (text text' : List ℕ)
    (x : HasFinished o a.outside c.outside found text) (y : HasFinished o b.outside d.outside found' text') →
    AreAlike a b → WentWell a c m → WentWell b d n →
    FinishedAlike c.outside d.outside found found' text text' x.work.count y.work.count
both_finished o a b c d m n found found' text text' x y alike well well' =
    from_halves o a b c d found found' text text' x y alike (half o a c m found text alike.keys.0 x alike.keys.1 well)
    (half o b d n found' text' alike.keys.0 y alike.keys.2 well')

-- what two runs with options come to
record WithOne {o p : Options} {a b c d : Surroundings} {m n : ℕ} (r : RunsWith o a c m)
    (q : RunsWith p b d n) : Type 0 where
  alike : AreAlike c d
  status : m ≡ n
  count : evaluated_with r ≡ evaluated_with q

-- alike surroundings, seen from the other
turned : (a b : ShelfView) → HoldAlike a b → HoldAlike b a
turned a b alike = record {
  one = alike.other;
  other = alike.one;
  one_told = alike.other_told;
  other_told = alike.one_told;
  files = sym alike.files;
}

-- where nothing was called but the notes
stays_alike : (a b c d : Surroundings) → c.outside ≡ a.outside → d.outside ≡ b.outside → AreAlike a b →
    c.notes ≡ d.notes → AreAlike c d
stays_alike a b c d one other alike notes = record {
  keys = tell_on alike.keys (ap (λ (z : Outside). z.bytes) one) (ap (λ (z : Outside). z.bytes) other);
  clock = tell_on alike.clock (ap (λ (z : Outside). z.readings) one) (ap (λ (z : Outside). z.readings) other);
  files = subst (λ (z : Outside). HoldAlike z.shelf d.outside.shelf) (sym one)
      (subst (λ (z : Outside). HoldAlike a.outside.shelf z.shelf) (sym other) alike.files);
  displays = ap (λ (z : Outside). map shown_on z.displays) one ∙ alike.displays
      ∙ sym (ap (λ (z : Outside). map shown_on z.displays) other);
  notes = notes;
}

-- where a start file was asked for and refused, the call didn't fail
fine_refusal : (o : Options) (a c : Surroundings) (m : ℕ) (name : List ℕ) (why : NotRead) (shelf : ShelfView) →
    HaveAnswered (asked_for name (answer_of why)) a.outside.shelf shelf → c.outside ≡ shelved o shelf a.outside →
    WentWell a c m → NoneFailed (asked_for name (answer_of why))
fine_refusal o a c m name why shelf had now_is well =
    let is : c.outside.shelf ≡ shelf = ap (λ (z : Outside). z.shelf) now_is in
    none_failed (asked_for name (answer_of why)) a.outside.shelf shelf had
    (λ rose. well.shelf (subst (λ (v : ShelfView). Rose a.outside.shelf.faults v.faults) (sym is) rose))

-- a note found on both sides of a start file that isn't read
both_refused : (o : Options) (a b c d : Surroundings) (m n : ℕ) (name other : List ℕ) (why cause : NotRead)
    (shelf shelf' : ShelfView) → o.start ≡ given.File name → o.start ≡ given.File other → AreAlike a b →
    WentWell a c m → WentWell b d n →
    HaveAnswered (asked_for name (answer_of why)) a.outside.shelf shelf →
    HaveAnswered (asked_for other (answer_of cause)) b.outside.shelf shelf' → c.outside ≡ shelved o shelf a.outside →
    d.outside ≡ shelved o shelf' b.outside →
    Tells (file_note name why) (file_status why) a.notes c.notes a.note_faults c.note_faults m →
    Tells (file_note other cause) (file_status cause) b.notes d.notes b.note_faults d.note_faults n →
    AreAlike c d × (m ≡ n)
both_refused o a b c d m n name other why cause shelf shelf' is is' alike well well' had had' now_is now_is' told
    told' =
    let starts : given.File name ≡ given.File other = sym is ∙ is' in
    let names : name ≡ other = cc in
    let here : HaveAnswered (asked_for name (answer_of cause)) b.outside.shelf shelf' =
    subst (λ (l : List ℕ). HaveAnswered (asked_for l (answer_of cause)) b.outside.shelf shelf') (sym names) had' in
    let fine = fine_refusal o a c m name why shelf had now_is well in
    let causes : why ≡ cause = one_refusal name why cause a.outside.shelf b.outside.shelf shelf shelf' alike.files had
    here fine (fine_refusal o b d n name cause shelf' here now_is' well') in
    let note = one_note a b c d m n (file_status why) (file_status cause) (file_note name why) (file_note other cause)
    alike.notes (ap file_status causes) (λ i. file_note (names i) (causes i)) told told' well.notes well'.notes in
    let files : HoldAlike shelf shelf' =
    left_alike (asked_for name (answer_of why)) a.outside.shelf b.outside.shelf shelf shelf' alike.files had
    (subst (λ (w : NotRead). HaveAnswered (asked_for name (answer_of w)) b.outside.shelf shelf') (sym causes) here)
    fine in (
      record {
        keys = tell_on alike.keys (ap (λ (z : Outside). z.bytes) now_is) (ap (λ (z : Outside). z.bytes) now_is');
        clock = tell_on alike.clock (ap (λ (z : Outside). z.readings) now_is)
            (ap (λ (z : Outside). z.readings) now_is');
        files = subst (λ (z : Outside). HoldAlike z.shelf d.outside.shelf) (sym now_is)
            (subst (λ (z : Outside). HoldAlike shelf z.shelf) (sym now_is') files);
        displays = ap (λ (z : Outside). map shown_on z.displays) now_is
            ∙ filtered_alike (λ (k : DisplayKind). same_kind k (shown_kind o)) a.outside.displays b.outside.displays
            alike.displays
            ∙ sym (ap (λ (z : Outside). map shown_on z.displays) now_is');
        notes = note.notes;
      },
      note.status,
    )

-- a sheet was there, and a start file was refused
not_both_starts : (o : Options) (a b c d : Surroundings) (m n found : ℕ) (text : List ℕ)
    (x : HasFinished o a.outside c.outside found text) (name : List ℕ) (why : NotRead) (shelf : ShelfView) →
    o.start ≡ given.File name →
    AreAlike a b → HoldAlike a.outside.shelf b.outside.shelf → WentWell a c m → WentWell b d n →
    HaveAnswered (asked_for name (answer_of why)) b.outside.shelf shelf → d.outside ≡ shelved o shelf b.outside → ⊥
not_both_starts o a b c d m n found text x name why shelf is alike files well well' had now_is =
    read_or_refused o.start name x.start why a.outside.shelf b.outside.shelf x.opened.shelf shelf is files
    x.opened.named x.opened.answered had
    (half o a c m found text alike.keys.0 x alike.keys.1 well).fine_start (fine_refusal o b d n name why shelf had
    now_is well')

around : (a b : Surroundings) → AreAlike a b → AreAlike b a
around a b alike = record {
  keys = (alike.keys.0, alike.keys.2, alike.keys.1);
  clock = (alike.clock.0, alike.clock.2, alike.clock.1);
  files = turned a.outside.shelf b.outside.shelf alike.files;
  displays = sym alike.displays;
  notes = sym alike.notes;
}

with_options : (o : Options) (a b c d : Surroundings) (m n : ℕ) (r : RunsWith o a c m) (q : RunsWith o b d n) →
    AreAlike a b → WentWell a c m → WentWell b d n → WithOne r q
with_options o a b c d m n (finished found text x told) (finished found' text' y told') alike well well' =
    let f = both_finished o a b c d m n found found' text text' x y alike well well' in
    let note = one_note a b c d m n found found' text text' alike.notes f.founds f.texts told told' well.notes
    well'.notes in
    record {
      alike = record { keys = f.keys; clock = f.clock; files = f.files; displays = f.displays; notes = note.notes };
      status = note.status;
      count = f.counts;
    }
with_options o a b c d m n (finished found text x told) (not_read name why shelf is had now_is told') alike well well' =
    absurd (not_both_starts o a b c d m n found text x name why shelf is alike alike.files well well' had now_is)
with_options o a b c d m n (finished found text x told) (no_room now_is tried) alike well well' =
    absurd (well'.memory refl)
with_options o a b c d m n (finished found text x told) (no_sheet shelf broke now_is tried) alike well well' =
    absurd (well'.memory refl)
with_options o a b c d m n (finished found text x told) (no_session start first opened tried) alike well well' =
    absurd (well'.memory refl)
with_options o a b c d m n (finished found text x told) (no_memory start first begun steps left out opened did tried)
    alike well well' = absurd (well'.memory refl)
with_options o a b c d m n (not_read name why shelf is had now_is told) (finished found text y told') alike well well' =
    absurd (not_both_starts o b a d c n m found text y name why shelf is (around a b alike)
    (turned a.outside.shelf b.outside.shelf alike.files) well' well had now_is)
with_options o a b c d m n (not_read name why shelf is had now_is told) (not_read other cause shelf' is' had' now_is'
    told') alike well well' =
    let both = both_refused o a b c d m n name other why cause shelf shelf' is is' alike well well' had had' now_is
    now_is' told told' in
    record { alike = both.0; status = both.1; count = refl }
with_options o a b c d m n (not_read name why shelf is had now_is told) (no_room now_is' tried) alike well well' =
    absurd (well'.memory refl)
with_options o a b c d m n (not_read name why shelf is had now_is told) (no_sheet shelf' broke now_is' tried) alike well
    well' = absurd (well'.memory refl)
with_options o a b c d m n (not_read name why shelf is had now_is told) (no_session start first opened tried) alike well
    well' = absurd (well'.memory refl)
with_options o a b c d m n (not_read name why shelf is had now_is told) (no_memory start first begun steps left out
    opened did tried) alike well well' = absurd (well'.memory refl)
with_options o a b c d m n (no_room now_is tried) q alike well well' = absurd (well.memory refl)
with_options o a b c d m n (no_sheet shelf broke now_is tried) q alike well well' = absurd (well.memory refl)
with_options o a b c d m n (no_session start first opened tried) q alike well well' = absurd (well.memory refl)
with_options o a b c d m n (no_memory start first begun steps left out opened did tried) q alike well well' =
    absurd (well.memory refl)

-- the same where the options are known to be the same
with_same : (o p : Options) (a b c d : Surroundings) (m n : ℕ) (r : RunsWith o a c m) (q : RunsWith p b d n) → o ≡ p →
    AreAlike a b → WentWell a c m → WentWell b d n → WithOne r q
with_same o p a b c d m n r q same alike well well' =
    subst (λ (z : Options). (q : RunsWith z b d n) → WithOne r q) same (λ q. with_options o a b c d m n r q alike well
    well') q

-- two runs that begin alike, in which nothing fails and memory lasts
pub one_run : (words : List (List ℕ)) (a b c d : Surroundings) (m n : ℕ) (one : IsRun words a c m)
    (other : IsRun words b d n) → AreAlike a b → WentWell a c m → WentWell b d n → HaveOneOutcome one other
one_run words a b c d m n (refused word read stays told) (refused word' read' stays' told') alike well well' =
    let both : ◌≡◌ {A = Result Options (List ℕ)} (Err word) (Err word') = sym read ∙ read' in
    let same : word ≡ word' = cc in
    let note = one_note a b c d m n 1 1 (refused_note word) (refused_note word') alike.notes refl (ap refused_note same)
    told told' well.notes well'.notes in
    record { alike = stays_alike a b c d stays stays' alike note.notes; status = note.status; count = refl }
one_run words a b c d m n (refused word read stays told) (ran o read' q) alike well well' =
    let both : ◌≡◌ {A = Result Options (List ℕ)} (Err word) (Ok o) = sym read ∙ read' in
    absurd cc
one_run words a b c d m n (refused word read stays told) (no_note word' read' stays' tried) alike well well' =
    absurd (well'.memory refl)
one_run words a b c d m n (ran o read r) (refused word read' stays told) alike well well' =
    let both : ◌≡◌ {A = Result Options (List ℕ)} (Ok o) (Err word) = sym read ∙ read' in
    absurd cc
one_run words a b c d m n (ran o read r) (ran p read' q) alike well well' =
    let both : ◌≡◌ {A = Result Options (List ℕ)} (Ok o) (Ok p) = sym read ∙ read' in
    let same : o ≡ p = cc in
    let w = with_same o p a b c d m n r q same alike well well' in
    record { alike = w.alike; status = w.status; count = w.count }
one_run words a b c d m n (ran o read r) (no_note word' read' stays' tried) alike well well' =
    absurd (well'.memory refl)
one_run words a b c d m n (no_note word read stays tried) other alike well well' = absurd (well.memory refl)
