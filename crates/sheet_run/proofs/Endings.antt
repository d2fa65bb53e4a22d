-- How a run with options ends.
use Rattle.std.proofs.Common.{◌≡◌, ℕ, zero, suc, ◌+◌, Bool, List, [], ◌∷◌, ◌++◌, length, map, Err, refl}
use Rattle.std.proofs.Common.{sym, ap, ◌∙◌, subst, arith, inl, inr, length-append}
use Rattle.std.specs.Prelude.{nat_lt}
use Rattle.std.proofs.lemmas.List.{length-map}
use Rattle.std.proofs.lemmas.Bool.{lt-ltb, le-ltb}
use Rattle.serial_date.specs.declared.moment.Moment.{Moment}
use Rattle.session_core.specs.Machine.{SessionView, State}
use Rattle.work_sheet.proofs.OneWork.{worked_both}
use Rattle.work_sheet.specs.Work.{no_work, HasWorked}
use Rattle.screen_show.specs.Display.{View}
use Rattle.sheet_run.specs.Displays.{HasClosed, HasFailed, Sent, Watched, views_of}
use Rattle.sheet_run.specs.inner.Driving.{HasDriven, IsAfter, LeavesState}
use Rattle.sheet_run.specs.Run.{HasEnded}
use Rattle.sheet_run.specs.Notes.{LeavesSession, Tells, Tried, ending_note, ending_status, file_note, file_status}
use Rattle.sheet_run.specs.Notes.{memory_note, session_notes}
use Rattle.sheet_run.specs.inner.Telling.{ToldRefused}
use Rattle.sheet_run.specs.inner.Opened.{without_room, without_session, without_sheet, IsOpened, IsUnopened, IsUnread}
use Rattle.sheet_run.specs.Opening.{opening, HasOpened, StartSheet}
use Rattle.sheet_run.specs.Options.{bounds_of, limit_of, words_read}
use Rattle.sheet_run.specs.inner.Passing.{HasClosedOne, Passed}
use Rattle.sheet_run.specs.Run.{after, happened, screens, Outside, Step}
use Rattle.sheet_run.specs.Status.{RunsWith, Surroundings, asked, finished, is_any, no_memory, no_note, no_room}
use Rattle.sheet_run.specs.Status.{no_session, no_sheet, not_read, refused, IsRun}
use Rattle.sheet_run.specs.inner.OptionAnswers.{refused_text}
use Rattle.sheet_run.specs.declared.options.Bounds.{Bounds}
use Rattle.sheet_run.specs.declared.options.Refused.{Refused as RefusedPart}
use Rattle.sheet_run.specs.declared.drive.Ending.{Ending}
use Rattle.sheet_run.specs.declared.drive.Ending.TheVariants.{KeysEnded, Undone, Quit, Refused, BadWord, KeysFailed}
use Rattle.sheet_run.specs.declared.drive.Ending.TheVariants.{Stopped, NoMemory}
use Rattle.sheet_run.specs.declared.opening.NotRead.{NotRead as NotReadWhy}
use Rattle.sheet_run.specs.declared.options.Options.{Options}
use Rattle.sheet_run.specs.declared.options.Start.TheVariants as given
use Rattle.sheet_run.proofs.Shown.{Lifted, all_closed, each_left}

-- a run that ends with 9 ends with a status that is 9
pub nine : (o : Options) (before now : Surroundings) (status : ℕ) → status ≡ 9 → RunsWith o before now 9
    → RunsWith o before now status
nine o before now status is runs = subst (λ (n : ℕ). RunsWith o before now n) (sym is) runs

-- memory ran out before a session was there
pub unopened_run : (o : Options) (before now : Surroundings) → IsUnopened o before.outside now.outside
    → Tried memory_note before.notes now.notes before.note_faults now.note_faults → RunsWith o before now 9
unopened_run o before now (without_room same) tried = no_room same tried
unopened_run o before now (without_sheet shelf broke is) tried = no_sheet shelf broke is tried
unopened_run o before now (without_session start first opened) tried = no_session start first opened tried

-- the start file isn't read
pub unread_run : (o : Options) (before now : Surroundings) (why : NotReadWhy) (status : ℕ)
    → IsUnread o why before.outside now.outside → ((name : List ℕ) → o.start ≡ given.File name
    → Tells (file_note name why) (file_status why) before.notes now.notes before.note_faults now.note_faults status)
    → RunsWith o before now status
unread_run o before now why status unread told =
    not_read unread.name why unread.shelf unread.named unread.answered unread.now_is (told unread.name unread.named)

-- what became of the displays, whatever the ending
pub record Handled (s : State) (steps : List Step) (left out : List Watched) (before now : Outside) : Type 0 where
  pub sent : Sent before.displays (screens s steps) left out
  pub displays : now.displays ≡ views_of left
  pub failed : now.failed ≡ before.failed ++ views_of out

-- whatever the ending, the displays are those that were sent each screen, and the failed ones are handed on
pub handled : (limit : Bounds) (s : State) (steps : List Step) (left out : List Watched) (before now : Outside)
    (ending : Ending) → HasEnded limit s steps left out before now ending → Handled s steps left out before now
handled limit s steps left out before now KeysEnded h =
    record { sent = h.did.sent; displays = h.did.displays; failed = h.did.failed }
handled limit s steps left out before now (Undone count at) h =
    record { sent = h.did.sent; displays = h.did.displays; failed = h.did.failed }
handled limit s steps left out before now Quit h =
    record { sent = h.did.sent; displays = h.did.displays; failed = h.did.failed }
handled limit s steps left out before now (Refused count at) h =
    record { sent = h.did.sent; displays = h.did.displays; failed = h.did.failed }
handled limit s steps left out before now (BadWord at) (inl h) =
    record { sent = h.did.sent; displays = h.did.displays; failed = h.did.failed }
handled limit s steps left out before now (BadWord at) (inr h) =
    record { sent = h.did.sent; displays = h.did.displays; failed = h.did.failed }
handled limit s steps left out before now KeysFailed h =
    record { sent = h.did.sent; displays = h.did.displays; failed = h.did.failed }
handled limit s steps left out before now Stopped h =
    record { sent = h.did.sent; displays = h.did.displays; failed = h.did.failed }
handled limit s steps left out before now NoMemory h =
    record { sent = h.did.sent; displays = h.did.displays; failed = h.did.failed }

state_is : (from s : SessionView) (steps : List Step) (ending : Ending) → LeavesSession ending
    → LeavesState from s steps ending → IsAfter from s steps
state_is from s steps KeysEnded leaves is = is
state_is from s steps (Undone count at) leaves is = is
state_is from s steps Quit leaves is = is
state_is from s steps (Refused count at) leaves is = is
state_is from s steps (BadWord at) leaves is = is
state_is from s steps KeysFailed leaves is = is
state_is from s steps Stopped leaves is = is
state_is from s steps NoMemory leaves is = absurd leaves

any_length : (ds : List Watched) → is_any ds ≡ nat_lt 0 (length ds)
any_length [] = refl
any_length (d ∷ ds) = sym (lt-ltb 0 (length (d ∷ ds)) (omega arith))

longer : (n k : ℕ) → nat_lt n (n + k) ≡ nat_lt 0 k
longer n zero = le-ltb n (n + 0) (omega arith)
longer n (suc k) = lt-ltb n (n + suc k) (omega arith) ∙ sym (lt-ltb 0 (suc k) (omega arith))

any_moved : (before now failed' : List View) (out out' : List Watched) → now ≡ before ++ views_of out
    → failed' ≡ now ++ views_of out' → nat_lt (length before) (length failed') ≡ is_any (out ++ out')
any_moved before now failed' out out' first second =
    let count : length failed' ≡ length before + length (out ++ out') =
    omega (
      arith,
      ap length second,
      ap length first,
      length-append now (views_of out'),
      length-append before (views_of out),
      length-append out out',
      length-map out (λ (d : Watched). d.now),
      length-map out' (λ (d : Watched). d.now),
    ) in
    ap (nat_lt (length before)) count ∙ longer (length before) (length (out ++ out')) ∙ sym (any_length (out ++ out'))

-- the steps ended as they did, seen from what the run begins with
ended_from : (limit limit' : Bounds) (s s' : State) (steps : List Step) (left out : List Watched) (before now : Outside)
    (ending : Ending) → limit ≡ limit' → s ≡ s' → HasEnded limit s steps left out before now ending
    → HasEnded limit' s' steps left out before now ending
ended_from limit limit' s s' steps left out before now ending same is ended =
    subst (λ (u : State). HasEnded limit' u steps left out before now ending) is
    (subst (λ (b : Bounds). HasEnded b s steps left out before now ending) same ended)

-- a run whose session was left, whose displays were closed and whose note was told is a run with the options
pub finish : (o : Options) (bounds : Bounds) (start : StartSheet) (first : Moment) (from s : SessionView)
    (ending : Ending) (begun middle : Outside) (before now : Surroundings) (displays' failed' : List View)
    (moved : Bool) (status : ℕ) → bounds ≡ bounds_of o → HasOpened o.start start first (asked o before.outside) begun
    → IsOpened start first from → LeavesSession ending → HasDriven bounds from s begun middle ending
    → Passed HasClosedOne middle.displays displays' middle.failed failed'
    → now.outside ≡ record middle { displays = displays'; failed = failed' }
    → moved ≡ nat_lt (length before.outside.failed) (length failed')
    → Tells (session_notes o s.state s.work ++ ending_note (limit_of o) s.state moved ending)
    (ending_status moved ending) before.notes now.notes before.note_faults now.note_faults status
    → RunsWith o before now status
finish o bounds start first from s ending begun middle before now displays' failed' moved status bounds_is opened
    from_is leaves driven passed now_is moved_is told =
    let state : State = (opening start first).state in
    let ended : HasEnded (bounds_of o) state driven.steps driven.left driven.out begun middle ending =
    ended_from bounds (bounds_of o) from.state state _ _ _ _ _ ending bounds_is from_is.state driven.ended in
    let h : Handled state driven.steps driven.left driven.out begun middle = handled _ _ _ _ _ _ _ ending ended in
    let l : Lifted (HasClosed (screens state driven.steps)) (HasFailed (screens state driven.steps)) driven.left
    displays' passed.out =
    all_closed (screens state driven.steps) driven.left middle.displays displays' passed.out passed.parts h.displays
    (each_left _ _ _ _ h.sent) in
    let gone : failed' ≡ middle.failed ++ views_of l.gone =
    passed.handed ∙ ap (λ (fs : List View). middle.failed ++ fs) l.gone_views in
    let begun_failed : begun.failed ≡ before.outside.failed = ap (λ (x : Outside). x.failed) opened.now_is in
    let middle_failed : middle.failed ≡ before.outside.failed ++ views_of driven.out = h.failed
    ∙ ap (λ (fs : List View). fs ++ views_of driven.out) begun_failed in
    let any : moved ≡ is_any (driven.out ++ l.gone) =
    moved_is ∙ any_moved before.outside.failed middle.failed failed' driven.out l.gone middle_failed gone in
    let came : IsAfter from s driven.steps = state_is from s driven.steps ending leaves driven.state in
    let state_now : s.state ≡ after state driven.steps =
    came.state ∙ ap (λ (u : State). after u driven.steps) from_is.state in
    let happened_after : HasWorked (happened state driven.steps) from.work s.work =
    subst (λ (u : State). HasWorked (happened u driven.steps) from.work s.work) from_is.state came.work in
    finished (ending_status moved ending)
    (session_notes o s.state s.work ++ ending_note (limit_of o) s.state moved ending) (record {
      start = start;
      first = first;
      begun = begun;
      opened = opened;
      ending = ending;
      leaves = leaves;
      steps = driven.steps;
      left = driven.left;
      out = driven.out;
      middle = middle;
      ended = ended;
      work = s.work;
      worked = worked_both (opening start first).log (happened state driven.steps) no_work from.work s.work from_is.work
          happened_after;
      left_now = l.stay;
      out_now = l.gone;
      closed = l.passes;
      now_is = now_is ∙ ap (λ (ds : List View). record middle { displays = ds; failed = failed' }) l.stay_views
          ∙ ap (λ (fs : List View). record middle { displays = views_of l.stay; failed = fs }) gone;
      found_is = ap (λ (m : Bool). ending_status m ending) any;
      text_is = ap (λ (m : Bool). session_notes o s.state s.work ++ ending_note (limit_of o) s.state m ending) any
          ∙ ap (λ (u : State). session_notes o u s.work ++ ending_note (limit_of o) u
          (is_any (driven.out ++ l.gone)) ending) state_now;
    }) told

-- a run in whose steps memory ran out ends with status 9
pub ran_out : (o : Options) (bounds : Bounds) (start : StartSheet) (first : Moment)
    (from s : SessionView) (begun : Outside) (before now : Surroundings)
    → bounds ≡ bounds_of o → HasOpened o.start start first (asked o before.outside) begun
    → IsOpened start first from → HasDriven bounds from s begun now.outside NoMemory
    → Tried memory_note before.notes now.notes before.note_faults now.note_faults → RunsWith o before now 9
ran_out o bounds start first from s begun before now bounds_is opened from_is driven tried =
    no_memory start first begun driven.steps driven.left driven.out opened (ended_from bounds (bounds_of o) from.state
    (opening start first).state _ _ _ _ _ NoMemory bounds_is from_is.state driven.ended) tried

-- every ending but want of memory leaves a session
pub leaves_unless : (ending : Ending) → (ending ≡ NoMemory → ⊥) → LeavesSession ending
leaves_unless KeysEnded h = tt
leaves_unless (Undone count at) h = tt
leaves_unless Quit h = tt
leaves_unless (Refused count at) h = tt
leaves_unless (BadWord at) h = tt
leaves_unless KeysFailed h = tt
leaves_unless Stopped h = tt
leaves_unless NoMemory h = absurd (h refl)

-- a run whose words are refused, and that tells of it, is a run with these words
pub refused_run : (words : List (List ℕ)) (part : RefusedPart) (text : List ℕ) (before now : Surroundings) (status : ℕ)
    → words_read words ≡ Err (refused_text words part) → text ≡ refused_text words part → now.outside ≡ before.outside →
    ToldRefused text before.notes now.notes before.note_faults now.note_faults status → IsRun words before now status
refused_run words part text before now status read is same (inl told) =
    refused text (read ∙ ap (λ (t : List ℕ). Err t) (sym is)) same told
refused_run words part text before now status read is same (inr tried) =
    subst (λ (n : ℕ). IsRun words before now n) (sym tried.0)
    (no_note text (read ∙ ap (λ (t : List ℕ). Err t) (sym is)) same tried.1)

-- lists compare by their lengths as what is seen of them does
pub by_lengths : {X Y : Type 0} (f : X → View) (h : Y → View) (xs : List X) (ys : List Y) (a b : ℕ) (first : List View)
    → map f xs ≡ first → a ≡ length xs → b ≡ length ys → nat_lt a b ≡ nat_lt (length first) (length (map h ys))
by_lengths f h xs ys a b first is p q = ap (λ (n : ℕ). nat_lt n b) (p ∙ sym (length-map xs f) ∙ ap length is)
    ∙ ap (nat_lt (length first)) (q ∙ sym (length-map ys h))
