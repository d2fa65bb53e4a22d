-- How a run is opened.
use Rattle.std.proofs.Common.{◌≡◌, ℕ, true, false, List, Option, Result, Ok, Err, sym, ap, ◌∙◌, subst}
use Rattle.std.specs.Prelude.{OnErr, OnOk}
use Rattle.std.specs.List.{filter}
use Rattle.std.specs.Result.{is_err}
use Rattle.std.proofs.lemmas.Bool.{true≢false}
use Rattle.command_desk.specs.Desks.{of_desk, Desk}
use Rattle.command_desk.specs.declared.desk.Desk as declared
use Rattle.commands_file.specs.Calls.{HaveAnswered, ShelfView}
use Rattle.outside_world.specs.Clock.{TakesReading}
use Rattle.serial_date.specs.declared.moment.Moment.{Moment}
use Rattle.session_core.specs.Machine.{begun as fresh_running, begun_with, Follows, SessionView, State}
use Rattle.session_core.specs.Step.{loaded}
use Rattle.work_sheet.proofs.OneWork.{worked_both}
use Rattle.work_sheet.specs.Did.{work_of}
use Rattle.work_sheet.specs.Work.{no_work}
use Rattle.screen_show.specs.Display.{View}
use Rattle.screen_show.specs.declared.display.DisplayKind.{DisplayKind}
use Rattle.sheet_run.specs.Displays.{same_kind}
use Rattle.sheet_run.specs.Opening.{calls_from, desk_from, log_from, HasOpened, IsAskedFor, StartSheet}
use Rattle.sheet_run.specs.Options.{shown_kind}
use Rattle.sheet_run.specs.Run.{outside, Outside}
use Rattle.sheet_run.specs.Status.{asked}
use Rattle.sheet_run.specs.inner.Beginning.{HasBegunOr, IsLoaded}
use Rattle.sheet_run.specs.inner.Begun.{HasBegun}
use Rattle.sheet_run.specs.inner.Opened.{without_sheet, HasOpenedOr, IsOpened, IsUnopened, IsUnread}
use Rattle.sheet_run.specs.inner.Lent.{IsSame}
use Rattle.sheet_run.specs.inner.OptionAnswers.{IsFromFile}
use Rattle.sheet_run.specs.declared.opening.NotBegun.{NotBegun}
use Rattle.sheet_run.specs.declared.opening.NotBegun.TheVariants.{NotRead, Memory}
use Rattle.sheet_run.specs.declared.opening.NotRead.{NotRead as NotReadWhy}
use Rattle.sheet_run.specs.declared.options.Options.{Options}
use Rattle.sheet_run.specs.declared.options.Start.{Start}
use Rattle.sheet_run.specs.declared.outside.Outside.{Outside as Lent}

-- what holds of a result that is no error
pub when_ok : {T E : Type 0} (r : Result T E) (P : Type 0) → is_err r ≡ false → OnOk r P → P
when_ok (Ok t) P e h = h
when_ok (Err f) P e h = absurd (true≢false e)

-- what holds of one that is an error
pub when_err : {T E : Type 0} (r : Result T E) (P : Type 0) → is_err r ≡ true → OnErr r P → P
when_err (Ok t) P e h = absurd (true≢false (sym e))
when_err (Err f) P e h = h

-- where the displays are the same, and those that failed, so is the outside
pub same_displays : (bytes : Option (List ℕ)) (keys : ℕ) (readings : Option (List Moment)) (shelf : ShelfView)
    (displays displays' failed failed' : List View) → displays' ≡ displays → failed' ≡ failed
    → outside bytes keys readings shelf displays' failed' ≡ outside bytes keys readings shelf displays failed
same_displays bytes keys readings shelf displays displays' failed failed' same same' =
    ap (λ (ds : List View). outside bytes keys readings shelf ds failed') same
    ∙ ap (λ (fs : List View). outside bytes keys readings shelf displays fs) same'

-- with the displays of other kinds dropped the outside is the one that the options ask for
asked_is : (o : Options) (kind : DisplayKind) (bytes : Option (List ℕ)) (keys : ℕ)
    (readings : Option (List Moment)) (shelf : ShelfView) (displays displays' failed failed' : List View)
    → kind ≡ shown_kind o → displays' ≡ filter (λ v. same_kind v.kind kind) displays → failed' ≡ failed
    → outside bytes keys readings shelf displays' failed' ≡ asked o (outside bytes keys readings shelf displays failed)
asked_is o kind bytes keys readings shelf displays displays' failed failed' is kept same =
    ap (λ (ds : List View). outside bytes keys readings shelf ds failed')
    (kept ∙ ap (λ (k : DisplayKind). filter (λ v. same_kind v.kind k) displays) is)
    ∙ ap (λ (fs : List View). outside bytes keys readings shelf
    (filter (λ v. same_kind v.kind (shown_kind o)) displays) fs) same

-- the start file was read and then the clock, with the displays of other kinds dropped
pub opened_is : (o : Options) (kind : DisplayKind) (start : StartSheet) (first : Moment)
    (bytes : Option (List ℕ)) (keys : ℕ) (readings readings' : Option (List Moment))
    (shelf shelf' : ShelfView) (displays displays' failed failed' : List View) → kind ≡ shown_kind o
    → displays' ≡ filter (λ v. same_kind v.kind kind) displays → failed' ≡ failed → IsAskedFor o.start start
    → HaveAnswered (calls_from start) shelf shelf' → TakesReading readings readings' first
    → HasOpened o.start start first (asked o (outside bytes keys readings shelf displays failed))
    (outside bytes keys readings' shelf' displays' failed')
opened_is o kind start first bytes keys readings readings' shelf shelf' displays displays' failed failed' is kept same
    named answered took = record {
      named = named;
      shelf = shelf';
      answered = answered;
      readings = readings';
      took = took;
      now_is = asked_is o kind bytes keys readings' shelf' displays displays' failed failed' is kept same;
    }

-- the start file isn't read, or memory ran out before the sheet was there
pub not_begun : (o : Options) (kind : DisplayKind) (came : NotBegun) (bytes : Option (List ℕ)) (keys : ℕ)
    (readings : Option (List Moment)) (shelf shelf' : ShelfView) (displays displays' failed failed' : List View)
    → kind ≡ shown_kind o → displays' ≡ filter (λ v. same_kind v.kind kind) displays → failed' ≡ failed
    → HasBegunOr o.start (Err came) shelf shelf'
    → HasOpenedOr o (Err came) (outside bytes keys readings shelf displays failed)
    (outside bytes keys readings shelf' displays' failed')
not_begun o kind (NotRead why) bytes keys readings shelf shelf' displays displays' failed failed' is kept same begun =
    record {
      name = begun.0;
      named = begun.1;
      shelf = shelf';
      answered = begun.2;
      now_is = asked_is o kind bytes keys readings shelf' displays displays' failed failed' is kept same;
    }
not_begun o kind Memory bytes keys readings shelf shelf' displays displays' failed failed' is kept same begun =
    without_sheet shelf' begun
    (asked_is o kind bytes keys readings shelf' displays displays' failed failed' is kept same)

-- a session that was loaded over a begun desk is what the run begins with
pub loaded_so : (words : Start) (desk : declared.Desk) (before now : ShelfView) (b : HasBegun words desk before now)
    (t : SessionView) (first : Moment) → IsLoaded desk first t → IsOpened b.start first t
loaded_so words desk before now b t first is =
    let from : State = begun_with (desk_from b.start) in
    let made : Follows (loaded first from) (fresh_running (of_desk desk) (work_of desk.sheet 0)) t =
    subst (λ (d : Desk). Follows (loaded first (begun_with d)) (fresh_running (of_desk desk) (work_of desk.sheet 0)) t)
    b.desk_is is.follows in
    record {
      state = made.state;
      work = worked_both (log_from b.start) (loaded first from).log no_work
          (work_of desk.sheet 0) t.work b.worked made.work;
    }

-- a run that wasn't opened since its start file isn't read
pub unread : (o : Options) (came : NotBegun) (why : NotReadWhy) (before now : Outside) → came ≡ NotRead why
    → HasOpenedOr o (Err came) before now → IsUnread o why before now
unread o came why before now is h = subst (λ (n : NotBegun). HasOpenedOr o (Err n) before now) is h

-- one for which memory ran out
pub unopened : (o : Options) (came : NotBegun) (before now : Outside) → came ≡ Memory
    → HasOpenedOr o (Err came) before now → IsUnopened o before now
unopened o came before now is h = subst (λ (n : NotBegun). HasOpenedOr o (Err n) before now) is h

-- the words name a file that isn't read
pub unread_file : (o : Options) (why : NotReadWhy) (before now : Outside) → IsUnread o why before now
    → IsFromFile o.start
unread_file o why before now h = subst IsFromFile (sym h.named) tt

-- the same things are lent at both of two calls
pub same_both : {S C I : Type 0} {V : I → Type 0} (a b c : Lent S C I V) → IsSame a b → IsSame b c → IsSame a c
same_both a b c one other = record {
  shelf = other.shelf ∙ one.shelf;
  clock = other.clock ∙ one.clock;
  displays = other.displays ∙ one.displays;
  failed = other.failed ∙ one.failed;
}
