-- Screens that are sent to displays which tell nothing: nothing is asked of them.
use Rattle.std.proofs.Common.{◌≡◌, ◌≤◌, ◌<◌, List, [], ◌∷◌, ◌++◌, length, map, Option, Some, None, Result, Ok, Err}
use Rattle.std.proofs.Common.{refl, ◌∙◌, ap, sym, subst, append_assoc, arith, inl, inr, ℕ}
use Rattle.std.specs.List.{All}
use Rattle.std.specs.Prelude.{◌+◌, false, get_or, is_some}
use Rattle.std.proofs.lemmas.Bool.{cases_lt, true≢false}
use Rattle.std.proofs.lemmas.List.{append-nil, get_or-map, length-map}
use Rattle.std.proofs.lemmas.List.Elements.{All-head, All-tail}
use Rattle.outside_world.specs.Causes.{HasCause}
use Rattle.outside_world.specs.declared.faults.Failed.{Failed}
use Rattle.screen_show.specs.Display.{Shown, View, Sends}
use Rattle.session_core.specs.Machine.{SessionView, State}
use Rattle.sheet_run.specs.Displays.{Screen, Gains, HasFailed, HasGained, Partitions, Sent, Shows, Watched, watched}
use Rattle.sheet_run.specs.Displays.{none as pass_none, kept as pass_kept, no_screen, one_more}
use Rattle.sheet_run.specs.inner.Driving.{HasDriven}
use Rattle.sheet_run.specs.inner.Passing.{HasSentOne, Parts, Passed, none, kept, taken_out}
use Rattle.sheet_run.specs.inner.Sending.{AreUntold}
use Rattle.sheet_run.specs.Run.{moments_of, outcome, screens, HasEnded, HasRun, Outside, Step}
use Rattle.sheet_run.specs.declared.drive.Ending.{Ending}
use Rattle.sheet_run.specs.declared.drive.Ending.TheVariants.{KeysEnded, Undone, Quit, Refused, BadWord, KeysFailed}
use Rattle.sheet_run.specs.declared.drive.Ending.TheVariants.{Stopped, NoMemory}
use Rattle.sheet_run.specs.declared.options.Bounds.{Bounds}
use Rattle.serial_date.specs.declared.moment.Moment.{Moment}
use Rattle.sheet_run.proofs.Shown.{each_left, lifted, views_start, EachGained, Lifted, SentOne}

-- whether a display tells what it shows
abbrev pub IsUntold : View → Type 0
IsUntold v = v.told ≡ None

-- the first of some displays tell nothing
abbrev pub FirstUntold : {D : Type 0} → (D → View) → List D → ℕ → Type 0
FirstUntold see ds place =
    (k : ℕ) (d : View) → k < place → k < length (map see ds) → IsUntold (get_or (map see ds) k d)

-- and the next one too
pub untold_more : {D : Type 0} (see : D → View) (ds : List D) (place : ℕ) (x : D) → place < length ds
    → x ≡ get_or ds place x → false ≡ is_some (see x).told → FirstUntold see ds place → FirstUntold see ds (place + 1)
untold_more see ds place x inside is tells was k d below within = elim (cases_lt k place) [
  | inl before ↦ was k d before within
  | inr past ↦
      let here : place ≡ k = omega (arith, past, below) in
      let seen : get_or (map see ds) k d ≡ see x =
      get_or-map see ds k x d (omega (arith, here, inside))
      ∙ ap see (ap (λ (n : ℕ). get_or ds n x) (sym here) ∙ sym is) in
      subst IsUntold (sym seen) (none_told (see x).told (sym tells))
]
  where
    none_told : (told : Option Shown) → is_some told ≡ false → told ≡ None
    none_told None h = refl
    none_told (Some s) h = absurd (true≢false h)

-- all of them, where those that were looked at are all
pub untold_all : {D : Type 0} (see : D → View) (ds : List D) (place : ℕ) → length ds ≤ place
    → FirstUntold see ds place → (k : ℕ) (d : View) → k < length (map see ds) → IsUntold (get_or (map see ds) k d)
untold_all see ds place short was k d within = was k d (omega (arith, within, length-map ds see, short)) within

untold_sends : (before after : Screen) (told : Option Shown) (result : Result Unit Failed) → told ≡ None
    → Sends before after told told result
untold_sends before after None result h = refl
untold_sends before after (Some s) result h = absurd cc

-- where nothing is told, a pass in which nothing is done sends a screen
none_parts : (before after : Screen) (vs : List View) → AreUntold vs → Parts (HasSentOne before after) vs vs []
none_parts before after [] untold = none
none_parts before after (v ∷ vs) untold =
    kept tt (record {
      shown = untold_sends before after v.told (Ok tt) (All-head IsUntold v vs untold);
      kind = refl;
      cause = record { later = omega arith; failed = tt; fine = refl };
    }) (none_parts before after vs (All-tail IsUntold v vs untold))

-- so none need be sent
pub none_sent : (before after : Screen) (displays failed : List View) → AreUntold displays
    → Passed (HasSentOne before after) displays displays failed failed
none_sent before after displays failed untold =
    record { out = []; parts = none_parts before after displays untold; handed = sym (append-nil failed) }

-- screens that weren't sent have been gained
unsent_gains : (screens : List Screen) (told : Option Shown) → told ≡ None → Shows screens told told
unsent_gains screens None h = refl
unsent_gains screens (Some s) h = absurd cc

unsent_gained : (screens : List Screen) (v : View) → IsUntold v → HasGained screens v v
unsent_gained screens v untold =
    record { same_kind = refl; shown = unsent_gains screens v.told untold; no_fault = refl }

-- a display, before and now the same
abbrev still : View → Watched
still v = watched v v

still_passes : (screens : List Screen) (Failing : View → View → Type 0) (vs : List View) → AreUntold vs
    → Partitions (HasGained screens) Failing (map still vs) (map still vs) []
still_passes screens Failing [] untold = pass_none
still_passes screens Failing (v ∷ vs) untold =
    pass_kept (unsent_gained screens v (All-head IsUntold v vs untold))
    (still_passes screens Failing vs (All-tail IsUntold v vs untold))

still_sent : (start : List View) (done more : List Screen) → AreUntold start → Sent start done (map still start) []
    → Sent start (done ++ more) (map still start) []
still_sent start done [] untold sent =
    subst (λ (ss : List Screen). Sent start ss (map still start) []) (sym (append-nil done)) sent
still_sent start done (s ∷ more) untold sent =
    subst (λ (ss : List Screen). Sent start ss (map still start) []) (append_assoc done (s ∷ []) more)
    (still_sent start (done ++ s ∷ []) more untold
    (one_more s sent (still_passes (done ++ s ∷ []) (HasFailed done) start untold)))

still_gained : (screens : List Screen) (vs : List View) → AreUntold vs → EachGained screens (map still vs)
still_gained screens [] untold = tt
still_gained screens (v ∷ vs) untold = (
  unsent_gained screens v (All-head IsUntold v vs untold),
  still_gained screens vs (All-tail IsUntold v vs untold),
)

-- a screen is sent to a display that tells nothing
record SentUntold (v w : View) (result : Result Unit Failed) : Type 0 where
  was : v.told ≡ None
  now : w.told ≡ None
  kind : w.kind ≡ v.kind
  cause : HasCause v.faults w.faults result

untold_now : (before after : Screen) (told told' : Option Shown) (result : Result Unit Failed) → told ≡ None
    → Sends before after told told' result → told' ≡ None
untold_now before after None told' result h sends = sends
untold_now before after (Some s) told' result h sends = absurd cc

sent_untold : (before after : Screen) (v w : View) (result : Result Unit Failed) → IsUntold v
    → HasSentOne before after v w result → SentUntold v w result
sent_untold before after v w result untold sent = record {
  was = untold;
  now = untold_now before after v.told w.told result untold sent.shown;
  kind = sent.kind;
  cause = sent.cause;
}

untold_parts : (before after : Screen) (vs ks fs : List View) → AreUntold vs
    → Parts (HasSentOne before after) vs ks fs → Parts SentUntold vs ks fs
untold_parts before after vs ks fs untold none = none
untold_parts before after vs ks fs untold (kept {v} {w} {vs = later} {ks = more} u did rest) =
    kept u (sent_untold before after v w (Ok u) (All-head IsUntold v later untold) did)
    (untold_parts before after later more fs (All-tail IsUntold v later untold) rest)
untold_parts before after vs ks fs untold (taken_out {v} {w} {vs = later} {fs = more} f did rest) =
    taken_out f (sent_untold before after v w (Err f) (All-head IsUntold v later untold) did)
    (untold_parts before after later ks more (All-tail IsUntold v later untold) rest)

-- what an untold display gained before tells of it from before the run on
told_none : (screens : List Screen) (a b : Option Shown) → Shows screens a b → b ≡ None → a ≡ None
told_none screens None b shows h = refl
told_none screens (Some s) None shows h = absurd shows
told_none screens (Some s) (Some t) shows h = absurd cc

shows_none : (screens : List Screen) (a b : Option Shown) → a ≡ None → b ≡ None → Shows screens a b
shows_none screens None b h k = k
shows_none screens (Some s) b h k = absurd cc

gains_none : (screens : List Screen) (a b : Option Shown) → a ≡ None → b ≡ None → Gains screens a b
gains_none screens None b h k = k
gains_none screens (Some s) b h k = absurd cc

module _ (front all : List Screen) where
  untold_keeps : (d : Watched) (w : View) (u : Unit {0}) → HasGained front d.before d.now
      → SentUntold d.now w (Ok u) → HasGained all d.before w
  untold_keeps d w u had sent = record {
    same_kind = sent.kind ∙ had.same_kind;
    shown = shows_none all d.before.told w.told (told_none front d.before.told d.now.told had.shown sent.was) sent.now;
    no_fault = sent.cause.fine ∙ had.no_fault;
  }

  untold_fails : (d : Watched) (w : View) (f : Failed) → HasGained front d.before d.now
      → SentUntold d.now w (Err f) → HasFailed front d.before w
  untold_fails d w f had sent = record {
    same_kind = sent.kind ∙ had.same_kind;
    gained = gains_none front d.before.told w.told (told_none front d.before.told d.now.told had.shown sent.was)
        sent.now;
    fault = rw (← had.no_fault) sent.cause.failed;
  }

-- Displays that tell nothing were sent the last of some screens alone, which is as good as all of them.
sent_at_last : (start : List View) (front : List Screen) (s before after : Screen) (displays failed failed' : List View)
    → AreUntold start → Passed (HasSentOne before after) start displays failed failed'
    → SentOne start (front ++ s ∷ []) displays failed failed'
sent_at_last start front s before after displays failed failed' untold passed =
    let l : Lifted (HasGained (front ++ s ∷ [])) (HasFailed front) (map still start) displays passed.out =
    lifted front SentUntold (HasGained (front ++ s ∷ [])) (HasFailed front) (untold_keeps front (front ++ s ∷ []))
    (untold_fails front (front ++ s ∷ [])) (map still start) start displays passed.out
    (untold_parts before after start displays passed.out untold passed.parts) (views_start start)
    (still_gained front start untold) in
    let sent : Sent start (front ++ s ∷ []) l.stay l.gone =
    one_more s (still_sent start [] front untold no_screen) l.passes in
    record {
      left = l.stay;
      out = l.gone;
      sent = sent;
      displays_are = l.stay_views;
      failed_are = passed.handed ∙ ap (λ (fs : List View). failed ++ fs) l.gone_views;
      each = each_left start (front ++ s ∷ []) l.stay l.gone sent;
    }

-- some screens have a last one
record HasLast (all : List Screen) : Type 0 where
  front : List Screen
  last : Screen
  is : all ≡ front ++ last ∷ []

has_last : (s : Screen) (more : List Screen) → HasLast (s ∷ more)
has_last s [] = record { front = []; last = s; is = refl }
has_last s (t ∷ more) =
    let rest : HasLast (t ∷ more) = has_last t more in
    record { front = s ∷ rest.front; last = rest.last; is = ap (λ (ss : List Screen). s ∷ ss) rest.is }

some_last : (all : List Screen) → 0 < length all → HasLast all
some_last [] some = absurd (omega arith)
some_last (s ∷ more) some = has_last s more

all_sent : (start : List View) (all : List Screen) (before after : Screen) (displays failed failed' : List View)
    → 0 < length all → AreUntold start → Passed (HasSentOne before after) start displays failed failed'
    → SentOne start all displays failed failed'
all_sent start all before after displays failed failed' some untold passed =
    let h : HasLast all = some_last all some in
    subst (λ (ss : List Screen). SentOne start ss displays failed failed') (sym h.is)
    (sent_at_last start h.front h.last before after displays failed failed' untold passed)

length-screens : (s : State) (steps : List Step) → length (screens s steps) ≡ length steps
length-screens s [] = refl
length-screens s (x ∷ xs) = omega (arith, length-screens (outcome s x).state xs)

module _ (bounds : Bounds) (from : SessionView) (before mid : Outside) (displays failed : List View)
    (steps : List Step) (left out : List Watched)
    (one : SentOne before.displays (screens from.state steps) displays before.failed failed) where
  -- the outside behind the screen
  abbrev now : Outside
  now = record mid { displays = displays; failed = failed }

  did_last : (taken : List ℕ) (moments : List Moment)
      → HasRun bounds from.state taken moments steps left out before mid →
      HasRun bounds from.state taken moments steps one.left one.out before now
  did_last taken moments did = record {
    fit = did.fit;
    bytes = did.bytes;
    readings = did.readings;
    shelf = did.shelf;
    sent = one.sent;
    displays = one.displays_are;
    failed = one.failed_are;
    within = did.within;
    few = did.few;
  }

  -- the run ended as it did before the last screen was sent
  ended_last : (ending : Ending) → (ending ≡ NoMemory → ⊥) →
      HasEnded bounds from.state steps left out before mid ending →
      HasEnded bounds from.state steps one.left one.out before now ending
  ended_last KeysEnded goes e = record {
    taken = e.taken;
    did = did_last e.taken (moments_of steps) e.did;
    go_on = e.go_on;
    wanted = e.wanted;
    spelled = e.spelled;
    ended = e.ended;
    done = e.done;
    no_fault = e.no_fault;
  }
  ended_last (Undone count at) goes e = record {
    taken = e.taken;
    did = did_last e.taken (moments_of steps) e.did;
    go_on = e.go_on;
    wanted = e.wanted;
    spelled = e.spelled;
    ended = e.ended;
    undone = e.undone;
    made = e.made;
    place = e.place;
    no_fault = e.no_fault;
  }
  ended_last Quit goes e = record {
    taken = e.taken;
    did = did_last e.taken (moments_of steps) e.did;
    spelled = e.spelled;
    last = e.last;
    quit = e.quit;
    no_fault = e.no_fault;
  }
  ended_last (Refused count at) goes e = record {
    taken = e.taken;
    did = did_last e.taken (moments_of steps) e.did;
    spelled = e.spelled;
    last = e.last;
    no_quit = e.no_quit;
    made = e.made;
    place = e.place;
    no_fault = e.no_fault;
  }
  ended_last (BadWord at) goes (inl e) = inl (record {
    taken = e.taken;
    did = did_last e.taken (moments_of steps) e.did;
    go_on = e.go_on;
    wanted = e.wanted;
    keys = e.keys;
    no_text = e.no_text;
    ended = e.ended;
    place = e.place;
    no_fault = e.no_fault;
  })
  ended_last (BadWord at) goes (inr e) = inr (record {
    taken = e.taken;
    bad = e.bad;
    did = did_last (e.taken ++ e.bad ∷ []) (moments_of steps) e.did;
    go_on = e.go_on;
    wanted = e.wanted;
    keys = e.keys;
    begins_none = e.begins_none;
    place = e.place;
    no_fault = e.no_fault;
  })
  ended_last KeysFailed goes e = record {
    taken = e.taken;
    did = did_last e.taken (moments_of steps) e.did;
    go_on = e.go_on;
    wanted = e.wanted;
    keys = e.keys;
    fault = e.fault;
  }
  ended_last Stopped goes e = record {
    taken = e.taken;
    next = e.next;
    did = did_last e.taken (moments_of steps) e.did;
    go_on = e.go_on;
    all = e.all;
    fits = e.fits;
    spelled = e.spelled;
    no_fault = e.no_fault;
  }
  ended_last NoMemory goes e = absurd (goes refl)

-- A run whose displays tell nothing was driven, and then the last screen was sent: as if each had been.
pub last_sent : (bounds : Bounds) (from t : SessionView) (before mid : Outside) (ending : Ending)
    (shown s : Screen) (displays failed : List View) (driven : HasDriven bounds from t before mid ending)
    → 0 < length driven.steps → (ending ≡ NoMemory → ⊥) → AreUntold before.displays →
    mid.displays ≡ before.displays → mid.failed ≡ before.failed →
    Passed (HasSentOne shown s) mid.displays displays mid.failed failed
    → HasDriven bounds from t before (record mid { displays = displays; failed = failed }) ending
last_sent bounds from t before mid ending shown s displays failed driven some goes untold same same_failed passed =
    let from_start : Passed (HasSentOne shown s) before.displays displays before.failed failed =
    subst (λ (ds : List View). Passed (HasSentOne shown s) ds displays before.failed failed) same
    (subst (λ (fs : List View). Passed (HasSentOne shown s) mid.displays displays fs failed) same_failed passed) in
    let one = all_sent before.displays (screens from.state driven.steps) shown s displays before.failed failed
    (omega (arith, some, length-screens from.state driven.steps)) untold from_start in
    record {
      steps = driven.steps;
      left = one.left;
      out = one.out;
      ended = ended_last bounds from before mid displays failed driven.steps driven.left driven.out one ending goes
          driven.ended;
      state = driven.state;
    }
