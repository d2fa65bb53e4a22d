-- Lists that begin others, and the first of some steps.
use Rattle.std.proofs.Common.{◌≡◌, ℕ, ◌≤◌, Bool, true, List, [], ◌∷◌, ◌++◌, length, refl, sym, ap, ◌∙◌, subst, arith}
use Rattle.std.proofs.Common.{append_assoc, length-append}
use Rattle.std.proofs.lemmas.List.{append-nil, map-append}
use Rattle.commands_file.specs.Calls.{Asked, HaveAnswered, ShelfView}
use Rattle.key_words.specs.declared.key.Key.{Key}
use Rattle.serial_date.specs.declared.moment.Moment.{Moment}
use Rattle.session_core.specs.Machine.{wants_key, State}
use Rattle.session_core.specs.Unfailing.{NoneFailed}
use Rattle.session_core.specs.Step.{is_key}
use Rattle.session_core.specs.declared.event.Event.{Event}
use Rattle.session_core.specs.declared.event.Event.TheVariants.{Key as KeyEvent, Unit as UnitEvent}
use Rattle.sheet_run.specs.Completeness.{any, begins, unfailing, Answers, Beginning, Count, MayMake, QuitWithin}
use Rattle.sheet_run.specs.Opening.{opening}
use Rattle.sheet_run.specs.Run.{after, calls_of, key_in, keys_of, moments_of, outcome, Fit, GoOn, Outside, Step}
use Rattle.sheet_run.specs.Taking.{TakesReadings}
use Rattle.sheet_run.proofs.Taken.{readings_front}

-- of two lists that begin one, the shorter begins the other
pub shorter_begins : {X : Type 0} (a b c d : List X) → a ++ b ≡ c ++ d → length a ≤ length c
    → (m : List X) × (c ≡ a ++ m)
shorter_begins [] b c d e short = (c, refl)
shorter_begins (x ∷ a) b [] d e short = absurd (omega (arith, short))
shorter_begins {X} (x ∷ a) b (y ∷ c) d e short =
    let first : x ≡ y = cc in
    let rest : a ++ b ≡ c ++ d = cc in
    let more = shorter_begins a b c d rest (omega (arith, short)) in
    (more.0, ap (λ (z : X). z ∷ c) (sym first) ∙ ap (λ (l : List X). x ∷ l) more.1)

-- what holds of some steps holds of the first of them
fit_front : (front back : List Step) (s : State) → Fit s (front ++ back) → Fit s front
fit_front [] back s fit = tt
fit_front (x ∷ xs) back s fit = (fit.0, fit_front xs back (outcome s x).state fit.1)

-- none of the first of steps that go on ends the run
pub go_on_front : (strict : Bool) (front back : List Step) (s : State) → GoOn strict s (front ++ back)
    → GoOn strict s front
go_on_front strict [] back s on = tt
go_on_front strict (x ∷ xs) back s on = (on.0, go_on_front strict xs back (outcome s x).state on.1)

calls_front : (front back : List Step) (s : State)
    → calls_of s (front ++ back) ≡ calls_of s front ++ calls_of (after s front) back
calls_front [] back s = refl
calls_front (x ∷ xs) back s =
    ap (λ (l : List Asked). (outcome s x).calls ++ l) (calls_front xs back (outcome s x).state)
    ∙ sym (append_assoc (outcome s x).calls (calls_of (outcome s x).state xs) (calls_of (after s (x ∷ xs)) back))

answered_front : (one other : List Asked) (a c : ShelfView) → HaveAnswered (one ++ other) a c
    → (b : ShelfView) × HaveAnswered one a b
answered_front [] other a c h = (a, refl)
answered_front (k ∷ ks) other a c h = let later = answered_front ks other h.0 c h.2 in (later.0, (h.0, h.1, later.1))

-- where all answers count, the first of them do
none_failed_front : (one other : List Asked) → NoneFailed (one ++ other) → NoneFailed one
none_failed_front [] other fine = tt
none_failed_front (k ∷ ks) other fine = (fine.0, none_failed_front ks other fine.1)

count_front : (answers : Answers) (one other : List Asked) → Count answers (one ++ other) → Count answers one
count_front any one other count = tt
count_front unfailing one other count = none_failed_front one other count

-- a run that may make some steps may make the first of them, over whichever keys begin with theirs
pub may_begin : (answers : Answers) (before : Outside) (start : Beginning) (first : Moment) (all rest : List Key)
    (steps front back : List Step) → MayMake answers before start first all rest steps → steps ≡ front ++ back
    → (keys left : List Key) → keys ≡ keys_of front ++ left → MayMake answers before start first keys left front
may_begin answers before start first all rest steps front back m is keys left keys_are =
    let s : State = (begins start first) in
    let calls : List Asked = (opening start.sheet first).calls in
    let moments : TakesReadings before.readings ((first ∷ moments_of front) ++ moments_of back) m.readings =
    subst (λ (ms : List Moment). TakesReadings before.readings (first ∷ ms) m.readings)
    (ap moments_of is ∙ map-append (λ (x : Step). x.moment) front back) m.took in
    let split : calls ++ calls_of s steps ≡ (calls ++ calls_of s front) ++ calls_of (after s front) back =
    ap (λ (xs : List Step). calls ++ calls_of s xs) is ∙ ap (λ (l : List Asked). calls ++ l) (calls_front front back s)
    ∙ sym (append_assoc calls (calls_of s front) (calls_of (after s front) back)) in
    let called_all : HaveAnswered ((calls ++ calls_of s front) ++ calls_of (after s front) back) before.shelf m.shelf =
    subst (λ (l : List Asked). HaveAnswered l before.shelf m.shelf) split m.answered in
    let read = readings_front (first ∷ moments_of front) (moments_of back) before.readings m.readings moments in
    let called =
    answered_front (calls ++ calls_of s front) (calls_of (after s front) back) before.shelf m.shelf called_all in
    record {
      readings = read.0;
      took = read.1;
      shelf = called.0;
      answered = called.1;
      count = count_front answers (calls ++ calls_of s front) (calls_of (after s front) back)
          (subst (Count answers) split m.count);
      fit = fit_front front back s (subst (Fit s) is m.fit);
      go_on = go_on_front start.strict front back s (subst (GoOn start.strict s) is m.go_on);
      keys_are = keys_are;
    }

-- the first of these steps, by which these keys are taken, and behind which another is wanted
record Before (keys : List Key) (s : State) (steps : List Step) : Type 0 where
  pub front : List Step
  pub back : List Step
  pub steps_are : steps ≡ front ++ back
  pub keys_are : keys ≡ keys_of front
  pub wanted : wants_key (after s front) ≡ true

-- a step before others of which that is known
step_before : (keys more : List Key) (k : Key) (x : Step) (xs : List Step) (s : State) (event : Event) → x.event ≡ event
    → key_in event ++ keys_of xs ≡ keys ++ k ∷ more → is_key event ≡ wants_key s →
    ((ks : List Key) → keys_of xs ≡ ks ++ k ∷ more → Before ks (outcome s x).state xs) → Before keys s (x ∷ xs)
step_before keys more k x xs s UnitEvent is e fits later =
    let b = later keys e in
    record {
      front = x ∷ b.front;
      back = b.back;
      steps_are = ap (λ (l : List Step). x ∷ l) b.steps_are;
      keys_are = b.keys_are ∙ ap (λ (v : Event). key_in v ++ keys_of b.front) (sym is);
      wanted = b.wanted;
    }
step_before [] more k x xs s (KeyEvent j) is e fits later =
    record { front = []; back = x ∷ xs; steps_are = refl; keys_are = refl; wanted = sym fits }
step_before (y ∷ ys) more k x xs s (KeyEvent j) is e fits later =
    let same : j ≡ y = cc in
    let rest : keys_of xs ≡ ys ++ k ∷ more = cc in
    let b = later ys rest in
    record {
      front = x ∷ b.front;
      back = b.back;
      steps_are = ap (λ (l : List Step). x ∷ l) b.steps_are;
      keys_are = ap (λ (z : Key). z ∷ ys) (sym same) ∙ ap (λ (l : List Key). j ∷ l) b.keys_are
          ∙ ap (λ (v : Event). key_in v ++ keys_of b.front) (sym is);
      wanted = b.wanted;
    }

before_key : (keys more : List Key) (k : Key) (steps : List Step) (s : State) → keys_of steps ≡ keys ++ k ∷ more
    → Fit s steps → Before keys s steps
before_key keys more k [] s e fit = absurd (omega (arith, ap length e, length-append keys (k ∷ more)))
before_key keys more k (x ∷ xs) s e fit = step_before keys more k x xs s x.event refl e fit.0.key
    (λ ks rest. before_key ks more k xs (outcome s x).state rest fit.1)

module _ (answers : Answers) (before : Outside) (start : Beginning) (first : Moment) (limit : ℕ) (all left : List Key)
    (steps : List Step) (m : MayMake answers before start first all left steps) (keys : List Key)
    (quits : QuitWithin answers before start limit keys) where
  -- a run takes no key behind those by which it is quit
  none_behind : (k : Key) (more : List Key) → keys_of steps ≡ keys ++ k ∷ more → ⊥
  none_behind k more e =
      let b = before_key keys more k steps (begins start first) e m.fit in
      let begun = may_begin answers before start first all left steps b.front b.back m b.steps_are keys []
      (b.keys_are ∙ sym (append-nil (keys_of b.front))) in
      (quits first [] b.front begun).1 (b.wanted, refl)

  -- the steps, seen over the keys by which the run is quit
  over : (rest : List Key) → keys ≡ keys_of steps ++ rest → MayMake answers before start first keys rest steps
  over rest e = may_begin answers before start first all left steps steps [] m (sym (append-nil steps)) keys rest e

  over_all : keys_of steps ≡ keys ++ [] → MayMake answers before start first keys [] steps
  over_all e = over [] (sym (append-nil keys) ∙ sym e ∙ sym (append-nil (keys_of steps)))

  -- a run whose keys begin with those by which it is quit doesn't go on where it wants a key
  pub must_quit : (rest : List Key) → keys_of steps ≡ keys ++ rest
      → wants_key (after (begins start first) steps) ≡ true → ⊥
  must_quit [] e wanted = (quits first [] steps (over_all e)).1 (wanted, refl)
  must_quit (k ∷ more) e wanted = none_behind k more e

  -- nor behind as many steps as the limit
  pub quit_by_then : (rest : List Key) → keys_of steps ≡ keys ++ rest → length steps ≡ limit → ⊥
  quit_by_then [] e count = omega (arith, (quits first [] steps (over_all e)).0, count)
  quit_by_then (k ∷ more) e count = none_behind k more e

  -- nor within the keys by which it is quit, after as many steps as the limit
  pub quit_before : (rest : List Key) → keys ≡ keys_of steps ++ rest → length steps ≡ limit → ⊥
  quit_before rest e count = omega (arith, (quits first rest steps (over rest e)).0, count)
