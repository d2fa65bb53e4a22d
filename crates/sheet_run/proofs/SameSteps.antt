-- Two lists of steps over one outside: where both go on, both come to the same.
use Rattle.std.proofs.Common.{◌≡◌, ◌+◌, ◌≤◌, Bool, true, false, List, [], ◌∷◌, ◌++◌, length, map, Option, Some}
use Rattle.std.proofs.Common.{refl, sym, ap, ◌∙◌, subst, arith, append_assoc, length-append}
use Rattle.std.specs.Prelude.{⊤}
use Rattle.std.proofs.lemmas.Bool.{true≢false}
use Rattle.outside_world.specs.Clock.{TakesReading}
use Rattle.serial_date.specs.declared.moment.Moment.{Moment}
use Rattle.key_words.specs.declared.key.Key.{Key}
use Rattle.commands_file.specs.Alike.{HoldAlike}
use Rattle.commands_file.specs.Calls.{Asked, HaveAnswered, ShelfView}
use Rattle.session_core.specs.Machine.{wants_key, Outcome, Replies, State}
use Rattle.session_core.specs.Screen.{screen}
use Rattle.session_core.specs.Step.{is_key, step, StepTells}
use Rattle.session_core.specs.Unfailing.{NoneFailed}
use Rattle.session_core.specs.declared.event.Event.{Event}
use Rattle.session_core.specs.declared.event.Event.TheVariants.{Key as KeyEvent, Unit as UnitEvent}
use Rattle.sheet_run.specs.Displays.{Screen}
use Rattle.sheet_run.specs.Run.{after, calls_of, happened, key_in, keys_of, moments_of, outcome, screens, stops}
use Rattle.sheet_run.specs.Run.{EndAtLast, Fit, GoOn, Step}
use Rattle.sheet_run.specs.Taking.{TakesReadings}
use Rattle.session_core.proofs.OneOutcome.{one_outcome as one_step}
use Rattle.session_core.proofs.OneResult.{left_alike}
use Rattle.sheet_run.proofs.Fronts.{go_on_front, shorter_begins}
use Rattle.work_sheet.specs.Doing.{Happened}

-- what each of the steps comes to
abbrev pub outcomes : State → List Step → List Outcome
outcomes s [] = []
outcomes s (x ∷ xs) = outcome s x ∷ outcomes (outcome s x).state xs

-- two lists of steps come to the same, and take the same keys and readings
pub record Alike (s t : State) (xs ys : List Step) : Type 0 where
  pub came : outcomes s xs ≡ outcomes t ys
  pub keys : keys_of xs ≡ keys_of ys
  pub moments : moments_of xs ≡ moments_of ys

-- they do so, or one of them does so with the first of the other
pub data Compared (s t : State) (xs ys : List Step) : Type 0 where
  as_long : Alike s t xs ys → Compared s t xs ys
  shorter : (front : List Step) (y : Step) (rest : List Step) → ys ≡ front ++ y ∷ rest → Alike s t xs front →
      Compared s t xs ys
  longer : (front : List Step) (x : Step) (rest : List Step) → xs ≡ front ++ x ∷ rest → Alike s t front ys →
      Compared s t xs ys

-- the state behind some outcomes
abbrev pub last_state : State → List Outcome → State
last_state s [] = s
last_state s (o ∷ os) = last_state o.state os

after_is : (xs : List Step) (s : State) → after s xs ≡ last_state s (outcomes s xs)
after_is [] s = refl
after_is (x ∷ xs) s = after_is xs (outcome s x).state

abbrev logs : List Outcome → List Happened
logs [] = []
logs (o ∷ os) = o.log ++ logs os

happened_is : (xs : List Step) (s : State) → happened s xs ≡ logs (outcomes s xs)
happened_is [] s = refl
happened_is (x ∷ xs) s = ap (λ (l : List Happened). (outcome s x).log ++ l) (happened_is xs (outcome s x).state)

abbrev all_calls : List Outcome → List Asked
all_calls [] = []
all_calls (o ∷ os) = o.calls ++ all_calls os

calls_is : (xs : List Step) (s : State) → calls_of s xs ≡ all_calls (outcomes s xs)
calls_is [] s = refl
calls_is (x ∷ xs) s = ap (λ (l : List Asked). (outcome s x).calls ++ l) (calls_is xs (outcome s x).state)

screens_is : (xs : List Step) (s : State) → screens s xs ≡ map (λ (o : Outcome). screen o.state) (outcomes s xs)
screens_is [] s = refl
screens_is (x ∷ xs) s = ap (λ (l : List Screen). screen (outcome s x).state ∷ l) (screens_is xs (outcome s x).state)

length_is : (xs : List Step) (s : State) → length xs ≡ length (outcomes s xs)
length_is [] s = refl
length_is (x ∷ xs) s = omega (arith, length_is xs (outcome s x).state)

-- the outcomes of steps behind others are those of the ones and then of the others
pub outcomes-append : (front back : List Step) (s : State)
    → outcomes s (front ++ back) ≡ outcomes s front ++ outcomes (after s front) back
outcomes-append [] back s = refl
outcomes-append (x ∷ xs) back s =
    ap (λ (l : List Outcome). outcome s x ∷ l) (outcomes-append xs back (outcome s x).state)

-- the keys of steps behind others are those of the ones and then of the others
pub keys-append : (front back : List Step) → keys_of (front ++ back) ≡ keys_of front ++ keys_of back
keys-append [] back = refl
keys-append (x ∷ xs) back = ap (λ (l : List Key). key_in x.event ++ l) (keys-append xs back)
    ∙ sym (append_assoc (key_in x.event) (keys_of xs) (keys_of back))

-- steps that come to the same from one state leave the same
module _ (s t : State) (xs ys : List Step) (same : s ≡ t) (a : Alike s t xs ys) where
  -- they leave the same state
  pub same_after : after s xs ≡ after t ys
  same_after = after_is xs s ∙ (λ i. last_state (same i) (a.came i)) ∙ sym (after_is ys t)

  -- the same happened in them
  pub same_happened : happened s xs ≡ happened t ys
  same_happened = happened_is xs s ∙ (λ i. logs (a.came i)) ∙ sym (happened_is ys t)

  -- they made the same calls of the shelf
  pub same_calls : calls_of s xs ≡ calls_of t ys
  same_calls = calls_is xs s ∙ (λ i. all_calls (a.came i)) ∙ sym (calls_is ys t)

  -- they came to the same screens
  pub same_screens : screens s xs ≡ screens t ys
  same_screens = screens_is xs s ∙ (λ i. map (λ (o : Outcome). screen o.state) (a.came i)) ∙ sym (screens_is ys t)

  -- they are as many
  pub same_length : length xs ≡ length ys
  same_length = length_is xs s ∙ (λ i. length (a.came i)) ∙ sym (length_is ys t)

-- none of these outcomes ends the run
abbrev pub AllGo : Bool → List Outcome → Type 0
AllGo strict [] = ⊤
AllGo strict (o ∷ os) = (stops strict o ≡ false) × AllGo strict os

-- the last of them does
pub record StopsLast (strict : Bool) (all : List Outcome) : Type 0 where
  pub front : List Outcome
  pub last : Outcome
  pub all_are : all ≡ front ++ last ∷ []
  pub ends : stops strict last ≡ true

-- none of the outcomes of steps that go on ends the run
pub all_go : (strict : Bool) (xs : List Step) (s : State) → GoOn strict s xs → AllGo strict (outcomes s xs)
all_go strict [] s on = tt
all_go strict (x ∷ xs) s on = (on.0, all_go strict xs (outcome s x).state on.1)

-- none of the steps before others ends the run
abbrev pub GoBefore : Bool → State → List Step → Type 0
GoBefore strict s steps = (front : List Step) (x : Step) (rest : List Step) → steps ≡ front ++ x ∷ rest →
    GoOn strict s front

-- before any of steps that go on, the run goes on
pub go_before : (strict : Bool) (s : State) (steps : List Step) → GoOn strict s steps → GoBefore strict s steps
go_before strict s steps on front x rest is = go_on_front strict front (x ∷ rest) s (subst (GoOn strict s) is on)

-- before any of steps whose last ends the run, it goes on
pub last_before : (strict : Bool) (s : State) (steps : List Step) → EndAtLast strict s steps → GoBefore strict s steps
last_before strict s steps last front x rest is =
    let both : front ++ x ∷ rest ≡ last.front ++ last.last ∷ [] = sym is ∙ last.steps_are in
    let count : length front ≤ length last.front =
    omega (arith, ap length both, length-append front (x ∷ rest), length-append last.front (last.last ∷ [])) in
    let more = shorter_begins front (x ∷ rest) last.front (last.last ∷ []) both count in
    go_on_front strict front more.0 s (subst (GoOn strict s) more.1 last.go_on)

-- of the outcomes of steps whose last ends the run, the last ends it
abbrev pub stops_last : (strict : Bool) (s : State) (steps : List Step) → (last : EndAtLast strict s steps) →
    StopsLast strict (outcomes s steps)
stops_last strict s steps last = record {
  front = outcomes s last.front;
  last = outcome (after s last.front) last.last;
  all_are = ap (outcomes s) last.steps_are ∙ outcomes-append last.front (last.last ∷ []) s;
  ends = last.ends;
}

last_goes : (strict : Bool) (front : List Outcome) (last : Outcome) → AllGo strict (front ++ last ∷ []) →
    stops strict last ≡ false
last_goes strict [] last go = go.0
last_goes strict (o ∷ os) last go = last_goes strict os last go.1

-- outcomes that end the run with their last aren't such that none does
pub stop_or_go : (strict : Bool) (some other : List Outcome) → some ≡ other → StopsLast strict some →
    AllGo strict other → ⊥
stop_or_go strict some other same stop go =
    let all : AllGo strict (stop.front ++ stop.last ∷ []) = subst (AllGo strict) (sym same ∙ stop.all_are) go in
    true≢false (sym stop.ends ∙ last_goes strict stop.front stop.last all)

-- lists that are the same have the same last item
pub one_last : {X : Type 0} (xs ys : List X) (a b : X) → xs ++ a ∷ [] ≡ ys ++ b ∷ [] → a ≡ b
one_last [] [] a b e = cc
one_last [] (y ∷ ys) a b e = absurd (omega (arith, ap length e, length-append ys (b ∷ [])))
one_last (x ∷ xs) [] a b e = absurd (omega (arith, ap length e, length-append xs (a ∷ [])))
one_last (x ∷ xs) (y ∷ ys) a b e = let rest : xs ++ a ∷ [] ≡ ys ++ b ∷ [] = cc in one_last xs ys a b rest

-- what is wanted where a step stands among others
pub fit_at : (front rest : List Step) (x : Step) (s : State) → Fit s (front ++ x ∷ rest) →
    is_key x.event ≡ wants_key (after s front)
fit_at [] rest x s fit = fit.0.key
fit_at (y ∷ ys) rest x s fit = fit_at ys rest x (outcome s y).state fit.1

-- an event, by whether a key is wanted and by the keys
pub same_event : (e f : Event) (xs ys : List Key) → is_key e ≡ is_key f → key_in e ++ xs ≡ key_in f ++ ys →
    (e ≡ f) × (xs ≡ ys)
same_event (KeyEvent k) (KeyEvent j) xs ys is keys = let first : k ≡ j = cc in let rest : xs ≡ ys = cc in
    (ap KeyEvent first, rest)
same_event (KeyEvent k) UnitEvent xs ys is keys = absurd (true≢false is)
same_event UnitEvent (KeyEvent j) xs ys is keys = absurd (true≢false (sym is))
same_event UnitEvent UnitEvent xs ys is keys = (refl, keys)

-- one reading of what a clock tells
pub record OneReading (m n : Moment) (one other : Option (List Moment)) : Type 0 where
  pub same : m ≡ n
  pub rest : List Moment
  pub one_is : one ≡ Some rest
  pub other_is : other ≡ Some rest

-- a clock that tells the same gives the same reading, and then tells the same
pub one_reading : (told : List Moment) (one other : Option (List Moment)) (m n : Moment) →
    TakesReading (Some told) one m → TakesReading (Some told) other n → OneReading m n one other
one_reading [] one other m n a b = absurd a
one_reading (x ∷ []) one other m n a b = record { same = a.0 ∙ sym b.0; rest = x ∷ []; one_is = a.1; other_is = b.1 }
one_reading (x ∷ y ∷ more) one other m n a b = record {
  same = a.0 ∙ sym b.0;
  rest = y ∷ more;
  one_is = a.1;
  other_is = b.1;
}

-- readings of what a clock tells, one after another
pub same_readings : (ms : List Moment) (told : List Moment) (one other : Option (List Moment))
    → TakesReadings (Some told) ms one → TakesReadings (Some told) ms other
    → (rest : List Moment) × (one ≡ Some rest) × (other ≡ Some rest)
same_readings [] told one other a b = (told, a, b)
same_readings (m ∷ ms) told one other a b =
    let r = one_reading told a.0 b.0 m m a.1 b.1 in
    same_readings ms r.rest one other (subst (λ (o : Option (List Moment)). TakesReadings o ms one) r.one_is a.2)
    (subst (λ (o : Option (List Moment)). TakesReadings o ms other) r.other_is b.2)

split_answered : (one other : List Asked) (a c : ShelfView) → HaveAnswered (one ++ other) a c →
    (b : ShelfView) × HaveAnswered one a b × HaveAnswered other b c
split_answered [] other a c h = (a, refl, h)
split_answered (k ∷ ks) other a c h = let later = split_answered ks other h.0 c h.2 in
    (later.0, (h.0, h.1, later.1), later.2)

-- calls of which none failed have none that failed before and behind any of them
pub split_fine : (one other : List Asked) → NoneFailed (one ++ other) → NoneFailed one × NoneFailed other
split_fine [] other fine = (tt, fine)
split_fine (k ∷ ks) other fine = let later = split_fine ks other fine.1 in ((fine.0, later.0), later.1)

-- one more step on both sides
more_alike : (s t : State) (x y : Step) (xs ys : List Step) → x.event ≡ y.event → x.moment ≡ y.moment →
    outcome s x ≡ outcome t y → Alike (outcome s x).state (outcome t y).state xs ys → Alike s t (x ∷ xs) (y ∷ ys)
more_alike s t x y xs ys event moment came later = record {
  came = λ i. came i ∷ later.came i;
  keys = λ i. key_in (event i) ++ later.keys i;
  moments = λ i. moment i ∷ later.moments i;
}

more_compared : (s t : State) (x y : Step) (xs ys : List Step) → x.event ≡ y.event → x.moment ≡ y.moment →
    outcome s x ≡ outcome t y → Compared (outcome s x).state (outcome t y).state xs ys → Compared s t (x ∷ xs) (y ∷ ys)
more_compared s t x y xs ys event moment came (as_long a) = as_long (more_alike s t x y xs ys event moment came a)
more_compared s t x y xs ys event moment came (shorter front z rest is a) =
    shorter (y ∷ front) z rest (ap (λ (l : List Step). y ∷ l) is) (more_alike s t x y xs front event moment came a)
more_compared s t x y xs ys event moment came (longer front z rest is a) =
    longer (x ∷ front) z rest (ap (λ (l : List Step). x ∷ l) is) (more_alike s t x y front ys event moment came a)

-- the same step from the same state, with other answers of the shelf
one_outcome : (e f : Event) (m n : Moment) (r q : Replies) (h g : Bool) (s t : State) (a b c d : ShelfView) → e ≡ f
    → m ≡ n → s ≡ t →
    HoldAlike a b → StepTells e m r h s → StepTells f n q g t →
    HaveAnswered (step e m r h s).calls a c → NoneFailed (step e m r h s).calls
    → HaveAnswered (step f n q g t).calls b d →
    NoneFailed (step f n q g t).calls →
    step e m r h s ≡ step f n q g t
one_outcome e f m n r q h g s t a b c d event moment state alike tells tells' had fine had' fine' =
    let same : step e m q g s ≡ step f n q g t = λ i. step (event i) (moment i) q g (state i) in
    let told : StepTells e m q g s =
    subst (λ (u : State). StepTells e m q g u) (sym state)
    (subst (λ (v : Moment). StepTells e v q g t) (sym moment)
    (subst (λ (w : Event). StepTells w n q g t) (sym event) tells')) in
    let calls : (step f n q g t).calls ≡ (step e m q g s).calls = ap (λ (o : Outcome). o.calls) (sym same) in
    (one_step e m s r q h g a b c d alike tells told (record { had = had; fine = fine })
    (record { had = subst (λ (l : List Asked). HaveAnswered l b d) calls had'; fine = subst NoneFailed calls fine' })).0
    ∙ same

-- steps over the same keys, readings and files
pub compare : (xs ys : List Step) (s t : State) (told : List Moment) (read read' : Option (List Moment))
    (a b c d : ShelfView) (more other : List Key) → s ≡ t →
    TakesReadings (Some told) (moments_of xs) read → TakesReadings (Some told) (moments_of ys) read' → Fit s xs →
    Fit t ys → HoldAlike a b →
    HaveAnswered (calls_of s xs) a c → HaveAnswered (calls_of t ys) b d → NoneFailed (calls_of s xs) →
    NoneFailed (calls_of t ys) → keys_of xs ++ more ≡ keys_of ys ++ other → Compared s t xs ys
compare [] [] s t told read read' a b c d more other same took took' fit fit' alike had had' fine fine' keys =
    as_long (record { came = refl; keys = refl; moments = refl })
compare [] (y ∷ ys) s t told read read' a b c d more other same took took' fit fit' alike had had' fine fine' keys =
    shorter [] y ys refl (record { came = refl; keys = refl; moments = refl })
compare (x ∷ xs) [] s t told read read' a b c d more other same took took' fit fit' alike had had' fine fine' keys =
    longer [] x xs refl (record { came = refl; keys = refl; moments = refl })
compare (x ∷ xs) (y ∷ ys) s t told read read' a b c d more other same took took' fit fit' alike had had' fine fine'
    keys =
    let e = same_event x.event y.event (keys_of xs ++ more) (keys_of ys ++ other) (fit.0.key ∙ ap wants_key same
    ∙ sym fit'.0.key) (sym (append_assoc (key_in x.event) (keys_of xs) more) ∙ keys
    ∙ append_assoc (key_in y.event) (keys_of ys) other) in
    let m = one_reading told took.0 took'.0 x.moment y.moment took.1 took'.1 in
    let calls = split_answered (outcome s x).calls (calls_of (outcome s x).state xs) a c had in
    let calls' = split_answered (outcome t y).calls (calls_of (outcome t y).state ys) b d had' in
    let none = split_fine (outcome s x).calls (calls_of (outcome s x).state xs) fine in
    let none' = split_fine (outcome t y).calls (calls_of (outcome t y).state ys) fine' in
    let came : outcome s x ≡ outcome t y =
    one_outcome x.event y.event x.moment y.moment x.replies y.replies x.changed y.changed s t a b calls.0 calls'.0 e.0
    m.same same alike
    fit.0.tells fit'.0.tells
    calls.1 none.0 calls'.1 none'.0 in
    let then_alike : HoldAlike calls.0 calls'.0 =
    left_alike (outcome s x).calls a b calls.0 calls'.0 alike calls.1
    (subst (λ (l : List Asked). HaveAnswered l b calls'.0) (ap (λ (o : Outcome). o.calls) (sym came)) calls'.1)
    none.0 in
    more_compared s t x y xs ys e.0 m.same came
    (compare xs ys (outcome s x).state (outcome t y).state m.rest read read' calls.0 calls'.0 c d more other
    (ap (λ (o : Outcome). o.state) came)
    (subst (λ (o : Option (List Moment)). TakesReadings o (moments_of xs) read) m.one_is took.2)
    (subst (λ (o : Option (List Moment)). TakesReadings o (moments_of ys) read') m.other_is took'.2)
    fit.1 fit'.1 then_alike calls.2 calls'.2 none.1 none'.1 e.1)
