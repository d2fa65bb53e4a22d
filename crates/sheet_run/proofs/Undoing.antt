-- As many undos as commands.
use Rattle.std.proofs.Common.{◌≡◌, ℕ, zero, suc, ◌+◌, ◌≤◌, Bool, true, false, List, [], ◌∷◌, ◌++◌, length, Option, None}
use Rattle.std.proofs.Common.{Some, refl, ap, sym, subst, ◌∙◌, arith, inr}
use Rattle.std.proofs.lemmas.Bool.{false≢true}
use Rattle.std.specs.Prelude.{◌&&◌, if◌then◌else◌, not, take}
use Rattle.command_desk.specs.Desks.{on_sheet, Desk}
use Rattle.commands_file.specs.Calls.{Asked}
use Rattle.formula_parts.specs.declared.look.Scene.{Scene}
use Rattle.key_words.specs.declared.key.Key.TheVariants as key
use Rattle.macro_engine.specs.Keys.{takes_key}
use Rattle.macro_words.specs.declared.running.Running.{Running}
use Rattle.session_rooms.specs.declared.rooms.Room.{Room}
use Rattle.session_rooms.specs.declared.rooms.Room.TheVariants as room
use Rattle.session_rooms.specs.declared.turn.Turn.{Turn}
use Rattle.session_rooms.specs.declared.turn.Turn.TheVariants as turn
use Rattle.session_core.specs.Carrying.{carried, undone_to}
use Rattle.session_core.specs.Keeping.{begun_for, command_ended}
use Rattle.session_core.specs.Machine.{afresh, is_running, quiet, scene_at, sheet_of, Outcome, State}
use Rattle.session_core.specs.Pressing.{turn_of}
use Rattle.session_core.specs.Standing.{is_at_rest, is_ready}
use Rattle.session_core.specs.Step.{by_key, by_waiting_macro, event_taken, framed, typed_into}
use Rattle.session_core.specs.Undoing.{GoesForward, Rests}
use Rattle.session_core.specs.declared.event.Event.{Event}
use Rattle.session_core.specs.declared.event.Event.TheVariants.{Key as KeyEvent, Unit as UnitEvent}
use Rattle.session_core.proofs.Begun.{ended_beside, none_at_end, not_over}
use Rattle.session_core.proofs.Remembering.{ended_kept, goes_on, not_ended, went, Goes, Went}
use Rattle.sheet_undo.proofs.Undone.{first_back}
use Rattle.sheet_undo.specs.Histories.{all_kept, undone, with_kept, History, IsAlike}
use Rattle.work_sheet.specs.Seen.{Sheet}
use Rattle.sheet_run.specs.Run.{after, calls_of, outcome, Fit, Step}
use Rattle.sheet_run.specs.Undoing.{after_all, AreCommands, AreUndos, AreUnderWay, GiveBack, GoForward, IsCommand}

-- the event of a step, before a command is ended
abbrev taken : State → Step → Outcome
taken s x = event_taken x.event x.replies (scene_at s x.moment) (afresh s)

-- the state behind it
abbrev behind : State → Step → State
behind s x = (taken s x).state

-- the end of a command, and the screen, leave whether the session rests
rest_same : (s : State) (x : Step) → is_at_rest (outcome s x).state ≡ is_at_rest (behind s x)
rest_same s x = ap (λ (t : State). is_at_rest t) (ended_beside x.changed (behind s x)).is

sheet_same : (s : State) (x : Step) → sheet_of (outcome s x).state ≡ sheet_of (behind s x)
sheet_same s x = ap (λ (t : State). sheet_of t) (ended_beside x.changed (behind s x)).is

forward_afresh : (e : Event) (s : State) → GoesForward e s → GoesForward e (afresh s)
forward_afresh (KeyEvent k) s forward = forward
forward_afresh UnitEvent s forward = forward

-- a step that takes no command back goes on with the command
went_by : (s : State) (x : Step) (xs : List Step) (b : Sheet) (kept : List Sheet) → Goes b kept s → Fit s (x ∷ xs) →
    GoForward s (x ∷ xs) → Went b kept (behind s x)
went_by s x xs b kept g fit forward =
    went x.event x.replies (scene_at s x.moment) (afresh s) b kept fit.0.key (forward_afresh x.event s forward.0)
    (record { stays = g.stays; from = g.from })

-- the history with a state kept, and none begun
abbrev only_kept : Sheet → List Sheet → History
only_kept b kept = record { kept = with_kept b kept; begun = None }

last_kept : (s : State) (x : Step) (b : Sheet) (kept : List Sheet) → Goes b kept s → Fit s (x ∷ []) →
    GoForward s (x ∷ []) → is_at_rest (outcome s x).state ≡ true → (IsAlike b (sheet_of (outcome s x).state) → ⊥) →
    (outcome s x).state.history ≡ only_kept b kept
last_kept s x b kept g fit forward rest differs =
    ended_kept x.changed b kept (behind s x) (sym (rest_same s x) ∙ rest) fit.0.tells
    (λ alike. differs (subst (IsAlike b) (sym (sheet_same s x)) alike)) (went_by s x [] b kept g fit forward)

on_frame : (s t u : State) (b : Sheet) (kept : List Sheet) (x : Step) → t ≡ u → Goes b kept u →
    Goes b kept (framed x.moment t)
on_frame s t u b kept x e g =
    let here : Goes b kept t = subst (Goes b kept) (sym e) g in
    record { stays = here.stays; from = here.from }

steps_kept : (front : List Step) (last : Step) (s : State) (b : Sheet) (kept : List Sheet) → Goes b kept s →
    Fit s (front ++ last ∷ []) → GoForward s (front ++ last ∷ []) → AreUnderWay s front →
    is_at_rest (after s (front ++ last ∷ [])) ≡ true → (IsAlike b (sheet_of (after s (front ++ last ∷ []))) → ⊥) →
    (after s (front ++ last ∷ [])).history ≡ only_kept b kept
steps_kept [] last s b kept g fit forward way rest differs = last_kept s last b kept g fit forward rest differs
steps_kept (x ∷ xs) last s b kept g fit forward way rest differs =
    let w : Went b kept (behind s x) = went_by s x (xs ++ last ∷ []) b kept g fit forward in
    let busy : is_at_rest (behind s x) ≡ false = sym (rest_same s x) ∙ way.0 in
    let next : Goes b kept (outcome s x).state =
    on_frame s (command_ended x.changed (behind s x)) (behind s x) b kept x (not_ended x.changed (behind s x) busy)
    (goes_on b kept (behind s x) busy w) in
    steps_kept xs last (outcome s x).state b kept next fit.1 forward.1 way.1 rest differs

-- in READY outside a macro none runs
not_runs : (r : Option Running) (s : State) (x : Room)
    → (is_ready x && not (is_running (record s { running = r }))) ≡ true →
    r ≡ None
not_runs None s x rest = refl
not_runs (Some r) s room.Ready rest = absurd (false≢true rest)
not_runs (Some r) s (room.Typing x) rest = absurd (false≢true rest)
not_runs (Some r) s (room.Pointing x) rest = absurd (false≢true rest)
not_runs (Some r) s (room.Menu x) rest = absurd (false≢true rest)
not_runs (Some r) s (room.Asking x) rest = absurd (false≢true rest)
not_runs (Some r) s (room.Failed m) rest = absurd (false≢true rest)

no_macro : (s : State) → is_at_rest s ≡ true → s.running ≡ None
no_macro s rest = not_runs s.running s s.room rest

-- a command that changed the sheet keeps the state before it, and the session then rests
command_kept : (s : State) (c : List Step) → Rests s → IsCommand s c →
    (after s c).history ≡ only_kept (sheet_of s) s.history.kept
command_kept s c rests command =
    let g : Goes (sheet_of s) s.history.kept s =
    record { stays = refl; from = inr (rests.none, (no_macro s rests.ready, refl)) } in
    let is = command.steps_are in
    subst (λ (l : List Step). (after s l).history ≡ only_kept (sheet_of s) s.history.kept) (sym is)
    (steps_kept command.front command.last s (sheet_of s) s.history.kept g (subst (Fit s) is command.fit)
    (subst (GoForward s) is command.forward) command.under_way
    (subst (λ (l : List Step). is_at_rest (after s l) ≡ true) is command.rests)
    (subst (λ (l : List Step). IsAlike (sheet_of s) (sheet_of (after s l)) → ⊥) is command.differs))

rests_behind : (s : State) (c : List Step) → Rests s → IsCommand s c → Rests (after s c)
rests_behind s c rests command =
    record { ready = command.rests; none = ap (λ (h : History). h.begun) (command_kept s c rests command) }

-- the sheets before these commands
abbrev sheets : State → List (List Step) → List Sheet
sheets s [] = []
sheets s (c ∷ cs) = sheet_of s ∷ sheets (after s c) cs

all_rest : (s : State) (cs : List (List Step)) → Rests s → AreCommands s cs → Rests (after_all s cs)
all_rest s [] rests are = rests
all_rest s (c ∷ cs) rests are = all_rest (after s c) cs (rests_behind s c rests are.0) are.1

commands_kept : (s : State) (cs : List (List Step)) → Rests s → AreCommands s cs →
    (after_all s cs).history.kept ≡ all_kept (sheets s cs) s.history.kept
commands_kept s [] rests are = refl
commands_kept s (c ∷ cs) rests are =
    commands_kept (after s c) cs (rests_behind s c rests are.0) are.1
    ∙ ap (λ (h : History). all_kept (sheets (after s c) cs) h.kept) (command_kept s c rests are.0)

sheets_long : (s : State) (cs : List (List Step)) → length (sheets s cs) ≡ length cs
sheets_long s [] = refl
sheets_long s (c ∷ cs) = ap suc (sheets_long (after s c) cs)

-- READY takes UNDO as the turn that takes a command back
undo_turn : (s : State) (r : Room) → (is_ready r && not (is_running s)) ≡ true →
    turn_of key.Undo r s.end s.desk ≡ turn.Undo
undo_turn s room.Ready rest = refl
undo_turn s (room.Typing r) rest = absurd (false≢true rest)
undo_turn s (room.Pointing r) rest = absurd (false≢true rest)
undo_turn s (room.Menu r) rest = absurd (false≢true rest)
undo_turn s (room.Asking r) rest = absurd (false≢true rest)
undo_turn s (room.Failed m) rest = absurd (false≢true rest)

-- an undo came to the latest kept state
record IsBack (b : Sheet) (kept : List Sheet) (s : State) (o : Outcome) : Type 0 where
  desk : o.state.desk ≡ on_sheet s.desk b
  channel : o.state.channel ≡ s.channel
  left : o.state.history.kept ≡ kept
  no_calls : o.calls ≡ []
  rests : Rests o.state

-- what an undo comes to, by the kept states
abbrev undone_by : State → List Sheet → Scene → Outcome
undone_by s kept scene = undone_to kept scene (typed_into key.Undo (afresh s))

-- UNDO, where no macro takes it
undo_taken : (s : State) (x : Step) → Rests s → x.event ≡ KeyEvent key.Undo →
    taken s x ≡ undone_by s s.history.kept (scene_at s x.moment)
undo_taken s x rests is =
    let scene : Scene = scene_at s x.moment in
    let u : State = typed_into key.Undo (afresh s) in
    let none = no_macro s rests.ready in
    ap (λ (e : Event). event_taken e x.replies scene (afresh s)) is
    ∙ ap (λ (r : Option Running). if takes_key key.Undo r then by_waiting_macro key.Undo x.replies scene
    (afresh s) else by_key key.Undo x.replies scene (afresh s)) none
    ∙ ap (λ (t : Turn). carried t x.replies scene (begun_for t u)) (undo_turn s s.room rests.ready)
    ∙ ap (λ (r : Option Running). if is_running (record u { running = r }) then quiet u else undone_to s.history.kept
    scene u) none

undo_back : (s : State) (x : Step) (b : Sheet) (kept : List Sheet) → Rests s → x.event ≡ KeyEvent key.Undo →
    s.history.kept ≡ b ∷ kept → IsBack b kept s (outcome s x)
undo_back s x b kept rests is there =
    let scene : Scene = scene_at s x.moment in
    let back : Outcome = undone_by s (b ∷ kept) scene in
    let u : taken s x ≡ back = undo_taken s x rests is ∙ ap (λ (l : List Sheet). undone_by s l scene) there in
    let none : (behind s x).history.begun ≡ None = ap (λ (o : Outcome). o.state.history.begun) u in
    let same : command_ended x.changed (behind s x) ≡ behind s x =
    not_over x.changed (behind s x) (none_at_end (behind s x) none) in
    let now : (outcome s x).state ≡ framed x.moment back.state =
    ap (λ (t : State). framed x.moment t) (same ∙ ap (λ (o : Outcome). o.state) u) in
    record {
      desk = ap (λ (t : State). t.desk) now;
      channel = ap (λ (t : State). t.channel) now;
      left = ap (λ (t : State). t.history.kept) now;
      no_calls = ap (λ (o : Outcome). o.calls) u;
      rests = record {
        ready = ap (λ (t : State). is_at_rest t) now
            ∙ ap (λ (r : Option Running). not (is_running (record s { running = r }))) (no_macro s rests.ready);
        none = ap (λ (t : State). t.history.begun) now;
      };
    }

-- what some undos leave
record AreBack (kept : List Sheet) (s : State) (undos : List Step) : Type 0 where
  desk : (after s undos).desk ≡ on_sheet s.desk (undone (length undos) kept (sheet_of s))
  channel : (after s undos).channel ≡ s.channel
  no_calls : calls_of s undos ≡ []

undos_back : (undos : List Step) (s : State) (kept : List Sheet) → Rests s → AreUndos undos → s.history.kept ≡ kept →
    length undos ≤ length kept → AreBack kept s undos
undos_back [] s kept rests are there enough = record { desk = refl; channel = refl; no_calls = refl }
undos_back (x ∷ xs) s [] rests are there enough = absurd (omega (arith, enough))
undos_back (x ∷ xs) s (b ∷ kept) rests are there enough =
    let back : IsBack b kept s (outcome s x) = undo_back s x b kept rests are.0 there in
    let later = undos_back xs (outcome s x).state kept back.rests are.1 back.left (omega (arith, enough)) in
    record {
      desk = later.desk ∙ ap (λ (d : Desk). on_sheet d (undone (length xs) kept d.sheet)) back.desk;
      channel = later.channel ∙ back.channel;
      no_calls = ap (λ (l : List Asked). l ++ calls_of (outcome s x).state xs) back.no_calls ∙ later.no_calls;
    }

take_long : {X : Type 0} (n : ℕ) (xs : List X) (k : ℕ) → k ≤ n → k ≤ length xs → k ≤ length (take n xs)
take_long n xs zero most all = omega arith
take_long zero xs (suc k) most all = absurd (omega (arith, most))
take_long (suc n) [] (suc k) most all = absurd (omega (arith, all))
take_long (suc n) (x ∷ xs) (suc k) most all =
    omega (arith, take_long n xs k (omega (arith, most)) (omega (arith, all)))

kept_long : (ss kept : List Sheet) (n : ℕ) → n ≤ length kept → n + length ss ≤ 20 →
    n + length ss ≤ length (all_kept ss kept)
kept_long [] kept n there few = omega (arith, there)
kept_long (s ∷ ss) kept n there few =
    let more : suc n ≤ length (with_kept s kept) =
    take_long 20 (s ∷ kept) (suc n) (omega (arith, few)) (omega (arith, there)) in
    omega (arith, kept_long ss (with_kept s kept) (suc n) more (omega (arith, few)))

-- As many undos as commands, at most 20, give back the sheet before the first.
sheet_back : (s : State) (c : List Step) (cs : List (List Step)) (undos : List Step) → Rests s
    → AreCommands s (c ∷ cs) →
    length (c ∷ cs) ≤ 20 → AreUndos undos → length undos ≡ length (c ∷ cs) → GiveBack s (after_all s (c ∷ cs)) undos
sheet_back s c cs undos rests are few undo as_many =
    let t : State = after_all s (c ∷ cs) in
    let ss : List Sheet = sheets (after s c) cs in
    let long : length undos ≡ length (sheet_of s ∷ ss) = as_many ∙ sym (sheets_long s (c ∷ cs)) in
    let short : length (sheet_of s ∷ ss) ≤ 20 = omega (arith, few, sheets_long s (c ∷ cs)) in
    let kept : List Sheet = all_kept (sheet_of s ∷ ss) s.history.kept in
    let most : 0 + length (sheet_of s ∷ ss) ≤ 20 = omega (arith, short) in
    let enough : length undos ≤ length kept =
    omega (arith, long, kept_long (sheet_of s ∷ ss) s.history.kept 0 (omega arith) most) in
    let back =
    undos_back undos t kept (all_rest s (c ∷ cs) rests are) undo (commands_kept s (c ∷ cs) rests are) enough in
    let first : undone (length undos) kept (sheet_of t) ≡ sheet_of s =
    ap (λ (n : ℕ). undone n kept (sheet_of t)) long ∙ first_back (sheet_of s) ss s.history.kept (sheet_of t) short in
    record {
      desk = back.desk ∙ ap (on_sheet t.desk) first;
      channel = back.channel;
      no_calls = back.no_calls;
    }

-- the same of a list that may be empty
pub all_back : (s : State) (commands : List (List Step)) (undos : List Step) → Rests s → AreCommands s commands →
    length commands ≤ 20 → AreUndos undos → length undos ≡ length commands → GiveBack s (after_all s commands) undos
all_back s [] [] rests are few undo as_many = record { desk = refl; channel = refl; no_calls = refl }
all_back s [] (x ∷ xs) rests are few undo as_many = absurd (omega (arith, as_many))
all_back s (c ∷ cs) undos rests are few undo as_many = sheet_back s c cs undos rests are few undo as_many
