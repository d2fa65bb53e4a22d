-- What the steps of a command leave of the history.
use Rattle.std.proofs.Common.{◌≡◌, Bool, true, false, List, [], ◌∷◌, Option, None, Some, refl, ap, sym, subst, ◌∙◌, ◌⊎◌}
use Rattle.std.proofs.Common.{inl, inr}
use Rattle.std.proofs.lemmas.Bool.{false≢true, true≢false}
use Rattle.std.specs.Prelude.{◌&&◌, is_some, if◌then◌else◌}
use Rattle.cell_pointer.specs.Moves.{moved}
use Rattle.cell_pointer.specs.declared.way.Way.{Way}
use Rattle.command_desk.specs.declared.ending.CommandEnd.{CommandEnd}
use Rattle.command_desk.specs.declared.ending.CommandEnd.TheVariants.{Finished, Quits, Refused as RefusedBy}
use Rattle.commands_file.specs.Calls.{Reply}
use Rattle.commands_file.specs.Commands.{looked, FileActed}
use Rattle.commands_file.specs.declared.looking.Looked.{Looked}
use Rattle.commands_file.specs.declared.looking.Looked.TheVariants.{There, Unknown}
use Rattle.desk_errors.specs.declared.error.CommandError.{CommandError}
use Rattle.desk_errors.specs.declared.error.CommandError.TheVariants as error
use Rattle.desk_errors.specs.Messages.{message_of}
use Rattle.entry_line.specs.Line.{Entry}
use Rattle.file_words.specs.Serving.{served_word, target_of, Served}
use Rattle.formula_parts.specs.declared.look.Scene.{Scene}
use Rattle.grid_address.specs.Place.{Place}
use Rattle.key_words.specs.declared.key.Key.{Key}
use Rattle.key_words.specs.declared.key.Key.TheVariants as key
use Rattle.macro_engine.specs.Catching.{handles_errors}
use Rattle.macro_engine.specs.Keys.{broken_off, key_step, takes_key}
use Rattle.macro_engine.specs.Steps.{macro_named, macro_step, MacroStep}
use Rattle.macro_engine.specs.declared.steps.StepEnd.{StepEnd}
use Rattle.macro_engine.specs.declared.steps.StepEnd.TheVariants.{Faulty as FaultyEnd, Files, Indicates, Moves, Refused}
use Rattle.macro_engine.specs.declared.steps.StepEnd.TheVariants.{Types, Works}
use Rattle.macro_words.specs.declared.files.FileDeed.{FileDeed}
use Rattle.macro_words.specs.declared.running.Deed.{Deed}
use Rattle.macro_words.specs.declared.running.Running.{Running}
use Rattle.menu_tree.specs.declared.menu.Action.{Action}
use Rattle.room_keys.specs.prompt.Opening.{opening}
use Rattle.room_keys.specs.declared.prompt.following.WhatFollows.{WhatFollows}
use Rattle.room_keys.specs.declared.prompt.following.WhatFollows.TheVariants.{Asks, Looks, Acts}
use Rattle.screen_layout.specs.Columns.{columns_shown}
use Rattle.session_rooms.specs.declared.answers.AnsweredCommand.{AnsweredCommand}
use Rattle.session_rooms.specs.declared.turn.Turn.{Turn}
use Rattle.session_rooms.specs.declared.turn.Turn.TheVariants as turn
use Rattle.sheet_undo.specs.Histories.{but_pointer, ended, with_kept, History, IsAlike, Tells}
use Rattle.work_sheet.specs.Doing.{with_pointer}
use Rattle.work_sheet.specs.Seen.{Sheet}
use Rattle.session_core.specs.Act.{act}
use Rattle.session_core.specs.Carrying.{acted, carried, done_by, failed, finished_as, is_pointer_protected, left_by}
use Rattle.session_core.specs.Carrying.{looked_as, opened, started_at, told}
use Rattle.session_core.specs.Entering.{meaning_of}
use Rattle.session_core.specs.Keeping.{begun_for, begun_or, command_ended, is_at_end, with_history, TellsChange}
use Rattle.session_core.specs.Machine.{is_running, pointer_of, sheet_of, wants_key, with_channel, with_macro, Outcome}
use Rattle.session_core.specs.Machine.{Replies, State}
use Rattle.session_core.specs.Moving.{IsMoved}
use Rattle.session_core.specs.Pressing.{turn_of}
use Rattle.session_core.specs.Standing.{is_at_rest, is_ready}
use Rattle.session_core.specs.Step.{by_key, by_step, by_waiting_macro, come_to, event_taken, given, is_key, on_file}
use Rattle.session_core.specs.Step.{pressed_key, protected_target, seen_from, served_as, stepped, typed_into}
use Rattle.session_core.specs.Undoing.{AsksBack, GoesForward}
use Rattle.session_core.specs.declared.entering.Meant.{Meant}
use Rattle.session_core.specs.declared.entering.Meant.TheVariants.{Means, Faulty}
use Rattle.session_core.specs.declared.event.Event.{Event}
use Rattle.session_core.specs.declared.event.Event.TheVariants.{Key as KeyEvent, Unit as UnitEvent}
use Rattle.session_core.proofs.Begun.{break_or, ended_beside, none_at_end, not_over}
use Rattle.session_core.proofs.Failing.{failed_untold}
use Rattle.session_core.proofs.Stepping.{pressed_given}
use Rattle.session_core.proofs.TypedKeys.{key_runs, macro_runs, RunsOn}
use Rattle.session_core.proofs.Undoing.{passed_over}

-- an outcome leaves the history
abbrev Leaves : History → Outcome → Type 0
Leaves h o = o.state.history ≡ h

either_leaves : (b : Bool) (o p : Outcome) (h : History) → Leaves h o → Leaves h p → Leaves h (if b then o else p)
either_leaves true o p h one other = one
either_leaves false o p h one other = other

failed_leaves : (e : CommandError) (scene : Scene) (s : State) → Leaves s.history (failed e scene s)
unfolding failed
failed_leaves e scene s = refl

meant_leaves : (m : Meant) (way : Way) (line : Entry) (scene : Scene) (s : State) →
    Leaves s.history (finished_as m way line scene s)
meant_leaves (Means x) way line scene s =
    either_leaves (is_pointer_protected s) _ _ s.history (failed_leaves _ scene s) refl
meant_leaves (Faulty at) way line scene s = refl

left_leaves : (end : CommandEnd) (a : Action) (scene : Scene) (s : State) → Leaves s.history (left_by end a scene s)
left_leaves Finished a scene s = refl
left_leaves Quits a scene s = refl
left_leaves (RefusedBy e) a scene s = failed_leaves e scene s

acted_leaves : (c : AnsweredCommand) (reply : Reply) (scene : Scene) (s : State) →
    Leaves s.history (acted c reply scene s)
acted_leaves c reply scene s =
    let d : FileActed = act c.action c.answers scene s.desk reply in
    left_leaves d.acted.end c.action scene (done_by d s).state

looked_leaves : (came : Looked) (c : AnsweredCommand) (reply : Reply) (scene : Scene) (s : State) →
    Leaves s.history (looked_as came c reply scene s)
looked_leaves (There true) c reply scene s = refl
looked_leaves (There false) c reply scene s = acted_leaves c reply scene s
looked_leaves (Unknown e) c reply scene s = failed_leaves e scene s

opened_leaves : (f : WhatFollows) (c : AnsweredCommand) (replies : Replies) (scene : Scene) (s : State) →
    Leaves s.history (opened f c replies scene s)
opened_leaves (Asks how) c replies scene s = refl
opened_leaves Looks c replies scene s =
    looked_leaves (looked c.action c.answers replies.look).came c replies.act scene s
opened_leaves Acts c replies scene s = acted_leaves c replies.act scene s

started_leaves : (b : Bool) (cell : Option Place) (s : State) → (if b then s else started_at cell s).history ≡ s.history
started_leaves true cell s = refl
started_leaves false None s = refl
started_leaves false (Some c) s = refl

-- where a turn would take a command back, a macro runs
abbrev OnlyForward : Turn → State → Type 0
OnlyForward t s = t ≡ turn.Undo → is_running s ≡ true

-- what carries out anything that takes no command back leaves the history
carried_leaves : (t : Turn) (replies : Replies) (scene : Scene) (s : State) → OnlyForward t s →
    Leaves s.history (carried t replies scene s)
carried_leaves (turn.Become r) replies scene s forward = refl
carried_leaves (turn.Move way) replies scene s forward = refl
carried_leaves turn.Mark replies scene s forward = refl
carried_leaves (turn.Finish way line) replies scene s forward =
    meant_leaves (meaning_of line.text (sheet_of s) (pointer_of s)) way line scene s
carried_leaves (turn.Ask c) replies scene s forward =
    opened_leaves (opening c (pointer_of s) s.desk.file_name) c replies scene s
carried_leaves (turn.Act c) replies scene s forward = acted_leaves c replies.act scene s
carried_leaves turn.Recalculate replies scene s forward = refl
carried_leaves (turn.Start letter) replies scene s forward =
    started_leaves (is_running s) (macro_named (sheet_of s).names letter) s
carried_leaves turn.Undo replies scene s forward =
    ap (λ (o : Outcome). o.state.history) (passed_over scene s (forward refl))
carried_leaves (turn.Fail e) replies scene s forward = failed_leaves e scene s

-- the session is in the command that began with a sheet: that is begun, or the sheet is still it
abbrev pub IsUnchanged : Sheet → State → Type 0
IsUnchanged b s = (s.history.begun ≡ None) × ((s.running ≡ None) × (sheet_of s ≡ b))

pub record Goes (b : Sheet) (kept : List Sheet) (s : State) : Type 0 where
  pub stays : s.history.kept ≡ kept
  pub from : (s.history.begun ≡ Some b) ⊎ IsUnchanged b s

-- the same behind an event, by which the pointer may have moved at the command's end
abbrev pub IsOnlyMoved : Sheet → State → Type 0
IsOnlyMoved b s =
    (s.history.begun ≡ None) × ((s.running ≡ None) × (IsMoved b (sheet_of s) × (is_at_rest s ≡ false → sheet_of s ≡ b)))

pub record Went (b : Sheet) (kept : List Sheet) (s : State) : Type 0 where
  pub stays : s.history.kept ≡ kept
  pub from : (s.history.begun ≡ Some b) ⊎ IsOnlyMoved b s

stays_moved : (b s : Sheet) → s ≡ b → IsMoved b s
stays_moved b s e = (b.settings.pointer, e)

-- where a command is begun, it stays so while the history does
still_begun : (s u : State) (b : Sheet) (kept : List Sheet) → u.history ≡ s.history → s.history.kept ≡ kept →
    s.history.begun ≡ Some b → Went b kept u
still_begun s u b kept e kept_is begun =
    record { stays = ap (λ (h : History). h.kept) e ∙ kept_is; from = inl (ap (λ (h : History). h.begun) e ∙ begun) }

kept_begun : (h : History) (sheet b : Sheet) → h.begun ≡ Some b → (record h { begun = begun_or h.begun sheet }) ≡ h
kept_begun h sheet b e =
    ap (λ (o : Option Sheet). record h { begun = begun_or o sheet }) e
    ∙ sym (ap (λ (o : Option Sheet). record h { begun = o }) e)

begun_still : (t : Turn) (s : State) (b : Sheet) → s.history.begun ≡ Some b → (begun_for t s).history ≡ s.history
begun_still (turn.Become r) s b e = refl
begun_still (turn.Move way) s b e = refl
begun_still turn.Mark s b e = refl
begun_still (turn.Finish way line) s b e = kept_begun s.history (sheet_of s) b e
begun_still (turn.Ask c) s b e = kept_begun s.history (sheet_of s) b e
begun_still (turn.Act c) s b e = kept_begun s.history (sheet_of s) b e
begun_still turn.Recalculate s b e = kept_begun s.history (sheet_of s) b e
begun_still (turn.Start letter) s b e = kept_begun s.history (sheet_of s) b e
begun_still turn.Undo s b e = refl
begun_still (turn.Fail f) s b e = refl

begun_runs : (t : Turn) (s : State) → is_running (begun_for t s) ≡ is_running s
begun_runs (turn.Become r) s = refl
begun_runs (turn.Move way) s = refl
begun_runs turn.Mark s = refl
begun_runs (turn.Finish way line) s = refl
begun_runs (turn.Ask c) s = refl
begun_runs (turn.Act c) s = refl
begun_runs turn.Recalculate s = refl
begun_runs (turn.Start letter) s = refl
begun_runs turn.Undo s = refl
begun_runs (turn.Fail e) s = refl

-- a key is taken where a command is begun
key_goes_on : (k : Key) (replies : Replies) (scene : Scene) (s : State) (b : Sheet) (kept : List Sheet) →
    OnlyForward (turn_of k s.room s.end s.desk) s → s.history.kept ≡ kept → s.history.begun ≡ Some b →
    Went b kept (by_key k replies scene s).state
key_goes_on k replies scene s b kept forward kept_is begun =
    let t : Turn = turn_of k s.room s.end s.desk in
    let u : State = begun_for t (typed_into k s) in
    still_begun s (carried t replies scene u).state b kept
    (carried_leaves t replies scene u (λ is. begun_runs t (typed_into k s) ∙ forward is)
    ∙ begun_still t (typed_into k s) b begun) kept_is begun

-- it is taken where none is: then the sheet is begun, or stays
module _ (replies : Replies) (scene : Scene) (s : State) (b : Sheet) (kept : List Sheet)
    (kept_is : s.history.kept ≡ kept)
    (none : s.history.begun ≡ None) (running : s.running ≡ None) (sheet : sheet_of s ≡ b) where
  begun_now : (u : State) → u.history ≡ (record s.history { begun = begun_or s.history.begun (sheet_of s) }) →
      Went b kept u
  begun_now u e = record {
    stays = ap (λ (h : History). h.kept) e ∙ kept_is;
    from =
        inl (ap (λ (h : History). h.begun) e ∙ ap (λ (o : Option Sheet). begun_or o (sheet_of s)) none ∙ ap Some sheet);
  }

  unchanged : (u : State) → u.history ≡ s.history → u.running ≡ None → sheet_of u ≡ sheet_of s → Went b kept u
  unchanged u e stopped same = record {
    stays = ap (λ (h : History). h.kept) e ∙ kept_is;
    from = inr (
      ap (λ (h : History). h.begun) e ∙ none,
      (stopped, (stays_moved b (sheet_of u) (same ∙ sheet), λ apart. same ∙ sheet)),
    );
  }

  moved_at_rest : (p : Place) (u : State) → u.history ≡ s.history → u.running ≡ None → is_at_rest u ≡ true →
      sheet_of u ≡ with_pointer p (sheet_of s) → Went b kept u
  moved_at_rest p u e stopped rest same = record {
    stays = ap (λ (h : History). h.kept) e ∙ kept_is;
    from = inr (
      ap (λ (h : History). h.begun) e ∙ none,
      (stopped, ((p, same ∙ ap (with_pointer p) sheet), λ apart. absurd (true≢false (sym rest ∙ apart)))),
    );
  }

  -- no macro runs
  idle_still : is_running s ≡ false
  idle_still = ap is_some running

  first_by : (k : Key) (t : Turn) → OnlyForward t s
      → Went b kept (carried t replies scene (begun_for t (typed_into k s))).state
  first_by k (turn.Become r) forward = unchanged _ refl running refl
  first_by k (turn.Move way) forward =
      moved_at_rest (moved way (columns_shown (sheet_of s) s.corner.col) (sheet_of s).grid (pointer_of s)) _
      refl running
      (rw idle_still refl) refl
  first_by k turn.Mark forward = unchanged _ refl running refl
  first_by k (turn.Finish way line) forward =
      begun_now _
      (carried_leaves (turn.Finish way line) replies scene (begun_for (turn.Finish way line) (typed_into k s)) forward)
  first_by k (turn.Ask c) forward =
      begun_now _ (carried_leaves (turn.Ask c) replies scene (begun_for (turn.Ask c) (typed_into k s)) forward)
  first_by k (turn.Act c) forward =
      begun_now _ (carried_leaves (turn.Act c) replies scene (begun_for (turn.Act c) (typed_into k s)) forward)
  first_by k turn.Recalculate forward = begun_now _ refl
  first_by k (turn.Start letter) forward =
      begun_now _
      (carried_leaves (turn.Start letter) replies scene (begun_for (turn.Start letter) (typed_into k s)) forward)
  first_by k turn.Undo forward = absurd (true≢false (sym (forward refl) ∙ idle_still))
  first_by k (turn.Fail e) forward =
      subst (Went b kept)
      (sym (ap (λ (o : Outcome). o.state) (failed_untold e scene (typed_into k s) (ap handles_errors running))))
      (unchanged (told (message_of e) (typed_into k s)) refl refl refl)

went_key : (k : Key) (replies : Replies) (scene : Scene) (s : State) (b : Sheet) (kept : List Sheet) →
    OnlyForward (turn_of k s.room s.end s.desk) s → s.history.kept ≡ kept
    → (s.history.begun ≡ Some b) ⊎ IsUnchanged b s →
    Went b kept (by_key k replies scene s).state
went_key k replies scene s b kept forward kept_is (inl begun) =
    key_goes_on k replies scene s b kept forward kept_is begun
went_key k replies scene s b kept forward kept_is (inr (none, (running, sheet))) =
    first_by replies scene s b kept kept_is none running sheet k (turn_of k s.room s.end s.desk) forward

served_leaves : (x : Option Deed) (scene : Scene) (s : State) → Leaves s.history (served_as x scene s)
served_leaves None scene s = failed_leaves error.DiskError scene s
served_leaves (Some d) scene s = refl

file_leaves : (cell : Option Place) (d : FileDeed) (replies : Replies) (scene : Scene) (s : State) →
    Leaves s.history (on_file cell d replies scene s)
file_leaves (Some c) d replies scene s = failed_leaves (error.Protected c) scene s
file_leaves None d replies scene s =
    let x : Served = served_word d replies.look replies.act s.channel in
    served_leaves x.deed scene (with_channel x.channel s)

-- what follows behind a macro's step, which began with a command begun
went_end : (e : StepEnd) (replies : Replies) (scene : Scene) (s : State) (b : Sheet) (kept : List Sheet) →
    ((k : Key) → e ≡ Types k → is_running s ≡ true) → s.history.kept ≡ kept → s.history.begun ≡ Some b →
    Went b kept (come_to e replies scene s).state
went_end (Types k) replies scene s b kept runs kept_is begun =
    key_goes_on k replies scene s b kept (λ is. runs k refl) kept_is begun
went_end Moves replies scene s b kept runs kept_is begun = still_begun s _ b kept refl kept_is begun
went_end Works replies scene s b kept runs kept_is begun = still_begun s _ b kept refl kept_is begun
went_end (Indicates t) replies scene s b kept runs kept_is begun = still_begun s _ b kept refl kept_is begun
went_end (Files d) replies scene s b kept runs kept_is begun =
    still_begun s _ b kept (file_leaves (protected_target (target_of d.word) s) d replies scene s) kept_is begun
went_end (FaultyEnd f c) replies scene s b kept runs kept_is begun = still_begun s _ b kept refl kept_is begun
went_end (Refused c) replies scene s b kept runs kept_is begun =
    still_begun s _ b kept (failed_leaves (error.Protected c) scene s) kept_is begun

went_step : (x : MacroStep) (replies : Replies) (scene : Scene) (s : State) (b : Sheet) (kept : List Sheet) → RunsOn x →
    s.history.kept ≡ kept → s.history.begun ≡ Some b → Went b kept (stepped x replies scene s).state
went_step x replies scene s b kept on kept_is begun =
    let t : State = (by_step x s).state in
    went_end x.end replies (seen_from scene t) t b kept (λ k is. on (rw is refl)) kept_is begun

-- a key that is given, by whether a macro takes it
given_by : (took : Bool) (k : Key) (replies : Replies) (scene : Scene) (s : State) (b : Sheet) (kept : List Sheet) →
    takes_key k s.running ≡ took → OnlyForward (turn_of k s.room s.end s.desk) s → s.history.kept ≡ kept →
    (s.history.begun ≡ Some b) ⊎ IsUnchanged b s →
    Went b kept (if took then by_waiting_macro k replies scene s else by_key k replies scene s).state
given_by true k replies scene s b kept is forward kept_is (inl begun) =
    went_step (key_step scene k s.running (sheet_of s)) replies scene (record s { end = false }) b kept
    (key_runs scene k s.running (sheet_of s)) kept_is begun
given_by true k replies scene s b kept is forward kept_is (inr (none, (running, sheet))) =
    absurd (true≢false (sym is ∙ ap (takes_key k) running))
given_by false k replies scene s b kept is forward kept_is from = went_key k replies scene s b kept forward kept_is from

still_none : (s : State) (b : Sheet) → (s.history.begun ≡ Some b) ⊎ IsUnchanged b s →
    ((with_macro (broken_off s.running) s).history.begun ≡ Some b) ⊎ IsUnchanged b (with_macro (broken_off s.running) s)
still_none s b (inl begun) = inl begun
still_none s b (inr (none, (running, sheet))) = inr (none, (ap broken_off running, sheet))

went_pressed : (k : Key) (replies : Replies) (scene : Scene) (s : State) (b : Sheet) (kept : List Sheet) →
    (k ≡ key.Break) ⊎ (k ≡ key.Break → ⊥) → OnlyForward (turn_of k s.room s.end s.desk) s → s.history.kept ≡ kept →
    (s.history.begun ≡ Some b) ⊎ IsUnchanged b s → Went b kept (pressed_key k replies scene s).state
went_pressed k replies scene s b kept (inl is) forward kept_is from =
    subst (λ (j : Key). Went b kept (pressed_key j replies scene s).state) (sym is)
    (went_key key.Break replies scene (with_macro (broken_off s.running) s) b kept (λ e. absurd cc) kept_is
    (still_none s b from))
went_pressed k replies scene s b kept (inr other) forward kept_is from =
    subst (λ (act : Replies → Scene → State → Outcome). Went b kept (act replies scene s).state)
    (sym (pressed_given k other))
    (given_by (takes_key k s.running) k replies scene s b kept refl forward kept_is from)

went_unit : (replies : Replies) (scene : Scene) (s : State) (b : Sheet) (kept : List Sheet) → false ≡ wants_key s →
    s.history.kept ≡ kept → (s.history.begun ≡ Some b) ⊎ IsUnchanged b s →
    Went b kept (event_taken UnitEvent replies scene s).state
went_unit replies scene s b kept busy kept_is (inl begun) =
    went_step (macro_step scene s.running (sheet_of s)) replies scene s b kept
    (macro_runs scene s.running (sheet_of s)) kept_is begun
went_unit replies scene s b kept busy kept_is (inr (none, (running, sheet))) =
    absurd (false≢true (busy ∙ ap (λ (r : Option Running). wants_key (with_macro r s)) running))

-- an event that takes no command back goes on with the command
pub went : (event : Event) (replies : Replies) (scene : Scene) (s : State) (b : Sheet) (kept : List Sheet) →
    is_key event ≡ wants_key s → GoesForward event s → Goes b kept s
    → Went b kept (event_taken event replies scene s).state
went (KeyEvent k) replies scene s b kept fits forward g =
    went_pressed k replies scene s b kept (break_or k) forward g.stays g.from
went UnitEvent replies scene s b kept fits forward g = went_unit replies scene s b kept fits g.stays g.from

-- where the session isn't at rest behind it, the command isn't at its end
pub not_ended : (changed : Bool) (s : State) → is_at_rest s ≡ false → command_ended changed s ≡ s
not_ended changed s busy =
    ap (λ (r : Bool). if r && is_some s.history.begun then with_history
    (ended changed s.history.begun s.history.kept) s else s)
    busy

none_begun : (changed : Bool) (o : Option Sheet) (kept : List Sheet) → (ended changed o kept).begun ≡ None
none_begun changed None kept = refl
none_begun true (Some b) kept = refl
none_begun false (Some b) kept = refl

at_rest_by : (changed : Bool) (s : State) (o : Option Sheet) → is_at_rest s ≡ true → s.history.begun ≡ o →
    (command_ended changed s).history.begun ≡ None
at_rest_by changed s None rest e = ap (λ (t : State). t.history.begun) (not_over changed s (none_at_end s e)) ∙ e
at_rest_by changed s (Some b) rest e =
    let over : is_at_end s ≡ true =
    ap (λ (r : Bool). r && is_some s.history.begun) rest ∙ ap (λ (o : Option Sheet). is_some o) e in
    ap (λ (r : Bool). (if r then with_history (ended changed s.history.begun s.history.kept) s else s).history.begun)
    over
    ∙ none_begun changed s.history.begun s.history.kept

-- at rest none is begun behind it
pub none_at_rest : (changed : Bool) (s : State) → is_at_rest (command_ended changed s) ≡ true →
    (command_ended changed s).history.begun ≡ None
none_at_rest changed s rest =
    at_rest_by changed s s.history.begun
    (sym (ap (λ (t : State). is_at_rest t) (ended_beside changed s).is) ∙ rest) refl

goes_by : (b : Sheet) (kept : List Sheet) (s : State) → is_at_rest s ≡ false → s.history.kept ≡ kept →
    (s.history.begun ≡ Some b) ⊎ IsOnlyMoved b s → Goes b kept s
goes_by b kept s busy kept_is (inl begun) = record { stays = kept_is; from = inl begun }
goes_by b kept s busy kept_is (inr (none, (running, (moved, same)))) =
    record { stays = kept_is; from = inr (none, (running, same busy)) }

-- where the session isn't at rest, a command that went on goes on still
pub goes_on : (b : Sheet) (kept : List Sheet) (s : State) → is_at_rest s ≡ false → Went b kept s → Goes b kept s
goes_on b kept s busy w = goes_by b kept s busy w.stays w.from

moved_alike : (b s : Sheet) → IsMoved b s → IsAlike b s
moved_alike b s (p, is) = record {
  grid = sym (ap (λ (u : Sheet). u.grid) is);
  names = sym (ap (λ (u : Sheet). u.names) is);
  settings = sym (ap (λ (u : Sheet). but_pointer u.settings) is);
}

told_changed : (changed : Bool) (b s : Sheet) → Tells changed (Some b) s → (IsAlike b s → ⊥) → changed ≡ true
told_changed true b s tells differs = refl
told_changed false b s tells differs = absurd (differs tells)

ended_by : (changed : Bool) (b : Sheet) (kept : List Sheet) (s : State) → is_at_rest s ≡ true → TellsChange changed s →
    (IsAlike b (sheet_of s) → ⊥) → s.history.kept ≡ kept → (s.history.begun ≡ Some b) ⊎ IsOnlyMoved b s →
    (command_ended changed s).history ≡ (record { kept = with_kept b kept; begun = None })
ended_by changed b kept s rest tells differs kept_is (inl begun) =
    let over : is_at_end s ≡ true =
    ap (λ (r : Bool). r && is_some s.history.begun) rest ∙ ap (λ (o : Option Sheet). is_some o) begun in
    let told : Tells changed (Some b) (sheet_of s) =
    subst (λ (o : Option Sheet). Tells changed o (sheet_of s)) begun (tells over) in
    ap (λ (r : Bool). (if r then with_history (ended changed s.history.begun s.history.kept) s else s).history) over
    ∙ ap (λ (c : Bool). ended c s.history.begun s.history.kept) (told_changed changed b (sheet_of s) told differs)
    ∙ ap (λ (o : Option Sheet). ended true o s.history.kept) begun
    ∙ ap (λ (k : List Sheet). ended true (Some b) k) kept_is
ended_by changed b kept s rest tells differs kept_is (inr (none, (running, (moved, same)))) =
    absurd (differs (moved_alike b (sheet_of s) moved))

-- at its end the state that it began with is kept, where the sheet differs
pub ended_kept : (changed : Bool) (b : Sheet) (kept : List Sheet) (s : State) → is_at_rest s ≡ true →
    TellsChange changed s → (IsAlike b (sheet_of s) → ⊥) → Went b kept s →
    (command_ended changed s).history ≡ (record { kept = with_kept b kept; begun = None })
ended_kept changed b kept s rest tells differs w = ended_by changed b kept s rest tells differs w.stays w.from
