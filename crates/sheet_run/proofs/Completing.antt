-- A run that must end well does.
use Rattle.std.proofs.Common.{◌≡◌, ℕ, ◌+◌, ◌<◌, ◌≤◌, ◌-◌, ◌^◌, Bool, true, false, List, [], ◌∷◌, ◌++◌, length, Option}
use Rattle.std.proofs.Common.{Some, None, Result, Ok, Err, refl, sym, ap, ◌∙◌, subst, arith, inl, inr, append_assoc}
use Rattle.std.proofs.Common.{length-append}
use Rattle.std.specs.Prelude.{◌&&◌, ◌||◌, is_some, replicate}
use Rattle.std.proofs.lemmas.Bool.{and_parts, cases_lt}
use Rattle.std.proofs.lemmas.List.{append-nil, length-map, replicate-append-replicate}
use Rattle.outside_world.specs.Causes.{Rose}
use Rattle.key_words.specs.declared.key.Key.{Key}
use Rattle.session_core.specs.Machine.{wants_key, Outcome, State}
use Rattle.session_core.specs.Standing.{refused as refused_of}
use Rattle.session_core.specs.Unfailing.{NoneFailed}
use Rattle.session_core.specs.Step.{is_key}
use Rattle.session_core.specs.declared.event.Event.{Event}
use Rattle.session_core.specs.declared.event.Event.TheVariants.{Key as KeyEvent, Unit as UnitEvent}
use Rattle.commands_file.specs.Calls.{failed as call_failed, fetched, loaded, there, written, Asked, HaveAnswered}
use Rattle.commands_file.specs.Calls.{IsCounted, Reply, ShelfView}
use Rattle.outside_world.specs.Shelf.{answered, failed, file_in, HasRead, OnShelf}
use Rattle.outside_world.specs.declared.faults.ShelfFault.TheVariants.{Failed}
use Rattle.serial_date.specs.declared.moment.Moment.{Moment}
use Rattle.sheet_gen.proofs.OneSheet.{one_sheet}
use Rattle.sheet_store.specs.declared.writes.SavedSheet.{SavedSheet}
use Rattle.wk1_file.proofs.OneFile.{one_file}
use Rattle.wk1_file.specs.Files.{IsFile}
use Rattle.wk1_records.specs.declared.fault.Wk1Fault.{Wk1Fault}
use Rattle.sheet_run.specs.Completeness.{at_their_end, begins, by_quitting, any, by_rule, from_file, unfailing}
use Rattle.sheet_run.specs.Completeness.{with_none, Answers, AreGiven, Beginning, Count, EndWithin, EndsWell}
use Rattle.sheet_run.specs.Completeness.{HasEndedWell, MayMake, MustEndWell, Opens, QuitWithin, ReadWell}
use Rattle.sheet_run.specs.Displays.{Watched, views_of}
use Rattle.sheet_run.specs.Run.{HasEnded}
use Rattle.key_words.specs.Notation.{Begins, IsNoText, SpellsWords}
use Rattle.sheet_run.specs.Notation.{pressed, HasKeys, IntoLast, SpellsKeys, SpellsInto, SpellsUpTo}
use Rattle.sheet_run.specs.Notes.{LeavesSession, ending_status}
use Rattle.sheet_run.specs.Opening.{answer_of, asked_for, fresh, of_file, of_rows, opening, HasOpened, StartSheet}
use Rattle.sheet_run.specs.Options.{bounds_of, limit_of}
use Rattle.sheet_run.specs.Run.{after, calls_of, key_in, keys_of, moments_of, outcome, stops, EndAtLast, GoOn, HasRun}
use Rattle.sheet_run.specs.Run.{Outside, Step}
use Rattle.sheet_run.specs.Status.{HasFinished, IsRun, RunsWith, Surroundings, asked, is_any, finished, no_memory}
use Rattle.sheet_run.specs.Status.{no_note, no_room, no_session, no_sheet, not_read, ran, refused}
use Rattle.sheet_run.specs.Taking.{AtEnd, Ended, TakesBytes, TakesReadings}
use Rattle.sheet_run.specs.declared.drive.Ending.{Ending}
use Rattle.sheet_run.specs.declared.drive.Ending.TheVariants.{KeysEnded, Undone, Quit, Refused, BadWord, KeysFailed}
use Rattle.sheet_run.specs.declared.drive.Ending.TheVariants.{Stopped, NoMemory}
use Rattle.sheet_run.specs.declared.opening.NotRead.{NotRead}
use Rattle.sheet_run.specs.declared.opening.NotRead.TheVariants.{NoSuchFile, Faulty, DiskError}
use Rattle.sheet_run.specs.declared.options.Bounds.{Bounds}
use Rattle.sheet_run.specs.declared.options.Options.{Options}
use Rattle.sheet_run.specs.declared.options.Start.{Start}
use Rattle.sheet_run.specs.declared.options.Start.TheVariants as given
use Rattle.sheet_run.proofs.Endings.{handled}
use Rattle.sheet_run.proofs.Fronts.{may_begin, must_quit, quit_before, quit_by_then, shorter_begins}
use Rattle.commands_file.proofs.Answered.{answered_then}
use Rattle.sheet_run.proofs.WordBegun.{front_words}
use Rattle.key_words.proofs.Scanning.{prefix_keys}
use Rattle.sheet_run.proofs.Pressed.{into_spelled, pressed-append, pressed_more}
use Rattle.sheet_run.proofs.Taken.{took}

none_left : (rest : List ℕ) (now : Option (List ℕ)) → now ≡ Some rest → AtEnd now → rest ≡ []
none_left rest now is end = subst AtEnd is end

-- bytes that are short end only at their end
at_their_end_of : (bytes taken rest : List ℕ) (now : Option (List ℕ)) → bytes ≡ taken ++ rest → now ≡ Some rest
    → length bytes < 2 ^ 64 - 1 → Ended taken now → rest ≡ []
at_their_end_of bytes taken rest now split is short (inl end) = none_left rest now is end
at_their_end_of bytes taken rest now split is short (inr all) =
    absurd (omega (arith, ap length split, length-append taken rest, all))

any_length : (ds : List Watched) → length ds ≡ 0 → is_any ds ≡ false
any_length [] e = refl
any_length (d ∷ ds) e = absurd (omega (arith, e))

-- all keys of the words up to the last one are these, and those that are left of it
pub into_all : (bytes : List ℕ) (keys : List Key) (key : Key) (left : ℕ) → (i : IntoLast bytes keys key left)
    → pressed (i.words ++ (key, i.done + left) ∷ []) ≡ keys ++ replicate left key
into_all bytes keys key left i =
    pressed_more i.words key (i.done + left)
    ∙ ap (λ (l : List Key). pressed i.words ++ l) (sym (replicate-append-replicate i.done left key))
    ∙ sym (append_assoc (pressed i.words) (replicate i.done key) (replicate left key))
    ∙ ap (λ (l : List Key). l ++ replicate left key) (sym i.keys_are)

-- words that begin others give keys that begin theirs
pressed_front : (all words more : List (Key × ℕ)) (keys rest : List Key) → all ≡ words ++ more
    → pressed words ≡ keys ++ rest → pressed all ≡ keys ++ (rest ++ pressed more)
pressed_front all words more keys rest is begins =
    ap pressed is ∙ pressed-append words more ∙ ap (λ (l : List Key). l ++ pressed more) begins
    ∙ append_assoc keys rest (pressed more)

-- bytes that begin others spell keys that begin theirs
keys_begin : (bytes taken rest : List ℕ) (some all : List Key) → bytes ≡ taken ++ rest → SpellsUpTo taken some
    → SpellsKeys bytes all → (more : List Key) × (all ≡ some ++ more)
keys_begin bytes taken rest some all split (inl spelled) whole =
    let i = spelled.into in
    let words : List (Key × ℕ) = i.words ++ (spelled.key, i.done + spelled.left) ∷ [] in
    let more = prefix_keys taken rest words whole.0 (into_spelled taken some spelled.key spelled.left i)
    (subst (λ (b : List ℕ). SpellsWords b whole.0) split whole.1) in
    let keys_are : all ≡ (some ++ replicate spelled.left spelled.key) ++ pressed more.0 =
    sym whole.2 ∙ ap pressed more.1 ∙ pressed-append words more.0
    ∙ ap (λ (l : List Key). l ++ pressed more.0) (into_all taken some spelled.key spelled.left i) in (
      replicate spelled.left spelled.key ++ pressed more.0,
      keys_are
          ∙ append_assoc some (replicate spelled.left spelled.key) (pressed more.0),
    )
keys_begin bytes taken rest some all split (inr none) whole = (all, ap (λ (l : List Key). l ++ all) (sym none.1))

-- of two beginnings of some bytes, the keys begin all keys of one of them
record BothBegin (one other : List Key) : Type 0 where
  pub all : List Key
  pub behind_one : List Key
  pub behind_other : List Key
  pub one_begins : all ≡ one ++ behind_one
  pub other_begins : all ≡ other ++ behind_other

both_begin : (a b c d : List ℕ) (one other : List Key) → a ++ b ≡ c ++ d → SpellsInto a one → SpellsInto c other
    → BothBegin one other
both_begin a b c d one other both spelled into =
    let words : List (Key × ℕ) = spelled.into.words ++ (spelled.key, spelled.into.done + spelled.left) ∷ [] in
    let other_words : List (Key × ℕ) = into.into.words ++ (into.key, into.into.done + into.left) ∷ [] in
    let whole = into_spelled a one spelled.key spelled.left spelled.into in
    let other_whole = into_spelled c other into.key into.left into.into in
    let all = into_all a one spelled.key spelled.left spelled.into in
    let other_all = into_all c other into.key into.left into.into in
    elim (cases_lt (length a) (length c)) [
      | inl more ↦
          let longer = shorter_begins a b c d both (omega (arith, more)) in
          let later = prefix_keys a longer.0 words other_words whole
          (subst (λ (x : List ℕ). SpellsWords x other_words) longer.1 other_whole) in
          record {
            all = pressed other_words;
            behind_one = replicate spelled.left spelled.key ++ pressed later.0;
            behind_other = replicate into.left into.key;
            one_begins = pressed_front other_words words later.0 one (replicate spelled.left spelled.key) later.1 all;
            other_begins = other_all;
          }
      | inr fewer ↦
          let longer = shorter_begins c d a b (sym both) fewer in
          let later = prefix_keys c longer.0 other_words words other_whole
          (subst (λ (x : List ℕ). SpellsWords x words) longer.1 whole) in
          record {
            all = pressed words;
            behind_one = replicate spelled.left spelled.key;
            behind_other = replicate into.left into.key ++ pressed later.0;
            one_begins = all;
            other_begins =
                pressed_front words other_words later.0 other (replicate into.left into.key) later.1 other_all;
          }
    ]

-- an event is there: a key is, or it is a unit
no_next : (next : Event) (more : List Key) → is_key next ≡ true → key_in next ++ more ≡ [] → ⊥
no_next (KeyEvent k) more key none = absurd cc
no_next UnitEvent more key none = absurd cc

no_front : (xs ys : List Key) → xs ++ ys ≡ [] → xs ≡ []
no_front [] ys e = refl
no_front (x ∷ xs) ys e = absurd cc

module _ (answers : Answers) (before : Outside) (start : Beginning) (first : Moment) (limit : ℕ) (steps : List Step)
    (m : MayMake answers before start first (keys_of steps) [] steps) where
  -- a run that took the words by which it is quit, and maybe more, wants no further key
  took_quit : (taken front behind : List ℕ) (keys : List Key) → HasKeys taken (keys_of steps) → taken ≡ front ++ behind
      → SpellsInto front keys → QuitWithin answers before start limit keys →
      wants_key (after (begins start first) steps) ≡ true → ⊥
  took_quit taken front behind keys has split into quit wanted =
      let words : List (Key × ℕ) = into.into.words ++ (into.key, into.into.done + into.left) ∷ [] in
      let more = front_words taken front behind has.0 words has.1 split
      (into_spelled front keys into.key into.left into.into) in
      let all = pressed_front has.0 words more.0 keys (replicate into.left into.key) more.1
      (into_all front keys into.key into.left into.into) in
      must_quit answers before start first limit (keys_of steps) [] steps m keys quit
      (replicate into.left into.key ++ pressed more.0) (sym has.2 ∙ all) wanted

  -- the bytes don't end inside a word
  never_inside : (bytes : List ℕ) → wants_key (after (begins start first) steps) ≡ true → HasKeys bytes (keys_of steps)
      → IsNoText bytes → EndWithin answers before start limit bytes → ⊥
  never_inside bytes wanted has none (at_their_end keys spelled rests) = none spelled.0 spelled.1
  never_inside bytes wanted has none (by_quitting front rest keys split into quit) =
      took_quit bytes front rest keys has split into quit wanted

  -- no byte comes with which no text goes on
  never_bad : (bytes taken rest : List ℕ) (bad : ℕ) → bytes ≡ (taken ++ bad ∷ []) ++ rest
      → wants_key (after (begins start first) steps) ≡ true → HasKeys taken (keys_of steps)
      → (Begins (taken ++ bad ∷ []) → ⊥) → EndWithin answers before start limit bytes → ⊥
  never_bad bytes taken rest bad split wanted has none (at_their_end keys spelled rests) =
      none (rest, spelled.0, subst (λ (b : List ℕ). SpellsWords b spelled.0) split spelled.1)
  never_bad bytes taken rest bad split wanted has none (by_quitting front behind keys parts into quit) =
      let words : List (Key × ℕ) = into.into.words ++ (into.key, into.into.done + into.left) ∷ [] in
      let both : front ++ behind ≡ (taken ++ bad ∷ []) ++ rest = sym parts ∙ split in
      elim (cases_lt (length taken) (length front)) [
        | inl more ↦
            let front_is = shorter_begins (taken ++ bad ∷ []) rest front behind (sym both)
            (omega (arith, more, length-append taken (bad ∷ []))) in
            none (
              front_is.0,
              words,
              subst (λ (b : List ℕ). SpellsWords b words) front_is.1
                  (into_spelled front keys into.key into.left into.into),
            )
        | inr fewer ↦
            let taken_is =
            shorter_begins front behind taken (bad ∷ rest) (both ∙ append_assoc taken (bad ∷ []) rest) fewer in
            took_quit taken front taken_is.0 keys has taken_is.1 into quit wanted
      ]

  -- behind as many steps as the limit, none of which ends the run, it isn't one that is quit by these keys
  within_limit : (keys rest behind all : List Key) → all ≡ keys ++ rest → all ≡ keys_of steps ++ behind
      → length steps ≡ limit → QuitWithin answers before start limit keys → ⊥
  within_limit keys rest behind all one other count quit =
      let both : keys ++ rest ≡ keys_of steps ++ behind = sym one ∙ other in
      elim (cases_lt (length keys) (length (keys_of steps))) [
        | inl fewer ↦
            let begins = shorter_begins keys rest (keys_of steps) behind both (omega (arith, fewer)) in
            quit_by_then answers before start first limit (keys_of steps) [] steps m keys quit begins.0 begins.1 count
        | inr more ↦
            let begins = shorter_begins (keys_of steps) behind keys rest (sym both) more in
            quit_before answers before start first limit (keys_of steps) [] steps m keys quit begins.0 begins.1 count
      ]

  -- no event is there for one step more than the limit allows
  never_stopped : (bytes taken rest : List ℕ) (next : Event) → bytes ≡ taken ++ rest → length steps ≡ limit
      → is_key next ≡ wants_key (after (begins start first) steps) → SpellsUpTo taken (keys_of steps ++ key_in next) →
      EndWithin answers before start limit bytes → ⊥
  never_stopped bytes taken rest next split count fits spelled (at_their_end keys whole rests) =
      let begins = keys_begin bytes taken rest (keys_of steps ++ key_in next) keys split spelled whole in
      let keys_are : keys ≡ keys_of steps ++ (key_in next ++ begins.0) = begins.1
      ∙ append_assoc (keys_of steps) (key_in next) begins.0 in
      let over = may_begin answers before start first (keys_of steps) [] steps steps [] m (sym (append-nil steps)) keys
      (key_in next ++ begins.0) keys_are in
      let rest_now = rests first (key_in next ++ begins.0) steps over count in
      no_next next begins.0 (fits ∙ rest_now.0) rest_now.1
  never_stopped bytes taken rest next split count fits (inl spelled) (by_quitting front behind keys parts into quit) =
      let b = both_begin front behind taken rest keys (keys_of steps ++ key_in next) (sym parts ∙ split) into spelled in
      within_limit keys b.behind_one (key_in next ++ b.behind_other) b.all b.one_begins
      (b.other_begins ∙ append_assoc (keys_of steps) (key_in next) b.behind_other) count quit
  never_stopped bytes taken rest next split count fits (inr none) (by_quitting front behind keys parts into quit) =
      let empty : keys_of steps ≡ [] = no_front (keys_of steps) (key_in next) none.1 in
      within_limit keys [] keys keys (sym (append-nil keys)) (ap (λ (l : List Key). l ++ keys) (sym empty)) count quit

-- a count that rose in a part of the time rose in all of it
rose_later : (a b c : ℕ) → Rose a b → b ≤ c → Rose a c
rose_later a b c rose later = omega (arith, rose, later)

rose_before : (a b c : ℕ) → a ≤ b → Rose b c → Rose a c
rose_before a b c before rose = omega (arith, before, rose)

-- the shelf's count never falls
counted_on : (reply : Reply) (a b : ℕ) → IsCounted reply a b → a ≤ b
counted_on call_failed a b is = is.0
counted_on (there x) a b is = omega (arith, is)
counted_on (loaded x) a b is = omega (arith, is)
counted_on (fetched x) a b is = omega (arith, is)
counted_on written a b is = omega (arith, is)

counts_on : (calls : List Asked) (a b : ShelfView) → HaveAnswered calls a b → a.faults ≤ b.faults
counts_on [] a b same = omega (arith, ap (λ (v : ShelfView). v.faults) same)
counts_on (k ∷ ks) a b (middle, was, later) =
    omega (arith, counted_on k.reply a.faults middle.faults was.faults, counts_on ks middle b later)

rose_by : (reply : Reply) (a b : ℕ) → reply ≡ call_failed → IsCounted reply a b → Rose a b
rose_by reply a b is counted = (subst (λ (r : Reply). IsCounted r a b) is counted).1

-- where it didn't rise, no call failed
pub none_failed : (calls : List Asked) (a b : ShelfView) → HaveAnswered calls a b → (Rose a.faults b.faults → ⊥)
    → NoneFailed calls
none_failed [] a b same fine = tt
none_failed (k ∷ ks) a b (middle, was, later) fine = (
  λ is. fine (rose_later a.faults middle.faults b.faults (rose_by k.reply a.faults middle.faults is was.faults)
      (counts_on ks middle b later)),
  none_failed ks middle b later (λ rose.
      fine (rose_before a.faults middle.faults b.faults (counted_on k.reply a.faults middle.faults was.faults) rose)),
)

-- the answers that were given count
given_count : (answers : Answers) (calls : List Asked) (a b : ShelfView) → HaveAnswered calls a b → AreGiven answers a b
    → Count answers calls
given_count any calls a b had fine = tt
given_count unfailing calls a b had fine = none_failed calls a b had fine

-- the steps of a run are such as it may make
may_make : (answers : Answers) (o : Options) (bounds : Bounds) (before : Outside) (start : Beginning)
    (first : Moment) (begun now : Outside) (taken : List ℕ) (steps : List Step) (left out : List Watched)
    → HasOpened o.start start.sheet first (asked o before) begun →
    AreGiven answers before.shelf now.shelf
    → HasRun bounds (begins start first) taken (moments_of steps) steps left out begun now
    → GoOn start.strict (begins start first) steps → MayMake answers before start first (keys_of steps) [] steps
may_make answers o bounds before start first begun now taken steps left out opened fine did on =
    let s : State = (begins start first) in
    let had : HaveAnswered ((opening start.sheet first).calls ++ calls_of s steps) before.shelf now.shelf =
    answered_then (opening start.sheet first).calls (calls_of s steps) before.shelf opened.shelf now.shelf
    opened.answered
    (subst (λ (v : ShelfView). HaveAnswered (calls_of s steps) v now.shelf)
    (ap (λ (x : Outside). x.shelf) opened.now_is) did.shelf) in
    record {
      readings = now.readings;
      took = (
        opened.readings,
        opened.took,
        subst (λ r. TakesReadings r (moments_of steps) now.readings)
            (ap (λ (x : Outside). x.readings) opened.now_is) did.readings,
      );
      shelf = now.shelf;
      answered = had;
      count =
          given_count answers ((opening start.sheet first).calls ++ calls_of s steps) before.shelf now.shelf had fine;
      fit = did.fit;
      go_on = on;
      keys_are = sym (append-nil (keys_of steps));
    }

-- a step that stops a run and doesn't quit it stops a strict one
by_refusal : (strict : Bool) (x : Outcome) → x.ends ≡ false → stops strict x ≡ true → strict ≡ true
by_refusal strict x goes stopped =
    let rest : (strict && is_some (refused_of x.state)) ≡ true =
    sym (ap (λ (e : Bool). e || (strict && is_some (refused_of x.state))) goes) ∙ stopped in
    (and_parts strict (is_some (refused_of x.state)) rest).0

module _ (answers : Answers) (o : Options) (origin : Outside) (start : Beginning) (first : Moment) (bounds : Bounds)
    (before now : Outside) (bytes : List ℕ) (steps : List Step) (left out : List Watched)
    (opened : HasOpened o.start start.sheet first (asked o origin) before) (told : before.bytes ≡ Some bytes)
    (short : length bytes < 2 ^ 64 - 1) (strictly : start.strict ≡ bounds.strict)
    (within : EndWithin answers origin start bounds.steps bytes) (fine : Rose before.key_faults now.key_faults → ⊥)
    (shelf_fine : AreGiven answers origin.shelf now.shelf) where
  -- what none of these steps did is so by the run's own strictness
  on : GoOn bounds.strict (begins start first) steps → GoOn start.strict (begins start first) steps
  on go = subst (λ (strict : Bool). GoOn strict (begins start first) steps) (sym strictly) go

  -- the last step ended the run by its own strictness
  last_on : EndAtLast bounds.strict (begins start first) steps → EndAtLast start.strict (begins start first) steps
  last_on last = subst (λ (strict : Bool). EndAtLast strict (begins start first) steps) (sym strictly) last

  -- of the endings that leave the session only those at the keys' end and where the run is quit are left
  pub only_well : (ending : Ending) → LeavesSession ending
      → HasEnded bounds (begins start first) steps left out before now ending
      → EndsWell start.strict (ending_status false ending) × ReadWell start before now
  only_well KeysEnded leaves h =
      let t = took bytes h.taken before.bytes now.bytes told h.did.bytes in
      let none : t.0 ≡ [] = at_their_end_of bytes h.taken t.0 now.bytes t.1 t.2 short h.ended in (
        inl refl,
        inl (record {
          taken = h.taken;
          took = h.did.bytes;
          first = first;
          steps = steps;
          spelled = h.spelled;
          fit = h.did.fit;
          go_on = on h.go_on;
          wanted = h.wanted;
          none_left = t.2 ∙ ap Some none;
        }),
      )
  only_well (Undone count at) leaves h =
      let t = took bytes h.taken before.bytes now.bytes told h.did.bytes in
      let none : t.0 ≡ [] = at_their_end_of bytes h.taken t.0 now.bytes t.1 t.2 short h.ended in (
        inr (strictly ∙ (and_parts bounds.strict _ h.undone).0, refl),
        inl (record {
          taken = h.taken;
          took = h.did.bytes;
          first = first;
          steps = steps;
          spelled = h.spelled;
          fit = h.did.fit;
          go_on = on h.go_on;
          wanted = h.wanted;
          none_left = t.2 ∙ ap Some none;
        }),
      )
  only_well Quit leaves h = (
    inl refl,
    inr (record {
      taken = h.taken;
      took = h.did.bytes;
      first = first;
      steps = steps;
      spelled = h.spelled;
      fit = h.did.fit;
      quit = last_on h.last;
    }),
  )
  only_well (Refused count at) leaves h = (
    inr (
      strictly ∙ by_refusal bounds.strict (outcome (after (begins start first) h.last.front) h.last.last) h.no_quit
          h.last.ends,
      refl,
    ),
    inr (record {
      taken = h.taken;
      took = h.did.bytes;
      first = first;
      steps = steps;
      spelled = h.spelled;
      fit = h.did.fit;
      quit = last_on h.last;
    }),
  )
  only_well (BadWord at) leaves (inl h) =
      let t = took bytes h.taken before.bytes now.bytes told h.did.bytes in
      let none : t.0 ≡ [] = at_their_end_of bytes h.taken t.0 now.bytes t.1 t.2 short h.ended in
      let whole : bytes ≡ h.taken = t.1 ∙ ap (λ (r : List ℕ). h.taken ++ r) none ∙ append-nil h.taken in
      let made = may_make answers o bounds origin start first before now h.taken steps left out opened shelf_fine h.did
      (on h.go_on) in
      absurd (never_inside answers origin start first bounds.steps steps made h.taken h.wanted h.keys h.no_text
      (subst (EndWithin answers origin start bounds.steps) whole within))
  only_well (BadWord at) leaves (inr h) =
      let t = took bytes (h.taken ++ h.bad ∷ []) before.bytes now.bytes told h.did.bytes in
      let made = may_make answers o bounds origin start first before now
      (h.taken ++ h.bad ∷ []) steps left out opened shelf_fine h.did (on h.go_on) in
      absurd (never_bad answers origin start first bounds.steps steps made bytes h.taken t.0 h.bad t.1 h.wanted h.keys
      h.begins_none within)
  only_well KeysFailed leaves h = absurd (fine h.fault)
  only_well Stopped leaves h =
      let t = took bytes h.taken before.bytes now.bytes told h.did.bytes in
      let made = may_make answers o bounds origin start first before now h.taken steps left out opened shelf_fine h.did
      (on h.go_on) in
      absurd (never_stopped answers origin start first bounds.steps steps made bytes h.taken t.0 h.next t.1 h.all h.fits
      h.spelled within)
  only_well NoMemory leaves h = absurd leaves

-- what was read to an end stays so where what the keys tell stays
same_read : (start : Beginning) (begun middle before now : Outside) → begun.bytes ≡ before.bytes
    → now.bytes ≡ middle.bytes → ReadWell start begun middle → ReadWell start before now
same_read start begun middle before now first same (inl r) =
    inl (record {
      taken = r.taken;
      took =
          subst (λ b. TakesBytes b r.taken now.bytes) first (subst (TakesBytes begun.bytes r.taken) (sym same) r.took);
      first = r.first;
      steps = r.steps;
      spelled = r.spelled;
      fit = r.fit;
      go_on = r.go_on;
      wanted = r.wanted;
      none_left = same ∙ r.none_left;
    })
same_read start begun middle before now first same (inr r) =
    inr (record {
      taken = r.taken;
      took =
          subst (λ b. TakesBytes b r.taken now.bytes) first (subst (TakesBytes begun.bytes r.taken) (sym same) r.took);
      first = r.first;
      steps = r.steps;
      spelled = r.spelled;
      fit = r.fit;
      quit = r.quit;
    })

-- the bytes that a shelf gave are those that it tells
same_bytes : (name other : List ℕ) (s : OnShelf) (bytes given : List ℕ) → other ≡ name
    → file_in name s.files ≡ Some bytes → Some given ≡ file_in other s.files → given ≡ bytes
same_bytes name other s bytes given same held got = let both : Some given ≡ Some bytes = got
    ∙ ap (λ (n : List ℕ). file_in n s.files) same ∙ held in cc

told_so : (name : List ℕ) (s : OnShelf) (told now : Option OnShelf) (given : Option (List ℕ)) → told ≡ Some s
    → HasRead (file_in name) name told now (Ok given) → given ≡ file_in name s.files
told_so name s None now given is read = absurd cc
told_so name s (Some t) now given is read = let same : t ≡ s = cc in
    read.0 ∙ ap (λ (x : OnShelf). file_in name x.files) same

failed_so : (name : List ℕ) (s : OnShelf) (told now : Option OnShelf) → told ≡ Some s → HasRead {A = Option
    (List ℕ)} (file_in name) name told now (Err Failed) → now ≡ Some (answered (failed (file_in name s.files)) s)
failed_so name s None now is read = absurd cc
failed_so name s (Some t) now is read = let same : t ≡ s = cc in
    read ∙ ap (λ (x : OnShelf). Some (answered (failed (file_in name x.files)) x)) same

-- the sheet that the words ask for is that of the run
same_start : (now : ShelfView) (asks : Start) (start other : StartSheet) (first : Moment) (a b : Outside)
    → Opens a.shelf now asks start → HasOpened asks other first a b → other ≡ start
same_start now asks start fresh first a b with_none h = refl
same_start now asks start (of_file n v) first a b with_none h = absurd h.named
same_start now asks start (of_rows n v) first a b with_none h = absurd h.named
same_start now asks start fresh first a b (from_file name saved s bytes told held is fails) h = absurd h.named
same_start now asks start (of_rows n v) first a b (from_file name saved s bytes told held is fails) h = absurd h.named
same_start now asks start (of_file n v) first a b (from_file name saved s bytes told held is fails) h =
    let named : n ≡ name = h.named in
    let read = h.answered.1.told in
    let bytes_are : read.0 ≡ bytes =
    same_bytes name n s bytes read.0 named held (told_so n s a.shelf.told _ (Some read.0) told read.2) in
    let both : ◌≡◌ {A = Result SavedSheet Wk1Fault} (Ok v) (Ok saved) =
    one_file bytes (Ok v) (Ok saved) (subst (λ (b : List ℕ). IsFile b (Ok v)) bytes_are read.1) is in
    let same : v ≡ saved = cc in
    ap (λ (m : List ℕ). of_file m v) named ∙ ap (of_file name) same
same_start now asks start fresh first a b (by_rule rows saved is) h = absurd h.named
same_start now asks start (of_file n v) first a b (by_rule rows saved is) h = absurd h.named
same_start now asks start (of_rows n v) first a b (by_rule rows saved is) h =
    let same : v ≡ saved = one_sheet rows v saved h.named.1 is in
    ap (λ (m : ℕ). of_rows m v) h.named.0 ∙ ap (of_rows rows) same

-- a start file that reads as a sheet isn't refused
never_unread : (before now shelf : ShelfView) (asks : Start) (start : StartSheet) (name : List ℕ) (why : NotRead)
    → Opens before now asks start → asks ≡ given.File name → now ≡ shelf
    → HaveAnswered (asked_for name (answer_of why)) before shelf → ⊥
never_unread before now shelf asks start name why with_none some same asked = absurd cc
never_unread before now shelf asks start name why (by_rule rows saved is) some same asked = absurd cc
never_unread before now shelf asks start name NoSuchFile (from_file file saved s bytes told held is fails) some
    same asked =
    let named : file ≡ name = cc in
    let none : None ≡ file_in name s.files = told_so name s before.told _ None told asked.1.told in
    let both : ◌≡◌ {A = Option (List ℕ)} None (Some bytes) =
    none ∙ ap (λ (n : List ℕ). file_in n s.files) (sym named) ∙ held in
    absurd cc
never_unread before now shelf asks start name (Faulty w) (from_file file saved s bytes told held is fails) some
    same asked =
    let named : file ≡ name = cc in
    let read = asked.1.told in
    let bytes_are : read.0 ≡ bytes =
    same_bytes file name s bytes read.0 (sym named) held (told_so name s before.told _ (Some read.0) told read.2) in
    let both : ◌≡◌ {A = Result SavedSheet Wk1Fault} (Err w) (Ok saved) =
    one_file bytes (Err w) (Ok saved) (subst (λ (b : List ℕ). IsFile b (Err w)) bytes_are read.1) is in
    absurd cc
never_unread before now shelf asks start name DiskError (from_file file saved s bytes told held is fails) some
    same asked =
    let then : shelf ≡ asked.0 = asked.2 in
    let now_told : now.told ≡ Some (answered (failed (file_in name s.files)) s) =
    ap (λ (v : ShelfView). v.told) (same ∙ then) ∙ failed_so name s before.told _ told asked.1.told in
    fails (answered (failed (file_in name s.files)) s) (file_in name s.files) [] now_told refl

ended_well : (answers : Answers) (words : List (List ℕ)) (o : Options) (before now : Surroundings)
    (found : ℕ) (text : List ℕ) (must : MustEndWell answers words before now)
    → must.options ≡ o → HasFinished o before.outside now.outside found text
    → EndsWell must.start.strict found × ReadWell must.start before.outside now.outside
ended_well answers words o before now found text must same fin =
    let b : now.outside.bytes ≡ fin.middle.bytes = ap (λ (x : Outside). x.bytes) fin.now_is in
    let k : now.outside.key_faults ≡ fin.middle.key_faults = ap (λ (x : Outside). x.key_faults) fin.now_is in
    let b0 : fin.begun.bytes ≡ before.outside.bytes = ap (λ (x : Outside). x.bytes) fin.opened.now_is in
    let k0 : fin.begun.key_faults ≡ before.outside.key_faults = ap (λ (x : Outside). x.key_faults) fin.opened.now_is in
    let f0 : fin.begun.failed ≡ before.outside.failed = ap (λ (x : Outside). x.failed) fin.opened.now_is in
    let opens : Opens before.outside.shelf now.outside.shelf o.start must.start.sheet = subst
    (λ (x : Options). Opens before.outside.shelf now.outside.shelf x.start must.start.sheet) same must.opens in
    let begin : Beginning = record { sheet = fin.start; strict = o.strict } in
    let sheet : fin.start ≡ must.start.sheet =
    same_start now.outside.shelf o.start must.start.sheet fin.start fin.first _ fin.begun opens fin.opened in
    let strict : o.strict ≡ must.start.strict = sym (must.strict ∙ ap (λ (x : Options). x.strict) same) in
    let start : begin ≡ must.start = λ i. record { sheet = sheet i; strict = strict i } in
    let within : EndWithin answers before.outside begin (limit_of o) must.bytes =
    subst (λ (f : Beginning). EndWithin answers before.outside f (limit_of o) must.bytes) (sym start) (subst
    (λ (x : Options). EndWithin answers before.outside must.start (limit_of x) must.bytes) same must.end_within) in
    let fine : Rose fin.begun.key_faults fin.middle.key_faults → ⊥ = λ rose. must.keys_fine (subst (λ (n : ℕ).
    Rose n now.outside.key_faults) k0 (subst (λ (n : ℕ). Rose fin.begun.key_faults n) (sym k) rose)) in
    let z : now.outside.shelf ≡ fin.middle.shelf = ap (λ (x : Outside). x.shelf) fin.now_is in
    let shelf_fine : AreGiven answers before.outside.shelf fin.middle.shelf =
    subst (AreGiven answers before.outside.shelf) z must.shelf_fine in
    let well = only_well answers o before.outside begin fin.first
    (bounds_of o) fin.begun fin.middle must.bytes fin.steps fin.left fin.out fin.opened
    (b0 ∙ must.told) must.short refl within fine shelf_fine fin.ending fin.leaves fin.ended in
    let h = handled _ _ _ _ _ _ _ fin.ending fin.ended in
    let f : now.outside.failed ≡ fin.middle.failed ++ views_of fin.out_now =
    ap (λ (x : Outside). x.failed) fin.now_is in
    let none : length (fin.out ++ fin.out_now) ≡ 0 =
    omega (
      arith,
      must.displays_fine,
      ap length f,
      ap length h.failed,
      ap length f0,
      length-append fin.middle.failed (views_of fin.out_now),
      length-append fin.begun.failed (views_of fin.out),
      length-append fin.out fin.out_now,
      length-map fin.out (λ (d : Watched). d.now),
      length-map fin.out_now (λ (d : Watched). d.now),
    ) in
    let read : ReadWell must.start fin.begun fin.middle =
    subst (λ (f : Beginning). ReadWell f fin.begun fin.middle) start well.1 in
    let found_is : found ≡ ending_status false fin.ending =
    fin.found_is ∙ ap (λ (m : Bool). ending_status m fin.ending) (any_length (fin.out ++ fin.out_now) none) in (
      subst (λ (n : ℕ). EndsWell must.start.strict n) (sym found_is)
          (subst (λ (b : Bool). EndsWell b (ending_status false fin.ending)) strict well.0),
      same_read must.start fin.begun fin.middle before.outside now.outside b0 b read,
    )

with_well : (answers : Answers) (words : List (List ℕ)) (o : Options) (before now : Surroundings) (status : ℕ)
    (must : MustEndWell answers words before now) → must.options ≡ o → RunsWith o before now status
    → HasEndedWell must.start before now status
with_well answers words o before now status must same (finished found text fin (inl told)) =
    let well = ended_well answers words o before now found text must same fin in
    inl (subst (λ (n : ℕ). EndsWell must.start.strict n) (sym told.0) well.0, well.1)
with_well answers words o before now status must same (finished found text fin (inr told)) =
    absurd (must.notes_fine told.2)
with_well answers words o before now status must same (not_read name why shelf some asked is told) =
    let opens : Opens before.outside.shelf now.outside.shelf o.start must.start.sheet = subst
    (λ (x : Options). Opens before.outside.shelf now.outside.shelf x.start must.start.sheet) same must.opens in
    absurd (never_unread before.outside.shelf now.outside.shelf shelf o.start must.start.sheet name why opens some
    (ap (λ (x : Outside). x.shelf) is) asked)
with_well answers words o before now status must same (no_room untouched tried) = inr refl
with_well answers words o before now status must same (no_sheet shelf broke is tried) = inr refl
with_well answers words o before now status must same (no_session start first opened tried) = inr refl
with_well answers words o before now status must same
    (no_memory start first begun steps left out opened ran_out tried) = inr refl

-- a run with words and surroundings in which it must end well has ended well
pub completes : (words : List (List ℕ)) (before now : Surroundings) (status : ℕ) → IsRun words before now status
    → (answers : Answers) (must : MustEndWell answers words before now) → HasEndedWell must.start before now status
completes words before now status (refused word read untouched told) answers must =
    (let both : ◌≡◌ {A = Result Options (List ℕ)} (Err word) (Ok must.options) = sym read ∙ must.accepted in absurd cc)
completes words before now status (ran o read runs) answers must = (let both : ◌≡◌ {A = Result Options (List ℕ)}
    (Ok must.options) (Ok o) = sym must.accepted ∙ read in with_well answers words o before now status must (cc) runs)
completes words before now status (no_note word read untouched tried) answers must = inr refl
