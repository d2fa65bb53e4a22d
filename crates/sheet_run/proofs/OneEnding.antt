-- Two runs over the same keys, readings and files end in the same way.
use Rattle.std.proofs.Common.{◌≡◌, ℕ, ◌+◌, ◌-◌, ◌^◌, ◌≤◌, Bool, true, false, List, [], ◌∷◌, ◌++◌, length, Option}
use Rattle.std.proofs.Common.{Some, refl, sym, ap, ◌∙◌, subst, arith, ◌⊎◌, inl, inr, append_assoc, length-append}
use Rattle.std.proofs.lemmas.Bool.{cases_lt, true≢false}
use Rattle.std.proofs.lemmas.List.{append-nil, nil_from_length}
use Rattle.outside_world.specs.Causes.{Rose}
use Rattle.key_words.specs.Notation.{Begins, IsNoText, SpellsWords}
use Rattle.key_words.specs.declared.key.Key.{Key}
use Rattle.session_core.specs.Machine.{wants_key, State}
use Rattle.session_core.specs.Step.{is_key}
use Rattle.session_core.specs.declared.event.Event.{Event}
use Rattle.session_core.specs.declared.event.Event.TheVariants.{Key as KeyEvent, Unit as UnitEvent}
use Rattle.sheet_run.specs.Displays.{Watched}
use Rattle.sheet_run.specs.inner.Driving.{rested_as}
use Rattle.sheet_run.specs.Run.{HasEnded}
use Rattle.sheet_run.specs.Notes.{LeavesSession}
use Rattle.sheet_run.specs.Notation.{HasKeys, SpellsKeys, SpellsUpTo}
use Rattle.sheet_run.specs.Run.{after, key_in, keys_of, leaves_undone, moments_of, outcome, EndAtLast, Fit, HasRun}
use Rattle.sheet_run.specs.Run.{Outside, Step}
use Rattle.sheet_run.specs.Taking.{AtEnd, Ended}
use Rattle.sheet_run.specs.declared.drive.Ending.{Ending}
use Rattle.sheet_run.specs.declared.drive.Ending.TheVariants.{KeysEnded, Undone, Quit, Refused, BadWord, KeysFailed}
use Rattle.sheet_run.specs.declared.drive.Ending.TheVariants.{Stopped, NoMemory}
use Rattle.sheet_run.specs.declared.options.Bounds.{Bounds}
use Rattle.sheet_run.proofs.Fronts.{shorter_begins}
use Rattle.sheet_run.proofs.OneText.{begins_front, both_give, give_all, give_front, give_up_to, has_all, has_spelled}
use Rattle.sheet_run.proofs.OneText.{one_up_to, Give}
use Rattle.sheet_run.proofs.SameSteps.{all_go, fit_at, go_before, keys-append, last_before, one_last, outcomes}
use Rattle.sheet_run.proofs.SameSteps.{same_after, same_event, same_length, stop_or_go, stops_last, AllGo, Alike}
use Rattle.sheet_run.proofs.SameSteps.{Compared, GoBefore, as_long, longer, shorter}
use Rattle.sheet_run.proofs.Taken.{took}

-- none of the bytes is left, or so many were taken that no more can be counted
abbrev pub AtTheEnd : List ℕ → List ℕ → Type 0
AtTheEnd taken rest = (rest ≡ []) ⊎ (length taken ≡ 2 ^ 64 - 1)

-- the ending where the last step ends the run, by whether it quits it
abbrev pub stop_ending : Bool → ℕ → ℕ → Ending
stop_ending true count at = Quit
stop_ending false count at = Refused count at

-- how some steps ended, of whose bytes these were taken
pub data Ends (bounds : Bounds) (s : State) (steps : List Step) (taken rest : List ℕ) (ending : Ending) : Type 0 where
  by_stop : (last : EndAtLast bounds.strict s steps) → SpellsUpTo taken (keys_of steps) →
      ending ≡ stop_ending (outcome (after s last.front) last.last).ends (length steps) (length taken) →
      Ends bounds s steps taken rest ending
  by_rest : AllGo bounds.strict (outcomes s steps) → wants_key (after s steps) ≡ true
      → SpellsKeys taken (keys_of steps) → AtTheEnd taken rest
      → ending ≡ rested_as (leaves_undone bounds.strict (after s steps)) (length steps) (length taken)
      → Ends bounds s steps taken rest ending
  by_word : AllGo bounds.strict (outcomes s steps) → wants_key (after s steps) ≡ true → HasKeys taken (keys_of steps) →
      IsNoText taken → AtTheEnd taken rest → ending ≡ BadWord (length taken) → Ends bounds s steps taken rest ending
  by_bad : (front : List ℕ) (bad : ℕ) → taken ≡ front ++ bad ∷ [] → AllGo bounds.strict (outcomes s steps) →
      wants_key (after s steps) ≡ true → HasKeys front (keys_of steps) → (Begins (front ++ bad ∷ []) → ⊥) →
      ending ≡ BadWord (length front) → Ends bounds s steps taken rest ending
  by_limit : (next : Event) → AllGo bounds.strict (outcomes s steps) → length steps ≡ bounds.steps →
      is_key next ≡ wants_key (after s steps) → SpellsUpTo taken (keys_of steps ++ key_in next) → ending ≡ Stopped →
      Ends bounds s steps taken rest ending

-- steps of a run over these bytes, with how they ended
pub record Closing (bounds : Bounds) (s : State) (steps : List Step) (bytes taken rest : List ℕ)
    (ending : Ending) : Type 0 where
  pub split : bytes ≡ taken ++ rest
  pub few : length taken ≤ 2 ^ 64 - 1
  -- the bytes that give the keys: all that were taken, but for a last one with which no text goes on
  pub read : List ℕ
  pub behind : List ℕ
  pub parts : bytes ≡ read ++ behind
  pub short : length read ≤ 2 ^ 64 - 1
  pub give : Give read (keys_of steps)
  pub before : GoBefore bounds.strict s steps
  pub fit : Fit s steps
  pub within : length steps ≤ bounds.steps
  pub ends : Ends bounds s steps taken rest ending

-- no keys stand behind those that these bytes give
abbrev pub GiveNoMore : List ℕ → List Key → Type 0
GiveNoMore bytes keys = (read behind : List ℕ) (some : List Key) → bytes ≡ read ++ behind → length read ≤ 2 ^ 64 - 1 →
    Give read some → (more : List Key) × (keys ≡ some ++ more)

-- none stand behind bytes that were all taken
end_gives : (bytes taken rest : List ℕ) (keys : List Key) → bytes ≡ taken ++ rest → AtTheEnd taken rest →
    HasKeys taken keys → GiveNoMore bytes keys
end_gives bytes taken rest keys split (inl none) has read behind some parts short give =
    let count : length read ≤ length taken =
    omega (
      arith,
      ap length none,
      ap length split,
      ap length parts,
      length-append taken rest,
      length-append read behind,
    ) in
    let all = shorter_begins read behind taken rest (sym parts ∙ split) count in
    has_all read all.0 some keys give (subst (λ (b : List ℕ). HasKeys b keys) all.1 has)
end_gives bytes taken rest keys split (inr most) has read behind some parts short give =
    let all = shorter_begins read behind taken rest (sym parts ∙ split) (omega (arith, most, short)) in
    has_all read all.0 some keys give (subst (λ (b : List ℕ). HasKeys b keys) all.1 has)

-- nor behind those before a byte with which no text goes on
bad_gives : (bytes front rest : List ℕ) (bad : ℕ) (keys : List Key) → bytes ≡ (front ++ bad ∷ []) ++ rest →
    (Begins (front ++ bad ∷ []) → ⊥) → HasKeys front keys → GiveNoMore bytes keys
bad_gives bytes front rest bad keys split none has read behind some parts short give =
    elim (cases_lt (length front) (length read)) [
      | inl more ↦
          let all = shorter_begins (front ++ bad ∷ []) rest read behind (sym split ∙ parts)
          (omega (arith, more, length-append front (bad ∷ []))) in
          absurd (none (begins_front (front ++ bad ∷ []) all.0 (subst Begins all.1 give.begins)))
      | inr fewer ↦
          let all = shorter_begins read behind front (bad ∷ rest) (sym parts ∙ split
          ∙ append_assoc front (bad ∷ []) rest) fewer in
          has_all read all.0 some keys give (subst (λ (b : List ℕ). HasKeys b keys) all.1 has)
    ]

-- where a key is wanted, none more comes
pub no_more_keys : (bytes : List ℕ) (keys : List Key) (next : Event) (rest : List Key) (read behind : List ℕ) →
    GiveNoMore bytes keys → is_key next ≡ true → bytes ≡ read ++ behind → length read ≤ 2 ^ 64 - 1 →
    Give read (keys ++ (key_in next ++ rest)) → ⊥
no_more_keys bytes keys UnitEvent rest read behind no_more wanted parts short give = true≢false (sym wanted)
no_more_keys bytes keys (KeyEvent k) rest read behind no_more wanted parts short give =
    let more = no_more read behind (keys ++ k ∷ rest) parts short give in
    omega (arith, ap length more.1, length-append (keys ++ k ∷ rest) more.0, length-append keys (k ∷ rest))

-- lists that begin with the same items and are the same go on with the same
pub cancel : {X : Type 0} (xs a b : List X) → xs ++ a ≡ xs ++ b → a ≡ b
cancel [] a b e = e
cancel (x ∷ xs) a b e = let rest : xs ++ a ≡ xs ++ b = cc in cancel xs a b rest

-- a list of length 0 is empty
-- two beginnings of one list, as long as each other
same_front : {X : Type 0} (a b c d : List X) → a ++ b ≡ c ++ d → length a ≡ length c → a ≡ c
same_front {X} a b c d e same =
    let more = shorter_begins a b c d e (omega (arith, same)) in
    let none = nil_from_length more.0 (omega (arith, same, ap length more.1, length-append a more.0)) in
    sym (more.1 ∙ ap (λ (l : List X). a ++ l) none ∙ append-nil a)

-- no more bytes were taken where these were all
end_most : (bytes taken taken' rest rest' : List ℕ) → bytes ≡ taken ++ rest → bytes ≡ taken' ++ rest' →
    AtTheEnd taken rest → length taken' ≤ 2 ^ 64 - 1 → length taken' ≤ length taken
end_most bytes taken taken' rest rest' split split' (inl none) few =
    omega (
      arith,
      ap length none,
      ap length split,
      ap length split',
      length-append taken rest,
      length-append taken' rest',
    )
end_most bytes taken taken' rest rest' split split' (inr most) few = omega (arith, most, few)

-- bytes that are no text but with a byte more can't be among those that were all taken
end_no_bad : (bytes taken rest front rest' : List ℕ) (bad : ℕ) (keys : List Key) → bytes ≡ taken ++ rest →
    AtTheEnd taken rest → HasKeys taken keys → bytes ≡ (front ++ bad ∷ []) ++ rest' →
    length (front ++ bad ∷ []) ≤ 2 ^ 64 - 1 → (Begins (front ++ bad ∷ []) → ⊥) → ⊥
end_no_bad bytes taken rest front rest' bad keys split at has split' few none =
    let all = shorter_begins (front ++ bad ∷ []) rest' taken rest (sym split' ∙ split)
    (end_most bytes taken (front ++ bad ∷ []) rest rest' split split' at few) in
    none (begins_front (front ++ bad ∷ []) all.0 (subst Begins all.1 (give_all taken keys has).begins))

-- of two bytes with which no text goes on the one doesn't come before the other
bad_first : (front rest front' rest' : List ℕ) (bad bad' : ℕ) (keys : List Key) →
    (front ++ bad ∷ []) ++ rest ≡ (front' ++ bad' ∷ []) ++ rest' → (Begins (front ++ bad ∷ []) → ⊥) →
    HasKeys front' keys →
    length front' ≤ length front
bad_first front rest front' rest' bad bad' keys both none has =
    elim (cases_lt (length front) (length front')) [
      | inl more ↦
          let all = shorter_begins (front ++ bad ∷ []) rest front' (bad' ∷ rest') (both
          ∙ append_assoc front' (bad' ∷ []) rest') (omega (arith, more, length-append front (bad ∷ []))) in
          absurd (none (begins_front (front ++ bad ∷ []) all.0 (subst Begins all.1 (give_all front' keys has).begins)))
      | inr fewer ↦ fewer
    ]

-- where the keys are at their end none is there for one step more
no_next : (bytes : List ℕ) (keys keys' : List Key) (next : Event) (wants : Bool) (taken rest : List ℕ) → keys ≡ keys' →
    GiveNoMore bytes keys → wants ≡ true → is_key next ≡ wants → bytes ≡ taken ++ rest → length taken ≤ 2 ^ 64 - 1 →
    SpellsUpTo taken (keys' ++ key_in next) → ⊥
no_next bytes keys keys' next wants taken rest same no_more wanted fits split few spelled =
    let all : keys' ++ key_in next ≡ keys ++ (key_in next ++ []) =
    (λ i. sym same i ++ sym (append-nil (key_in next)) i) in
    no_more_keys bytes keys next [] taken rest no_more (fits ∙ wanted) split few
    (subst (Give taken) all (give_up_to taken (keys' ++ key_in next) spelled))

module _ (bounds : Bounds) (s t : State) (xs ys : List Step) (bytes taken taken' rest rest' : List ℕ) (e f : Ending)
    (same : s ≡ t) (one : Closing bounds s xs bytes taken rest e)
    (other : Closing bounds t ys bytes taken' rest' f) where
  wants_no_more : (front : List Step) (y : Step) (back : List Step) → ys ≡ front ++ y ∷ back → Alike s t xs front →
      wants_key (after s xs) ≡ true → GiveNoMore bytes (keys_of xs) → ⊥
  wants_no_more front y back is a wanted no_more =
      let fits : is_key y.event ≡ true = fit_at front back y t (subst (Fit t) is other.fit)
      ∙ ap wants_key (sym (same_after s t xs front same a)) ∙ wanted in
      let keys : keys_of ys ≡ keys_of xs ++ (key_in y.event ++ keys_of back) =
      ap keys_of is ∙ keys-append front (y ∷ back) ∙ ap (λ (l : List Key). l ++ (key_in y.event ++ keys_of back))
      (sym a.keys) in
      no_more_keys bytes (keys_of xs) y.event (keys_of back) other.read other.behind no_more fits other.parts
      other.short (subst (Give other.read) keys other.give)

  -- the one ended, and the other makes the same steps and one more
  pub goes_no_further : (front : List Step) (y : Step) (back : List Step) → ys ≡ front ++ y ∷ back →
      Alike s t xs front → Ends bounds s xs taken rest e → ⊥
  goes_no_further front y back is a (by_stop last spelled how) =
      stop_or_go bounds.strict (outcomes s xs) (outcomes t front) a.came (stops_last bounds.strict s xs last)
      (all_go bounds.strict front t (other.before front y back is))
  goes_no_further front y back is a (by_rest go wanted spelled at how) =
      wants_no_more front y back is a wanted (end_gives bytes taken rest (keys_of xs) one.split at
      (has_spelled taken (keys_of xs) spelled))
  goes_no_further front y back is a (by_word go wanted has none at how) =
      wants_no_more front y back is a wanted (end_gives bytes taken rest (keys_of xs) one.split at has)
  goes_no_further front y back is a (by_bad read bad taken_is go wanted has none how) =
      wants_no_more front y back is a wanted (bad_gives bytes read rest bad (keys_of xs) (one.split
      ∙ ap (λ (l : List ℕ). l ++ rest) taken_is) none has)
  goes_no_further front y back is a (by_limit next go all fits spelled how) =
      omega (arith, ap length is, length-append front (y ∷ back), same_length s t xs front same a, all, other.within)

  module _ (a : Alike s t xs ys) where
    both : taken ++ rest ≡ taken' ++ rest'
    both = sym one.split ∙ other.split

    -- the one run went on, and the other was ended by its last step
    not_both : EndAtLast bounds.strict s xs → AllGo bounds.strict (outcomes t ys) → ⊥
    not_both last go = stop_or_go bounds.strict (outcomes s xs) (outcomes t ys) a.came
        (stops_last bounds.strict s xs last) go

    not_either : EndAtLast bounds.strict t ys → AllGo bounds.strict (outcomes s xs) → ⊥
    not_either last go = stop_or_go bounds.strict (outcomes t ys) (outcomes s xs) (sym a.came)
        (stops_last bounds.strict t ys last) go

    wanted_here : wants_key (after s xs) ≡ wants_key (after t ys)
    wanted_here = ap wants_key (same_after s t xs ys same a)

    all_taken : AtTheEnd taken rest → AtTheEnd taken' rest' → taken ≡ taken'
    all_taken at at' =
        let most = end_most bytes taken taken' rest rest' one.split other.split at other.few in
        let most' = end_most bytes taken' taken rest' rest other.split one.split at' one.few in
        same_front taken rest taken' rest' both (omega (arith, most, most'))

    -- the way in which both end
    pub same_end : Ends bounds s xs taken rest e → Ends bounds t ys taken' rest' f → (e ≡ f) × (taken ≡ taken')
    same_end (by_stop last spelled how) (by_stop last' spelled' how') =
        let bytes_are : taken ≡ taken' =
        one_up_to taken rest taken' rest' (keys_of ys) both (subst (SpellsUpTo taken) a.keys spelled) spelled' in
        let stop = stops_last bounds.strict s xs last in
        let stop' = stops_last bounds.strict t ys last' in
        let lasts : stop.last ≡ stop'.last = one_last stop.front stop'.front stop.last stop'.last (sym stop.all_are
        ∙ a.came ∙ stop'.all_are) in (
          how ∙ (λ i. stop_ending (lasts i).ends (same_length s t xs ys same a i) (length (bytes_are i)))
              ∙ sym how',
          bytes_are,
        )
    same_end (by_stop last spelled how) (by_rest go' wanted' spelled' at' how') = absurd (not_both last go')
    same_end (by_stop last spelled how) (by_word go' wanted' has' none' at' how') = absurd (not_both last go')
    same_end (by_stop last spelled how) (by_bad read' bad' is' go' wanted' has' none' how') = absurd (not_both last go')
    same_end (by_stop last spelled how) (by_limit next' go' all' fits' spelled' how') = absurd (not_both last go')
    same_end (by_rest go wanted spelled at how) (by_stop last' spelled' how') = absurd (not_either last' go)
    same_end (by_rest go wanted spelled at how) (by_rest go' wanted' spelled' at' how') =
        let bytes_are = all_taken at at' in (
          how ∙ (λ i. rested_as (leaves_undone bounds.strict (same_after s t xs ys same a i))
              (same_length s t xs ys same a i) (length (bytes_are i))) ∙ sym how',
          bytes_are,
        )
    same_end (by_rest go wanted spelled at how) (by_word go' wanted' has' none' at' how') =
        absurd (none' spelled.0 (subst (λ (b : List ℕ). SpellsWords b spelled.0) (all_taken at at') spelled.1))
    same_end (by_rest go wanted spelled at how) (by_bad read' bad' is' go' wanted' has' none' how') =
        absurd (end_no_bad bytes taken rest read' rest' bad' (keys_of xs) one.split at
        (has_spelled taken (keys_of xs) spelled) (other.split ∙ ap (λ (l : List ℕ). l ++ rest') is')
        (subst (λ (l : List ℕ). length l ≤ 2 ^ 64 - 1) is' other.few) none')
    same_end (by_rest go wanted spelled at how) (by_limit next' go' all' fits' spelled' how') =
        absurd (no_next bytes (keys_of xs) (keys_of ys) next' (wants_key (after t ys)) taken' rest' a.keys
        (end_gives bytes taken rest (keys_of xs) one.split at (has_spelled taken (keys_of xs) spelled)) (sym wanted_here
        ∙ wanted) fits' other.split other.few spelled')
    same_end (by_word go wanted has none at how) (by_stop last' spelled' how') = absurd (not_either last' go)
    same_end (by_word go wanted has none at how) (by_rest go' wanted' spelled' at' how') =
        absurd (none spelled'.0 (subst (λ (b : List ℕ). SpellsWords b spelled'.0) (sym (all_taken at at')) spelled'.1))
    same_end (by_word go wanted has none at how) (by_word go' wanted' has' none' at' how') =
        let bytes_are = all_taken at at' in
        (how ∙ ap (λ (l : List ℕ). BadWord (length l)) bytes_are ∙ sym how', bytes_are)
    same_end (by_word go wanted has none at how) (by_bad read' bad' is' go' wanted' has' none' how') =
        absurd (end_no_bad bytes taken rest read' rest' bad' (keys_of xs) one.split at has (other.split
        ∙ ap (λ (l : List ℕ). l ++ rest') is') (subst (λ (l : List ℕ). length l ≤ 2 ^ 64 - 1) is' other.few) none')
    same_end (by_word go wanted has none at how) (by_limit next' go' all' fits' spelled' how') =
        absurd (no_next bytes (keys_of xs) (keys_of ys) next' (wants_key (after t ys)) taken' rest' a.keys
        (end_gives bytes taken rest (keys_of xs) one.split at has) (sym wanted_here ∙ wanted) fits' other.split
        other.few spelled')
    same_end (by_bad read bad is go wanted has none how) (by_stop last' spelled' how') = absurd (not_either last' go)
    same_end (by_bad read bad is go wanted has none how) (by_rest go' wanted' spelled' at' how') =
        absurd (end_no_bad bytes taken' rest' read rest bad (keys_of ys) other.split at'
        (has_spelled taken' (keys_of ys) spelled') (one.split ∙ ap (λ (l : List ℕ). l ++ rest) is)
        (subst (λ (l : List ℕ). length l ≤ 2 ^ 64 - 1) is one.few) none)
    same_end (by_bad read bad is go wanted has none how) (by_word go' wanted' has' none' at' how') =
        absurd (end_no_bad bytes taken' rest' read rest bad (keys_of ys) other.split at' has' (one.split
        ∙ ap (λ (l : List ℕ). l ++ rest) is) (subst (λ (l : List ℕ). length l ≤ 2 ^ 64 - 1) is one.few) none)
    same_end (by_bad read bad is go wanted has none how) (by_bad read' bad' is' go' wanted' has' none' how') =
        let whole : (read ++ bad ∷ []) ++ rest ≡ (read' ++ bad' ∷ []) ++ rest' = (λ i. sym is i ++ rest) ∙ both
        ∙ (λ i. is' i ++ rest') in
        let fewer = bad_first read rest read' rest' bad bad' (keys_of ys) whole none has' in
        let fewer' = bad_first read' rest' read rest bad' bad (keys_of xs) (sym whole) none' has in
        let count : length read ≡ length read' = omega (arith, fewer, fewer') in
        let bytes_are : taken ≡ taken' =
        same_front taken rest taken' rest' both
        (omega (
          arith,
          count,
          ap length is,
          ap length is',
          length-append read (bad ∷ []),
          length-append read' (bad' ∷ []),
        )) in
        (how ∙ ap BadWord count ∙ sym how', bytes_are)
    same_end (by_bad read bad is go wanted has none how) (by_limit next' go' all' fits' spelled' how') =
        absurd (no_next bytes (keys_of xs) (keys_of ys) next' (wants_key (after t ys)) taken' rest' a.keys
        (bad_gives bytes read rest bad (keys_of xs) (one.split ∙ ap (λ (l : List ℕ). l ++ rest) is) none has)
        (sym wanted_here ∙ wanted) fits' other.split other.few spelled')
    same_end (by_limit next go all fits spelled how) (by_stop last' spelled' how') = absurd (not_either last' go)
    same_end (by_limit next go all fits spelled how) (by_rest go' wanted' spelled' at' how') =
        absurd (no_next bytes (keys_of ys) (keys_of xs) next (wants_key (after s xs)) taken rest (sym a.keys)
        (end_gives bytes taken' rest' (keys_of ys) other.split at' (has_spelled taken' (keys_of ys) spelled'))
        (wanted_here ∙ wanted') fits one.split one.few spelled)
    same_end (by_limit next go all fits spelled how) (by_word go' wanted' has' none' at' how') =
        absurd (no_next bytes (keys_of ys) (keys_of xs) next (wants_key (after s xs)) taken rest (sym a.keys)
        (end_gives bytes taken' rest' (keys_of ys) other.split at' has') (wanted_here ∙ wanted') fits one.split one.few
        spelled)
    same_end (by_limit next go all fits spelled how) (by_bad read' bad' is' go' wanted' has' none' how') =
        absurd (no_next bytes (keys_of ys) (keys_of xs) next (wants_key (after s xs)) taken rest (sym a.keys)
        (bad_gives bytes read' rest' bad' (keys_of ys) (other.split ∙ ap (λ (l : List ℕ). l ++ rest') is') none'
        has') (wanted_here ∙ wanted') fits one.split one.few spelled)
    same_end (by_limit next go all fits spelled how) (by_limit next' go' all' fits' spelled' how') =
        let given = both_give taken rest taken' rest' (keys_of xs ++ key_in next) (keys_of ys ++ key_in next') both
        (give_up_to taken (keys_of xs ++ key_in next) spelled) (give_up_to taken' (keys_of ys ++ key_in next')
        spelled') in
        let lists : keys_of ys ++ (key_in next ++ given.0) ≡ keys_of ys ++ (key_in next' ++ given.1) =
        (λ i. sym a.keys i ++ (key_in next ++ given.0)) ∙ sym (append_assoc (keys_of xs) (key_in next) given.0)
        ∙ given.2 ∙ append_assoc (keys_of ys) (key_in next') given.1 in
        let event = same_event next next' given.0 given.1 (fits ∙ wanted_here ∙ sym fits')
        (cancel (keys_of ys) (key_in next ++ given.0) (key_in next' ++ given.1) lists) in
        let keys : keys_of xs ++ key_in next ≡ keys_of ys ++ key_in next' = (λ i. a.keys i ++ key_in (event.0 i)) in (
          how ∙ sym how',
          one_up_to taken rest taken' rest' (keys_of ys ++ key_in next') both
              (subst (SpellsUpTo taken) keys spelled) spelled',
        )

-- at the end of what the keys tell none is left
at_the_end : (taken rest : List ℕ) (now : Option (List ℕ)) → now ≡ Some rest → Ended taken now → AtTheEnd taken rest
at_the_end taken rest now is (inl end) = inl (subst AtEnd is end)
at_the_end taken rest now is (inr all) = inr all

-- how the steps of a run ended, and the bytes that it took and left
pub record Closed (bounds : Bounds) (s : State) (steps : List Step) (left out : List Watched) (before now : Outside)
    (bytes : List ℕ) (ending : Ending) : Type 0 where
  pub taken : List ℕ
  pub did : HasRun bounds s taken (moments_of steps) steps left out before now
  pub rest : List ℕ
  pub now_left : now.bytes ≡ Some rest
  pub closing : Closing bounds s steps bytes taken rest ending

module _ (bounds : Bounds) (s : State) (steps : List Step) (left out : List Watched) (before now : Outside)
    (bytes : List ℕ) (told : before.bytes ≡ Some bytes) where
  -- of bytes that were all read
  closed_by : (taken : List ℕ) (ending : Ending) → HasRun bounds s taken (moments_of steps) steps left out before now →
      Give taken (keys_of steps) → GoBefore bounds.strict s steps →
      ((rest : List ℕ) → now.bytes ≡ Some rest → Ends bounds s steps taken rest ending) →
      Closed bounds s steps left out before now bytes ending
  closed_by taken ending did give go ends =
      let t = took bytes taken before.bytes now.bytes told did.bytes in
      record {
        taken = taken;
        did = did;
        rest = t.0;
        now_left = t.2;
        closing = record {
          split = t.1;
          few = did.few;
          read = taken;
          behind = t.0;
          parts = t.1;
          short = did.few;
          give = give;
          before = go;
          fit = did.fit;
          within = did.within;
          ends = ends t.0 t.2;
        };
      }

  -- how it ended, where the keys didn't fail and a session was left
  pub closed : (ending : Ending) → LeavesSession ending → (Rose before.key_faults now.key_faults → ⊥) →
      HasEnded bounds s steps left out before now ending → Closed bounds s steps left out before now bytes ending
  closed KeysEnded leaves fine h =
      closed_by h.taken KeysEnded h.did
      (give_all h.taken (keys_of steps) (has_spelled h.taken (keys_of steps) h.spelled))
      (go_before bounds.strict s steps h.go_on)
      (λ rest is. by_rest (all_go bounds.strict steps s h.go_on) h.wanted h.spelled
      (at_the_end h.taken rest now.bytes is h.ended) (sym (λ i. rested_as (h.done i) (length steps) (length h.taken))))
  closed (Undone count at) leaves fine h =
      closed_by h.taken (Undone count at) h.did
      (give_all h.taken (keys_of steps) (has_spelled h.taken (keys_of steps) h.spelled))
      (go_before bounds.strict s steps h.go_on)
      (λ rest is. by_rest (all_go bounds.strict steps s h.go_on) h.wanted h.spelled
      (at_the_end h.taken rest now.bytes is h.ended)
      ((λ i. Undone (h.made i) (h.place i)) ∙ sym (λ i. rested_as (h.undone i) (length steps) (length h.taken))))
  closed Quit leaves fine h =
      closed_by h.taken Quit h.did (give_up_to h.taken (keys_of steps) h.spelled)
      (last_before bounds.strict s steps h.last)
      (λ rest is. by_stop h.last h.spelled (sym (λ i. stop_ending (h.quit i) (length steps) (length h.taken))))
  closed (Refused count at) leaves fine h =
      closed_by h.taken (Refused count at) h.did (give_up_to h.taken (keys_of steps) h.spelled)
      (last_before bounds.strict s steps h.last)
      (λ rest is. by_stop h.last h.spelled ((λ i. Refused (h.made i) (h.place i))
      ∙ sym (λ i. stop_ending (h.no_quit i) (length steps) (length h.taken))))
  closed (BadWord at) leaves fine (inl h) =
      closed_by h.taken (BadWord at) h.did (give_all h.taken (keys_of steps) h.keys)
      (go_before bounds.strict s steps h.go_on)
      (λ rest is. by_word (all_go bounds.strict steps s h.go_on) h.wanted h.keys h.no_text
      (at_the_end h.taken rest now.bytes is h.ended) (ap BadWord h.place))
  closed (BadWord at) leaves fine (inr h) =
      let t = took bytes (h.taken ++ h.bad ∷ []) before.bytes now.bytes told h.did.bytes in
      let few : length h.taken ≤ 2 ^ 64 - 1 = omega (arith, h.did.few, length-append h.taken (h.bad ∷ [])) in
      record {
        taken = h.taken ++ h.bad ∷ [];
        did = h.did;
        rest = t.0;
        now_left = t.2;
        closing = record {
          split = t.1;
          few = h.did.few;
          read = h.taken;
          behind = h.bad ∷ t.0;
          parts = t.1 ∙ append_assoc h.taken (h.bad ∷ []) t.0;
          short = few;
          give = give_all h.taken (keys_of steps) h.keys;
          before = go_before bounds.strict s steps h.go_on;
          fit = h.did.fit;
          within = h.did.within;
          ends = by_bad h.taken h.bad refl (all_go bounds.strict steps s h.go_on) h.wanted h.keys h.begins_none
              (ap BadWord h.place);
        };
      }
  closed KeysFailed leaves fine h = absurd (fine h.fault)
  closed Stopped leaves fine h =
      closed_by h.taken Stopped h.did (give_front h.taken (keys_of steps) (key_in h.next)
      (give_up_to h.taken (keys_of steps ++ key_in h.next) h.spelled)) (go_before bounds.strict s steps h.go_on)
      (λ rest is. by_limit h.next (all_go bounds.strict steps s h.go_on) h.all h.fits h.spelled refl)
  closed NoMemory leaves fine h = absurd leaves

-- two runs that go the same way make the same steps, take the same bytes, and end in the same way
pub record OneEnd (s t : State) (xs ys : List Step) (e f : Ending) (taken taken' : List ℕ) : Type 0 where
  pub alike : Alike s t xs ys
  pub ending : e ≡ f
  pub bytes : taken ≡ taken'

-- runs of the same bytes that were compared step by step end in one way
pub one_end : (bounds : Bounds) (s t : State) (xs ys : List Step) (bytes taken taken' rest rest' : List ℕ)
    (e f : Ending) → s ≡ t → Closing bounds s xs bytes taken rest e → Closing bounds t ys bytes taken' rest' f →
    Compared s t xs ys → OneEnd s t xs ys e f taken taken'
one_end bounds s t xs ys bytes taken taken' rest rest' e f same one other (as_long a) =
    let both = same_end bounds s t xs ys bytes taken taken' rest rest' e f same one other a one.ends other.ends in
    record { alike = a; ending = both.0; bytes = both.1 }
one_end bounds s t xs ys bytes taken taken' rest rest' e f same one other (shorter front y back is a) =
    absurd (goes_no_further bounds s t xs ys bytes taken taken' rest rest' e f same one other front y back is a
    one.ends)
one_end bounds s t xs ys bytes taken taken' rest rest' e f same one other (longer front x back is a) =
    absurd (goes_no_further bounds t s ys xs bytes taken' taken rest' rest f e (sym same) other one front x back is
    (record { came = sym a.came; keys = sym a.keys; moments = sym a.moments }) other.ends)
