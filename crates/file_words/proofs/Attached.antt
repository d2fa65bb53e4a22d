-- What a channel's attaching and finishing come to, over some answers of the shelf.
use Rattle.std.proofs.Common.{◌≡◌, ℕ, ◌≤◌, Bool, true, false, List, [], ◌∷◌, ◌++◌, Option, None, Some, Result, Ok, Err}
use Rattle.std.proofs.Common.{ap, inl, refl, subst, sym, ◌∙◌}
use Rattle.std.proofs.lemmas.Bool.{false≢true}
use Rattle.std.specs.Prelude.{is_some, option_map}
use Rattle.commands_file.proofs.Answered.{answered_then}
use Rattle.commands_file.proofs.Broken.{broken_before, broken_behind, put_unfinished, read_unfinished}
use Rattle.commands_file.specs.Calls.{failed, fetched, fetches, shelf_view, written, Asked, HasAnswered, HaveAnswered}
use Rattle.commands_file.specs.Calls.{HaveBrokenOff, Reply, ShelfView}
use Rattle.file_words.specs.Attaching.{attaching, finished, finished_by, put_away, opened_as, then_by, Attaching}
use Rattle.file_words.specs.Serving.{goes_on, served, served_by, HasBrokenWord, Served, WasServed}
use Rattle.macro_text.specs.declared.position.Spot.{Spot}
use Rattle.macro_words.specs.declared.files.FileWord.TheVariants as word
use Rattle.macro_words.specs.declared.running.Deed.{Deed}
use Rattle.outside_world.specs.Causes.{Rose}
use Rattle.outside_world.specs.Shelf.{file_in, HasCause, OnShelf}
use Rattle.outside_world.specs.declared.faults.ShelfFault.TheVariants as shelf
use Rattle.text_channel.specs.Channels.{finished as finished_first, of_shelf, unfinished, HasAttached}
use Rattle.text_channel.specs.Channels.{HasFinished, HasFinishedBy, HasOpened, HasPutAway, HasTaken}
use Rattle.text_channel.specs.declared.attached.Access.{Access}
use Rattle.text_channel.specs.declared.attached.Access.TheVariants.{Read, Write, Modify}
use Rattle.text_channel.specs.declared.attached.Attached.{Attached}
use Rattle.text_channel.specs.declared.channel.ChannelFault.{ChannelFault}
use Rattle.text_channel.specs.declared.channel.ChannelFault.TheVariants as fault

-- it came to this over some answer
record Came (x : Reply → Attaching) (done : Option Bool) (now : Option Attached) (before after : ShelfView) : Type
    0 where
  reply : Reply
  done_so : done ≡ (x reply).done
  channel_so : now ≡ (x reply).channel
  answered : HaveAnswered (x reply).calls before after

-- a call was made
one_call : (a : Asked) (before after : ShelfView) → HasAnswered a before after → HaveAnswered (a ∷ []) before after
one_call a before after h = (after, h, refl)

abbrev answer_in : Result Bool ChannelFault → Bool
answer_in (Ok b) = b
answer_in (Err e) = false

abbrev is_answer : Result Bool ChannelFault → Bool
is_answer (Ok b) = true
is_answer (Err e) = false

no_answer : {P : Type 0} {e : ChannelFault} {b : Bool} → Err e ≡ Ok b → P
no_answer is = absurd (false≢true (ap is_answer is))

-- nothing was asked
unasked : (before after : Option OnShelf) (n : ℕ) → after ≡ before → shelf_view after n ≡ shelf_view before n
unasked before after n is = ap (λ (o : Option OnShelf). shelf_view o n) is

put_done : (a : Attached) (before after : Option OnShelf) (n : ℕ) (now : Option Attached) (b : Bool)
    → HasPutAway a before after now (Ok b) →
    Came (put_away a) (Some b) now (shelf_view before n) (shelf_view after n)
put_done a before after n now b h = record {
  reply = written;
  done_so = ap Some h.0;
  channel_so = h.1;
  answered = one_call _ _ _ (record { told = h.2; faults = refl });
}

put_failed : (a : Attached) (before after : Option OnShelf) (m n : ℕ) (now : Option Attached) → (m ≤ n) × Rose m n
    → HasPutAway a before after now (Err fault.Failed) →
    Came (put_away a) None now (shelf_view before m) (shelf_view after n)
put_failed a before after m n now counted h = record {
  reply = failed;
  done_so = refl;
  channel_so = h.0;
  answered = one_call _ _ _ (record { told = h.1; faults = counted });
}

by_done : (access : Access) (a : Attached) (before after : Option OnShelf) (n : ℕ) (now : Option Attached) (b : Bool)
    → HasFinishedBy access a before after now (Ok b) →
    Came (finished_by access a) (Some b) now (shelf_view before n) (shelf_view after n)
by_done Read a before after n now b h =
    record {
      reply = failed;
      done_so = ap Some (ap answer_in h.0);
      channel_so = h.1;
      answered = unasked before after n h.2;
    }
by_done Write a before after n now b h = put_done a before after n now b h
by_done Modify a before after n now b h = put_done a before after n now b h

by_failed : (access : Access) (a : Attached) (before after : Option OnShelf) (m n : ℕ) (now : Option Attached)
    → (m ≤ n) × Rose m n →
    HasFinishedBy access a before after now (Err fault.Failed)
    → Came (finished_by access a) None now (shelf_view before m) (shelf_view after n)
by_failed Read a before after m n now counted h = no_answer h.0
by_failed Write a before after m n now counted h = put_failed a before after m n now counted h
by_failed Modify a before after m n now counted h = put_failed a before after m n now counted h

-- a finishing that was done or not
finish_done : (c : Option Attached) (before after : Option OnShelf) (n : ℕ) (now : Option Attached) (b : Bool)
    → HasFinished c before after now (Ok b) →
    Came (finished c) (Some b) now (shelf_view before n) (shelf_view after n)
finish_done None before after n now b h =
    record {
      reply = failed;
      done_so = ap Some (ap answer_in h.0);
      channel_so = h.1;
      answered = unasked before after n h.2;
    }
finish_done (Some a) before after n now b h = by_done a.access a before after n now b h

-- a finishing in which the shelf failed
finish_failed : (c : Option Attached) (before after : Option OnShelf) (m n : ℕ) (now : Option Attached)
    → (m ≤ n) × Rose m n → HasFinished c before after now (Err fault.Failed) →
    Came (finished c) None now (shelf_view before m) (shelf_view after n)
finish_failed None before after m n now counted h = no_answer h.0
finish_failed (Some a) before after m n now counted h = by_failed a.access a before after m n now counted h

take_done : (name : List ℕ) (access : Access) (before after : Option OnShelf) (n : ℕ) (now : Option Attached)
    (b : Bool) → HasTaken name access before after now (Ok b) →
    Came (opened_as name access) (Some b) now (shelf_view before n) (shelf_view after n)
take_done name Write before after n now b h =
    record {
      reply = failed;
      done_so = ap Some (ap answer_in h.0);
      channel_so = h.1;
      answered = unasked before after n h.2;
    }
take_done name Read before after n now b (got, read, is, there) = record {
  reply = fetched got;
  done_so = ap Some (there ∙ ap is_some is);
  channel_so = is;
  answered = one_call _ _ _ (record { told = read; faults = refl });
}
take_done name Modify before after n now b (got, read, is, there) = record {
  reply = fetched got;
  done_so = ap Some (there ∙ ap is_some is);
  channel_so = is;
  answered = one_call _ _ _ (record { told = read; faults = refl });
}

take_failed : (name : List ℕ) (access : Access) (before after : Option OnShelf) (m n : ℕ) (now : Option Attached)
    → (m ≤ n) × Rose m n → HasTaken name access before after now (Err fault.Failed) →
    Came (opened_as name access) None now (shelf_view before m) (shelf_view after n)
take_failed name Write before after m n now counted h = no_answer h.0
take_failed name Read before after m n now counted h =
    record {
      reply = failed;
      done_so = refl;
      channel_so = h.0;
      answered = one_call _ _ _ (record { told = h.1; faults = counted });
    }
take_failed name Modify before after m n now counted h =
    record {
      reply = failed;
      done_so = refl;
      channel_so = h.0;
      answered = one_call _ _ _ (record { told = h.1; faults = counted });
    }

abbrev asked_of : List ℕ → Access → Spot → Reply → Reply → Option Attached → Served
asked_of name access at first second c = served_by at (attaching name access c first second)

module _ (name : List ℕ) (access : Access) (at : Spot) (old : Option Attached) where
  -- the finishing was done or not, and then the attaching came to this
  attach_behind : (was : Bool) (left now : Option Attached) (came : Option Bool) (x y z : ShelfView)
      → Came (finished old) (Some was) left x y →
      Came (opened_as name access) came now y z
      → WasServed (asked_of name access at) (option_map (goes_on at) came) old now x z
  attach_behind was left now came x y z first second =
      let next : Attaching = opened_as name access second.reply in
      let before : Attaching = finished old first.reply in
      let is : attaching name access old first.reply second.reply ≡ record next { calls = before.calls ++ next.calls } =
      ap (λ (o : Option Bool). then_by o before next) (sym first.done_so) in
      record {
        first = first.reply;
        second = second.reply;
        deed_so = ap (option_map (goes_on at)) (second.done_so ∙ ap (λ (o : Attaching). o.done) (sym is));
        channel_so = second.channel_so ∙ ap (λ (o : Attaching). o.channel) (sym is);
        answered =
            subst (λ (o : Attaching). HaveAnswered o.calls x z) (sym is)
            (answered_then before.calls next.calls x y z first.answered second.answered);
      }

  -- the finishing failed
  attach_unfinished : (now : Option Attached) (x z : ShelfView) → Came (finished old) None now x z
      → WasServed (asked_of name access at) None old now x z
  attach_unfinished now x z first =
      let before : Attaching = finished old first.reply in
      let is : attaching name access old first.reply failed ≡ before =
      ap (λ (o : Option Bool). then_by o before (opened_as name access failed)) (sym first.done_so) in
      record {
        first = first.reply;
        second = failed;
        deed_so = ap (option_map (goes_on at)) (first.done_so ∙ ap (λ (o : Attaching). o.done) (sym is));
        channel_so = first.channel_so ∙ ap (λ (o : Attaching). o.channel) (sym is);
        answered = subst (λ (o : Attaching). HaveAnswered o.calls x z) (sym is) first.answered;
      }

  by_answer : (before after : Option OnShelf) (m n : ℕ) (now : Option Attached) (b : Bool) → n ≡ m
      → HasAttached name access old before after now (Ok b) →
      WasServed (asked_of name access at) (Some (goes_on at b)) old now (shelf_view before m) (shelf_view after n)
  by_answer before after m n now b stands (unfinished e is h) = no_answer (sym is)
  by_answer before after m n now b stands (finished_first between left was first then_taken) =
      attach_behind was left now (Some b) (shelf_view before m) (shelf_view between m) (shelf_view after n)
      (finish_done old before between m left was first)
      (subst (λ (k : ℕ). Came (opened_as name access) (Some b) now (shelf_view between m) (shelf_view after k))
      (sym stands) (take_done name access between after m now b then_taken))

  -- OPEN attached its file, or found none
  pub attach_served : (before after : Option OnShelf) (m n : ℕ) (now : Option Attached) (b : Bool) (d : Deed)
      → d ≡ goes_on at b → n ≡ m → HasAttached name access old before after now (Ok b) →
      WasServed (asked_of name access at) (Some d) old now (shelf_view before m) (shelf_view after n)
  attach_served before after m n now b d so stands h =
      subst (λ (x : Deed). WasServed (asked_of name access at) (Some x) old now (shelf_view before m)
      (shelf_view after n)) (sym so) (by_answer before after m n now b stands h)

  by_fault : (before after : Option OnShelf) (m n : ℕ) (now : Option Attached) → (m ≤ n) × Rose m n
      → HasAttached name access old before after now (Err fault.Failed) →
      WasServed (asked_of name access at) None old now (shelf_view before m) (shelf_view after n)
  by_fault before after m n now counted (unfinished e is h) =
      attach_unfinished now (shelf_view before m) (shelf_view after n)
      (finish_failed old before after m n now counted
      (subst (λ (r : Result Bool ChannelFault). HasFinished old before after now r) (sym is) h))
  by_fault before after m n now counted (finished_first between left was first then_taken) =
      attach_behind was left now None (shelf_view before m) (shelf_view between m) (shelf_view after n)
      (finish_done old before between m left was first)
      (take_failed name access between after m n now counted then_taken)

  -- the shelf failed while OPEN finished a file or asked for its own
  pub attach_failed : (before after : Option OnShelf) (m n : ℕ) (now : Option Attached) (e : ChannelFault)
      → e ≡ fault.Failed → HasCause {A = Bool} m n (Err (of_shelf e)) →
      HasAttached name access old before after now (Err e)
      → WasServed (asked_of name access at) None old now (shelf_view before m) (shelf_view after n)
  attach_failed before after m n now e is counted h =
      by_fault before after m n now
      (subst (λ (f : ChannelFault). HasCause {A = Bool} m n (Err (of_shelf f))) is counted)
      (subst (λ (f : ChannelFault). HasAttached name access old before after now (Err f)) is h)

-- ---- want of memory

-- memory ran out where a file was put
put_broken : (a : Attached) (before after : Option OnShelf) (m n : ℕ) (now : Option Attached) → n ≡ m
    → HasPutAway a before after now (Err fault.Memory)
    → HaveBrokenOff (put_away a failed).calls (shelf_view before m) (shelf_view after n)
put_broken a before after m n now stands h =
    inl (put_unfinished a.name a.bytes before after m n shelf.Memory refl h.1 stands)

by_broken : (access : Access) (a : Attached) (before after : Option OnShelf) (m n : ℕ) (now : Option Attached) → n ≡ m
    → HasFinishedBy access a before after now (Err fault.Memory)
    → HaveBrokenOff (finished_by access a failed).calls (shelf_view before m) (shelf_view after n)
by_broken Read a before after m n now stands h = no_answer h.0
by_broken Write a before after m n now stands h = put_broken a before after m n now stands h
by_broken Modify a before after m n now stands h = put_broken a before after m n now stands h

-- it ran out where a file was finished
finishing_broken : (c : Option Attached) (before after : Option OnShelf) (m n : ℕ) (now : Option Attached) → n ≡ m
    → HasFinished c before after now (Err fault.Memory)
    → HaveBrokenOff (finished c failed).calls (shelf_view before m) (shelf_view after n)
finishing_broken None before after m n now stands h = no_answer h.0
finishing_broken (Some a) before after m n now stands h = by_broken a.access a before after m n now stands h

-- it ran out where a file was attached behind that
taking_broken : (name : List ℕ) (access : Access) (before after : Option OnShelf) (m n : ℕ) (now : Option Attached)
    → n ≡ m → HasTaken name access before after now (Err fault.Memory)
    → HaveBrokenOff (opened_as name access failed).calls (shelf_view before m) (shelf_view after n)
taking_broken name Write before after m n now stands h = no_answer h.0
taking_broken name Read before after m n now stands h =
    inl (read_unfinished (fetches name) (file_in name) name before after m n _ h.1 stands)
taking_broken name Modify before after m n now stands h =
    inl (read_unfinished (fetches name) (file_in name) name before after m n _ h.1 stands)

then_broken : (done : Option Bool) (first next : Attaching) (a b : ShelfView) → HaveBrokenOff first.calls a b
    → HaveBrokenOff (then_by done first next).calls a b
then_broken None first next a b broke = broke
then_broken (Some done) first next a b broke = broken_before first.calls next.calls a b broke

module _ (name : List ℕ) (access : Access) (at : Spot) (old : Option Attached) (before after : Option OnShelf)
    (m n : ℕ) (now : Option Attached) (stands : n ≡ m) where
  attaching_broken : HasAttached name access old before after now (Err fault.Memory)
      → HasBrokenWord (asked_of name access at) old (shelf_view before m) (shelf_view after n)
  attaching_broken (unfinished e is h) = record {
    answers = (failed, failed);
    broke =
        then_broken (finished old failed).done (finished old failed) (opened_as name access failed) _ _
        (finishing_broken old before after m n now stands
        (subst (λ (r : Result Bool ChannelFault). HasFinished old before after now r) (sym is) h));
  }
  attaching_broken (finished_first between left was first then_taken) =
      let came : Came (finished old) (Some was) left (shelf_view before m) (shelf_view between m) =
      finish_done old before between m left was first in
      let one : Attaching = finished old came.reply in
      let next : Attaching = opened_as name access failed in
      record {
        answers = (came.reply, failed);
        broke =
            subst (λ (o : Option Bool). HaveBrokenOff (then_by o one next).calls (shelf_view before m)
            (shelf_view after n)) came.done_so
            (broken_behind one.calls next.calls _ (shelf_view between m) _ came.answered
            (taking_broken name access between after m n now stands then_taken));
      }

-- memory ran out in OPEN
pub attach_broken : (name : List ℕ) (access : Access) (at : Spot) (old : Option Attached)
    (before after : Option OnShelf) (m n : ℕ) (now : Option Attached) (e : ChannelFault)
    → e ≡ fault.Memory → HasCause {A = Bool} m n (Err (of_shelf e))
    → HasAttached name access old before after now (Err e)
    → HasBrokenWord (asked_of name access at) old (shelf_view before m) (shelf_view after n)
attach_broken name access at old before after m n now e is cause h =
    attaching_broken name access at old before after m n now
    (subst (λ (f : ChannelFault). HasCause {A = Bool} m n (Err (of_shelf f))) is cause)
    (subst (λ (f : ChannelFault). HasAttached name access old before after now (Err f)) is h)

-- it ran out in CLOSE
pub finish_broken : (at : Spot) (old : Option Attached) (before after : Option OnShelf) (m n : ℕ)
    (now : Option Attached) (e : ChannelFault) → e ≡ fault.Memory → HasCause {A = Bool} m n (Err (of_shelf e))
    → HasFinished old before after now (Err e)
    → HasBrokenWord (served word.Close at) old (shelf_view before m) (shelf_view after n)
finish_broken at old before after m n now e is cause h = record {
  answers = (failed, failed);
  broke =
      finishing_broken old before after m n now
      (subst (λ (f : ChannelFault). HasCause {A = Bool} m n (Err (of_shelf f))) is cause)
      (subst (λ (f : ChannelFault). HasFinished old before after now (Err f)) is h);
}
