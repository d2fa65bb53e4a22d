-- A word on a text file comes to one thing, over the files that the shelf holds.
use Rattle.std.proofs.Common.{◌≡◌, ℕ, Bool, List, [], ◌∷◌, ◌++◌, Option, None, Some, refl, sym}
use Rattle.std.proofs.lemmas.List.{append-nil}
use Rattle.commands_file.specs.Calls.{failed, fetched, fetches, loaded, puts, there, written, Asked, Reply}
use Rattle.file_words.specs.Attaching.{attaching, fetched_as, finished, finished_by, put_away, opened_as, then_by}
use Rattle.file_words.specs.Attaching.{Attaching}
use Rattle.file_words.specs.Serving.{served, served_by, Served}
use Rattle.macro_text.specs.declared.position.Spot.{Spot}
use Rattle.macro_words.specs.declared.files.FileWord.{FileWord}
use Rattle.macro_words.specs.declared.files.FileWord.TheVariants as word
use Rattle.text_channel.specs.declared.attached.Access.{Access}
use Rattle.text_channel.specs.declared.attached.Access.TheVariants.{Read, Write, Modify}
use Rattle.text_channel.specs.declared.attached.Attached.{Attached}
use Rattle.session_core.specs.Machine.{Replies}
use Rattle.session_core.proofs.OneResult.{as_one, by_look, by_one_call, made_of, one_by_one, IsOne}

-- the calls of an attaching
abbrev attaching_calls : Attaching → List Asked
attaching_calls x = x.calls

-- the calls of a word
abbrev pub served_calls : Served → List Asked
served_calls x = x.calls

put_calls : (a : Attached) (r : Reply) → (put_away a r).calls ≡ record { call = puts a.name a.bytes; reply = r } ∷ []
put_calls a failed = refl
put_calls a (there b) = refl
put_calls a (loaded x) = refl
put_calls a (fetched x) = refl
put_calls a written = refl

put_one : (a : Attached) → IsOne attaching_calls (put_away a)
put_one a = by_one_call attaching_calls (put_away a) (puts a.name a.bytes) (put_calls a)

finished_by_one : (access : Access) (a : Attached) → IsOne attaching_calls (finished_by access a)
finished_by_one Read a = λ r q x y z u alike w w'. refl
finished_by_one Write a = put_one a
finished_by_one Modify a = put_one a

-- what is attached is finished
finished_one : (c : Option Attached) → IsOne attaching_calls (finished c)
finished_one None = λ r q x y z u alike w w'. refl
finished_one (Some a) = finished_by_one a.access a

fetched_calls : (name : List ℕ) (access : Access) (r : Reply) →
    (fetched_as name access r).calls ≡ record { call = fetches name; reply = r } ∷ []
fetched_calls name access failed = refl
fetched_calls name access (there b) = refl
fetched_calls name access (loaded x) = refl
fetched_calls name access (fetched x) = refl
fetched_calls name access written = refl

fetched_one : (name : List ℕ) (access : Access) → IsOne attaching_calls (fetched_as name access)
fetched_one name access = by_one_call attaching_calls (fetched_as name access) (fetches name)
    (fetched_calls name access)

-- a file is attached
taken_one : (name : List ℕ) (access : Access) → IsOne attaching_calls (opened_as name access)
taken_one name Read = fetched_one name Read
taken_one name Write = λ r q x y z u alike w w'. refl
taken_one name Modify = fetched_one name Modify

-- nothing is attached behind a shelf that failed
nothing : Attaching
nothing = record { done = None; channel = None; calls = [] }

-- what follows behind the finishing, by what it came to
abbrev then_taken : Option Bool → List ℕ → Access → Reply → Attaching
then_taken None name access r = nothing
then_taken (Some done) name access r = opened_as name access r

then_one : (done : Option Bool) (name : List ℕ) (access : Access) → IsOne attaching_calls (then_taken done name access)
then_one None name access = λ r q x y z u alike w w'. refl
then_one (Some done) name access = taken_one name access

then_calls : (done : Option Bool) (first : Attaching) (name : List ℕ) (access : Access) (r : Reply) →
    (then_by done first (then_taken done name access r)).calls ≡ first.calls ++ (then_taken done name access r).calls
unfolding nothing
then_calls None first name access r = sym (append-nil first.calls)
then_calls (Some done) first name access r = refl

then_same : (done : Option Bool) (first : Attaching) (name : List ℕ) (access : Access) (r : Reply) →
    then_by done first (opened_as name access r) ≡ then_by done first (then_taken done name access r)
then_same None first name access r = refl
then_same (Some done) first name access r = refl

-- what is attached is finished, and then a file is attached
attaching_one : (name : List ℕ) (access : Access) (c : Option Attached) →
    IsOne attaching_calls (λ (rs : Replies). attaching name access c rs.look rs.act)
attaching_one name access c =
    as_one attaching_calls (λ (rs : Replies). then_by (finished c rs.look).done (finished c rs.look)
    (then_taken (finished c rs.look).done name access rs.act)) (λ (rs : Replies). attaching name access c rs.look
    rs.act)
    (λ rs. then_same (finished c rs.look).done (finished c rs.look) name access rs.act)
    (one_by_one attaching_calls attaching_calls attaching_calls (finished c) (λ (y : Attaching). then_taken y.done name
    access) (λ (y z : Attaching). then_by y.done y z) (finished_one c)
    (λ y. then_one y.done name access) (λ y r. then_calls y.done y name access r))

-- a word
pub served_one : (w : FileWord) (at : Spot) (c : Option Attached) →
    IsOne served_calls (λ (rs : Replies). served w at rs.look rs.act c)
served_one (word.Open name access) at c =
    made_of attaching_calls served_calls (λ (rs : Replies). attaching name access c rs.look rs.act) (served_by at)
    (attaching_one name access c) (λ y. refl)
served_one word.Close at c = by_look served_calls (λ r. served_by at (finished c r))
    (made_of attaching_calls served_calls (finished c) (served_by at) (finished_one c) (λ y. refl))
served_one (word.Read count p) at c = λ r q x y z u alike w w'. refl
served_one (word.ReadLine p) at c = λ r q x y z u alike w w'. refl
served_one (word.Write text) at c = λ r q x y z u alike w w'. refl
served_one (word.WriteLine text) at c = λ r q x y z u alike w w'. refl
served_one (word.Size p) at c = λ r q x y z u alike w w'. refl
served_one (word.Position p) at c = λ r q x y z u alike w w'. refl
served_one (word.SetPosition place) at c = λ r q x y z u alike w w'. refl
