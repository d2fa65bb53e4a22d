-- What is written of a text, and what waits.
use Rattle.std.proofs.Common.{◌≡◌, ℕ, List, [], ◌++◌, refl, ap, ◌∙◌, sym, subst, take, drop, append_assoc, append-nil}
use Rattle.std.specs.Prelude.{Option, Some, None, Ok, Err}
use Rattle.std.proofs.lemmas.List.{take-append-drop}
use Rattle.outside_world.specs.Notes.{AddsBytes}
use Rattle.outside_world.specs.declared.faults.Failed.{Failed}
use Rattle.sheet_listing.specs.Waiting.{added, IsFront}

-- more behind what is there
pub added_on : (before : Option (List ℕ)) (a b : List ℕ) → added (added before a) b ≡ added before (a ++ b)
added_on None a b = refl
added_on (Some before) a b = ap Some (append_assoc before a b)

-- no bytes add nothing
pub added_none : (before : Option (List ℕ)) → added before [] ≡ before
added_none None = refl
added_none (Some before) = ap Some (append-nil before)

-- the same with more behind it
pub with_more : (now before : Option (List ℕ)) (a b more : List ℕ) → added now a ≡ added before b →
    added now (a ++ more) ≡ added before (b ++ more)
with_more now before a b more same = sym (added_on now a more) ∙ ap (λ o. added o more) same ∙ added_on before b more

-- a front of what stands before more is a front of all
pub front_of_more : (now before : Option (List ℕ)) (a more : List ℕ) → IsFront now (added before a) →
    IsFront now (added before (a ++ more))
front_of_more now before a more front =
    (front.0 ++ more, sym (added_on now front.0 more) ∙ ap (λ o. added o more) front.1 ∙ added_on before a more)

-- nothing was written yet
pub front_of_all : (before : Option (List ℕ)) (a : List ℕ) → IsFront before (added before a)
front_of_all before a = (a, refl)

-- a write that is done
pub all_added : (bytes : List ℕ) (before now : Option (List ℕ)) (done : Unit) → AddsBytes bytes before now (Ok done) →
    now ≡ added before bytes
all_added bytes None now done h = h
all_added bytes (Some before) now done h = h

-- a write that failed
pub front_added : (bytes : List ℕ) (before now : Option (List ℕ)) (fault : Failed) →
    AddsBytes bytes before now (Err fault) → IsFront now (added before bytes)
front_added bytes None now fault h = ([], ap (λ o. added o []) h)
front_added bytes (Some before) now fault h = (
  drop h.0 bytes,
  ap (λ o. added o (drop h.0 bytes)) h.2 ∙
      ap Some (append_assoc before (take h.0 bytes) (drop h.0 bytes) ∙
      ap (λ l. before ++ l) (take-append-drop h.0 bytes)),
)

-- a line goes from what is to come to what was written or waits
pub one_line : (now before start : Option (List ℕ)) (old new all line rest : List ℕ) →
    added before (old ++ (line ++ rest)) ≡ added start all → added now new ≡ added before (old ++ line) →
    added now (new ++ rest) ≡ added start all
one_line now before start old new all line rest same step = with_more now before new (old ++ line) rest step ∙
    ap (added before) (append_assoc old line rest) ∙ same

-- where that breaks off a front is written
pub broken : (now before start : Option (List ℕ)) (old all line rest : List ℕ) →
    added before (old ++ (line ++ rest)) ≡ added start all → IsFront now (added before (old ++ line)) →
    IsFront now (added start all)
broken now before start old all line rest same front =
    subst (IsFront now) (ap (added before) (append_assoc old line rest) ∙ same)
    (front_of_more now before (old ++ line) rest front)

-- all that waited is written
pub all_written : (bytes items rest : List ℕ) (before now : Option (List ℕ)) (done : Unit) →
    AddsBytes bytes before now (Ok done) → bytes ≡ items → rest ≡ [] → added now rest ≡ added before items
all_written bytes items rest before now done adds is none =
    ap (added now) none ∙ added_none now ∙ all_added bytes before now done adds ∙ ap (added before) is

-- a front of it is
pub front_written : (bytes items : List ℕ) (before now : Option (List ℕ)) (fault : Failed) →
    AddsBytes bytes before now (Err fault) → bytes ≡ items → IsFront now (added before items)
front_written bytes items before now fault adds is = subst (λ (l : List ℕ). IsFront now (added before l)) is
    (front_added bytes before now fault adds)

in_four : (first s k a b : List ℕ) → first ≡ s ++ k → (first ++ a) ++ b ≡ s ++ (k ++ (a ++ b))
in_four first s k a b is = ap (λ (l : List ℕ). (l ++ a) ++ b) is ∙ append_assoc (s ++ k) a b ∙ append_assoc s k (a ++ b)

-- the front of a sheet's lines, then its names, then its cells
pub three_parts : (w0 w1 w2 : Option (List ℕ)) (first second third s k a b : List ℕ) → first ≡ s ++ k →
    added w1 second ≡ added w0 (first ++ a) → added w2 third ≡ added w1 (second ++ b) →
    added w2 third ≡ added w0 (s ++ (k ++ (a ++ b)))
three_parts w0 w1 w2 first second third s k a b is names cells =
    cells ∙ with_more w1 w0 second (first ++ a) b names ∙ ap (added w0) (in_four first s k a b is)

-- with no last part all is written
pub whole_written : (w0 w2 w3 : Option (List ℕ)) (third last all : List ℕ) → added w2 third ≡ added w0 all →
    added w3 last ≡ added w2 third → last ≡ [] → w3 ≡ added w0 all
whole_written w0 w2 w3 third last all parts step none = sym (added_none w3) ∙ ap (added w3) (sym none) ∙ step ∙ parts

-- what is written where the names break off is a front
pub names_broken : (w0 w1 : Option (List ℕ)) (first s k a b : List ℕ) → first ≡ s ++ k →
    IsFront w1 (added w0 (first ++ a)) → IsFront w1 (added w0 (s ++ (k ++ (a ++ b))))
names_broken w0 w1 first s k a b is front =
    subst (λ (l : List ℕ). IsFront w1 (added w0 l)) (in_four first s k a b is)
    (front_of_more w1 w0 (first ++ a) b front)

-- so it is where the cells break off
pub cells_broken : (w0 w1 w2 : Option (List ℕ)) (first second s k a b : List ℕ) → first ≡ s ++ k →
    added w1 second ≡ added w0 (first ++ a) → IsFront w2 (added w1 (second ++ b)) →
    IsFront w2 (added w0 (s ++ (k ++ (a ++ b))))
cells_broken w0 w1 w2 first second s k a b is names front =
    subst (IsFront w2) (with_more w1 w0 second (first ++ a) b names ∙ ap (added w0) (in_four first s k a b is)) front

-- so it is where the end does
pub end_broken : (w0 w2 w3 : Option (List ℕ)) (third all : List ℕ) → added w2 third ≡ added w0 all →
    IsFront w3 (added w2 third) → IsFront w3 (added w0 all)
end_broken w0 w2 w3 third all parts front = subst (IsFront w3) parts front
