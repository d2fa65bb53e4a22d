-- The bytes that are read one by one.
use Rattle.std.proofs.Common.{◌≡◌, ℕ, ◌≤◌, List, [], ◌∷◌, ◌++◌, length, take, drop, refl, ap, sym, subst, ◌∙◌}
use Rattle.std.proofs.Common.{append_assoc, append-nil}
use Rattle.std.specs.Prelude.{Bool, true, false, Option, Some, None, Ok}
use Rattle.std.proofs.Math.ListN.{drop_of_length-le}
use Rattle.std.proofs.lemmas.List.{drop_at, take_all, take_at}
use Rattle.outside_world.specs.Keys.{first_byte, later_bytes, TakesByte}
use Rattle.sheet_listing.specs.Ending.{MOST_READ, Reads}
use Rattle.sheet_listing.specs.inner.Reading.{HasNone, IsSplit, TookOne}

next_of : (byte : ℕ) (bytes rest : List ℕ) → Some byte ≡ first_byte rest →
    (bytes ++ byte ∷ []) ++ later_bytes rest ≡ bytes ++ rest
next_of byte bytes [] same = absurd cc
next_of byte bytes (b ∷ rest) same =
    (let is : byte ≡ b = cc in append_assoc bytes (byte ∷ []) rest ∙ ap (λ (x : ℕ). bytes ++ x ∷ rest) is)

no_more : (rest : List ℕ) → None ≡ first_byte rest → rest ≡ []
no_more [] same = refl
no_more (b ∷ rest) same = absurd cc

-- one more
pub one_read : (all before now : Option (List ℕ)) (bytes : List ℕ) (got : Option ℕ) (byte : ℕ) → got ≡ Some byte →
    TakesByte before now (Ok got) → IsSplit all bytes before → IsSplit all (bytes ++ byte ∷ []) now
one_read None before now bytes got byte is takes split = subst (λ (o : Option (List ℕ)). TakesByte o now (Ok got)) split
    takes
one_read (Some all) before now bytes got byte is takes split =
    let taken = subst (λ (o : Option (List ℕ)). TakesByte o now (Ok got)) split.1 takes in
    (later_bytes split.0, taken.1, next_of byte bytes split.0 (sym is ∙ taken.0) ∙ split.2)

-- none is left
pub none_left : (before now : Option (List ℕ)) (got : Option ℕ) → got ≡ None → TakesByte before now (Ok got) →
    HasNone now
none_left None now got is takes = subst HasNone (sym takes) tt
none_left (Some rest) now got is takes = subst HasNone (sym takes.1) (ap later_bytes (no_more rest (sym is ∙ takes.0)))

-- a byte that isn't there leaves what was read
pub still_split : (all before now : Option (List ℕ)) (bytes : List ℕ) (got : Option ℕ) → got ≡ None →
    TakesByte before now (Ok got) → IsSplit all bytes before → IsSplit all bytes now
still_split None before now bytes got is takes split = subst (λ (o : Option (List ℕ)). TakesByte o now (Ok got)) split
    takes
still_split (Some all) before now bytes got is takes split =
    let taken = subst (λ (o : Option (List ℕ)). TakesByte o now (Ok got)) split.1 takes in (
      later_bytes split.0,
      taken.1,
      ap (λ (l : List ℕ). bytes ++ later_bytes l) (no_more split.0 (sym is ∙ taken.0)) ∙
          ap (λ (l : List ℕ). bytes ++ l) (sym (no_more split.0 (sym is ∙ taken.0))) ∙ split.2,
    )

-- all were read
pub all_read : (all left : Option (List ℕ)) (bytes : List ℕ) → IsSplit all bytes left → HasNone left →
    length bytes ≤ MOST_READ → Reads all bytes left
all_read None left bytes split none few = split
all_read (Some all) left bytes split none few =
    let empty : split.0 ≡ [] = subst HasNone split.1 none in
    let whole : bytes ≡ all = sym (append-nil bytes) ∙ ap (λ l. bytes ++ l) (sym empty) ∙ split.2 in
    let short : length all ≤ MOST_READ = subst (λ (l : List ℕ). length l ≤ MOST_READ) whole few in
    (whole ∙ sym (take_all MOST_READ all short), split.1 ∙ ap Some (empty ∙ sym (drop_of_length-le all short)))

-- the most bytes were read
pub most_read : (all left : Option (List ℕ)) (bytes : List ℕ) → IsSplit all bytes left → length bytes ≡ MOST_READ →
    Reads all bytes left
most_read None left bytes split size = split
most_read (Some all) left bytes split size = (
  sym (take_at bytes split.0 MOST_READ size) ∙ ap (take MOST_READ) split.2,
  split.1 ∙
      ap Some (sym (drop_at bytes split.0 MOST_READ size) ∙ ap (drop MOST_READ) split.2),
)

-- the same with the bytes by another word
pub split_as : (all left : Option (List ℕ)) (bytes items : List ℕ) → items ≡ bytes → IsSplit all bytes left →
    IsSplit all items left
split_as all left bytes items is split = subst (λ (l : List ℕ). IsSplit all l left) (sym is) split

-- where no byte was taken none is left, and the bytes are as before
pub none_took : (left : Option (List ℕ)) (old new : List ℕ) (took : Bool) → TookOne left old new took → took ≡ false →
    (new ≡ old) × HasNone left
none_took left old new true one h = absurd cc
none_took left old new false none h = none
