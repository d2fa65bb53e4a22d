-- The front of a name, and the first row of a table.
use Rattle.std.specs.Char.{to_ascii_uppercase}
use Rattle.std.proofs.Common.{◌≡◌, ℕ, ◌+◌, ◌<◌, ◌≤◌, List, [], ◌∷◌, ◌++◌, length, take, drop, map, get_or, Some}
use Rattle.std.proofs.Common.{ap, sym, ◌∙◌, append_assoc, arith}
use Rattle.std.specs.List.{AllByRecursion}
use Rattle.std.proofs.lemmas.List.{take_more, take-append-drop, take_all}
use Rattle.key_words.specs.declared.name.Named.{Named}
use Rattle.key_words.specs.Names.{longer, looked_up}
use Rattle.key_words.specs.inner.Listed.{IsListed}
use Rattle.key_words.proofs.Tables.{capitals_folded, letter_goes_on, looked_up_proper}

-- the first of some rows
pub first_listed : {X : Type 0} (row : X → List ℕ × Named) (rows : List X) (or : X) → 1 ≤ length rows
    → AllByRecursion IsListed (map row rows) → IsListed (row (get_or rows 0 or))
first_listed row [] or some listed = absurd (omega (arith, some))
first_listed row (r ∷ rows) or some listed = listed.0

-- a name's front goes on with the letter that stands behind it
pub front_goes_on : (name : List ℕ) (m : Named) (len b : ℕ) → looked_up name ≡ Some m → len < length name
    → get_or name len 0 ≡ b → longer (take len name) b ≡ Some (take (len + 1) name)
front_goes_on name m len b found within letter =
    let more : take (len + 1) name ≡ take len name ++ b ∷ [] =
    take_more name len 0 within ∙ ap (λ n. take len name ++ n ∷ []) letter in
    let parts : take len name ++ b ∷ drop (len + 1) name ≡ name =
    sym (append_assoc (take len name) (b ∷ []) (drop (len + 1) name))
    ∙ ap (λ (l : List ℕ). l ++ drop (len + 1) name) (sym more) ∙ take-append-drop (len + 1) name in
    letter_goes_on (take len name) (drop (len + 1) name) b m (ap looked_up parts ∙ found) ∙ ap Some (sym more)

-- a whole name stands for what its row has
pub whole_front : (name : List ℕ) (m : Named) (len : ℕ) → looked_up name ≡ Some m → len ≡ length name
    → looked_up (map to_ascii_uppercase (take len name)) ≡ Some m
whole_front name m len found whole =
    ap (λ n. looked_up (map to_ascii_uppercase (take n name))) whole
    ∙ ap (λ (l : List ℕ). looked_up (map to_ascii_uppercase l)) (take_all (length name) name (omega arith))
    ∙ ap looked_up (capitals_folded name (looked_up_proper name m found).1) ∙ found
