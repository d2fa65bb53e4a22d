-- A name is found letter by letter.
use Rattle.std.specs.Char.{to_ascii_uppercase}
use Rattle.std.proofs.Common.{◌≡◌, ◌≤◌, ◌-◌, ℕ, List, [], ◌∷◌, ◌++◌, map, length, take, drop, get_or}
use Rattle.std.proofs.Common.{Option, Some, None, refl, ap, sym, ◌∙◌, arith, append_assoc}
use Rattle.std.proofs.lemmas.List.{map-append, take_all}
use Rattle.std.proofs.lemmas.Bool.Decides.{nat_tests}
use Rattle.key_words.specs.declared.name.Named.{Named}
use Rattle.key_words.specs.Names.{longer, looked_up}
use Rattle.key_words.proofs.Tables.{letter_goes_on, letter_is}

-- a letter that is a capital stays so
folded_twice : (b : ℕ) → to_ascii_uppercase (to_ascii_uppercase b) ≡ to_ascii_uppercase b
folded_twice b = grind (arith, nat_tests)

-- capitals with one more are capitals
pub one_more : (letters l : List ℕ) (b : ℕ) → longer letters (to_ascii_uppercase b) ≡ Some l
    → map to_ascii_uppercase letters ≡ letters → map to_ascii_uppercase l ≡ l
one_more letters l b found capitals =
    rw ((letter_is letters (to_ascii_uppercase b) l found).0)
    (map-append to_ascii_uppercase letters (to_ascii_uppercase b ∷ [])
    ∙ ap (λ (x : List ℕ). x ++ to_ascii_uppercase (to_ascii_uppercase b) ∷ []) capitals
    ∙ ap (λ n. letters ++ n ∷ []) (folded_twice b))

-- with what stands behind they are the same letters
pub same_letters : (letters l rest : List ℕ) (or len : ℕ) → len ≡ length rest → 1 ≤ length rest
    → longer letters (to_ascii_uppercase (get_or rest 0 or)) ≡ Some l
    → looked_up (l ++ map to_ascii_uppercase (take (len - 1) (drop 1 rest)))
    ≡ looked_up (letters ++ map to_ascii_uppercase rest)
same_letters letters l [] or len is some found = absurd (omega (arith, some))
same_letters letters l (b ∷ rest) or len is some found =
    ap (λ (x : List ℕ). looked_up (l ++ map to_ascii_uppercase x)) (take_all (len - 1) rest (omega (arith, is)))
    ∙ ap (λ (x : List ℕ). looked_up (x ++ map to_ascii_uppercase rest))
    (letter_is letters (to_ascii_uppercase b) l found).0
    ∙ ap looked_up (append_assoc letters (to_ascii_uppercase b ∷ []) (map to_ascii_uppercase rest))

not_found : (o : Option Named) (letters : List ℕ) (b : ℕ) (rest : List ℕ)
    → looked_up (letters ++ to_ascii_uppercase b ∷ map to_ascii_uppercase rest) ≡ o
    → longer letters (to_ascii_uppercase b) ≡ None → o ≡ None
not_found None letters b rest is none = refl
not_found (Some m) letters b rest is none =
    let on : None ≡ Some (letters ++ to_ascii_uppercase b ∷ []) =
    sym none ∙ letter_goes_on letters (map to_ascii_uppercase rest) (to_ascii_uppercase b) m is in
    absurd cc

-- where no name goes on with a letter, none is found that does
pub none_found : (letters rest : List ℕ) (or : ℕ) → 1 ≤ length rest
    → longer letters (to_ascii_uppercase (get_or rest 0 or)) ≡ None
    → looked_up (letters ++ map to_ascii_uppercase rest) ≡ None
none_found letters [] or some none = absurd (omega (arith, some))
none_found letters (b ∷ rest) or some none =
    not_found (looked_up (letters ++ map to_ascii_uppercase (b ∷ rest))) letters b rest refl none
