-- A word that is begun can be completed, and each word is typed at least once.
use Rattle.std.specs.Char.{to_ascii_uppercase}
use Rattle.std.proofs.Common.{◌≡◌, ℕ, ◌<◌, ◌≤◌, List, [], ◌∷◌, ◌++◌, length, map, Some, refl, ap, sym, ◌∙◌, subst}
use Rattle.std.proofs.Common.{arith, append_assoc, inl, inr, ◌⊎◌, length-append}
use Rattle.std.proofs.lemmas.List.{map-append}
use Rattle.key_words.specs.declared.key.Key.{Key}
use Rattle.key_words.specs.declared.key.Key.TheVariants as key
use Rattle.key_words.specs.declared.name.Named.{Named}
use Rattle.key_words.specs.declared.name.Named.TheVariants.{Repeated, Alone, Alt}
use Rattle.key_words.specs.declared.begun.Begun.{Begun}
use Rattle.key_words.specs.declared.begun.Begun.TheVariants.{Nothing, Opened, Mark, Letters, Spaced, Counted, AltSpaced}
use Rattle.key_words.specs.declared.begun.Begun.TheVariants.{AltLetter}
use Rattle.key_words.specs.declared.reader.KeyReader.{KeyReader}
use Rattle.key_words.specs.Names.{looked_up}
use Rattle.key_words.specs.Notation.{IsRepeat, first, later, SpellsWord, byte, tilde, mark, named, repeated, alone, alt}
use Rattle.key_words.specs.Notation.{SpellsWords, nothing, one_word, line_end, BeginsWord, HasKeys}
use Rattle.key_words.specs.Reading.{HasRead, Holds}
use Rattle.key_words.proofs.Scanning.{Keys}

-- the bytes go on with these, and are this key then
going_to : (begun more : List ℕ) (k : Key) (n : ℕ) → 0 < length more → SpellsWord (begun ++ more) k n → BeginsWord begun
going_to begun more k n some spelled = record {
  more = more;
  some_more = λ e. absurd (omega (arith, ap length e));
  key = k;
  times = n;
  spells = spelled;
}

-- behind a name a brace closes, or a space and a letter come
name_completed : (begun letters : List ℕ) → begun ≡ 123 ∷ letters → (rest : List ℕ) (m : Named)
    → looked_up (map to_ascii_uppercase (letters ++ rest)) ≡ Some m → BeginsWord begun
name_completed begun letters is rest (Repeated k) found =
    going_to begun (rest ++ 125 ∷ []) k 1 (omega (arith, length-append rest (125 ∷ [])))
    (rw is (subst (λ (l : List ℕ). SpellsWord (123 ∷ l) k 1) (append_assoc letters rest (125 ∷ []))
    (named (letters ++ rest) found)))
name_completed begun letters is rest (Alone k) found =
    going_to begun (rest ++ 125 ∷ []) k 1 (omega (arith, length-append rest (125 ∷ [])))
    (rw is (subst (λ (l : List ℕ). SpellsWord (123 ∷ l) k 1) (append_assoc letters rest (125 ∷ []))
    (alone (letters ++ rest) found)))
name_completed begun letters is rest Alt found =
    going_to begun (rest ++ 32 ∷ 65 ∷ 125 ∷ []) (key.Alt 65) 1 (omega (arith, length-append rest (32 ∷ 65 ∷ 125 ∷ [])))
    (rw is (subst (λ (l : List ℕ). SpellsWord (123 ∷ l) (key.Alt 65) 1)
    (append_assoc letters rest (32 ∷ 65 ∷ 125 ∷ [])) (alt (letters ++ rest) 65 found refl)))

counted : (begun letters digits : List ℕ) (k : Key) (n : ℕ) → begun ≡ 123 ∷ (letters ++ 32 ∷ digits)
    → looked_up (map to_ascii_uppercase letters) ≡ Some (Repeated k) → IsRepeat digits n → BeginsWord begun
counted begun letters digits k n is found count =
    going_to begun (125 ∷ []) k n (omega arith)
    (rw is (subst (λ (l : List ℕ). SpellsWord (123 ∷ l) k n) (sym (append_assoc letters (32 ∷ digits) (125 ∷ [])))
    (repeated letters digits found count)))

word_completed : (begun : List ℕ) (r : Begun) → Holds begun r → (begun ≡ []) ⊎ BeginsWord begun
word_completed begun Nothing holds = inl holds
word_completed begun Opened holds = inr (name_completed begun [] holds (85 ∷ []) (Repeated key.Up) refl)
word_completed begun (Mark m) (is, marked) =
    inr (going_to begun (125 ∷ []) (key.Byte m) 1 (omega arith) (rw is (mark marked)))
word_completed begun (Letters l) (x, xs, is, folds, (more, m, found)) =
    inr (name_completed begun (x ∷ xs) is more m
    (ap looked_up (map-append to_ascii_uppercase (x ∷ xs) more
    ∙ ap (λ (t : List ℕ). t ++ map to_ascii_uppercase more) folds) ∙ found))
word_completed begun (Spaced k) (letters, is, found) =
    inr (going_to begun (49 ∷ 125 ∷ []) k 1 (omega arith)
    (rw is (subst (λ (l : List ℕ). SpellsWord (123 ∷ l) k 1) (sym (append_assoc letters (32 ∷ []) (49 ∷ 125 ∷ [])))
    (repeated letters (49 ∷ []) found (first {d = 1} (omega arith) (omega arith))))))
word_completed begun (Counted k n) (letters, digits, is, found, count) =
    inr (counted begun letters digits k n is found count)
word_completed begun AltSpaced (letters, is, found) =
    inr (going_to begun (65 ∷ 125 ∷ []) (key.Alt 65) 1 (omega arith)
    (rw is (subst (λ (l : List ℕ). SpellsWord (123 ∷ l) (key.Alt 65) 1)
    (sym (append_assoc letters (32 ∷ []) (65 ∷ 125 ∷ []))) (alt letters 65 found refl))))
word_completed begun (AltLetter l) (letters, b, is, found, letter, same) =
    inr (going_to begun (125 ∷ []) (key.Alt (to_ascii_uppercase b)) 1 (omega arith)
    (rw is (subst (λ (t : List ℕ). SpellsWord (123 ∷ t) (key.Alt (to_ascii_uppercase b)) 1)
    (sym (append_assoc letters (32 ∷ b ∷ []) (125 ∷ []))) (alt letters b found letter))))

-- what was read has its keys
pub has_keys : (bytes : List ℕ) (keys : Keys) (r : KeyReader) → HasRead bytes keys r → HasKeys bytes keys
has_keys bytes keys r read =
    record {
      whole = read.whole;
      begun = read.begun;
      split = read.split;
      spelled = read.spelled;
      begins = word_completed read.begun r.begun read.holds;
    }

repeat_positive : (digits : List ℕ) (n : ℕ) → IsRepeat digits n → 1 ≤ n
repeat_positive digits n (first least most) = least
repeat_positive digits n (later {digits = front} {n = before} {d} is most within) =
    omega (arith, repeat_positive front before is)

word_positive : (word : List ℕ) (k : Key) (n : ℕ) → SpellsWord word k n → 1 ≤ n
word_positive word k n (byte is) = omega arith
word_positive word k n tilde = omega arith
word_positive word k n (mark is) = omega arith
word_positive word k n (named letters found) = omega arith
word_positive word k n (repeated letters digits found is) = repeat_positive digits n is
word_positive word k n (alone letters found) = omega arith
word_positive word k n (alt letters b found is) = omega arith

last_two : (xs ys : Keys) (a b : Key × ℕ) → xs ++ a ∷ [] ≡ ys ++ b ∷ [] → a ≡ b
last_two [] [] a b e = cc
last_two [] (y ∷ []) a b e = absurd (omega (arith, ap length e))
last_two [] (y ∷ z ∷ ys) a b e = absurd (omega (arith, ap length e))
last_two (x ∷ []) [] a b e = absurd (omega (arith, ap length e))
last_two (x ∷ z ∷ xs) [] a b e = absurd (omega (arith, ap length e))
last_two (x ∷ xs) (y ∷ ys) a b e = (let rest : xs ++ a ∷ [] ≡ ys ++ b ∷ [] = cc in last_two xs ys a b rest)

-- the last word of a text is typed at least once
pub last_positive : (bytes : List ℕ) (all front : Keys) (k : Key) (n : ℕ) → SpellsWords bytes all
    → all ≡ front ++ (k, n) ∷ [] → 1 ≤ n
last_positive bytes all front k n nothing e = absurd (omega (arith, ap length e, length-append front ((k, n) ∷ [])))
last_positive bytes all front k n (one_word {word} {keys = before} {k = k'} {n = n'} spelled last) e =
    let same : ◌≡◌ {A = Key × ℕ} (k', n') (k, n) = last_two before front (k', n') (k, n) e in
    let times : n' ≡ n = ap (λ (p : Key × ℕ). p.1) same in
    subst (λ m. 1 ≤ m) times (word_positive word k' n' last)
last_positive bytes all front k n (line_end {bytes = before} spelled is) e =
    last_positive before all front k n spelled e
