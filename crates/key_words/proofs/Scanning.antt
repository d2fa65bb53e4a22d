-- The reader over whole texts of key notation.
use Rattle.std.specs.Char.{is_ascii_alphabetic, is_ascii_uppercase, to_ascii_uppercase}
use Rattle.std.proofs.Common.{◌≡◌, ℕ, ◌+◌, ◌-◌, ◌*◌, ◌≤◌, true, false, List, [], ◌∷◌, ◌++◌, map, Option, Some, None}
use Rattle.std.proofs.Common.{refl, ap, sym, ◌∙◌, arith, append_assoc, inl, inr, ◌⊎◌}
use Rattle.std.specs.Prelude.{not, nat_le, ◌&&◌, ◌==◌}
use Rattle.std.proofs.lemmas.List.{append-nil}
use Rattle.std.proofs.lemmas.Bool.{cases_Bool, and_parts, true≢false}
use Rattle.std.proofs.lemmas.Bool.Decides.{nat_tests}
use Rattle.std.proofs.lemmas.Str.Ascii.{uppercase-uppercase}
use Rattle.list_lemmas.proofs.Mapped.{map_twice}
use Rattle.key_words.specs.declared.key.Key.{Key}
use Rattle.key_words.specs.declared.key.Key.TheVariants as key
use Rattle.key_words.specs.declared.name.Named.{Named}
use Rattle.key_words.specs.declared.name.Named.TheVariants.{Repeated, Alone, Alt}
use Rattle.key_words.specs.declared.begun.Begun.{Begun}
use Rattle.key_words.specs.declared.begun.Begun.TheVariants.{Nothing, Opened, Mark, Letters, Spaced, Counted, AltSpaced}
use Rattle.key_words.specs.declared.begun.Begun.TheVariants.{AltLetter}
use Rattle.key_words.specs.declared.begun.Next.{Next}
use Rattle.key_words.specs.declared.begun.Next.TheVariants.{Going, Ended, Refused}
use Rattle.key_words.specs.Names.{looked_up}
use Rattle.key_words.specs.Notation.{is_mark, is_typed, IsRepeat, first, later, SpellsWord, byte, tilde, mark, named}
use Rattle.key_words.specs.Notation.{repeated, alone, alt, SpellsWords, nothing, one_word, line_end, Begins}
use Rattle.key_words.specs.inner.Begun.{after, closed, lettered, spaced}
use Rattle.key_words.specs.Reading.{Holds}
use Rattle.key_words.proofs.Tables.{capitals_split, letter_apart, letter_goes_on, looked_up_proper}

-- keys with their repeats
abbrev pub Keys : Type 0
Keys = List (Key × ℕ)

-- what a scan comes to: the keys, and the word that is begun then
abbrev pub Scan : Type 0
Scan = Option (Keys × Begun)

-- these keys come first
abbrev pub after_keys : Keys → Scan → Scan
after_keys keys None = None
after_keys keys (Some s) = Some (keys ++ s.0, s.1)

-- what a scan is behind one more byte
abbrev pub scan_on : Next → (Begun → Scan) → Scan
scan_on Refused rest = None
scan_on (Going begun) rest = rest begun
scan_on (Ended k n) rest = after_keys ((k, n) ∷ []) (rest Nothing)

-- bytes that are read from a word's beginning on
abbrev pub scan : Begun → List ℕ → Scan
scan r [] = Some ([], r)
scan r (b ∷ bs) = scan_on (after r b) (λ next. scan next bs)

-- a scan that goes on over more bytes
abbrev pub scan_then : Scan → List ℕ → Scan
scan_then None bytes = None
scan_then (Some s) bytes = after_keys s.0 (scan s.1 bytes)

keys_twice : (xs ys : Keys) (s : Scan) → after_keys xs (after_keys ys s) ≡ after_keys (xs ++ ys) s
keys_twice xs ys None = refl
keys_twice xs ys (Some s) = ap (λ (l : Keys). Some (l, s.1)) (sym (append_assoc xs ys s.0))

-- no keys before a scan change nothing
pub no_keys : (s : Scan) → after_keys [] s ≡ s
no_keys None = refl
no_keys (Some s) = refl

keys_then : (keys : Keys) (s : Scan) (bytes : List ℕ)
    → scan_then (after_keys keys s) bytes ≡ after_keys keys (scan_then s bytes)
keys_then keys None bytes = refl
keys_then keys (Some s) bytes = sym (keys_twice keys s.0 (scan s.1 bytes))

next_append : (next : Next) (xs ys : List ℕ) → ((r : Begun) → scan r (xs ++ ys) ≡ scan_then (scan r xs) ys) →
    scan_on next (λ r. scan r (xs ++ ys)) ≡ scan_then (scan_on next (λ r. scan r xs)) ys
next_append Refused xs ys rest = refl
next_append (Going r) xs ys rest = rest r
next_append (Ended k n) xs ys rest =
    ap (after_keys ((k, n) ∷ [])) (rest Nothing) ∙ sym (keys_then ((k, n) ∷ []) (scan Nothing xs) ys)

-- a scan of two texts, one after the other
pub scan-append : (r : Begun) (xs ys : List ℕ) → scan r (xs ++ ys) ≡ scan_then (scan r xs) ys
scan-append r [] ys = sym (no_keys (scan r ys))
scan-append r (x ∷ xs) ys = next_append (after r x) xs ys (λ next. scan-append next xs ys)

-- a text whose front leaves a word begun
pub scan_from : (r next : Begun) (xs ys : List ℕ) → scan r xs ≡ Some ([], next) → scan r (xs ++ ys) ≡ scan next ys
scan_from r next xs ys front = scan-append r xs ys ∙ ap (λ (s : Scan). scan_then s ys) front ∙ no_keys (scan next ys)

-- a letter that a name goes on with
lengthened : (done more : List ℕ) (b : ℕ) (m : Named) → looked_up (done ++ to_ascii_uppercase b ∷ more) ≡ Some m
    → after (Letters done) b ≡ Going (Letters (done ++ to_ascii_uppercase b ∷ []))
lengthened done more b m found =
    let proper = looked_up_proper (done ++ to_ascii_uppercase b ∷ more) m found in
    let apart =
    letter_apart b (and_parts (is_ascii_uppercase (to_ascii_uppercase b)) _
    (capitals_split done (to_ascii_uppercase b ∷ more) proper.1).1).0 in
    rw (apart.0, apart.1) (ap lettered (letter_goes_on done more (to_ascii_uppercase b) m found))

opened_with : (more : List ℕ) (b : ℕ) (m : Named) → looked_up (to_ascii_uppercase b ∷ more) ≡ Some m
    → after Opened b ≡ Going (Letters (to_ascii_uppercase b ∷ []))
opened_with more b m found =
    let proper = looked_up_proper (to_ascii_uppercase b ∷ more) m found in
    let apart = letter_apart b (and_parts (is_ascii_uppercase (to_ascii_uppercase b)) _ proper.1).0 in
    rw (apart.2) (ap lettered (letter_goes_on [] more (to_ascii_uppercase b) m found))

letters_scanned : (done letters more : List ℕ) (m : Named)
    → looked_up (done ++ (map to_ascii_uppercase letters ++ more)) ≡ Some m
    → scan (Letters done) letters ≡ Some ([], Letters (done ++ map to_ascii_uppercase letters))
letters_scanned done [] more m found = ap (λ (l : List ℕ). Some ([], Letters l)) (sym (append-nil done))
letters_scanned done (b ∷ bs) more m found =
    let on : after (Letters done) b ≡ Going (Letters (done ++ to_ascii_uppercase b ∷ [])) =
    lengthened done (map to_ascii_uppercase bs ++ more) b m found in
    let same : (done ++ to_ascii_uppercase b ∷ []) ++ (map to_ascii_uppercase bs ++ more)
    ≡ done ++ to_ascii_uppercase b ∷ (map to_ascii_uppercase bs ++ more) =
    append_assoc done (to_ascii_uppercase b ∷ []) (map to_ascii_uppercase bs ++ more) in
    let rest : scan (Letters (done ++ to_ascii_uppercase b ∷ [])) bs
    ≡ Some ([], Letters ((done ++ to_ascii_uppercase b ∷ []) ++ map to_ascii_uppercase bs)) =
    letters_scanned (done ++ to_ascii_uppercase b ∷ []) bs more m (ap looked_up same ∙ found) in
    ap (λ (n : Next). scan_on n (λ next. scan next bs)) on ∙ rest
    ∙ ap (λ (l : List ℕ). Some ([], Letters l))
    (append_assoc done (to_ascii_uppercase b ∷ []) (map to_ascii_uppercase bs))

brace_scanned : (b : ℕ) (bs more : List ℕ) (m : Named) → looked_up (map to_ascii_uppercase (b ∷ bs) ++ more) ≡ Some m
    → scan Nothing (123 ∷ b ∷ bs) ≡ Some ([], Letters (map to_ascii_uppercase (b ∷ bs)))
brace_scanned b bs more m found =
    ap (λ (n : Next). scan_on n (λ next. scan next bs)) (opened_with (map to_ascii_uppercase bs ++ more) b m found)
    ∙ letters_scanned (to_ascii_uppercase b ∷ []) bs more m found

name_scanned : (letters : List ℕ) (m : Named) → looked_up (map to_ascii_uppercase letters) ≡ Some m
    → scan Nothing (123 ∷ letters) ≡ Some ([], Letters (map to_ascii_uppercase letters))
name_scanned [] m found = absurd (omega (arith, (looked_up_proper [] m found).0))
name_scanned (b ∷ bs) m found =
    brace_scanned b bs [] m (ap looked_up (append-nil (map to_ascii_uppercase (b ∷ bs))) ∙ found)

-- the digits of a number of repeats
digit_again : (d : ℕ) → (48 + d) - 48 ≡ d
digit_again d = omega arith

first_fed : (k : Key) (d : ℕ) → 1 ≤ d → d ≤ 9 → after (Spaced k) (48 + d) ≡ Going (Counted k d)
first_fed k d least most =
    let low : nat_le 49 (48 + d) ≡ true = grind (arith, nat_tests, least) in
    let high : nat_le (48 + d) 57 ≡ true = grind (arith, nat_tests, most) in
    rw (low, high) (ap (λ n. Going (Counted k n)) (digit_again d))

later_fed : (k : Key) (n d : ℕ) → d ≤ 9 → n * 10 + d ≤ 9999
    → after (Counted k n) (48 + d) ≡ Going (Counted k (n * 10 + d))
later_fed k n d most within =
    let brace : ((48 + d) == 125) ≡ false = grind (arith, nat_tests, most) in
    let low : nat_le 48 (48 + d) ≡ true = grind (arith, nat_tests) in
    let high : nat_le (48 + d) 57 ≡ true = grind (arith, nat_tests, most) in
    let fits : nat_le (n * 10 + ((48 + d) - 48)) 9999 ≡ true = grind (arith, nat_tests, within) in
    rw (brace, low, high, fits) (ap (λ e. Going (Counted k (n * 10 + e))) (digit_again d))

-- digits of a number of repeats are read as it
pub digits_scanned : (k : Key) (digits : List ℕ) (n : ℕ) → IsRepeat digits n
    → scan (Spaced k) digits ≡ Some ([], Counted k n)
digits_scanned k digits n (first {d} least most) = rw (first_fed k d least most) refl
digits_scanned k digits n (later {digits = front} {n = before} {d} is most within) =
    scan_from (Spaced k) (Counted k before) front ((48 + d) ∷ []) (digits_scanned k front before is)
    ∙ rw (later_fed k before d most within) refl

-- behind a name, a space
spaced_scanned : (letters : List ℕ) (m : Named) (next : Begun) → looked_up (map to_ascii_uppercase letters) ≡ Some m
    → spaced (Some m) ≡ Going next → scan Nothing (123 ∷ (letters ++ 32 ∷ [])) ≡ Some ([], next)
spaced_scanned letters m next found is =
    let fed : after (Letters (map to_ascii_uppercase letters)) 32 ≡ Going next =
    ap spaced (ap looked_up (map_twice to_ascii_uppercase uppercase-uppercase letters) ∙ found) ∙ is in
    scan_from Nothing (Letters (map to_ascii_uppercase letters)) (123 ∷ letters) (32 ∷ [])
    (name_scanned letters m found) ∙ rw fed refl

counted_scanned : (letters digits : List ℕ) (k : Key) (n : ℕ)
    → looked_up (map to_ascii_uppercase letters) ≡ Some (Repeated k) → IsRepeat digits n
    → scan Nothing (123 ∷ (letters ++ 32 ∷ digits)) ≡ Some ([], Counted k n)
counted_scanned letters digits k n found is =
    ap (λ (l : List ℕ). scan Nothing (123 ∷ l)) (sym (append_assoc letters (32 ∷ []) digits))
    ∙ scan_from Nothing (Spaced k) (123 ∷ (letters ++ 32 ∷ [])) digits
    (spaced_scanned letters (Repeated k) (Spaced k) found refl) ∙ digits_scanned k digits n is

lettered_scanned : (letters : List ℕ) (b : ℕ) → looked_up (map to_ascii_uppercase letters) ≡ Some Alt
    → is_ascii_alphabetic b ≡ true
    → scan Nothing (123 ∷ (letters ++ 32 ∷ b ∷ [])) ≡ Some ([], AltLetter (to_ascii_uppercase b))
lettered_scanned letters b found is =
    ap (λ (l : List ℕ). scan Nothing (123 ∷ l)) (sym (append_assoc letters (32 ∷ []) (b ∷ [])))
    ∙ scan_from Nothing AltSpaced (123 ∷ (letters ++ 32 ∷ [])) (b ∷ [])
    (spaced_scanned letters Alt AltSpaced found refl) ∙ rw is refl

-- what a reader holds of a word is scanned to it
pub holds_scanned : (bytes : List ℕ) (r : Begun) → Holds bytes r → scan Nothing bytes ≡ Some ([], r)
holds_scanned bytes Nothing holds = rw holds refl
holds_scanned bytes Opened holds = rw holds refl
holds_scanned bytes (Mark m) (is, marked) = rw (is, marked) refl
holds_scanned bytes (Letters l) (b, letters, is, folds, (more, m, found)) =
    rw is (brace_scanned b letters (map to_ascii_uppercase more) m
    (ap (λ (t : List ℕ). looked_up (t ++ map to_ascii_uppercase more)) folds ∙ found)
    ∙ ap (λ (t : List ℕ). Some ([], Letters t)) folds)
holds_scanned bytes (Spaced k) (letters, is, found) = rw is (spaced_scanned letters (Repeated k) (Spaced k) found refl)
holds_scanned bytes (Counted k n) (letters, digits, is, found, count) =
    rw is (counted_scanned letters digits k n found count)
holds_scanned bytes AltSpaced (letters, is, found) = rw is (spaced_scanned letters Alt AltSpaced found refl)
holds_scanned bytes (AltLetter l) (letters, b, is, found, letter, same) =
    rw is (lettered_scanned letters b found letter ∙ ap (λ n. Some ([], AltLetter n)) (sym same))

typed_fed : (b : ℕ) → is_typed b ≡ true → after Nothing b ≡ Ended (key.Byte b) 1
typed_fed b is =
    let parts = and_parts (nat_le 32 b) (not (is_mark b)) is in
    let tilde_not : (b == 126)
    ≡ false = elim (cases_Bool (b == 126)) [ inl t ↦ absurd (true≢false (sym parts.1 ∙ rw t refl)) | inr f ↦ f ] in
    let brace_not : (b == 123)
    ≡ false = elim (cases_Bool (b == 123))
    [ inl t ↦ absurd (true≢false (sym parts.1 ∙ rw (tilde_not, t) refl)) | inr f ↦ f ] in
    let return_not : (b == 13) ≡ false = grind (arith, nat_tests, parts.0) in
    let feed_not : (b == 10) ≡ false = grind (arith, nat_tests, parts.0) in
    let left : (nat_le 32 b && not (b == 125)) ≡ true = rw (tilde_not, brace_not) at is in
    rw (tilde_not, brace_not, return_not, feed_not, left) refl

closing : (letters : List ℕ) (m : Named) (k : Key) → looked_up (map to_ascii_uppercase letters) ≡ Some m
    → closed (Some m) ≡ Ended k 1 → scan Nothing (123 ∷ (letters ++ 125 ∷ [])) ≡ Some ((k, 1) ∷ [], Nothing)
closing letters m k found is =
    let fed : after (Letters (map to_ascii_uppercase letters)) 125 ≡ Ended k 1 =
    ap closed (ap looked_up (map_twice to_ascii_uppercase uppercase-uppercase letters) ∙ found) ∙ is in
    scan_from Nothing (Letters (map to_ascii_uppercase letters)) (123 ∷ letters) (125 ∷ [])
    (name_scanned letters m found) ∙ rw fed refl

-- a word of the notation is read as its key
pub word_scanned : (word : List ℕ) (k : Key) (n : ℕ) → SpellsWord word k n
    → scan Nothing word ≡ Some ((k, n) ∷ [], Nothing)
word_scanned word k n (byte {b} is) = rw (typed_fed b is) refl
word_scanned word k n tilde = refl
word_scanned word k n (mark {b} is) = rw is refl
word_scanned word k n (named letters found) = closing letters (Repeated k) k found refl
word_scanned word k n (repeated letters digits found is) =
    ap (λ (l : List ℕ). scan Nothing (123 ∷ l)) (sym (append_assoc letters (32 ∷ digits) (125 ∷ [])))
    ∙ scan_from Nothing (Counted k n) (123 ∷ (letters ++ 32 ∷ digits)) (125 ∷ [])
    (counted_scanned letters digits k n found is)
word_scanned word k n (alone letters found) = closing letters (Alone k) k found refl
word_scanned word k n (alt letters b found is) =
    ap (λ (l : List ℕ). scan Nothing (123 ∷ l)) (sym (append_assoc letters (32 ∷ b ∷ []) (125 ∷ [])))
    ∙ scan_from Nothing (AltLetter (to_ascii_uppercase b)) (123 ∷ (letters ++ 32 ∷ b ∷ [])) (125 ∷ [])
    (lettered_scanned letters b found is)

line_end_scanned : (b : ℕ) → (b ≡ 13) ⊎ (b ≡ 10) → scan Nothing (b ∷ []) ≡ Some ([], Nothing)
line_end_scanned b (inl e) = rw e refl
line_end_scanned b (inr e) = rw e refl

-- a text is scanned to its keys
pub text_scanned : (bytes : List ℕ) (keys : Keys) → SpellsWords bytes keys → scan Nothing bytes ≡ Some (keys, Nothing)
text_scanned bytes keys nothing = refl
text_scanned bytes keys (one_word {bytes = front} {word} {keys = before} {k} {n} spelled last) =
    scan-append Nothing front word ∙ ap (λ (s : Scan). scan_then s word) (text_scanned front before spelled)
    ∙ ap (after_keys before) (word_scanned word k n last)
text_scanned bytes keys (line_end {bytes = front} {b} spelled is) =
    scan-append Nothing front (b ∷ []) ∙ ap (λ (s : Scan). scan_then s (b ∷ [])) (text_scanned front keys spelled)
    ∙ ap (after_keys keys) (line_end_scanned b is)
    ∙ ap (λ (l : Keys). Some (l, Nothing)) (append-nil keys)

-- a list of bytes spells one list of keys
pub one_reading : (bytes : List ℕ) (xs ys : Keys) → SpellsWords bytes xs → SpellsWords bytes ys → xs ≡ ys
one_reading bytes xs ys p q =
    let both : ◌≡◌ {A = Scan} (Some (xs, Nothing)) (Some (ys, Nothing)) =
    sym (text_scanned bytes xs p) ∙ text_scanned bytes ys q in
    let pairs : ◌≡◌ {A = Keys × Begun} (xs, Nothing) (ys, Nothing) = cc in
    ap (λ (p : Keys × Begun). p.0) pairs

-- what can't be read begins no notation
pub begins_none : (bytes : List ℕ) → scan Nothing bytes ≡ None → Begins bytes → ⊥
begins_none bytes none (more, keys, spelled) =
    let stopped : scan Nothing (bytes ++ more) ≡ None =
    scan-append Nothing bytes more ∙ ap (λ (s : Scan). scan_then s more) none in
    let went_on : scan Nothing (bytes ++ more) ≡ Some (keys, Nothing) = text_scanned (bytes ++ more) keys spelled in
    cc

-- the words of a scan begin with those that stood in front of it
pub keys_of_scan : (keys : Keys) (s : Scan) (all : Keys) (r : Begun) → after_keys keys s ≡ Some (all, r)
    → (more : Keys) × (all ≡ keys ++ more)
keys_of_scan keys None all r e = absurd cc
keys_of_scan keys (Some s) all r e =
    let pairs : ◌≡◌ {A = Keys × Begun} (keys ++ s.0, s.1) (all, r) = cc in
    (s.0, sym (ap (λ (p : Keys × Begun). p.0) pairs))

-- the keys of a text begin with those of its front
pub prefix_keys : (front rest : List ℕ) (keys all : Keys) → SpellsWords front keys → SpellsWords (front ++ rest) all
    → (more : Keys) × (all ≡ keys ++ more)
prefix_keys front rest keys all p q =
    let scanned : after_keys keys (scan Nothing rest) ≡ Some (all, Nothing) =
    ap (λ (s : Scan). scan_then s rest) (sym (text_scanned front keys p)) ∙ sym (scan-append Nothing front rest)
    ∙ text_scanned (front ++ rest) all q in
    keys_of_scan keys (scan Nothing rest) all Nothing scanned
