-- What a byte makes of a reader that has read some.
use Rattle.std.specs.Char.{is_ascii_alphabetic, to_ascii_uppercase}
use Rattle.std.proofs.Common.{◌≡◌, ℕ, ◌+◌, ◌-◌, ◌*◌, ◌≤◌, true, false, List, [], ◌∷◌, ◌++◌, length, map, Option, Some}
use Rattle.std.proofs.Common.{None, refl, ap, sym, ◌∙◌, subst, arith, append_assoc, inl, inr, ◌⊎◌, length-append}
use Rattle.std.specs.Prelude.{not, nat_le, ◌&&◌, ◌==◌, ◌||◌, ⊤}
use Rattle.std.proofs.lemmas.List.{append-nil, map-append}
use Rattle.std.proofs.lemmas.Bool.{cases_Bool, eqb-true, and_parts, or_cases, leb-true}
use Rattle.std.proofs.lemmas.Str.Ascii.{uppercase-uppercase}
use Rattle.list_lemmas.proofs.Mapped.{map_twice}
use Rattle.key_words.specs.declared.key.Key.{Key}
use Rattle.key_words.specs.declared.key.Key.TheVariants as key
use Rattle.key_words.specs.declared.name.Named.{Named}
use Rattle.key_words.specs.declared.name.Named.TheVariants.{Repeated, Alone, Alt}
use Rattle.key_words.specs.declared.begun.Begun.{Begun}
use Rattle.key_words.specs.declared.begun.Begun.TheVariants.{Nothing, Opened, Mark, Letters, Spaced, Counted, AltSpaced}
use Rattle.key_words.specs.declared.begun.Begun.TheVariants.{AltLetter}
use Rattle.key_words.specs.declared.begun.Next.{Next}
use Rattle.key_words.specs.declared.begun.Next.TheVariants.{Going, Ended, Refused}
use Rattle.key_words.specs.declared.reader.KeyReader.{KeyReader}
use Rattle.key_words.specs.Names.{longer, looked_up}
use Rattle.key_words.specs.Notation.{is_mark, is_typed, IsRepeat, first, later, SpellsWord, byte, tilde, mark, named}
use Rattle.key_words.specs.Notation.{repeated, alone, alt, SpellsWords, one_word, line_end, Begins, IsNoText}
use Rattle.key_words.specs.inner.Begun.{after, closed, lettered, spaced}
use Rattle.key_words.specs.Reading.{HasRead, Holds}
use Rattle.key_words.proofs.Tables.{letter_is}
use Rattle.key_words.proofs.Scanning.{after_keys, begins_none, holds_scanned, Keys, Scan, scan, scan-append, scan_on}
use Rattle.key_words.proofs.Scanning.{scan_then, text_scanned}

-- what a byte makes of a word of which these bytes were read
abbrev pub Stepped : List ℕ → ℕ → Next → Type 0
Stepped bytes b (Going next) = Holds (bytes ++ b ∷ []) next ⊎ ((bytes ≡ []) × ((b ≡ 13) ⊎ (b ≡ 10)) × (next ≡ Nothing))
Stepped bytes b (Ended k n) = SpellsWord (bytes ++ b ∷ []) k n
Stepped bytes b Refused = ⊤

-- a digit is 48 and a number
digit_of : (b : ℕ) → 48 ≤ b → 48 + (b - 48) ≡ b
digit_of b least = omega (arith, least)

at_rest_stepped : (bytes : List ℕ) (b : ℕ) → bytes ≡ [] → Stepped bytes b (after Nothing b)
at_rest_stepped bytes b none = rw none (elim (cases_Bool (b == 126)) [
  | inl t ↦ rw t (rw (eqb-true b 126 t) tilde)
  | inr t ↦ elim (cases_Bool (b == 123)) [
    | inl o ↦ rw (t, o) (inl (ap (λ n. n ∷ []) (eqb-true b 123 o)))
    | inr o ↦ elim (cases_Bool (b == 13 || b == 10)) [
      | inl l ↦
          rw (t, o, l) (inr (
            refl,
            elim (or_cases (b == 13) (b == 10) l) [ inl e ↦ inl (eqb-true b 13 e) | inr e ↦ inr (eqb-true b 10 e) ],
            refl,
          ))
      | inr l ↦ elim (cases_Bool (is_typed b)) [
        | inl c ↦ (let left : (nat_le 32 b && not (b == 125)) ≡ true = rw (t, o) at c in rw (t, o, l, left) (byte c))
        | inr c ↦ (let left : (nat_le 32 b && not (b == 125)) ≡ false = rw (t, o) at c in rw (t, o, l, left) tt)
      ]
    ]
  ]
])

-- one more letter of a name
more_letters : (bytes : List ℕ) (b : ℕ) (done : List ℕ) (letters : List ℕ) → bytes ≡ 123 ∷ letters
    → map to_ascii_uppercase letters ≡ done → (o : Option (List ℕ)) → longer done (to_ascii_uppercase b) ≡ o
    → Stepped bytes b (lettered o)
more_letters bytes b done letters is folds None found = tt
more_letters bytes b done [] is folds (Some l) found =
    let fact = letter_is done (to_ascii_uppercase b) l found in
    inl (
      b,
      [],
      ap (λ (t : List ℕ). t ++ b ∷ []) is,
      ap (λ (t : List ℕ). t ++ to_ascii_uppercase b ∷ []) folds
          ∙ sym fact.0,
      fact.1,
    )
more_letters bytes b done (x ∷ xs) is folds (Some l) found =
    let fact = letter_is done (to_ascii_uppercase b) l found in
    inl (
      x,
      xs ++ b ∷ [],
      ap (λ (t : List ℕ). t ++ b ∷ []) is,
      ap (λ (t : List ℕ). to_ascii_uppercase x ∷ t) (map-append to_ascii_uppercase xs (b ∷ []))
          ∙ ap (λ (t : List ℕ). t ++ to_ascii_uppercase b ∷ []) folds ∙ sym fact.0,
      fact.1,
    )

opened_stepped : (bytes : List ℕ) (b : ℕ) → bytes ≡ 123 ∷ [] → Stepped bytes b (after Opened b)
opened_stepped bytes b is = elim (cases_Bool (is_mark b)) [
  | inl t ↦ rw t (inl (ap (λ (l : List ℕ). l ++ b ∷ []) is, t))
  | inr t ↦ rw t (more_letters bytes b [] [] is refl (longer [] (to_ascii_uppercase b)) refl)
]

name_closed : (bytes letters : List ℕ) → bytes ≡ 123 ∷ letters → (o : Option Named)
    → looked_up (map to_ascii_uppercase letters) ≡ o → Stepped bytes 125 (closed o)
name_closed bytes letters is None found = tt
name_closed bytes letters is (Some (Repeated k)) found = rw is (named letters found)
name_closed bytes letters is (Some (Alone k)) found = rw is (alone letters found)
name_closed bytes letters is (Some Alt) found = tt

name_spaced : (bytes letters : List ℕ) → bytes ≡ 123 ∷ letters → (o : Option Named)
    → looked_up (map to_ascii_uppercase letters) ≡ o → Stepped bytes 32 (spaced o)
name_spaced bytes letters is None found = tt
name_spaced bytes letters is (Some (Repeated k)) found = inl (letters, ap (λ (l : List ℕ). l ++ 32 ∷ []) is, found)
name_spaced bytes letters is (Some (Alone k)) found = tt
name_spaced bytes letters is (Some Alt) found = inl (letters, ap (λ (l : List ℕ). l ++ 32 ∷ []) is, found)

letters_stepped : (bytes : List ℕ) (b : ℕ) (l : List ℕ) → Holds bytes (Letters l)
    → Stepped bytes b (after (Letters l) b)
letters_stepped bytes b l (x, xs, is, folds, begins) =
    let same : map to_ascii_uppercase l ≡ map to_ascii_uppercase (x ∷ xs) =
    ap (map to_ascii_uppercase) (sym folds) ∙ map_twice to_ascii_uppercase uppercase-uppercase (x ∷ xs) in
    elim (cases_Bool (b == 125)) [
      | inl t ↦
          rw t (rw (eqb-true b 125 t)
          (name_closed bytes (x ∷ xs) is (looked_up (map to_ascii_uppercase l)) (ap looked_up (sym same))))
      | inr t ↦ elim (cases_Bool (b == 32)) [
        | inl s ↦
            rw (t, s) (rw (eqb-true b 32 s)
            (name_spaced bytes (x ∷ xs) is (looked_up (map to_ascii_uppercase l)) (ap looked_up (sym same))))
        | inr s ↦ rw (t, s) (more_letters bytes b l (x ∷ xs) is folds (longer l (to_ascii_uppercase b)) refl)
      ]
    ]

spaced_stepped : (bytes : List ℕ) (b : ℕ) (k : Key) → Holds bytes (Spaced k) → Stepped bytes b (after (Spaced k) b)
spaced_stepped bytes b k (letters, is, found) = elim (cases_Bool (nat_le 49 b && nat_le b 57)) [
  | inl t ↦ (let parts = and_parts (nat_le 49 b) (nat_le b 57) t in
      let least : 49 ≤ b = leb-true 49 b parts.0 in
      let most : b ≤ 57 = leb-true b 57 parts.1 in
      let count : IsRepeat ((48 + (b - 48)) ∷ []) (b - 48) = first (omega (arith, least)) (omega (arith, most)) in
      rw t (inl (
        letters,
        b ∷ [],
        ap (λ (l : List ℕ). l ++ b ∷ []) is ∙ ap (λ (l : List ℕ). 123 ∷ l) (append_assoc letters (32 ∷ []) (b ∷ [])),
        found,
        subst (λ n. IsRepeat (n ∷ []) (b - 48)) (digit_of b (omega (arith, least))) count,
      )))
  | inr t ↦ rw t tt
]

counted_stepped : (bytes : List ℕ) (b : ℕ) (k : Key) (n : ℕ) → Holds bytes (Counted k n)
    → Stepped bytes b (after (Counted k n) b)
counted_stepped bytes b k n (letters, digits, is, found, count) = elim (cases_Bool (b == 125)) [
  | inl t ↦
      rw t (rw (eqb-true b 125 t, is)
      (subst (λ (l : List ℕ). SpellsWord (123 ∷ l) k n) (sym (append_assoc letters (32 ∷ digits) (125 ∷ [])))
      (repeated letters digits found count)))
  | inr t ↦ elim (cases_Bool ((nat_le 48 b && nat_le b 57) && nat_le (n * 10 + (b - 48)) 9999)) [
    | inl d ↦ (let parts = and_parts (nat_le 48 b && nat_le b 57) (nat_le (n * 10 + (b - 48)) 9999) d in
        let digit = and_parts (nat_le 48 b) (nat_le b 57) parts.0 in
        let least : 48 ≤ b = leb-true 48 b digit.0 in
        let most : b ≤ 57 = leb-true b 57 digit.1 in
        let within : n * 10 + (b - 48) ≤ 9999 = leb-true _ 9999 parts.1 in
        let longer_count : IsRepeat (digits ++ (48 + (b - 48)) ∷ []) (n * 10 + (b - 48)) =
        later count (omega (arith, most)) within in
        rw (t, d) (inl (
          letters,
          digits ++ b ∷ [],
          ap (λ (l : List ℕ). l ++ b ∷ []) is
              ∙ ap (λ (l : List ℕ). 123 ∷ l) (append_assoc letters (32 ∷ digits) (b ∷ [])),
          found,
          subst (λ e. IsRepeat (digits ++ e ∷ []) (n * 10 + (b - 48))) (digit_of b least) longer_count,
        )))
    | inr d ↦ rw (t, d) tt
  ]
]

alt_stepped : (bytes : List ℕ) (b : ℕ) → Holds bytes AltSpaced → Stepped bytes b (after AltSpaced b)
alt_stepped bytes b (letters, is, found) = elim (cases_Bool (is_ascii_alphabetic b)) [
  | inl t ↦
      rw t (inl (
        letters,
        b,
        ap (λ (l : List ℕ). l ++ b ∷ []) is
            ∙ ap (λ (l : List ℕ). 123 ∷ l) (append_assoc letters (32 ∷ []) (b ∷ [])),
        found,
        t,
        refl,
      ))
  | inr t ↦ rw t tt
]

-- a byte behind the beginning of a word
pub stepped : (bytes : List ℕ) (r : Begun) (b : ℕ) → Holds bytes r → Stepped bytes b (after r b)
stepped bytes Nothing b holds = at_rest_stepped bytes b holds
stepped bytes Opened b holds = opened_stepped bytes b holds
stepped bytes (Mark m) b (is, marked) = elim (cases_Bool (b == 125)) [
  | inl t ↦ rw t (rw (eqb-true b 125 t, is) (mark marked))
  | inr t ↦ rw t tt
]
stepped bytes (Letters l) b holds = letters_stepped bytes b l holds
stepped bytes (Spaced k) b holds = spaced_stepped bytes b k holds
stepped bytes (Counted k n) b holds = counted_stepped bytes b k n holds
stepped bytes AltSpaced b holds = alt_stepped bytes b holds
stepped bytes (AltLetter l) b (letters, c, is, found, letter, same) = elim (cases_Bool (b == 125)) [
  | inl t ↦
      rw t (rw (eqb-true b 125 t, is, same)
      (subst (λ (x : List ℕ). SpellsWord (123 ∷ x) (key.Alt (to_ascii_uppercase c)) 1)
      (sym (append_assoc letters (32 ∷ c ∷ []) (125 ∷ []))) (alt letters c found letter)))
  | inr t ↦ rw t tt
]

-- the reader with this word begun and a byte more taken
abbrev moved : KeyReader → Begun → KeyReader
moved r next = record r { begun = next; taken = r.taken + 1 }

module _ (bytes : List ℕ) (keys : Keys) (r : KeyReader) (b : ℕ) (read : HasRead bytes keys r) where
  one_longer : r.taken + 1 ≡ length (bytes ++ b ∷ [])
  one_longer = omega (arith, read.taken, length-append bytes (b ∷ []))

  split_more : bytes ++ b ∷ [] ≡ read.whole ++ (read.begun ++ b ∷ [])
  split_more = ap (λ (l : List ℕ). l ++ b ∷ []) read.split ∙ append_assoc read.whole read.begun (b ∷ [])

  -- a byte within a word keeps what was read
  pub goes_on : (next : Begun) → after r.begun b ≡ Going next → HasRead (bytes ++ b ∷ []) keys (moved r next)
  goes_on next is = elim (subst (Stepped read.begun b) is (stepped read.begun r.begun b read.holds)) [
    | inl holds ↦
        record {
          taken = one_longer;
          fine = read.fine;
          whole = read.whole;
          begun = read.begun ++ b
              ∷ [];
          split = split_more;
          spelled = read.spelled;
          holds = holds;
        }
    | inr passed ↦ record {
      taken = one_longer;
      fine = read.fine;
      whole = read.whole ++ b ∷ [];
      begun = [];
      split =
          split_more ∙ ap (λ (l : List ℕ). read.whole ++ (l ++ b ∷ [])) passed.0
          ∙ sym (append-nil (read.whole ++ b ∷ []));
      spelled = line_end read.spelled passed.1;
      holds = rw (passed.2) refl;
    }
  ]

  -- a byte that ends a word adds its key
  pub ends : (k : Key) (n : ℕ) → after r.begun b ≡ Ended k n
      → HasRead (bytes ++ b ∷ []) (keys ++ (k, n) ∷ []) (moved r Nothing)
  ends k n is = record {
    taken = one_longer;
    fine = read.fine;
    whole = read.whole ++ (read.begun ++ b ∷ []);
    begun = [];
    split = split_more ∙ sym (append-nil (read.whole ++ (read.begun ++ b ∷ [])));
    spelled = one_word read.spelled (subst (Stepped read.begun b) is (stepped read.begun r.begun b read.holds));
    holds = refl;
  }

  scanned : scan Nothing bytes ≡ Some (keys, r.begun)
  scanned =
      ap (scan Nothing) read.split ∙ scan-append Nothing read.whole read.begun
      ∙ ap (λ (s : Scan). scan_then s read.begun) (text_scanned read.whole keys read.spelled)
      ∙ ap (after_keys keys) (holds_scanned read.begun r.begun read.holds)
      ∙ ap (λ (l : Keys). Some (l, r.begun)) (append-nil keys)

  -- a byte that is refused begins no notation
  pub refused : after r.begun b ≡ Refused → Begins (bytes ++ b ∷ []) → ⊥
  refused is = begins_none (bytes ++ b ∷ [])
      (scan-append Nothing bytes (b ∷ []) ∙ ap (λ (s : Scan). scan_then s (b ∷ [])) scanned
      ∙ ap (λ (n : Next). after_keys keys (scan_on n (λ next. Some ([], next)))) is)

-- between words the bytes are whole words
pub at_rest_spells : (bytes : List ℕ) (keys : Keys) (r : KeyReader) → r.begun ≡ Nothing → HasRead bytes keys r
    → SpellsWords bytes keys
at_rest_spells bytes keys r is read =
    let none : read.begun ≡ [] = subst (Holds read.begun) is read.holds in
    let same : bytes ≡ read.whole = read.split ∙ ap (λ (l : List ℕ). read.whole ++ l) none ∙ append-nil read.whole in
    rw same read.spelled

-- inside a word they are no text
pub is_no_text : (bytes : List ℕ) (keys : Keys) (r : KeyReader) → (r.begun ≡ Nothing → ⊥) → HasRead bytes keys r
    → IsNoText bytes
is_no_text bytes keys r apart read others spelled =
    let both : ◌≡◌ {A = Scan} (Some (keys, r.begun)) (Some (others, Nothing)) =
    sym (scanned bytes keys r 0 read) ∙ text_scanned bytes others spelled in
    let pairs : ◌≡◌ {A = Keys × Begun} (keys, r.begun) (others, Nothing) = cc in
    apart (ap (λ (p : Keys × Begun). p.1) pairs)

-- a word that ends leaves the reader between words
pub ended : (bytes : List ℕ) (keys : Keys) (r : KeyReader) (b : ℕ) (read : HasRead bytes keys r) (k : Key) (n : ℕ)
    → after r.begun b ≡ Ended k n →
    HasRead (bytes ++ b ∷ []) (keys ++ (k, n) ∷ []) (moved r Nothing)
    × SpellsWords (bytes ++ b ∷ []) (keys ++ (k, n) ∷ [])
ended bytes keys r b read k n is =
    let now : HasRead (bytes ++ b ∷ []) (keys ++ (k, n) ∷ []) (moved r Nothing) = ends bytes keys r b read k n is in
    (now, at_rest_spells (bytes ++ b ∷ []) (keys ++ (k, n) ∷ []) (moved r Nothing) refl now)
