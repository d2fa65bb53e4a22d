-- A key by its whole name in braces.
use Rattle.std.specs.Char.{is_ascii_uppercase, to_ascii_uppercase}
use Rattle.std.proofs.Common.{◌≡◌, ℕ, ◌+◌, ◌<◌, true, false, Bool, cond, List, [], ◌∷◌, ◌++◌, length, take, drop}
use Rattle.std.proofs.Common.{map, get_or, Option, Some, None, refl, ap, sym, ◌∙◌, arith, inl, inr}
use Rattle.std.specs.Prelude.{◌==◌, not, nat_lt, position}
use Rattle.std.specs.List.{list_all, prefix_len}
use Rattle.std.proofs.lemmas.List.{length-map, take_all, take_at, take-append-drop, drop-drop, drop_more}
use Rattle.std.proofs.lemmas.Bool.{cases_Bool, and_parts, eqb-true, lt-ltb, true≢false}
use Rattle.std.proofs.lemmas.Bool.Decides.{nat_tests}
use Rattle.key_words.specs.declared.key.Key.{Key}
use Rattle.key_words.specs.declared.name.Named.TheVariants.{Repeated}
use Rattle.key_words.specs.declared.macro_word.MacroWord.TheVariants as word
use Rattle.key_words.specs.MacroText.{behind_name, braced, closed_at, closing_from, is_marked, key_word, name_length}
use Rattle.key_words.specs.MacroText.{typed, unit_at, word_inside}
use Rattle.key_words.specs.Names.{looked_up}
use Rattle.key_words.specs.Notation.{is_mark}
use Rattle.key_words.proofs.Tables.{letter_apart, looked_up_proper}

-- these are letters of either case
abbrev all_letters : List ℕ → Bool
all_letters letters = list_all is_ascii_uppercase (map to_ascii_uppercase letters)

letter_no_quote : (b : ℕ) → is_ascii_uppercase (to_ascii_uppercase b) ≡ true → (b == 34) ≡ false
letter_no_quote b is = elim (cases_Bool (b == 34)) [
  | inl t ↦ absurd (true≢false (sym is ∙ ap (λ n. is_ascii_uppercase (to_ascii_uppercase n)) (eqb-true b 34 t)))
  | inr f ↦ f
]

letters_parts : (b : ℕ) (bs : List ℕ) → all_letters (b ∷ bs) ≡ true
    → (is_ascii_uppercase (to_ascii_uppercase b) ≡ true) × (all_letters bs ≡ true)
letters_parts b bs all = and_parts (is_ascii_uppercase (to_ascii_uppercase b)) (all_letters bs) all

-- the brace closes behind letters
closes_behind : (place : ℕ) (letters behind : List ℕ) → all_letters letters ≡ true
    → closing_from place false (letters ++ 125 ∷ behind) ≡ Some (place + length letters)
closes_behind place [] behind all = (let e : place ≡ place + 0 = omega arith in ap Some e)
closes_behind place (b ∷ bs) behind all =
    let parts = letters_parts b bs all in
    let apart = letter_apart b parts.0 in
    let quote = letter_no_quote b parts.0 in
    let e : place + 1 + length bs ≡ place + length (b ∷ bs) = omega arith in
    rw (apart.0, quote) (closes_behind (place + 1) bs behind parts.1 ∙ ap Some e)

abbrev no_space : ℕ → Bool
no_space b = not (b == 32)

-- no space is among letters
unspaced_len : (letters : List ℕ) → all_letters letters ≡ true → prefix_len no_space letters ≡ length letters
unspaced_len [] all = refl
unspaced_len (b ∷ bs) all =
    let parts = letters_parts b bs all in
    let apart = letter_apart b parts.0 in
    ap (λ c. cond (not c) (1 + prefix_len no_space bs) 0) apart.1 ∙ ap (λ k. 1 + k) (unspaced_len bs parts.1)
    ∙ (let e : 1 + length bs ≡ length (b ∷ bs) = omega arith in e)

never_less : (n : ℕ) → nat_lt n n ≡ false
never_less n = grind (arith, nat_tests)

-- letters are a name to their end
all_name : (letters : List ℕ) → all_letters letters ≡ true → name_length letters ≡ length letters
all_name letters all =
    let none : position (λ b. b == 32) letters ≡ None =
    ap (λ k. cond (nat_lt k (length letters)) (Some k) None) (unspaced_len letters all)
    ∙ ap (λ c. cond c (Some (length letters)) None) (never_less (length letters)) in
    rw none refl

-- nothing stands behind it
none_behind : (at : ℕ) (letters : List ℕ) → all_letters letters ≡ true → behind_name at letters ≡ None
none_behind at letters all =
    let past : nat_lt (name_length letters) (length letters) ≡ false =
    ap (λ n. nat_lt n (length letters)) (all_name letters all) ∙ never_less (length letters) in
    rw past refl

-- a key's name alone is the key
word_is : (at : ℕ) (letters : List ℕ) (k : Key) → all_letters letters ≡ true
    → looked_up (map to_ascii_uppercase letters) ≡ Some (Repeated k) → word_inside at letters ≡ word.Key k
word_is at letters k all found =
    let front : take (name_length letters) letters ≡ letters =
    ap (λ n. take n letters) (all_name letters all) ∙ take_all (length letters) letters (omega arith) in
    let named : looked_up (map to_ascii_uppercase (take (name_length letters) letters)) ≡ Some (Repeated k) =
    ap (λ (l : List ℕ). looked_up (map to_ascii_uppercase l)) front ∙ found in
    rw named (ap (key_word k) (none_behind at letters all))

not_marked : (b : ℕ) (rest : List ℕ) → is_mark b ≡ false → is_marked (b ∷ rest) ≡ false
not_marked b [] h = refl
not_marked b (c ∷ cs) h = rw h refl

-- so it is in braces
braced_is : (end at : ℕ) (letters behind : List ℕ) (k : Key) → all_letters letters ≡ true
    → looked_up (map to_ascii_uppercase letters) ≡ Some (Repeated k)
    → braced end at (letters ++ 125 ∷ behind) ≡ (word.Key k, at + length letters + 1)
braced_is end at [] behind k all found = absurd cc
braced_is end at (b ∷ bs) behind k all found =
    let letters : List ℕ = b ∷ bs in
    let apart = letter_apart b (letters_parts b bs all).0 in
    let plain : is_marked (letters ++ 125 ∷ behind) ≡ false = not_marked b (bs ++ 125 ∷ behind) apart.2 in
    let closed : closing_from 0 false (letters ++ 125 ∷ behind) ≡ Some (length letters) =
    (let e : 0 + length letters ≡ length letters = omega arith in closes_behind 0 letters behind all ∙ ap Some e) in
    let front : take (length letters) (letters ++ 125 ∷ behind) ≡ letters =
    take_at letters (125 ∷ behind) (length letters) refl in
    let rest : List ℕ = letters ++ 125 ∷ behind in
    ap (λ (c : Bool). cond c (typed (get_or rest 0 0), at + 2)
    (closed_at end at rest (closing_from 0 false rest))) plain
    ∙ ap (λ (o : Option ℕ). closed_at end at rest o) closed
    ∙ ap (λ (l : List ℕ). (word_inside at l, at + length letters + 1)) front
    ∙ ap (λ w. (w, at + length letters + 1)) (word_is at letters k all found)

-- what stands behind an offset, parted at a byte
parted : (text : List ℕ) (at len b : ℕ) → at + len < length text → get_or text (at + len) 0 ≡ b
    → drop at text ≡ take len (drop at text) ++ b ∷ drop (at + len + 1) text
parted text at len b within is =
    let later : drop len (drop at text) ≡ b ∷ drop (at + len + 1) text =
    drop-drop len at text ∙ drop_more text (at + len) 0 within
    ∙ ap (λ n. n ∷ drop (at + len + 1) text) is in
    sym (take-append-drop len (drop at text)) ∙ ap (λ (l : List ℕ). take len (drop at text) ++ l) later

-- a key's whole name between braces is the key
pub key_by_name : (text name : List ℕ) (offset len : ℕ) (k : Key) → looked_up name ≡ Some (Repeated k)
    → len ≡ length name → offset + 1 + len < length text → get_or text offset 0 ≡ 123
    → get_or text (offset + 1 + len) 0 ≡ 125
    → map to_ascii_uppercase (take len (drop (offset + 1) text)) ≡ name
    → unit_at text offset ≡ (word.Key k, offset + 1 + len + 1)
key_by_name text name offset len k found long within opens closes spelled =
    let letters : List ℕ = take len (drop (offset + 1) text) in
    let behind : List ℕ = drop (offset + 1 + len + 1) text in
    let all : all_letters letters ≡ true =
    ap (λ (l : List ℕ). list_all is_ascii_uppercase l) spelled ∙ (looked_up_proper name (Repeated k) found).1 in
    let known : looked_up (map to_ascii_uppercase letters) ≡ Some (Repeated k) = ap looked_up spelled ∙ found in
    let size : length letters ≡ len =
    sym (length-map letters to_ascii_uppercase) ∙ ap (λ (l : List ℕ). length l) spelled ∙ sym long in
    let inside : nat_lt offset (length text) ≡ true = lt-ltb _ _ (omega (arith, within)) in
    rw (inside, opens) (ap (λ (l : List ℕ). braced (length text) (offset + 1) l)
    (parted text (offset + 1) len 125 within closes)
    ∙ braced_is (length text) (offset + 1) letters behind k all known
    ∙ ap (λ n. (word.Key k, offset + 1 + n + 1)) size)
