-- Key notation: which bytes spell which keys.
use Rattle.std.specs.Char.{is_ascii_alphabetic, to_ascii_uppercase}
use Rattle.std.specs.Prelude.{◌≡◌, ◌≢◌, ℕ, ◌+◌, ◌*◌, ◌≤◌, Bool, true, not, nat_le, ◌==◌, ◌&&◌, ◌||◌, ◌⊎◌, List, [], ◌∷◌, ◌++◌, map, Some}
use Rattle.lics_text.specs.Ascii as ascii
use Rattle.key_words.specs.declared.key.Key.{Key}
use Rattle.key_words.specs.declared.key.Key.TheVariants as key
use Rattle.key_words.specs.declared.name.Named.TheVariants.{Repeated, Alone, Alt}
use Rattle.key_words.specs.Names.{looked_up}

-- one of ~ { and }
abbrev pub is_mark : ℕ → Bool
is_mark b = b == ascii.tilde || (b == ascii.opening_brace || b == ascii.closing_brace)

-- a byte from 32 on that is no mark
abbrev pub is_typed : ℕ → Bool
is_typed b = nat_le ascii.space b && not (is_mark b)

-- the digits of a whole number from 1 to 9999, the first of which is no zero
pub data IsRepeat : List ℕ → ℕ → Type 0 where
  first : {d : ℕ} → 1 ≤ d → d ≤ 9 → IsRepeat ((ascii.zero + d) ∷ []) d
  later : {digits : List ℕ} {n d : ℕ} → IsRepeat digits n → d ≤ 9 → n * 10 + d ≤ 9999 →
      IsRepeat (digits ++ (ascii.zero + d) ∷ []) (n * 10 + d)

-- The bytes are one word, and the word is this key, so many times: a byte that is typed, a tilde for Enter, or braces
-- round a mark, round a name in either case, round a name and a number, or round ALT and a letter.
pub data SpellsWord : List ℕ → Key → ℕ → Type 0 where
  byte : {b : ℕ} → is_typed b ≡ true → SpellsWord (b ∷ []) (key.Byte b) 1
  tilde : SpellsWord (ascii.tilde ∷ []) key.Enter 1
  mark : {b : ℕ} → is_mark b ≡ true → SpellsWord (ascii.opening_brace ∷ b ∷ ascii.closing_brace ∷ []) (key.Byte b) 1
  named : (letters : List ℕ) {k : Key} → looked_up (map to_ascii_uppercase letters) ≡ Some (Repeated k) →
      SpellsWord (ascii.opening_brace ∷ (letters ++ ascii.closing_brace ∷ [])) k 1
  repeated : (letters digits : List ℕ) {k : Key} {n : ℕ} →
      looked_up (map to_ascii_uppercase letters) ≡ Some (Repeated k) → IsRepeat digits n →
      SpellsWord (ascii.opening_brace ∷ (letters ++ ascii.space ∷ (digits ++ ascii.closing_brace ∷ []))) k n
  alone : (letters : List ℕ) {k : Key} → looked_up (map to_ascii_uppercase letters) ≡ Some (Alone k) →
      SpellsWord (ascii.opening_brace ∷ (letters ++ ascii.closing_brace ∷ [])) k 1
  alt : (letters : List ℕ) (b : ℕ) →
      looked_up (map to_ascii_uppercase letters) ≡ Some Alt → is_ascii_alphabetic b ≡ true →
      SpellsWord (ascii.opening_brace ∷ (letters ++ ascii.space ∷ b ∷ ascii.closing_brace ∷ []))
      (key.Alt (to_ascii_uppercase b)) 1

-- The bytes are words one after another. A carriage return or a line feed between words is passed over.
pub data SpellsWords : List ℕ → List (Key × ℕ) → Type 0 where
  nothing : SpellsWords [] []
  one_word : {bytes word : List ℕ} {keys : List (Key × ℕ)} {k : Key} {n : ℕ} → SpellsWords bytes keys →
      SpellsWord word k n → SpellsWords (bytes ++ word) (keys ++ (k, n) ∷ [])
  line_end : {bytes : List ℕ} {keys : List (Key × ℕ)} {b : ℕ} → SpellsWords bytes keys →
      (b ≡ ascii.carriage_return) ⊎ (b ≡ ascii.line_feed) → SpellsWords (bytes ++ b ∷ []) keys

-- some text of the notation begins with these bytes
abbrev pub Begins : List ℕ → Type 0
Begins bytes = (more : List ℕ) × (keys : List (Key × ℕ)) × SpellsWords (bytes ++ more) keys

-- the bytes are no text of the notation
abbrev pub IsNoText : List ℕ → Type 0
IsNoText bytes = (keys : List (Key × ℕ)) → SpellsWords bytes keys → ⊥

-- a word begins with these bytes and does not end with them
pub record BeginsWord (begun : List ℕ) : Type 0 where
  pub more : List ℕ
  pub some_more : more ≢ []
  pub key : Key
  pub times : ℕ
  pub spells : SpellsWord (begun ++ more) key times

-- these keys are whole in the bytes, behind which the beginning of a word may stand
pub record HasKeys (bytes : List ℕ) (keys : List (Key × ℕ)) : Type 0 where
  pub whole : List ℕ
  pub begun : List ℕ
  pub split : bytes ≡ whole ++ begun
  pub spelled : SpellsWords whole keys
  pub begins : (begun ≡ []) ⊎ BeginsWord begun
