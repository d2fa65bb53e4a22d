-- What a reader of key notation has read.
use Rattle.std.specs.Char.{is_ascii_alphabetic, to_ascii_uppercase}
use Rattle.std.specs.Prelude.{◌≡◌, ℕ, true, List, [], ◌∷◌, ◌++◌, map, length, Some, None}
use Rattle.lics_text.specs.Ascii as ascii
use Rattle.key_words.specs.declared.key.Key.{Key as AnyKey}
use Rattle.key_words.specs.declared.name.Named.{Named}
use Rattle.key_words.specs.declared.name.Named.TheVariants.{Repeated, Alt}
use Rattle.key_words.specs.declared.begun.Begun.{Begun}
use Rattle.key_words.specs.declared.begun.Begun.TheVariants.{Nothing, Opened, Mark, Letters, Spaced, Counted, AltSpaced, AltLetter}
use Rattle.key_words.specs.declared.reader.KeyReader.{KeyReader}
use Rattle.key_words.specs.declared.reader.Fed.{Fed}
use Rattle.key_words.specs.declared.reader.Fed.TheVariants.{Key, More, Bad}
use Rattle.key_words.specs.Names.{looked_up}
use Rattle.key_words.specs.Notation.{Begins, IsRepeat, SpellsWords, is_mark}

-- a name begins with these letters, which are capitals
abbrev pub BeginsName : List ℕ → Type 0
BeginsName letters =
    (more : List ℕ) × (meaning : Named) × (looked_up (letters ++ map to_ascii_uppercase more) ≡ Some meaning)

-- the bytes of a word that was read so far
abbrev pub Holds : List ℕ → Begun → Type 0
Holds bytes Nothing = bytes ≡ []
Holds bytes Opened = bytes ≡ ascii.opening_brace ∷ []
Holds bytes (Mark m) = (bytes ≡ ascii.opening_brace ∷ m ∷ []) × (is_mark m ≡ true)
Holds bytes (Letters l) =
    (first : ℕ) × (letters : List ℕ) × (bytes ≡ ascii.opening_brace ∷ first ∷ letters)
    × (map to_ascii_uppercase (first ∷ letters) ≡ l) × BeginsName l
Holds bytes (Spaced k) =
    (letters : List ℕ) × (bytes ≡ ascii.opening_brace ∷ (letters ++ ascii.space ∷ []))
    × (looked_up (map to_ascii_uppercase letters) ≡ Some (Repeated k))
Holds bytes (Counted k n) =
    (letters : List ℕ) × (digits : List ℕ) × (bytes ≡ ascii.opening_brace ∷ (letters ++ ascii.space ∷ digits))
    × (looked_up (map to_ascii_uppercase letters) ≡ Some (Repeated k)) × IsRepeat digits n
Holds bytes AltSpaced =
    (letters : List ℕ) × (bytes ≡ ascii.opening_brace ∷ (letters ++ ascii.space ∷ []))
    × (looked_up (map to_ascii_uppercase letters) ≡ Some Alt)
Holds bytes (AltLetter l) =
    (letters : List ℕ) × (b : ℕ) × (bytes ≡ ascii.opening_brace ∷ (letters ++ ascii.space ∷ b ∷ []))
    × (looked_up (map to_ascii_uppercase letters) ≡ Some Alt) × (is_ascii_alphabetic b ≡ true)
    × (l ≡ to_ascii_uppercase b)

-- The reader has read these bytes, none of which it refused. The keys are whole in them, and behind these it holds the
-- beginning of a word.
pub record HasRead (bytes : List ℕ) (keys : List (AnyKey × ℕ)) (r : KeyReader) : Type 0 where
  pub taken : r.taken ≡ length bytes
  pub fine : r.bad ≡ None
  pub whole : List ℕ
  pub begun : List ℕ
  pub split : bytes ≡ whole ++ begun
  pub spelled : SpellsWords whole keys
  pub holds : Holds begun r.begun

-- What a byte came to behind these: one key more, with which a word ends; none yet; or no text of the notation goes on
-- with it.
abbrev pub Feeds : List ℕ → List (AnyKey × ℕ) → ℕ → Fed → KeyReader → Type 0
Feeds bytes keys b (Key k n) now =
    HasRead (bytes ++ b ∷ []) (keys ++ (k, n) ∷ []) now × SpellsWords (bytes ++ b ∷ []) (keys ++ (k, n) ∷ [])
Feeds bytes keys b More now = HasRead (bytes ++ b ∷ []) keys now
Feeds bytes keys b (Bad at) now = (at ≡ length bytes) × (Begins (bytes ++ b ∷ []) → ⊥)
