-- A part that stands in front of other bytes.
use Rattle.std.specs.Char.{is_ascii_digit}
use Rattle.std.proofs.Common.{◌≡◌, ℕ, ◌+◌, ◌<◌, Bool, true, false, ◌&&◌, cond, ◌==◌, List, [], ◌∷◌, ◌++◌, take, drop}
use Rattle.std.proofs.Common.{length, get_or, refl, sym, ap, ◌∙◌, arith, length-append}
use Rattle.std.proofs.lemmas.Bool.{and_parts}
use Rattle.std.specs.List.{list_all, prefix_len}
use Rattle.grid_address.specs.Place.{Place}
use Rattle.range_names.specs.Names.{NameMap}
use Rattle.formula_text.specs.declared.lexeme.LexemeKind.{LexemeKind}
use Rattle.formula_text.specs.declared.lexeme.Lexeme.{Lexeme}
use Rattle.formula_text.specs.Lexed.{found_by, lexed, part_found}
use Rattle.formula_text.specs.Operands.{number_len}
use Rattle.formula_text.specs.Words.{is_word_byte}
use Rattle.formula_text.proofs.Lexing.{here}

-- no byte that would belong to a part before it stands first
pub record Stops (rest : List ℕ) : Type 0 where
  pub word : is_word_byte (get_or rest 0 0) ≡ false
  pub point : (get_or rest 0 0 == 46) ≡ false

-- no byte that would belong to an operator before it stands first, and no space
pub record Starts (b : ℕ) : Type 0 where
  pub space : (b == 32) ≡ false
  pub equal : (b == 61) ≡ false
  pub greater : (b == 62) ≡ false

-- a byte of no word is no digit
pub no_digit : (b : ℕ) → is_word_byte b ≡ false → is_ascii_digit b ≡ false
no_digit b h = grind arith

-- of two lists joined, the front as long as the first is the first
pub take_front : (xs ys : List ℕ) → take (length xs) (xs ++ ys) ≡ xs
take_front [] ys = refl
take_front (x ∷ xs) ys = ap (λ (l : List ℕ). x ∷ l) (take_front xs ys)

-- of two lists joined, what stands behind the first is the second
pub drop_front : (xs ys : List ℕ) → drop (length xs) (xs ++ ys) ≡ ys
drop_front [] ys = refl
drop_front (x ∷ xs) ys = drop_front xs ys

none_first : (p : ℕ → Bool) (rest : List ℕ) → p (get_or rest 0 0) ≡ false → prefix_len p rest ≡ 0
none_first p [] h = refl
none_first p (b ∷ bs) h = ap (λ c. cond c (1 + prefix_len p bs) 0) h

-- a front of which each byte passes, and a byte that doesn't
pub front_len : (p : ℕ → Bool) (xs rest : List ℕ) → list_all p xs ≡ true → p (get_or rest 0 0) ≡ false
    → prefix_len p (xs ++ rest) ≡ length xs
front_len p [] rest all h = none_first p rest h
front_len p (x ∷ xs) rest all h =
    ap (λ c. cond c (1 + prefix_len p (xs ++ rest)) 0) (and_parts (p x) (list_all p xs) all).0
    ∙ ap (λ k. 1 + k) (front_len p xs rest (and_parts (p x) (list_all p xs) all).1 h)
    ∙ (let e : 1 + length xs ≡ length (x ∷ xs) = omega arith in e)

-- the text is one part, whatever stops it
pub record IsPart (names : NameMap) (cell : Place) (text : List ℕ) (kind : LexemeKind) : Type 0 where
  pub some : 0 < length text
  pub first : (rest : List ℕ) → Starts (get_or (text ++ rest) 0 0)
  pub found : (rest : List ℕ) (at : ℕ) → Stops rest
      → part_found names cell at (text ++ rest) ≡ record { kind = kind; len = length text }

-- a part is cut off
pub cut : (names : NameMap) (cell : Place) (text rest : List ℕ) (kind : LexemeKind) (at : ℕ)
    → 0 < length text → (get_or (text ++ rest) 0 0 == 32) ≡ false
    → part_found names cell at (text ++ rest) ≡ record { kind = kind; len = length text } →
    lexed names cell 0 at (text ++ rest) ≡ record { at = at; kind = kind } ∷ lexed names cell 0 (at + length text) rest
cut names cell text rest kind at some first found =
    let k : List Lexeme → LexemeKind → List Lexeme = λ ls k. record { at = at; kind = k } ∷ ls in
    here names cell at (text ++ rest) (length text) first (sym (ap (λ f. f.len) found)) some
    (omega (arith, length-append text rest))
    ∙ ap (k (lexed names cell 0 (at + length text) (drop (length text) (text ++ rest)))) (ap (λ f. f.kind) found)
    ∙ ap (λ bs. k (lexed names cell 0 (at + length text) bs) kind) (drop_front text rest)

-- a text that is one part is cut off as that part
pub part_cut : (names : NameMap) (cell : Place) (text rest : List ℕ) (kind : LexemeKind) (at : ℕ)
    → IsPart names cell text kind → Stops rest →
    lexed names cell 0 at (text ++ rest) ≡ record { at = at; kind = kind } ∷ lexed names cell 0 (at + length text) rest
part_cut names cell text rest kind at part stops =
    cut names cell text rest kind at part.some (part.first rest).space (part.found rest at stops)

-- no number stands first
pub no_number : (b : ℕ) (bs : List ℕ) → is_ascii_digit b ≡ false → (b == 46) ≡ false → number_len (b ∷ bs) ≡ 0
no_number b bs digit point = rw (digit, point) refl

-- the first byte tells what the part is, where it is no digit and no point
pub by_first : (names : NameMap) (cell : Place) (at b : ℕ) (bs : List ℕ) → is_ascii_digit b ≡ false → (b == 46) ≡ false
    → part_found names cell at (b ∷ bs) ≡ found_by names cell at (b ∷ bs) b
unfolding part_found
by_first names cell at b bs digit point = rw (no_number b bs digit point) refl
