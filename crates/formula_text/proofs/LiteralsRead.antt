-- Numbers and texts that are written are read.
use Rattle.std.specs.Char.{is_ascii_digit}
use Rattle.std.proofs.Common.{◌≡◌, ℕ, ◌+◌, ◌≤◌, ◌<◌, Bool, true, false, not, ◌&&◌, cond, ◌==◌, nat_le, nat_lt}
use Rattle.std.proofs.Common.{List, [], ◌∷◌, ◌++◌, take, length, get_or, Some, None, Ok, refl, sym, ap, ◌∙◌, arith}
use Rattle.std.proofs.Common.{append_assoc, length-append, pos}
use Rattle.std.specs.Prelude.{codes, position}
use Rattle.std.specs.List.{list_all, list_any, prefix_len}
use Rattle.std.specs.Int.RustNames.{int_lt}
use Rattle.std.proofs.lemmas.Bool.Decides.{nat_tests}
use Rattle.std.proofs.lemmas.Int.{ints}
use Rattle.std.proofs.lemmas.Bool.{and_parts, or_parts}
use Rattle.lics_text.specs.Texts.{text_of}
use Rattle.fixed_value.specs.declared.decimal.Decimal.TheVariants.{Num as decimal}
use Rattle.fixed_value.specs.Decimals.{behind_digits, decimal_of}
use Rattle.fixed_value.specs.Written.{minus_sign, pointed, scaled, short}
use Rattle.fixed_value.proofs.Short.{all_shown, all_whole, front_digits, point_stops, read_back, shown, some, whole}
use Rattle.grid_address.specs.Place.{Place}
use Rattle.range_names.specs.Names.{NameMap}
use Rattle.formula_tree.specs.Ranges.{is_text}
use Rattle.formula_text.specs.declared.lexeme.LexemeKind.TheVariants.{Num, Str}
use Rattle.formula_text.specs.Lexed.{found_by, part_found}
use Rattle.formula_text.specs.Operands.{closed, digits_len, number_kind, number_len, point_len, text_kind}
use Rattle.formula_tree.specs.Shape.{has_no_quote}
use Rattle.formula_text.proofs.Cuts.{no_digit, take_front, IsPart, Starts, Stops}

point_none : (rest : List ℕ) → (get_or rest 0 0 == 46) ≡ false → point_len rest ≡ 0
point_none [] h = refl
point_none (b ∷ bs) h = rw h refl

point_is : (ds rest : List ℕ) → list_all is_ascii_digit ds ≡ true → Stops rest
    → point_len (pointed ds ++ rest) ≡ length (pointed ds)
point_is [] rest all stops = point_none rest stops.point
point_is (d ∷ ds) rest all stops =
    ap (λ (l : List ℕ). 1 + length l) (front_digits (d ∷ ds) rest all (no_digit (get_or rest 0 0) stops.word)).0
    ∙ (let e : 1 + length (d ∷ ds) ≡ length (46 ∷ d ∷ ds) = omega arith in e)

some_digits : (w p : ℕ) → 0 < w → digits_len w p ≡ w + p
some_digits w p h = (let none : (w == 0) ≡ false = grind (arith, nat_tests, h) in rw none refl)

starts_digit : (d : ℕ) → is_ascii_digit d ≡ true → Starts d
starts_digit d h = record {
  space = grind (arith, nat_tests, h);
  equal = grind (arith, nat_tests, h);
  greater = grind (arith, nat_tests, h);
}

digit_first : (ds rest : List ℕ) → 0 < length ds → list_all is_ascii_digit ds ≡ true → Starts (get_or (ds ++ rest) 0 0)
digit_first [] rest h all = absurd (omega arith)
digit_first (d ∷ ds) rest h all = starts_digit d (and_parts (is_ascii_digit d) (list_all is_ascii_digit ds) all).0

no_minus : (n : ℕ) → short (pos n) 6 ≡ whole (pos n) 6 ++ pointed (shown (pos n) 6)
no_minus n =
    let plus : int_lt (pos n) (pos 0) ≡ false = grind (arith, ints) in
    ap (λ b. minus_sign (b && not (scaled (pos n) 6 == 0)) ++ (whole (pos n) 6 ++ pointed (shown (pos n) 6))) plus

long : (names : NameMap) (cell : Place) (at len : ℕ) (bytes : List ℕ) → number_len bytes ≡ len → 0 < len
    → part_found names cell at bytes ≡ record { kind = number_kind at (decimal_of (take len bytes)); len = len }
unfolding part_found
long names cell at len bytes is more =
    (let some_len : nat_lt 0 len ≡ true = grind (arith, nat_tests, more) in rw (is, some_len) refl)

digits_part : (names : NameMap) (cell : Place) (text ds ps : List ℕ) (n : ℕ) → text ≡ ds ++ pointed ps → 0 < length ds
    → list_all is_ascii_digit ds ≡ true → list_all is_ascii_digit ps ≡ true → decimal_of text ≡ decimal (pos n)
    → IsPart names cell text (Num (pos n))
digits_part names cell text ds ps n is some_ds all later value =
    let size : length text ≡ length ds + length (pointed ps) = ap length is ∙ length-append ds (pointed ps) in
    record {
      some = omega (arith, size, some_ds);
      first = λ rest. (let at_front : text ++ rest ≡ ds ++ (pointed ps ++ rest) = ap (λ (l : List ℕ). l ++ rest) is
          ∙ append_assoc ds (pointed ps) rest in rw at_front (digit_first ds (pointed ps ++ rest) some_ds all));
      found = λ rest at stops. (
          let front : text ++ rest ≡ ds ++ (pointed ps ++ rest) = ap (λ (l : List ℕ). l ++ rest) is
          ∙ append_assoc ds (pointed ps) rest in
          let digits =
          front_digits ds (pointed ps ++ rest) all (point_stops ps rest (no_digit (get_or rest 0 0) stops.word)) in
          let counted : number_len (text ++ rest) ≡ length text =
          ap number_len front
          ∙ ap (λ (l : List ℕ). digits_len (length l) (point_len (behind_digits (ds ++ (pointed ps ++ rest))))) digits.0
          ∙ ap (λ (l : List ℕ). digits_len (length ds) (point_len l)) digits.1
          ∙ ap (digits_len (length ds)) (point_is ps rest later stops)
          ∙ some_digits (length ds) (length (pointed ps)) some_ds ∙ sym size in
          long names cell at (length text) (text ++ rest) counted (omega (arith, size, some_ds))
          ∙ ap (λ (l : List ℕ). record { kind = number_kind at (decimal_of l); len = length text })
          (take_front text rest)
          ∙ ap (λ v. record { kind = number_kind at v; len = length text }) value);
    }

-- the text of a whole number of at most 15 digits that isn't negative is one part, the number
pub number_part : (names : NameMap) (cell : Place) (n : ℕ) → n ≤ 999999999999999
    → IsPart names cell (short (pos n) 6) (Num (pos n))
number_part names cell n h =
    let six : 6 ≤ 6 = omega arith in
    digits_part names cell (short (pos n) 6) (whole (pos n) 6) (shown (pos n) 6) n (no_minus n) (some (pos n) 6 h six)
    (all_whole (pos n) 6 h six) (all_shown (pos n) 6 h six) (read_back (pos n) 6 h six)

-- texts
abbrev is_quote : ℕ → Bool
is_quote b = b == 34

none_quote : (b : ℕ) (bs : List ℕ) → list_any is_quote (b ∷ bs) ≡ false
    → ((b == 34) ≡ false) × (list_any is_quote bs ≡ false)
none_quote b bs h = or_parts (b == 34) (list_any is_quote bs) h

-- a text without quotes is as long as what stands before the quote behind it
pub free_len : (t rest : List ℕ) → list_any is_quote t ≡ false
    → prefix_len (λ b. not (is_quote b)) (t ++ 34 ∷ rest) ≡ length t
free_len [] rest h = refl
free_len (b ∷ bs) rest h =
    let n = none_quote b bs h in
    ap (λ c. cond (not c) (1 + prefix_len (λ b. not (is_quote b)) (bs ++ 34 ∷ rest)) 0) n.0
    ∙ ap (λ k. 1 + k) (free_len bs rest n.1) ∙ (let e : 1 + length bs ≡ length (b ∷ bs) = omega arith in e)

quote_at : (t rest : List ℕ) → list_any is_quote t ≡ false → position is_quote (t ++ 34 ∷ rest) ≡ Some (length t)
quote_at t rest h =
    let n = free_len t rest h in
    let inside : nat_lt (length t) (length (t ++ 34 ∷ rest)) ≡ true = (let less : length t < length (t ++ 34 ∷ rest) =
    omega (arith, length-append t (34 ∷ rest)) in grind (arith, nat_tests, less)) in
    ap (λ k. cond (nat_lt k (length (t ++ 34 ∷ rest))) (Some k) None) n ∙ ap (λ c. cond c (Some (length t)) None) inside

all_len : (p : ℕ → Bool) (t : List ℕ) → list_all p t ≡ true → prefix_len p t ≡ length t
all_len p [] h = refl
all_len p (b ∷ bs) h =
    ap (λ c. cond c (1 + prefix_len p bs) 0) (and_parts (p b) (list_all p bs) h).0 ∙ ap (λ k. 1 + k)
    (all_len p bs (and_parts (p b) (list_all p bs) h).1) ∙ (let e : 1 + length bs ≡ length (b ∷ bs) = omega arith in e)

not_low : (t : List ℕ) → list_all (λ b. nat_le 32 b) t ≡ true → list_all (λ b. not (nat_lt b 32)) t ≡ true
not_low [] h = refl
not_low (b ∷ bs) h =
    let first = (and_parts (nat_le 32 b) (list_all (λ b. nat_le 32 b) bs) h).0 in
    let more : not (nat_lt b 32) ≡ true = grind (arith, nat_tests, first) in
    rw more (not_low bs (and_parts (nat_le 32 b) (list_all (λ b. nat_le 32 b) bs) h).1)

none_low : (t : List ℕ) → list_all (λ b. nat_le 32 b) t ≡ true → position (λ b. nat_lt b 32) t ≡ None
none_low t h =
    let past : nat_lt (length t) (length t) ≡ false = grind (arith, nat_tests) in
    ap (λ k. cond (nat_lt k (length t)) (Some k) None) (all_len (λ b. not (nat_lt b 32)) t (not_low t h))
    ∙ ap (λ c. cond c (Some (length t)) None) past

kept : (t : List ℕ) → is_text t ≡ true → text_of t ≡ Ok t
kept t h =
    let low = none_low t (and_parts (nat_le (length t) 240) (list_all (λ b. nat_le 32 b) t) h).1 in
    let short = (and_parts (nat_le (length t) 240) (list_all (λ b. nat_le 32 b) t) h).0 in
    let fits : nat_lt 240 (length t) ≡ false = grind (arith, nat_tests, short) in
    rw (fits, low) refl

quoted : (names : NameMap) (cell : Place) (at : ℕ) (bytes : List ℕ)
    → part_found names cell at (34 ∷ bytes) ≡ closed at bytes (position is_quote bytes)
unfolding part_found found_by
quoted names cell at bytes = refl

no_quote : (t : List ℕ) → has_no_quote t ≡ true → list_any is_quote t ≡ false
no_quote t h = grind arith

-- a text in quotes is one part, the text
pub text_part : (names : NameMap) (cell : Place) (t : List ℕ) → is_text t ≡ true → has_no_quote t ≡ true
    → IsPart names cell (codes "\"" ++ (t ++ codes "\"")) (Str t)
text_part names cell t h q =
    let size : length (t ++ 34 ∷ []) ≡ length t + 1 = length-append t (34 ∷ []) in
    record {
      some = omega arith;
      first = λ rest. record { space = refl; equal = refl; greater = refl };
      found = λ rest at stops. (
          let behind : (t ++ 34 ∷ []) ++ rest ≡ t ++ 34 ∷ rest = append_assoc t (34 ∷ []) rest in
          quoted names cell at ((t ++ 34 ∷ []) ++ rest) ∙ ap (λ (l : List ℕ). closed at l (position is_quote l)) behind
          ∙ ap (closed at (t ++ 34 ∷ rest)) (quote_at t rest (no_quote t q))
          ∙ ap (λ (l : List ℕ). record { kind = text_kind at (text_of l); len = length t + 2 })
          (take_front t (34 ∷ rest)) ∙ ap (λ x. record { kind = text_kind at x; len = length t + 2 }) (kept t h)
          ∙ ap (λ k. record { kind = Str t; len = k })
          (let e : length t + 2 ≡ length (34 ∷ (t ++ 34 ∷ [])) = omega (arith, size) in e));
    }
