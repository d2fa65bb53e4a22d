-- What is written is a text's first 240 bytes.
use Rattle.std.proofs.Common.{◌≡◌, ℕ, zero, suc, ◌+◌, ◌-◌, ◌≤◌, ◌<◌, Bool, true, false, ◌&&◌, nat_le, List, [], ◌∷◌}
use Rattle.std.proofs.Common.{◌++◌, length, take, drop, refl, sym, ap, ◌∙◌, arith, append_assoc, length-append}
use Rattle.std.proofs.lemmas.Bool.Decides.{nat_tests}
use Rattle.std.proofs.lemmas.List.{length-take, take-append-drop}
use Rattle.std.proofs.lemmas.Bool.{and_right}
use Rattle.std.proofs.Math.Bool.{and-true}
use Rattle.formula_text.specs.declared.output.Output.{Output}
use Rattle.formula_text.specs.Printed.{written}

take_all : (n : ℕ) (xs : List ℕ) → length xs ≤ n → take n xs ≡ xs
take_all zero [] h = refl
take_all zero (x ∷ xs) h = absurd (omega arith)
take_all (suc n) [] h = refl
take_all (suc n) (x ∷ xs) h = ap (λ l. x ∷ l) (take_all n xs (omega arith))

take_more : (n : ℕ) (xs ys : List ℕ) → length xs ≤ n → take n (xs ++ ys) ≡ xs ++ take (n - length xs) ys
take_more n [] ys h = ap (λ m. take m ys) (let q : n ≡ n - 0 = omega arith in q)
take_more zero (x ∷ xs) ys h = absurd (omega arith)
take_more (suc n) (x ∷ xs) ys h =
    ap (λ l. x ∷ l) (take_more n xs ys (omega arith)
    ∙ ap (λ m. xs ++ take m ys) (let q : n - length xs ≡ suc n - length (x ∷ xs) = omega arith in q))

take_short : (n : ℕ) (xs ys : List ℕ) → n ≤ length xs → take n (xs ++ ys) ≡ take n xs
take_short zero xs ys h = refl
take_short (suc n) [] ys h = absurd (omega arith)
take_short (suc n) (x ∷ xs) ys h = ap (λ l. x ∷ l) (take_short n xs ys (omega arith))

abbrev made : List ℕ → Bool → Output
made line whole = record { line = line; whole = whole }

at_most : (n : ℕ) → n ≤ 240 → true ≡ nat_le n 240
at_most n h = grind (arith, nat_tests)

past : (n : ℕ) → 240 < n → false ≡ nat_le n 240
past n h = grind (arith, nat_tests)

fits : (line bytes : List ℕ) → length line + length bytes ≤ 240
    → made (line ++ bytes) true ≡ written (made line true) bytes
unfolding written
fits line bytes h =
    ap (λ l. made l true) (sym (take_all 240 (line ++ bytes) (omega (arith, length-append line bytes))))
    ∙ ap (made (take 240 (line ++ bytes))) (at_most (length (line ++ bytes)) (omega (arith, length-append line bytes)))

is_cut : (line bytes : List ℕ) → length line ≤ 240 → 240 < length line + length bytes
    → made (line ++ take (240 - length line) bytes) false ≡ written (made line true) bytes
unfolding written
is_cut line bytes h p =
    ap (λ l. made l false) (sym (take_more 240 line bytes h))
    ∙ ap (made (take 240 (line ++ bytes))) (past (length (line ++ bytes)) (omega (arith, length-append line bytes)))

-- bytes that fit are written whole
pub all_written : (old : Output) (bytes line : List ℕ) → old.whole ≡ true → length old.line + length bytes ≤ 240
    → line ≡ old.line ++ bytes → made line old.whole ≡ written old bytes
all_written old bytes line w h e =
    ap (made line) w ∙ ap (λ l. made l true) e ∙ fits old.line bytes h
    ∙ ap (λ b. written (made old.line b) bytes) (sym w)

-- of bytes that don't fit, the front that does is written
pub cut_written : (old : Output) (bytes line : List ℕ) → old.whole ≡ true → length old.line ≤ 240
    → 240 < length old.line + length bytes → line ≡ old.line ++ take (240 - length old.line) bytes
    → made line false ≡ written old bytes
cut_written old bytes line w h p e =
    ap (λ l. made l false) e ∙ is_cut old.line bytes h p ∙ ap (λ b. written (made old.line b) bytes) (sym w)

-- more behind what is written
by_room : (line a b : List ℕ) (c : Bool) → nat_le (length (line ++ a)) 240 ≡ c
    → written (made (take 240 (line ++ a)) c) b ≡ written (made line true) (a ++ b)
unfolding written
by_room line a b true h =
    let whole : take 240 (line ++ a) ≡ line ++ a =
    take_all 240 (line ++ a) (let q : length (line ++ a) ≤ 240 = grind (arith, nat_tests) in q) in
    ap (λ l. made (take 240 (l ++ b)) (nat_le (length (l ++ b)) 240)) (whole)
    ∙ ap (λ l. made (take 240 l) (nat_le (length l) 240)) (append_assoc line a b)
by_room line a b false h =
    let p : 240 < length (line ++ a) = grind (arith, nat_tests) in
    ap (λ l. made l false) (sym (take_short 240 (line ++ a) b (omega (arith, p)))
    ∙ ap (take 240) (append_assoc line a b))
    ∙ ap (made (take 240 (line ++ (a ++ b)))) (past (length (line ++ (a ++ b)))
    (omega (arith, p, ap length (append_assoc line a b), length-append (line ++ a) b)))

if_whole : (line a b : List ℕ) (c : Bool) → written (written (made line c) a) b ≡ written (made line c) (a ++ b)
unfolding written
if_whole line a b true = by_room line a b (nat_le (length (line ++ a)) 240) refl
if_whole line a b false = refl

-- bytes that are written behind others are written as both joined
pub written_on : (out : Output) (a b : List ℕ) → written (written out a) b ≡ written out (a ++ b)
written_on out a b = if_whole out.line a b out.whole

-- what is written in two pieces, one after the other, is written as one
pub two : (out one more : Output) (a b : List ℕ) → one ≡ written out a → more ≡ written one b
    → more ≡ written out (a ++ b)
two out one more a b p q = q ∙ ap (λ o. written o b) p ∙ written_on out a b

-- what is written from nothing on is the text's first 240 bytes, and whole where it has no more
pub from_nothing : (out more : Output) (text : List ℕ) → out.line ≡ [] → out.whole ≡ true → more ≡ written out text
    → more ≡ made (take 240 text) (nat_le (length text) 240)
unfolding written
from_nothing out more text p q r = r ∙ ap (λ l. written (made l out.whole) text) p
    ∙ ap (λ w. written (made [] w) text) q

by_length : (sign text : List ℕ) (c : Bool) → nat_le (length text) 240 ≡ c →
    (take 240 (sign ++ take 240 text) ≡ take 240 (sign ++ text))
    × ((nat_le (length (sign ++ take 240 text)) 240 && c) ≡ nat_le (length (sign ++ text)) 240)
by_length sign text true h =
    let e : take 240 text ≡ text = take_all 240 text (let q : length text ≤ 240 = grind (arith, nat_tests) in q) in (
      ap (λ x. take 240 (sign ++ x)) e,
      and-true (nat_le (length (sign ++ take 240 text)) 240)
          ∙ ap (λ x. nat_le (length (sign ++ x)) 240) e,
    )
by_length sign text false h =
    let long : 240 < length text = grind (arith, nat_tests) in
    let split : sign ++ text ≡ (sign ++ take 240 text) ++ drop 240 text = ap (λ x. sign ++ x)
    (sym (take-append-drop 240 text)) ∙ sym (append_assoc sign (take 240 text) (drop 240 text)) in
    let size : 240 ≤ length (sign ++ take 240 text) =
    omega (arith, length-append sign (take 240 text), length-take 240 text, long) in (
      sym (ap (take 240) split ∙ take_short 240 (sign ++ take 240 text) (drop 240 text) size),
      and_right (nat_le (length (sign ++ take 240 text)) 240) false refl
          ∙ past (length (sign ++ text)) (omega (arith, length-append sign text, long)),
    )

-- a text that is cut off, behind a sign
pub cut_behind : (sign text : List ℕ) → take 240 (sign ++ take 240 text) ≡ take 240 (sign ++ text)
cut_behind sign text = (by_length sign text (nat_le (length text) 240) refl).0

-- a text behind its sign fits in the same cases where it was cut off before
pub whole_behind : (sign text : List ℕ)
    → (nat_le (length (sign ++ take 240 text)) 240 && nat_le (length text) 240) ≡ nat_le (length (sign ++ text)) 240
whole_behind sign text = (by_length sign text (nat_le (length text) 240) refl).1
