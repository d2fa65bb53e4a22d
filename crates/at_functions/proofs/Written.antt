-- Written numbers are texts.
use Rattle.std.proofs.Common.{◌≡◌, ◌≤◌, ◌<◌, ◌+◌, ◌*◌, ◌/◌, ◌%◌, ℕ, ℤ, zero, suc, Bool, true, false, List, [], ◌∷◌}
use Rattle.std.proofs.Common.{◌++◌, take, drop, length, refl, sym, ap, ◌∙◌, arith, inl, inr, append_assoc}
use Rattle.std.proofs.Common.{length-append}
use Rattle.std.specs.Prelude.{◌==◌, ◌&&◌, not, int_lt, pos}
use Rattle.std.specs.List.{All}
use Rattle.std.proofs.lemmas.Bool.{cases_Bool}
use Rattle.std.proofs.lemmas.List.{append-nil}
use Rattle.std.proofs.lemmas.List.Elements.{All-append, All-cons, All-drop, All-nil, All-take}
use Rattle.std.proofs.Math.Nat.{mul-le-mul_right}
use Rattle.fixed_value.specs.Written.{fixed_digits, minus_sign, pointed, scaled, without_zeros, written}
use Rattle.at_functions.specs.Texts.{again}

-- the byte is none below the blank
abbrev pub Large : ℕ → Type 0
Large b = 32 ≤ b

-- no byte is below the blank
abbrev pub AllLarge : List ℕ → Type 0
AllLarge = All Large

digits_large : (k n : ℕ) → AllLarge (fixed_digits k n)
digits_large zero n = All-nil Large
digits_large (suc k) n =
    All-append Large (fixed_digits k (n / 10)) ((48 + n % 10) ∷ []) (digits_large k (n / 10))
    (All-cons Large (48 + n % 10) [] (omega arith) (All-nil Large))

zeros_large : (ds : List ℕ) → AllLarge ds → AllLarge (without_zeros ds)
zeros_large [] h = h
zeros_large (d ∷ []) h = h
zeros_large (d ∷ e ∷ ds) h = elim (cases_Bool (d == 48)) [
  | inl left_out ↦ rw left_out (zeros_large (e ∷ ds) (All-drop Large 1 (d ∷ e ∷ ds) h))
  | inr kept ↦ rw kept h
]

pointed_large : (ds : List ℕ) → AllLarge ds → AllLarge (pointed ds)
pointed_large [] h = h
pointed_large (d ∷ ds) h = All-cons Large 46 (d ∷ ds) (omega arith) h

sign_large : (minus : Bool) → AllLarge (minus_sign minus)
sign_large true = All-cons Large 45 [] (omega arith) (All-nil Large)
sign_large false = All-nil Large

-- a number is written in such bytes
pub written_large : (v : ℤ) (places : ℕ) → AllLarge (written v places)
written_large v places =
    let ds : List ℕ = fixed_digits (10 + places) (scaled v places) in
    let all : AllLarge ds = digits_large (10 + places) (scaled v places) in
    All-append Large (minus_sign (int_lt v (pos 0) && not (scaled v places == 0)))
    (without_zeros (take 10 ds) ++ pointed (drop 10 ds)) (sign_large (int_lt v (pos 0) && not (scaled v places == 0)))
    (All-append Large (without_zeros (take 10 ds)) (pointed (drop 10 ds))
    (zeros_large (take 10 ds) (All-take Large 10 ds all)) (pointed_large (drop 10 ds) (All-drop Large 10 ds all)))

-- a part of a text
pub part_large : (text : List ℕ) (count start : ℕ) → AllLarge text → AllLarge (take count (drop start text))
part_large text count start h = All-take Large count (drop start text) (All-drop Large start text h)

-- one time more
pub again_more : (n : ℕ) (text : List ℕ) → again (n + 1) text ≡ again n text ++ text
again_more zero text = append-nil text
again_more (suc n) text =
    let more : suc n + 1 ≡ suc (n + 1) = omega arith in
    ap (λ k. again k text) more ∙ ap (λ (l : List ℕ). text ++ l) (again_more n text)
    ∙ sym (append_assoc text (again n text) text)

-- a text so many times is so many times as long
pub again_length : (n : ℕ) (text : List ℕ) → length (again n text) ≡ n * length text
again_length zero text = omega arith
again_length (suc n) text = omega (arith, length-append text (again n text), again_length n text)

-- an empty text so many times is empty
pub again_nothing : (n : ℕ) (text : List ℕ) → text ≡ [] → [] ≡ again n text
again_nothing zero text none = refl
again_nothing (suc n) text none = again_nothing n text none ∙ sym (ap (λ (l : List ℕ). l ++ again n text) none)

-- a text in such bytes stays so, however often it stands
pub again_large : (n : ℕ) (text : List ℕ) → AllLarge text → AllLarge (again n text)
again_large zero text h = All-nil Large
again_large (suc n) text h = All-append Large text (again n text) h (again_large n text h)

-- there is room for one time more
pub room : (n count size : ℕ) → n < count → size * count ≤ 240 → n * size + size ≤ 240
room n count size less within =
    (let most : (n + 1) * size ≤ count * size = mul-le-mul_right size (omega (arith, less)) in
    omega (arith, most, within))
