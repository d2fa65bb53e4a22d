-- A text of few bytes in thirteen, the last of which tells how many.
use Rattle.std.proofs.Common.{◌≡◌, ℕ, ◌+◌, ◌-◌, ◌≤◌, ◌<◌, List, ◌++◌, length, get_or, take, drop, ap, ◌∙◌, arith}
use Rattle.std.proofs.Common.{inl, inr, refl}
use Rattle.std.proofs.lemmas.Bool.{cases_lt}
use Rattle.std.proofs.lemmas.Bool.Decides.{nat_tests}
use Rattle.std.proofs.lemmas.List.{get_or-append_right, get_or-drop, get_or_append_left, take-append-le, take_all}
use Rattle.lics_text.specs.Bytes.{IsText}
use Rattle.lics_text.specs.inner.Short.{short_len}

-- a number below 32 that stands last is how many there are
told_last : (bytes : List ℕ) (n : ℕ) → get_or bytes 12 0 ≡ n → n < 32 → short_len bytes ≡ n
told_last bytes n is less = grind (arith, nat_tests)

-- where a byte of a text stands last, there are thirteen
all_thirteen : (bytes : List ℕ) → 32 ≤ get_or bytes 12 0 → short_len bytes ≡ 13
all_thirteen bytes more = grind (arith, nat_tests)

-- a text over thirteen bytes, the last of which was how many it has, is as long as told
pub told : (xs room : List ℕ) → IsText xs → length xs ≤ 13 → get_or room 12 0 ≡ length xs
    → short_len (xs ++ drop (length xs) room) ≡ length xs
told xs room text few last = elim (cases_lt (length xs) 13) [
  | inl less ↦
      let place : length xs + (12 - length xs) ≡ 12 = omega arith in
      told_last (xs ++ drop (length xs) room) (length xs)
      (get_or-append_right xs (drop (length xs) room) (length xs) 12 0 refl (omega arith)
      ∙ get_or-drop (length xs) room (12 - length xs) 0 ∙ ap (λ (k : ℕ). get_or room k 0) place ∙ last)
      (omega arith)
  | inr all ↦
      let byte : get_or (xs ++ drop (length xs) room) 12 0 ≡ get_or xs 12 0 =
      get_or_append_left xs (drop (length xs) room) 0 12 (omega arith) in
      let large : 32 ≤ get_or xs 12 0 = text.1 12 0 (omega arith) in
      all_thirteen (xs ++ drop (length xs) room) (omega (arith, byte, large)) ∙ omega arith
]

-- and is what is told
pub told_text : (xs room : List ℕ) → IsText xs → length xs ≤ 13 → get_or room 12 0 ≡ length xs
    → take (short_len (xs ++ drop (length xs) room)) (xs ++ drop (length xs) room) ≡ xs
told_text xs room text few last =
    ap (λ (n : ℕ). take n (xs ++ drop (length xs) room)) (told xs room text few last)
    ∙ take-append-le (length xs) xs (drop (length xs) room) (omega arith) ∙ take_all (length xs) xs (omega arith)
