-- Six places of which the last ones are zeros.
use Rattle.std.proofs.Common.{◌≡◌, ℕ, ◌+◌, ◌*◌, ◌%◌, ◌^◌, ◌<◌, [], sym, ap, ◌∙◌}
use Rattle.fixed_value.specs.Written.{fixed_digits, without_last_zeros}
use Rattle.fixed_value.proofs.Kept.{zeros_dropped}
use Rattle.fixed_value.proofs.LastDigits.{digit_stays, zeros_behind}

-- the last of the places that are left isn't a zero
pub few_left : (k z n m : ℕ) → k + z ≡ 6 → 0 < k → n ≡ m * 10 ^ z → (m % 10 ≡ 0 → ⊥)
    → fixed_digits k m ≡ without_last_zeros (fixed_digits 6 n)
few_left k z n m all some is other =
    digit_stays k m some other ∙ sym (zeros_dropped (fixed_digits k m) z)
    ∙ ap without_last_zeros (sym (zeros_behind k z m))
    ∙ ap (λ j. without_last_zeros (fixed_digits j (m * 10 ^ z))) all
    ∙ ap (λ j. without_last_zeros (fixed_digits 6 j)) (sym is)

-- no place is left
pub none_left : (n m : ℕ) → n ≡ m * 10 ^ 6 → fixed_digits 0 m ≡ without_last_zeros (fixed_digits 6 n)
none_left n m is =
    sym (zeros_dropped [] 6) ∙ ap without_last_zeros (sym (zeros_behind 0 6 m))
    ∙ ap (λ j. without_last_zeros (fixed_digits 6 j)) (sym is)
