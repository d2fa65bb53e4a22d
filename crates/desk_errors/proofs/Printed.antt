-- Messages are texts.
use Rattle.std.proofs.Common.{◌≡◌, ℕ, ◌≤◌, Bool, true, List, [], ◌∷◌, ◌++◌, length, refl, ◌∙◌, arith}
use Rattle.std.specs.Prelude.{◌&&◌}
use Rattle.std.specs.Char.{is_ascii_digit}
use Rattle.std.specs.List.{list_all, All}
use Rattle.std.proofs.lemmas.Bool.{and_parts}
use Rattle.std.proofs.lemmas.Bool.Decides.{nat_tests}
use Rattle.std.proofs.lemmas.List.{length-append}
use Rattle.std.proofs.lemmas.List.Elements.{All-cons, All-nil}
use Rattle.std.proofs.lemmas.List.Folds.{list_all-append}
use Rattle.grid_address.proofs.Written.{decimal_digits}
use Rattle.grid_address.specs.Address.{decimal}
use Rattle.lics_text.specs.Bytes.{IsText}
use Rattle.desk_errors.specs.Messages.{is_printed}

each_printed : (t : List ℕ) → list_all is_printed t ≡ true → All (λ b. 32 ≤ b) t
each_printed [] h = All-nil (λ k. 32 ≤ k)
each_printed (b ∷ bs) h =
    let first : is_printed b ≡ true = (and_parts (is_printed b) (list_all is_printed bs) h).0 in
    let low : 32 ≤ b = grind (arith, nat_tests, first) in
    All-cons (λ k. 32 ≤ k) b bs low (each_printed bs (and_parts (is_printed b) (list_all is_printed bs) h).1)

digits_printed : (t : List ℕ) → list_all is_ascii_digit t ≡ true → list_all is_printed t ≡ true
digits_printed [] h = refl
digits_printed (b ∷ bs) h =
    let first : is_ascii_digit b ≡ true = (and_parts (is_ascii_digit b) (list_all is_ascii_digit bs) h).0 in
    let low : is_printed b ≡ true = grind (arith, nat_tests, first) in
    rw low (digits_printed bs (and_parts (is_ascii_digit b) (list_all is_ascii_digit bs) h).1)

-- words alone
pub alone : (t : List ℕ) → length t ≤ 40 → list_all is_printed t ≡ true → IsText t
alone t short h = (omega (arith, short), each_printed t h)

-- words with a number behind them
pub numbered : (t : List ℕ) (n : ℕ) → length t ≤ 40 → length (decimal n) ≤ 20 → list_all is_printed t ≡ true
    → IsText (t ++ decimal n)
numbered t n short few h =
    let both : list_all is_printed (t ++ decimal n) ≡ true =
    list_all-append is_printed t (decimal n) ∙ rw (h, digits_printed (decimal n) (decimal_digits n)) refl in
    (omega (arith, length-append t (decimal n), short, few), each_printed (t ++ decimal n) both)
