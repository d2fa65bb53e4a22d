-- A text between quotes has none.
use Rattle.std.proofs.Common.{◌≡◌, ℕ, suc, ◌+◌, ◌==◌, Bool, true, false, not, cond, nat_lt, List, [], ◌∷◌, length}
use Rattle.std.proofs.Common.{take, Option, Some, None, refl, ap, subst, arith}
use Rattle.std.proofs.lemmas.Bool.Decides.{nat_tests}
use Rattle.std.specs.Prelude.{position}
use Rattle.std.specs.List.{list_any, position_or_len}
use Rattle.lics_text.specs.Texts.{text_of, unless_bad}
use Rattle.lics_text.specs.declared.faults.TextFault.TheVariants.{TooLong}
use Rattle.std.specs.Prelude.{Err}
use Rattle.std.proofs.lemmas.Bool.{or_from}
use Rattle.formula_tree.specs.Shape.{has_no_quote}
use Rattle.formula_text.specs.inner.Fine.{is_fine_kind}
use Rattle.formula_text.specs.Operands.{text_kind}

abbrev is_quote : ℕ → Bool
is_quote b = b == 34

kind_is_fine : (at : ℕ) (bytes : List ℕ) (long : Bool) (bad : Option ℕ) → nat_lt 240 (length bytes) ≡ long
    → has_no_quote bytes ≡ true → is_fine_kind (text_kind at (cond long (Err TooLong) (unless_bad bad bytes))) ≡ true
kind_is_fine at bytes true bad e q = refl
kind_is_fine at bytes false None e q = grind (arith, nat_tests)
kind_is_fine at bytes false (Some n) e q = refl

one_more : (b : ℕ) (bs : List ℕ) (n : ℕ) (c : Bool) → is_quote b ≡ c → list_any is_quote (take n bs) ≡ false
    → list_any is_quote (take (cond (not c) (1 + n) 0) (b ∷ bs)) ≡ false
one_more b bs n true e h = refl
one_more b bs n false e h = subst (λ m. list_any is_quote (take m (b ∷ bs)) ≡ false)
    (let q : suc n ≡ 1 + n = omega arith in q) (or_from (is_quote b) (list_any is_quote (take n bs)) e h)

free : (bytes : List ℕ) → list_any is_quote (take (position_or_len is_quote bytes) bytes) ≡ false
free [] = refl
free (b ∷ bs) = one_more b bs (position_or_len is_quote bs) (is_quote b) refl (free bs)

here : (n end : ℕ) (c : Bool) → cond c (Some n) None ≡ Some end → n ≡ end
here n end true h = cc
here n end false h = cc

between : (bytes : List ℕ) (end : ℕ) → position is_quote bytes ≡ Some end → has_no_quote (take end bytes) ≡ true
between bytes end h =
    let e : position_or_len is_quote bytes ≡ end =
    here (position_or_len is_quote bytes) end (nat_lt (position_or_len is_quote bytes) (length bytes)) h in
    ap not (subst (λ n. list_any is_quote (take n bytes) ≡ false) e (free bytes))

-- what stands before the first quote
pub text_is_fine : (at end : ℕ) (bytes : List ℕ) → position (λ b. b == 34) bytes ≡ Some end
    → is_fine_kind (text_kind at (text_of (take end bytes))) ≡ true
text_is_fine at end bytes h =
    kind_is_fine at (take end bytes) (nat_lt 240 (length (take end bytes))) _ refl (between bytes end h)
