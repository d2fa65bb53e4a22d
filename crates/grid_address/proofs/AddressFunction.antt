-- Addresses read by a fold.
use Rattle.std.proofs.Common.{◌≡◌, ◌<◌, ◌≤◌, ◌+◌, ℕ, List, [], ◌∷◌, drop, length, get_or, Some, None, refl, ap}
use Rattle.std.proofs.Common.{◌∙◌, arith, inl, inr}
use Rattle.std.specs.Prelude.{fold, nat_lt}
use Rattle.std.proofs.lemmas.Bool.{cases_Bool}
use Rattle.std.proofs.lemmas.Bool.Decides.{nat_tests}
use Rattle.std.proofs.lemmas.List.{drop_all, drop_more}
use Rattle.grid_address.specs.declared.reading.Progress.{Progress}
use Rattle.grid_address.specs.Progress.{end_of, next_of, read_by, step_on, whole_cell}
use Rattle.grid_address.specs.inner.Progress.{IsFront}

stuck : (bytes : List ℕ) → fold step_on None bytes ≡ None
stuck [] = refl
stuck (b ∷ bs) = stuck bs

-- one byte more
pub one_on : (s t : Progress) (bytes : List ℕ) (at : ℕ) → at < length bytes → next_of s (get_or bytes at 0) ≡ Some t
    → read_by s (drop at bytes) ≡ read_by t (drop (at + 1) bytes)
one_on s t bytes at inside e =
    ap (read_by s) (drop_more bytes at 0 inside) ∙ ap (λ o. end_of (fold step_on o (drop (at + 1) bytes))) e

-- a byte that can't go on
pub goes_nowhere : (s : Progress) (bytes : List ℕ) (at : ℕ) → at < length bytes → next_of s (get_or bytes at 0) ≡ None
    → read_by s (drop at bytes) ≡ None
goes_nowhere s bytes at inside e =
    ap (read_by s) (drop_more bytes at 0 inside) ∙ ap (λ o. end_of (fold step_on o (drop (at + 1) bytes))) e
    ∙ ap end_of (stuck (drop (at + 1) bytes))

-- no byte more
pub ends_there : (s : Progress) (bytes : List ℕ) (at : ℕ) → length bytes ≤ at → read_by s (drop at bytes) ≡ whole_cell s
ends_there s bytes at past = ap (read_by s) (drop_all at bytes past)

-- a front that is no cell, or isn't all
pub no_cell : (s : Progress) (bytes : List ℕ) (end : ℕ) → IsFront bytes s end
    → (end ≡ length bytes → whole_cell s ≡ None) → read_by s (drop end bytes) ≡ None
no_cell s bytes end front u = elim (cases_Bool (nat_lt end (length bytes))) [
  | inl inside ↦
      (let less : end < length bytes = grind (arith, nat_tests, inside) in
      goes_nowhere s bytes end less (front.ends less))
  | inr past ↦
      (let most : length bytes ≤ end = grind (arith, nat_tests, past) in
      ends_there s bytes end most ∙ u (omega (arith, most, front.within)))
]
