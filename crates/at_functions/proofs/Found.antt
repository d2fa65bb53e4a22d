-- Where bytes stand.
use Rattle.std.proofs.Common.{◌≡◌, ◌≤◌, ◌<◌, ◌+◌, ◌-◌, ℕ, ℤ, pos, negsuc, zero, suc, Bool, true, false, List, [], ◌∷◌}
use Rattle.std.proofs.Common.{take, drop, length, Some, None, refl, sym, ap, ◌∙◌, arith, inl, inr}
use Rattle.std.specs.Prelude.{◌==◌, ◌&&◌, nat_le}
use Rattle.std.specs.Option.{unwrap_or}
use Rattle.std.proofs.lemmas.Bool.{and_parts, cases_Bool}
use Rattle.std.proofs.lemmas.Bool.Decides.{nat_tests}
use Rattle.std.proofs.lemmas.List.{drop-drop, length-drop}
use Rattle.lics_text.specs.Texts.{IsFirstPlace, IsNoPlace, StandsAt}
use Rattle.at_functions.specs.Numbers.{not_negative}
use Rattle.at_functions.specs.Texts.{first_place, found, place_from, starts}

starts_with : (what text : List ℕ) → length what ≤ length text → take (length what) text ≡ what
    → starts what text ≡ true
starts_with [] text fits is = refl
starts_with (w ∷ ws) [] fits is = absurd (omega (arith, fits))
starts_with (w ∷ ws) (b ∷ bs) fits is =
    let head : w ≡ b = cc in
    let tail : take (length ws) bs ≡ ws = cc in
    let test : (w == b) ≡ true = grind (arith, nat_tests, head) in
    rw (test, starts_with ws bs (omega (arith, fits)) tail) refl

record IsFront (what text : List ℕ) : Type 0 where
  fits : length what ≤ length text
  is : take (length what) text ≡ what

front_of : (what text : List ℕ) → starts what text ≡ true → IsFront what text
front_of [] text h = record { fits = omega arith; is = refl }
front_of (w ∷ ws) [] h = absurd cc
front_of (w ∷ ws) (b ∷ bs) h =
    let head : w ≡ b =
    (let test : (w == b) ≡ true = (and_parts (w == b) (starts ws bs) h).0 in grind (arith, nat_tests, test)) in
    let tail : IsFront ws bs = front_of ws bs (and_parts (w == b) (starts ws bs) h).1 in
    record {
      fits = omega (arith, tail.fits);
      is = ap (λ c. c ∷ take (length ws) bs) (sym head)
          ∙ ap (λ (l : List ℕ). w ∷ l) tail.is;
    }

first_found : (what rest : List ℕ) (at k : ℕ) → k ≤ length rest → starts what (drop k rest) ≡ true
    → ((j : ℕ) → j < k → starts what (drop j rest) ≡ false) → first_place what rest at ≡ Some (at + k)
first_found what [] at zero within here before = rw here (ap Some (let e : at ≡ at + 0 = omega arith in e))
first_found what [] at (suc k) within here before = absurd (omega (arith, within))
first_found what (b ∷ bs) at zero within here before = rw here (ap Some (let e : at ≡ at + 0 = omega arith in e))
first_found what (b ∷ bs) at (suc k) within here before =
    rw (before 0 (omega arith))
    (first_found what bs (at + 1) k (omega (arith, within)) here (λ j less. before (suc j) (omega (arith, less)))
    ∙ ap Some (let e : at + 1 + k ≡ at + suc k = omega arith in e))

none_found : (what rest : List ℕ) (at : ℕ) → ((j : ℕ) → j ≤ length rest → starts what (drop j rest) ≡ false)
    → first_place what rest at ≡ None
none_found what [] at none = rw (none 0 (omega arith)) refl
none_found what (b ∷ bs) at none =
    rw (none 0 (omega arith)) (none_found what bs (at + 1) (λ j within. none (suc j) (omega (arith, within))))

-- bytes that begin at a place stand there
stands : (what text : List ℕ) (k : ℕ) → k ≤ length text → starts what (drop k text) ≡ true → StandsAt what text k
stands what text k within h =
    (let front : IsFront what (drop k text) = front_of what (drop k text) h in
    record { within = omega (arith, front.fits, length-drop k text, within); same = front.is })

begins : (what text : List ℕ) (k : ℕ) → StandsAt what text k → starts what (drop k text) ≡ true
begins what text k is = starts_with what (drop k text) (omega (arith, is.within, length-drop k text)) is.same

-- the first place is what is found
pub found_at : (what text : List ℕ) (from at : ℕ) → IsFirstPlace what text from at → found what text from ≡ Some at
found_at what text from at is =
    let test : nat_le from (length text) ≡ true =
    (let within : from ≤ length text = omega (arith, is.later, is.stands.within) in grind (arith, nat_tests, within)) in
    let same : from + (at - from) ≡ at = omega (arith, is.later) in
    let here : starts what (drop (at - from) (drop from text)) ≡ true =
    ap (starts what) (drop-drop (at - from) from text ∙ ap (λ k. drop k text) same) ∙ begins what text at is.stands in
    let before : (j : ℕ) → j < at - from → starts what (drop j (drop from text)) ≡ false =
    λ j less. elim (cases_Bool (starts what (drop j (drop from text)))) [
      | inl early ↦
          absurd (is.first (from + j) (omega arith) (omega (arith, less))
          (stands what text (from + j) (omega (arith, less, is.stands.within))
          (ap (starts what) (sym (drop-drop j from text)) ∙ early)))
      | inr not_yet ↦ not_yet
    ] in
    rw test (first_found what (drop from text) from (at - from)
    (omega (arith, length-drop from text, is.stands.within)) here before ∙ ap Some same)

-- where there is no place, nothing is found
pub found_nowhere : (what text : List ℕ) (from : ℕ) → IsNoPlace what text from → found what text from ≡ None
found_nowhere what text from none = elim (cases_Bool (nat_le from (length text))) [
  | inl within ↦
      rw within (none_found what (drop from text) from
      (λ j inside. elim (cases_Bool (starts what (drop j (drop from text)))) [
        | inl here ↦
            absurd (none (from + j) (omega arith)
            (stands what text (from + j)
            (let most : from ≤ length text = grind (arith, nat_tests, within) in
            omega (arith, inside, length-drop from text, most))
            (ap (starts what) (sym (drop-drop j from text)) ∙ here)))
        | inr not_here ↦ not_here
      ]))
  | inr past ↦ rw past refl
]

-- a place below zero is as the first one
pub from_zero : (z : ℤ) → unwrap_or (not_negative z) 0 ≡ place_from z
from_zero (pos n) = refl
from_zero (negsuc n) = refl
