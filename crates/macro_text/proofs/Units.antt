-- The next unit of a macro, one word at a time.
use Rattle.std.proofs.Common.{◌≡◌, ℕ, zero, suc, ◌<◌, sym, ap, ◌∙◌, arith}
use Rattle.formula_parts.specs.Outlook.{Outlook}
use Rattle.macro_text.specs.Units.{go_on, outcome_at, unit_within}
use Rattle.macro_text.specs.declared.position.Position.{Position}
use Rattle.macro_text.specs.declared.unit.Unit.{Unit}
use Rattle.macro_text.specs.declared.unit.Unit.TheVariants.{Return}
use Rattle.macro_text.specs.declared.unit.WordOutcome.TheVariants.{Now, Passed}

-- a word that does something gives the next unit
pub within_now : (n : ℕ) (w : Outlook) (p : Position) (u : Unit) (q : Position) → 0 < n → outcome_at w p ≡ Now u q
    → unit_within n w p ≡ (u, q)
unfolding unit_within
within_now zero w p u q h e = absurd (omega arith)
within_now (suc n) w p u q h e = ap (λ t. go_on t (unit_within n w)) e

-- behind a word that is passed, the next unit is that of where it leads, within one word fewer
pub within_passed : (n k : ℕ) (w : Outlook) (p q : Position) → n ≡ suc k → outcome_at w p ≡ Passed q
    → unit_within n w p ≡ unit_within k w q
unfolding unit_within
within_passed n k w p q h e = ap (λ (m : ℕ). unit_within m w p) h ∙ ap (λ t. go_on t (unit_within k w)) e

-- within no more words the macro returns
pub within_none : (n : ℕ) (w : Outlook) (p : Position) → n ≡ 0 → (Return, p) ≡ unit_within n w p
unfolding unit_within
within_none n w p h = ap (λ (m : ℕ). unit_within m w p) (sym h)
