-- A function's code is found as the function.
use Rattle.std.proofs.Common.{◌≡◌, ℕ, ◌≤◌, Bool, true, false, cond, ◌==◌, nat_le, List, [], ◌∷◌, map, Option, Some}
use Rattle.std.proofs.Common.{None, refl, sym, ap, ◌∙◌, arith, inl, inr}
use Rattle.std.proofs.lemmas.Bool.{cases_Bool, eqb-true}
use Rattle.std.proofs.lemmas.Bool.Decides.{nat_tests}
use Rattle.formula_tree.specs.Table.{functions}
use Rattle.formula_tree.specs.declared.function.Function.{Function}
use Rattle.formula_tree.specs.declared.function.Function.TheVariants as function
use Rattle.wk1_formula.specs.FunctionCodes.{code_of, found_in, function_of}

-- the first row stands apart, so that the others are taken one by one
pub found : (f : Function) → function_of (code_of f) ≡ Some f
found function.Na = refl
found f = refl

at_least : (f : Function) → nat_le 31 (code_of f) ≡ true
at_least function.Na = refl
at_least f = refl

at_most : (f : Function) → nat_le (code_of f) 115 ≡ true
at_most function.Na = refl
at_most f = refl

-- a function's code is 31 or more
pub least : (f : Function) → 31 ≤ code_of f
least f = (let h = at_least f in grind (arith, nat_tests, h))

-- a function's code is 115 or less
pub most : (f : Function) → code_of f ≤ 115
most f = (let h = at_most f in grind (arith, nat_tests, h))

first : (x f : Function) → Some x ≡ Some f → x ≡ f
first x f h = ap (λ o. pick o) h
  where
    pick : Option Function → Function
    pick None = x
    pick (Some y) = y

none : (f : Function) → None ≡ Some f → ⊥
none f h = absurd cc

among : (fs : List Function) (code : ℕ) (f : Function) → found_in (map (λ f. (code_of f, f)) fs) code ≡ Some f
    → code_of f ≡ code
among [] code f h = absurd (none f h)
among (x ∷ fs) code f h = elim (cases_Bool (code_of x == code)) [
  | inl here ↦
      ap code_of
      (sym (first x f (sym (ap (λ b. cond b (Some x) (found_in (map (λ f. (code_of f, f)) fs) code)) here) ∙ h)))
      ∙ eqb-true (code_of x) code here
  | inr later ↦
      among fs code f (sym (ap (λ b. cond b (Some x) (found_in (map (λ f. (code_of f, f)) fs) code)) later) ∙ h)
]

-- the function that is found for a code has that code
pub told : (code : ℕ) (f : Function) → function_of code ≡ Some f → code_of f ≡ code
told code f h = among functions code f h
