-- What a formula that is made is.
use Rattle.std.specs.Prelude.{◌≡◌, nat_lt, Ok}
use Rattle.std.proofs.Common.{inl, inr}
use Rattle.std.proofs.lemmas.Bool.{cases_Bool}
use Rattle.formula_tree.specs.Formulas.{formula_of}
use Rattle.formula_tree.specs.Shape.{depth, has_shape}
use Rattle.formula_tree.specs.Tree.{Tree}

-- a formula that is made is its tree
pub made_is : (t f : Tree) → formula_of t ≡ Ok f → f ≡ t
made_is t f e =
    elim (cases_Bool (has_shape t)) [
      | inl shaped ↦ elim (cases_Bool (nat_lt 256 (depth t))) [
        | inl deep ↦ absurd (let x = rw (shaped, deep) at e in cc)
        | inr shallow ↦ (let x = rw (shaped, shallow) at e in cc)
      ]
      | inr other ↦ absurd (let x = rw other at e in cc)
    ]
