use Rattle.std.proofs.Common.{◌≡◌, ◌≤◌, ◌∙◌, ℤ, nat_abs, FitsSigned, to_z, of_z, refl, ap, arith}
use Rattle.std.specs.Int.{w64, w128}
use Rattle.std.proofs.Math.Nat.{mul-le-mul}
use Rattle.std.proofs.lemmas.Int.{fits_signed_from_abs, fits_signed_mul, to_z-of_z, unsigned_abs-mul}
use Rattle.fixed_value.proofs.parts.product.Goals as goal

-- a number of that size, as 128 bits hold it
wide_is : (z r : ℤ) → FitsSigned w64 z → nat_abs z ≤ 999999999999999 → r ≡ to_z w64 (of_z w64 z)
    → to_z w128 (of_z w128 r) ≡ z
wide_is z r fits size is =
    ap (λ k. to_z w128 (of_z w128 k)) (is ∙ to_z-of_z w64 z fits)
    ∙ to_z-of_z w128 z (fits_signed_from_abs w128 z (omega arith))

pub overflow_mul-result : goal.overflow_mul-result
overflow_mul-result c =
    rw (
      wide_is c.args.a c.from.result c.ranges.a c.requires.left c.from.ensures,
      wide_is c.args.b c.from-2.result c.ranges.b c.requires.right c.from-2.ensures,
    )
    (fits_signed_mul w128 c.args.a c.args.b 999999999999999 999999999999999 c.requires.left c.requires.right
    (omega arith))

pub returns-clause-value : goal.returns-clause-value
returns-clause-value c =
    rw (
      to_z-of_z w128 _ (overflow_mul-result c),
      wide_is c.args.a c.from.result c.ranges.a c.requires.left c.from.ensures,
      wide_is c.args.b c.from-2.result c.ranges.b c.requires.right c.from-2.ensures,
    ) refl

pub returns-clause-size : goal.returns-clause-size
returns-clause-size c =
    rw (returns-clause-value c, unsigned_abs-mul c.args.a c.args.b)
    (omega (arith, mul-le-mul c.requires.left c.requires.right))
