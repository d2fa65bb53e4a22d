-- Pieces that are put one behind another.
use Rattle.std.proofs.Common.{◌≡◌, ℕ, true, List, ◌++◌, ap, subst, ◌∙◌, append_assoc}
use Rattle.formula_text.specs.declared.output.Output.{Output}
use Rattle.formula_text.specs.declared.whole.Whole.{Whole}
use Rattle.formula_text.specs.Printed.{written}
use Rattle.formula_text.specs.inner.Puts.{at_once, in_pieces, Lengthens, Puts}
use Rattle.formula_text.proofs.Outputs.{two}

-- two pieces that are put one behind the other are put as one
pub two_put : {S : Type 0} {h : S → List ℕ → S → Type 0} (out one more : S) (a b : List ℕ) → Puts h out a one
    → Puts h one b more → Puts h out (a ++ b) more
two_put out one more a b p q = in_pieces p q

-- three pieces that are put one behind the other are put as one
pub three_put : {S : Type 0} {h : S → List ℕ → S → Type 0} (out one two_ more : S) (a b d : List ℕ) → Puts h out a one
    → Puts h one b two_ → Puts h two_ d more → Puts h out (a ++ (b ++ d)) more
three_put out one two_ more a b d p q r = in_pieces p (in_pieces q r)

-- four pieces that are put one behind the other are put as one
pub four_put : {S : Type 0} {h : S → List ℕ → S → Type 0} (out one two_ three_ more : S) (a b d e : List ℕ)
    → Puts h out a one → Puts h one b two_ → Puts h two_ d three_ → Puts h three_ e more
    → Puts h out (a ++ (b ++ (d ++ e))) more
four_put out one two_ three_ more a b d e p q r s = in_pieces p (in_pieces q (in_pieces r s))

-- the same bytes by another word for them
pub put_as : {S : Type 0} {h : S → List ℕ → S → Type 0} {out more : S} {a b : List ℕ} → Puts h out a more → a ≡ b
    → Puts h out b more
put_as {h} {out} {more} p e = subst (λ x. Puts h out x more) e p

-- what is written in pieces is written as one
pub as_written : {a b : Output} {x : List ℕ} → Puts (λ old bytes new. new ≡ written old bytes) a x b → b ≡ written a x
as_written (at_once p) = p
as_written (in_pieces {a} {b} {c} {x} {y} p q) = two a b c x y (as_written p) (as_written q)

-- what lengthens a text in pieces lengthens it as one
pub as_lengthened : {a b : Whole} {x : List ℕ} → Puts Lengthens a x b → Lengthens a x b
as_lengthened (at_once p) = p
as_lengthened (in_pieces {a} {b} {c} {x} {y} p q) = λ lasts.
    (let behind = as_lengthened q lasts in
    let front = as_lengthened p behind.0 in
    (front.0, behind.1 ∙ ap (λ l. l ++ y) front.1 ∙ append_assoc a.bytes.items x y))
