-- Lines of the screen that stay the same behind a step.
use Rattle.std.specs.Prelude.{◌≡◌, false, true, slice_get, ℕ, Bool, List, Some}
use Rattle.std.proofs.Common.{subst}
use Rattle.std.proofs.lemmas.Bool.{true≢false}
use Rattle.session_core.specs.inner.Glances.{Stays}

-- a line that is out of a set, by its number
pub at_line : (lines : List Bool) (n line : ℕ) → n ≡ line → slice_get lines n ≡ Some false
    → slice_get lines line ≡ Some false
at_line lines n line is out = subst (λ (k : ℕ). slice_get lines k ≡ Some false) is out

-- where nothing stands still, what tells that the lines are the same
pub unheld : (a b : Bool) (P : Type 0) → a ≡ false → b ≡ false → P → Stays a b P
unheld true b P was stands p = absurd (true≢false was)
unheld false true P was stands p = absurd (true≢false stands)
unheld false false P was stands p = p
