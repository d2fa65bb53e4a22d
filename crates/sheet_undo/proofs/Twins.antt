-- Two lists gone along side by side.
use Rattle.std.specs.Bool.{Decides}
use Rattle.std.specs.Prelude.{◌≡◌, Bool, true, refl, List, []}
use Rattle.std.specs.FinMap.{entries, same_entries_map, FinMap}
use Rattle.std.specs.declared.cmp.Ordering.{Ordering}
use Rattle.std.proofs.Common.{ap, sym, ◌∙◌}

-- what holds is told
pub granted : {P : Type 0} → P → Decides true P
granted p = (λ t. p, λ q. refl)

-- the two lists are one where these are
pub record AreTwins {X : Type 0} (xs ys left right : List X) : Type 0 where
  pub all : left ≡ right → xs ≡ ys
  pub rest : xs ≡ ys → left ≡ right

module _ {X : Type 0} where
  -- one of them has ended, and the other is told to have or not
  pub twins_over : (xs ys left right : List X) (b : Bool) → AreTwins xs ys left right → left ≡ []
      → Decides b (right ≡ []) → Decides b (xs ≡ ys)
  twins_over xs ys left right b t l d = (λ h. t.all (l ∙ sym (d.0 h)), λ e. d.1 (sym (t.rest e) ∙ l))

-- maps with the same entries
pub maps_decided : {K X : Type 0} {R : K → K → Ordering} (b : Bool) (m n : FinMap R X)
    → Decides b (entries m ≡ entries n) → Decides b (m ≡ n)
maps_decided b m n d = (λ t. same_entries_map m n (d.0 t), λ e. d.1 (ap entries e))
