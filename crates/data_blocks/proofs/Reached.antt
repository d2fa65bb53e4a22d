-- The numbers of a fill, one at a time.
use Rattle.std.proofs.Common.{◌≡◌, ℕ, ◌+◌, ◌<◌, List, [], ◌∷◌, ◌++◌, length, drop, get_or, sym, ap, ◌∙◌, refl}
use Rattle.std.proofs.Common.{append_assoc}
use Rattle.std.proofs.lemmas.List.{append-nil, drop_more}
use Rattle.std.specs.Prelude.{◌&&◌, cond, not, nat_le, nat_abs, ℤ, ◌+ℤ◌, Bool, true, false, Option, None, Some}
use Rattle.std.proofs.lemmas.List.Sums.{take_while-cons}
use Rattle.fixed_value.specs.Numbers.{within}
use Rattle.grid_address.specs.Place.{Place}
use Rattle.formula_tree.specs.declared.value.Content.TheVariants as content
use Rattle.block_writes.specs.Writing.{written}
use Rattle.sheet_store.specs.declared.writes.Write.{Write}
use Rattle.data_blocks.specs.inner.Steps.{reached}
use Rattle.data_blocks.specs.Filling.{is_past, is_reached, numbered, numbers_of, steps_from}

-- the numbers from one on, if there is one
abbrev pub filled_from : ℤ → ℤ → Option ℤ → List Place → List Write
filled_from step stop None cells = []
filled_from step stop (Some x) [] = []
filled_from step stop (Some x) (p ∷ ps) =
    written p (content.Number x) ∷ filled_from step stop (reached step stop (within (x +ℤ step))) ps

none_left : (step stop : ℤ) (o : Option ℤ) → filled_from step stop o [] ≡ []
none_left step stop None = refl
none_left step stop (Some x) = refl

module _ (step stop : ℤ) where
  one_more : (x : ℤ) (p : Place) (ps : List Place) (small past : Bool)
      → filled_from step stop (reached step stop (within (x +ℤ step))) ps
      ≡ numbered ps (numbers_of (x +ℤ step) step stop (length ps)) →
      filled_from step stop (cond small (cond past None (Some x)) None) (p ∷ ps)
      ≡ numbered (p ∷ ps) (cond (small && not past) (x ∷ numbers_of (x +ℤ step) step stop (length ps)) [])
  one_more x p ps true true more = refl
  one_more x p ps true false more = ap (λ l. written p (content.Number x) ∷ l) more
  one_more x p ps false past more = refl

  unfolded : (x : ℤ) → reached step stop (within x)
      ≡ cond (nat_le (nat_abs x) 999999999999999) (cond (is_past step stop x) None (Some x)) None
  unfolded x = tested (nat_le (nat_abs x) 999999999999999)
    where
      tested : (b : Bool) → reached step stop (cond b (Some x) None)
          ≡ cond b (cond (is_past step stop x) None (Some x)) None
      tested true = refl
      tested false = refl

  -- what is filled from a number on
  pub from_number : (x : ℤ) (cells : List Place)
      → filled_from step stop (reached step stop (within x)) cells
      ≡ numbered cells (numbers_of x step stop (length cells))
  from_number x [] = none_left step stop (reached step stop (within x))
  from_number x (p ∷ ps) =
      ap (λ o. filled_from step stop o (p ∷ ps)) (unfolded x)
      ∙ one_more x p ps (nat_le (nat_abs x) 999999999999999) (is_past step stop x) (from_number (x +ℤ step) ps)
      ∙ ap (numbered (p ∷ ps))
      (sym (take_while-cons (is_reached step stop) x (steps_from (x +ℤ step) step (length ps))))

  -- one more number was put
  pub went_on : (done now : List Write) (next after sum : Option ℤ) (x : ℤ) (p d : Place) (cells : List Place) (i : ℕ)
      (all : List Write) →
      next ≡ Some x → i < length cells → p ≡ get_or cells i d → sum ≡ within (x +ℤ step)
      → after ≡ reached step stop sum → now ≡ done ++ written p (content.Number x) ∷ [] →
      done ++ filled_from step stop next (drop i cells) ≡ all
      → now ++ filled_from step stop after (drop (i + 1) cells) ≡ all
  went_on done now next after sum x p d cells i all is inside at adds goes put so_far =
      let rest = filled_from step stop (reached step stop (within (x +ℤ step))) (drop (i + 1) cells) in
      ap (λ l. l ++ filled_from step stop after (drop (i + 1) cells)) put
      ∙ append_assoc done (written p (content.Number x) ∷ []) (filled_from step stop after (drop (i + 1) cells))
      ∙ ap (λ o. done ++ written p (content.Number x) ∷ filled_from step stop o (drop (i + 1) cells))
      (goes ∙ ap (reached step stop) adds)
      ∙ ap (λ q. done ++ written q (content.Number x) ∷ rest) at
      ∙ ap (λ l. done ++ filled_from step stop (Some x) l) (sym (drop_more cells i d inside))
      ∙ ap (λ o. done ++ filled_from step stop o (drop i cells)) (sym is)
      ∙ so_far

  -- no number is left, or no cell
  pub without_number : (done : List Write) (next : Option ℤ) (cells : List Place) (all : List Write) → next ≡ None
      → done ++ filled_from step stop next cells ≡ all → done ≡ all
  without_number done next cells all is so_far =
      sym (append-nil done) ∙ ap (λ o. done ++ filled_from step stop o cells) (sym is) ∙ so_far

  -- where no cell is left, all is written
  pub without_cell : (done : List Write) (next : Option ℤ) (cells : List Place) (all : List Write) → cells ≡ []
      → done ++ filled_from step stop next cells ≡ all → done ≡ all
  without_cell done next cells all is so_far =
      sym (append-nil done) ∙ ap (λ l. done ++ l) (sym (none_left step stop next))
      ∙ ap (λ l. done ++ filled_from step stop next l) (sym is) ∙ so_far
