-- The items of a menu, counted and looked through one by one.
use Rattle.std.proofs.Common.{◌≡◌, ℕ, suc, ◌+◌, Bool, true, false, None, Some, ap, ◌∙◌}
use Rattle.std.specs.Prelude.{is_some, if◌then◌else◌}
use Rattle.formula_parts.specs.Outlook.{Sight}
use Rattle.grid_address.specs.Place.{Place}
use Rattle.macro_words.specs.Items.{begins_with, chosen_from, item_text, items_from}

module _ (s : Sight) (first : Place) where
  -- an item stands at a place, and is counted
  pub one_item : (n more k : ℕ) → more ≡ suc k → is_some (item_text s first n) ≡ true
      → items_from s first n more ≡ items_from s first (n + 1) k
  unfolding items_from
  one_item n more k left is =
      ap (items_from s first n) left ∙ ap (λ (b : Bool). if b then items_from s first (n + 1) k else n) is

  -- none stands there
  pub no_item : (n more k : ℕ) → more ≡ suc k → is_some (item_text s first n) ≡ false → items_from s first n more ≡ n
  unfolding items_from
  no_item n more k left is =
      ap (items_from s first n) left ∙ ap (λ (b : Bool). if b then items_from s first (n + 1) k else n) is

  -- there may be no more
  pub last_item : (n more : ℕ) → more ≡ 0 → items_from s first n more ≡ n
  unfolding items_from
  last_item n more left = ap (items_from s first n) left

  -- an item begins with the byte
  pub chosen_here : (b n more k : ℕ) → more ≡ suc k → begins_with b (item_text s first n) ≡ true
      → chosen_from s first b n more ≡ Some n
  unfolding chosen_from
  chosen_here b n more k left is =
      ap (chosen_from s first b n) left ∙ ap (λ (t : Bool). if t then Some n else chosen_from s first b (n + 1) k) is

  -- it doesn't
  pub chosen_later : (b n more k : ℕ) → more ≡ suc k → begins_with b (item_text s first n) ≡ false
      → chosen_from s first b n more ≡ chosen_from s first b (n + 1) k
  unfolding chosen_from
  chosen_later b n more k left is =
      ap (chosen_from s first b n) left ∙ ap (λ (t : Bool). if t then Some n else chosen_from s first b (n + 1) k) is

  -- none is left
  pub none_chosen : (b n more : ℕ) → more ≡ 0 → chosen_from s first b n more ≡ None
  unfolding chosen_from
  none_chosen b n more left = ap (chosen_from s first b n) left
