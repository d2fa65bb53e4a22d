-- What every cell of a store keeps stays so.
use Rattle.std.specs.Prelude.{◌≡◌, nat_eq, not, Bool, true, false, cond, Option, None, Some, refl}
use Rattle.std.specs.Ordering.{eq_by_cmp}
use Rattle.std.specs.FinMap.{get, insert, remove, empty, get-insert, get-remove, get-empty}
use Rattle.std.proofs.Common.{sym, ◌∙◌, ap, subst}
use Rattle.std.proofs.lemmas.Option.{none-some, same_Some}
use Rattle.grid_address.specs.Place.{place_cmp, Place}
use Rattle.formula_tree.specs.declared.value.Content.{Content}
use Rattle.formula_tree.specs.declared.value.Content.TheVariants as content
use Rattle.formula_tree.specs.declared.value.Value.{Value}
use Rattle.formula_tree.specs.declared.value.Value.TheVariants as value
use Rattle.grid_address.specs.declared.format.Format.{Format}
use Rattle.sheet_store.specs.Grid.{blank_state, formatted, is_blank, is_formula, AreHeld, Cells, Fits, IsHeld}
use Rattle.sheet_store.specs.Grid.{IsSound}
use Rattle.sheet_store.specs.State.{CellState}
use Rattle.grid_address.proofs.Places.{cells_exact, cells_total}
use Rattle.grid_address.proofs.Maps.{equal_of}

-- cells of which neither comes before the other are one
pub tied : (d c : Place) → eq_by_cmp place_cmp d c ≡ true → d ≡ c
tied d c h = cells_exact d c (equal_of (place_cmp d c) h)

-- all that an empty map holds is as it must be
pub empty_held : AreHeld empty
empty_held p s h = absurd (none-some s (sym (get-empty place_cmp p) ∙ h))

put_held : (b : Bool) (p c : Place) (s found : CellState) (old : Option CellState) → (b ≡ true → p ≡ c) → IsHeld c s
    → (old ≡ Some found → IsHeld p found) → cond b (Some s) old ≡ Some found → IsHeld p found
put_held true p c s found old same here before h =
    subst (λ x. IsHeld p x) (same_Some s found h) (subst (λ q. IsHeld q s) (sym (same refl)) here)
put_held false p c s found old same here before h = before h

-- with a state put in that is as it must be, all that the map holds is so
pub inserted_held : (m : Cells) (c : Place) (s : CellState) → IsHeld c s → AreHeld m → AreHeld (insert m c s)
inserted_held m c s here held p found h =
    put_held (eq_by_cmp place_cmp p c) p c s found (get m p) (tied p c) here (held p found)
    (sym (get-insert cells_total m c s p) ∙ h)

left_over : (b : Bool) (found : CellState) (old : Option CellState) → cond b None old ≡ Some found → old ≡ Some found
left_over true found old h = absurd (none-some found h)
left_over false found old h = h

-- with a cell taken out, all that the map holds is as it must be
pub removed_held : (m : Cells) (c : Place) → AreHeld m → AreHeld (remove m c)
removed_held m c held p found h =
    held p found (left_over (eq_by_cmp place_cmp p c) found (get m p) (sym (get-remove cells_total m c p) ∙ h))

-- a formula takes any value but a blank one
formula_fits : (c : Content) (v : Value) → is_formula c ≡ true → (v ≡ value.Blank → ⊥) → Fits c v
formula_fits content.Blank v h some = absurd cc
formula_fits (content.Number x) v h some = absurd cc
formula_fits (content.Label p t) v h some = absurd cc
formula_fits (content.Formula f) v h some = some

-- a formula's cell takes any value but Blank
pub valued_held : (p : Place) (s : CellState) (v : Value) → IsHeld p s → is_formula s.content ≡ true
    → (v ≡ value.Blank → ⊥) → IsHeld p (record s { value = v })
valued_held p s v here formula some = record {
  inside = here.inside;
  sound = formula_fits s.content v formula some;
  kept = here.kept;
}

-- a cell with a content takes any format
pub formatted_held : (p : Place) (s : CellState) (f : Format) → IsHeld p s → is_blank s.content ≡ false
    → IsHeld p (record s { format = f })
formatted_held p s f here filled = record {
  inside = here.inside;
  sound = here.sound;
  kept = ap (λ b. cond b (not (nat_eq f.0 255)) true) filled;
}

-- a cell without a content has a blank value
blank_fits : (c : Content) (v : Value) (f : Format) → is_blank c ≡ true → Fits c v
    → ◌≡◌ {A = CellState} (record { content = c; value = v; format = f }) (blank_state f)
blank_fits content.Blank v f h fits = ap (λ x. record { content = content.Blank; value = x; format = f }) fits
blank_fits (content.Number x) v f h fits = absurd cc
blank_fits (content.Label p t) v f h fits = absurd cc
blank_fits (content.Formula x) v f h fits = absurd cc

-- a cell without a content comes to a blank one in the format that it is given
pub blank_there : (s : CellState) (f : Format) → is_blank s.content ≡ true → IsSound s
    → formatted (Some s) f ≡ blank_state f
blank_there s f h sound = blank_fits s.content s.value f h sound
