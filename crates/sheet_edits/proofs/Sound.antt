-- The states that cells are given are such as a store may have.
use Rattle.std.specs.Prelude.{ℕ, ℤ, pos, ◌≡◌, Bool, true, false, cond, not, nat_eq, refl, Option, None, Some}
use Rattle.std.specs.FinMap.{get}
use Rattle.std.proofs.Common.{sym, ◌∙◌, ap}
use Rattle.std.proofs.lemmas.Bool.{true≢false}
use Rattle.std.proofs.lemmas.Option.{none-some}
use Rattle.grid_address.specs.Formats.{default_format}
use Rattle.grid_address.specs.Place.{Place}
use Rattle.grid_address.specs.declared.format.Format.{Format}
use Rattle.formula_tree.specs.declared.value.Content.{Content}
use Rattle.formula_tree.specs.declared.value.Content.TheVariants as content
use Rattle.formula_tree.specs.declared.value.Value.{Value}
use Rattle.formula_tree.specs.declared.value.Value.TheVariants as value
use Rattle.recalculation.specs.Context.{formula_of}
use Rattle.sheet_store.specs.Grid.{value_of, AreHeld, Cells, Fits, IsSound}
use Rattle.sheet_store.specs.State.{CellState}
use Rattle.sheet_edits.proofs.Overlaid.{formula_kept}
use Rattle.sheet_edits.specs.Edits.{first_value}
use Rattle.sheet_edits.specs.Spans.{copied_state, kept_of, reformatted, AreGiven, AreSound}

-- the states that cells are given are such as a store may have, where those that are told are
pub given_sound : (m : Cells) (written : Place → Bool) (told : Place → Option CellState) → AreGiven m written told
    → ((c : Place) (s : CellState) → told c ≡ Some s → IsSound s) → AreSound m
given_sound m written told given sound c s e = by (written c) (sym (given c) ∙ e)
  where
    by : (b : Bool) → cond b (told c) None ≡ Some s → IsSound s
    by true h = sound c s h
    by false h = absurd (none-some s h)

num_not_blank : (x : ℤ) → value.Num x ≡ value.Blank → ⊥
num_not_blank x e = true≢false (ap is_num e)
  where
    is_num : Value → Bool
    is_num value.Blank = false
    is_num (value.Num y) = true
    is_num (value.Str t) = false
    is_num value.Err = false
    is_num value.Na = false

-- a content with its first value
pub first_sound : (x : Content) → Fits x (first_value x)
first_sound content.Blank = refl
first_sound (content.Number n) = refl
first_sound (content.Label b t) = refl
first_sound (content.Formula f) = num_not_blank (pos 0)

module _ (m : Cells) (held : AreHeld m) where
  -- a copied state is one that a store may have
  pub copied_sound : (c : Place) → IsSound (copied_state (get m c))
  copied_sound c = by (get m c) refl
    where
      by : (o : Option CellState) → get m c ≡ o → IsSound (copied_state o)
      by None e = refl
      by (Some s) e = first_sound s.content

  -- another format leaves formulas and values
  pub same_formula : (rule : ℕ → ℕ) (c : Place) → formula_of (reformatted rule (get m c)) ≡ formula_of (get m c)
  same_formula rule c = by (get m c)
    where
      by : (o : Option CellState) → formula_of (reformatted rule o) ≡ formula_of o
      by None = formula_kept content.Blank value.Blank (record { 0 = rule default_format })
      by (Some s) = formula_kept s.content s.value (record { 0 = rule s.format.0 })

  value_kept : (x : Content) (v : Value) (f : Format) → Fits x v
      → value_of (kept_of (record { content = x; value = v; format = f })) ≡ v
  value_kept content.Blank v f h = elim (not (nat_eq f.0 255)) as (λ b. value_of (cond b
      (Some (record { content = content.Blank; value = v; format = f })) None) ≡ v) [ true ↦ refl | false ↦ sym h ]
  value_kept (content.Number n) v f h = refl
  value_kept (content.Label b t) v f h = refl
  value_kept (content.Formula t) v f h = refl

  -- a change of format leaves the value
  pub same_value : (rule : ℕ → ℕ) (c : Place) → value_of (reformatted rule (get m c)) ≡ value_of (get m c)
  same_value rule c = by (get m c) refl
    where
      by : (o : Option CellState) → get m c ≡ o → value_of (reformatted rule o) ≡ value_of o
      by None e = value_kept content.Blank value.Blank (record { 0 = rule default_format }) refl
      by (Some s) e = value_kept s.content s.value (record { 0 = rule s.format.0 }) (held c s e).sound
