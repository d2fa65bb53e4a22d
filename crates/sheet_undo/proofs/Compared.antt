-- Columns that are the same one by one.
use Rattle.std.specs.Prelude.{◌≡◌, ◌<◌, ◌≤◌, ℕ, false, length}
use Rattle.std.proofs.Common.{arith, sym, ◌∙◌}
use Rattle.std.proofs.lemmas.List.{ext_get_or}
use Rattle.sheet_store.specs.Grid.{Grid}
use Rattle.sheet_undo.specs.inner.Same.{IsSameColumn, SameColumns}

-- stores whose 256 columns are the same one by one have the same columns
pub all_columns : (g h : Grid) (n : ℕ) → 256 ≤ n → length g.widths ≡ 256 → length h.widths ≡ 256 → length g.hidden ≡ 256
    → length h.hidden ≡ 256 → ((i : ℕ) → i < n → IsSameColumn g h i) → SameColumns g h
all_columns g h n all gw hw gh hh same = record {
  widths = ext_get_or 0 g.widths h.widths (gw ∙ sym hw) (λ i l. (same i (omega (arith, l, gw, all))).width);
  hidden = ext_get_or false g.hidden h.hidden (gh ∙ sym hh) (λ i l. (same i (omega (arith, l, gh, all))).hidden);
}
