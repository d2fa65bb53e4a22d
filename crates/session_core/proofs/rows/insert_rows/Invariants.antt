use Rattle.std.proofs.Common.{◌≡◌, ◌≤◌, ◌<◌, ℕ, false, Some}
use Rattle.std.specs.Prelude.{slice_get}
use Rattle.session_core.proofs.rows.insert_rows.Given as goal

abbrev pub invariant-loop-line : goal.invariant-loop-line
invariant-loop-line l = record {
  stay : (n : ℕ) → slice_get l.lines n ≡ Some false → slice_get l.initial.lines n ≡ Some false;
  told : (n : ℕ) → 4 ≤ n → n < l.line → slice_get l.lines n ≡ Some false → ⊥;
}
