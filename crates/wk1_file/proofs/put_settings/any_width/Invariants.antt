use Rattle.std.proofs.Common.{◌≡◌, ◌<◌, ℕ, false, get_or}
use Rattle.wk1_file.proofs.put_settings.any_width.Given as goal

abbrev pub invariant-loop-col : goal.invariant-loop-col
invariant-loop-col l = l.any ≡ false → (col : ℕ) → col < l.col → get_or l.store.widths col 0 ≡ 0
