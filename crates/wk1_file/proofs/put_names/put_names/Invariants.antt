use Rattle.std.specs.FinMap as finite
use Rattle.grid_address.specs.Place.{Extent}
use Rattle.std.specs.Prelude.{ℕ, List}
use Rattle.range_names.specs.Names.{name_in}
use Rattle.wk1_records.specs.Records.{piece_bytes}
use Rattle.wk1_file.specs.Saved.{name_piece}
use Rattle.wk1_file.specs.Said.{IsExtent}
use Rattle.wk1_file.specs.inner.Written.{Writes}
use Rattle.wk1_file.proofs.put_names.put_names.Given as goal

abbrev pub invariant-loop-key : goal.invariant-loop-key
invariant-loop-key l =
    Writes {X = List ℕ × Extent} (λ e. piece_bytes (name_piece (name_in e.0) e.1)) (λ e. IsExtent e.1) l.fn.into.items
    l.into.items l.key-iterator (finite.entries l.names)
