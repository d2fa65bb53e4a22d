use Rattle.std.proofs.Common.{◌≡◌, ◌++◌, ◌∙◌, List, ℕ, ap, sym}
use Rattle.std.specs.FinMap as finite
use Rattle.grid_address.specs.Place.{Extent}
use Rattle.range_names.specs.Names.{name_in}
use Rattle.wk1_records.specs.Records.{piece_bytes}
use Rattle.wk1_file.specs.Saved.{name_piece}
use Rattle.wk1_file.specs.Said.{IsExtent}
use Rattle.wk1_file.proofs.Writing.{all_bytes, bytes_all, one_more}
use Rattle.wk1_file.proofs.put_names.put_names.Goals as goal

pub loop-key-preserved : goal.loop-key-preserved
loop-key-preserved c =
    one_more {X = List ℕ × Extent} (λ e. piece_bytes (name_piece (name_in e.0) e.1)) (λ e. IsExtent e.1)
    c.args.into.now.items c.loop-key.into.items c.put_name.new.into.items
    (c.in-Some.key.now, c.in-Some.span.now) c.next.new.self c.loop-key.key-iterator (finite.entries c.args.names.now)
    c.loop-key.invariant c.in-Some.ensures.steps (c.in_ok-put_name.ensures
    ∙ ap (λ n. c.loop-key.into.items ++ piece_bytes (name_piece n c.in-Some.span.now)) c.name_in.ensures.name)
    c.is_extent.ensures

pub returns-clause-bytes : goal.returns-clause-bytes
returns-clause-bytes c =
    all_bytes {X = List ℕ × Extent} (λ e. piece_bytes (name_piece (name_in e.0) e.1)) (λ e. IsExtent e.1)
    c.args.into.now.items c.loop-key.into.items c.loop-key.key-iterator (finite.entries c.args.names.now)
    c.in-None.ensures.steps.0 c.loop-key.invariant
    ∙ ap (λ l. c.args.into.now.items ++ l)
    (sym (bytes_all (λ e. name_piece (name_in e.0) e.1) (finite.entries c.args.names.now)))
