use Rattle.std.proofs.Common.{◌≡◌, ◌++◌, ◌∷◌, ◌∙◌, List, ℕ, ap}
use Rattle.std.specs.FinMap as finite
use Rattle.std.specs.Prelude.{flat_map}
use Rattle.wk1_records.specs.Records.{pieces_bytes, Piece}
use Rattle.wk1_file.specs.Saved.{bof, cell_pieces, hidden_pieces, names_pieces, range_end, range_piece, settings_pieces}
use Rattle.wk1_file.specs.Saved.{of_parts, width_pieces}
use Rattle.wk1_file.proofs.Kept.{all_cells, all_names}
use Rattle.wk1_file.proofs.Writing.{five, joined}
use Rattle.wk1_file.proofs.save.put_records.Goals as goal

pub returns-clause-bytes : goal.returns-clause-bytes
returns-clause-bytes c =
    let s = of_parts c.args.store.now c.args.names.now c.args.settings in
    let f : List Piece = bof ∷ range_piece (range_end s.store) ∷ settings_pieces s.settings in
    let w = width_pieces s.store in
    let h = hidden_pieces s.store.hidden in
    let n = names_pieces s.names in
    let k = flat_map cell_pieces (finite.entries s.store.cells) in
    joined c.args.into.now.items c.put_front.new.into.items c.put_widths.new.into.items c.put_hidden.new.into.items
    c.put_names.new.into.items c.put_cells.new.into.items (pieces_bytes f) (pieces_bytes w) (pieces_bytes h)
    (pieces_bytes n) (pieces_bytes k) c.in_ok-put_front.ensures c.in_ok-put_widths.ensures.bytes
    c.in_ok-put_hidden.ensures c.in_ok-put_names.ensures.bytes c.in_ok-put_cells.ensures.bytes
    ∙ ap (λ l. c.args.into.now.items ++ l) (five f w h n k)

pub returns-clause-saved : goal.returns-clause-saved
returns-clause-saved c = record {
  settings = c.are_settings.ensures;
  widths = record { all = c.are_columns.ensures.widths; most = c.in_ok-put_widths.ensures.most };
  hidden = c.are_columns.ensures.hidden;
  names = all_names c.args.names.now c.are_keyed.ensures c.in_ok-put_names.ensures.spans;
  cells = all_cells c.args.store.now.cells c.are_held.ensures c.in_ok-put_cells.ensures.ranged;
}
