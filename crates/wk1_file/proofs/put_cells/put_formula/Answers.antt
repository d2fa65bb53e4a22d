use Rattle.std.proofs.Common.{◌≡◌, ◌++◌, ◌∙◌, OnOk, ap, append_assoc, subst}
use Rattle.wk1_formula.specs.Written.{code_of}
use Rattle.wk1_records.specs.Records.{piece_bytes, pieces_bytes}
use Rattle.wk1_file.specs.Saved.{formula_piece, text_pieces}
use Rattle.wk1_file.proofs.put_cells.put_formula.Goals as goal

pub returns : goal.returns
returns c =
    let cell = c.args.cell in
    let state = c.args.state.now in
    let old = c.args.into.now.items in
    let code = code_of c.args.formula.now cell in
    let text = pieces_bytes (text_pieces cell state state.value) in
    let is = c.as_slice.ensures.value ∙ c.in_ok-code_alone.ensures.code in
    let first = c.in_ok-put_code.ensures ∙ ap (λ k. old ++ piece_bytes (formula_piece cell state k)) is in
    let all = ap (λ l. l ++ text) first ∙ append_assoc old (piece_bytes (formula_piece cell state code)) text in
    subst (λ l. OnOk c.put_value.result (c.put_value.new.into.items ≡ l)) all c.put_value.ensures
