use Rattle.std.proofs.Common.{◌++◌, ◌∙◌, ap, sym}
use Rattle.std.proofs.lemmas.List.{append-nil}
use Rattle.wk1_records.specs.Records.{pieces_bytes}
use Rattle.wk1_file.proofs.Columns.{no_widths, none_most}
use Rattle.wk1_file.proofs.put_settings.put_widths.Goals as goal

pub returns-else-any_width-clause-bytes : goal.returns-else-any_width-clause-bytes
returns-else-any_width-clause-bytes c =
    let old = c.args.into.now.items in
    sym (ap (λ ps. old ++ pieces_bytes ps) (no_widths c.args.store.now (c.any_width.ensures c.if-any_width.false))
    ∙ append-nil old)

pub returns-else-any_width-clause-most : goal.returns-else-any_width-clause-most
returns-else-any_width-clause-most c =
    none_most c.args.store.now.widths c.are_columns.ensures.widths (c.any_width.ensures c.if-any_width.false)
