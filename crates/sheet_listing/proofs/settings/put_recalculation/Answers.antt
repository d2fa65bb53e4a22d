use Rattle.std.proofs.Common.{◌∙◌, ap, codes}
use Rattle.grid_address.specs.Address.{decimal}
use Rattle.sheet_store.specs.Choices.{Choices}
use Rattle.sheet_listing.specs.Listed.{mode_word, order_word}
use Rattle.sheet_listing.proofs.Appended.{as_told, three_fields}
use Rattle.sheet_listing.proofs.settings.put_recalculation.Goals as goal

pub returns : goal.returns
returns c =
    let order = c.order_word-order.ensures ∙ ap (λ (s : Choices). order_word s.order) c.settings.view_is in
    let mode = c.mode_word-mode.ensures ∙ ap (λ (s : Choices). mode_word s.automatic) c.settings.view_is in
    let passes = c.bytes.ensures.bytes ∙ c.decimal_text-passes.ensures ∙ ap decimal c.from.ensures ∙
    ap (λ (s : Choices). decimal s.passes) c.settings.view_is in
    as_told c.put_line.result c.put_line.new.into.items c.args.into.now.items _ _
    (three_fields (codes "recalculation") _ _ _ _ _ _ order mode passes) c.put_line.ensures
