use Rattle.std.proofs.Common.{◌≡◌, ◌∙◌, ◌++◌, ℕ, List, [], ◌∷◌, ap, codes}
use Rattle.lics_text.specs.Prefixes.{prefix_byte}
use Rattle.grid_address.specs.Address.{address_of, decimal}
use Rattle.cell_format.specs.Indicator.{indicator_of}
use Rattle.sheet_store.specs.Choices.{Choices}
use Rattle.sheet_listing.specs.Lines.{line}
use Rattle.sheet_listing.specs.Listed.{mode_word, order_word, protection_word}
use Rattle.sheet_listing.proofs.Appended.{as_told, lines_then, one_field}
use Rattle.sheet_listing.proofs.settings.put_settings.Goals as goal

pub returns : goal.returns
returns c =
    let s = c.args.settings in
    let l0 = c.args.into.now.items in
    let l1 = c.put_setting.new.into.items in
    let l2 = c.put_recalculation.new.into.items in
    let l3 = c.put_setting-2.new.into.items in
    let l4 = c.put_setting-3.new.into.items in
    let l5 = c.put_setting-4.new.into.items in
    let l6 = c.put_setting-5.new.into.items in
    let pointer_is : c.bytes.result.now ≡ address_of s.pointer = c.bytes.ensures.bytes ∙ c.cell_text-pointer.ensures ∙
    ap (λ (k : Choices). address_of k.pointer) c.settings.view_is in
    let prefix_is : c.byte.result ≡ prefix_byte s.prefix = c.byte.ensures ∙
    ap (λ (k : Choices). prefix_byte k.prefix) c.settings-2.view_is in
    let format_is : c.bytes-2.result.now ≡ indicator_of s.format = c.bytes-2.ensures.bytes ∙ c.indicator-format.ensures
    ∙ ap (λ (k : Choices). indicator_of k.format) c.settings.view_is in
    let width_is : c.bytes-3.result.now ≡ decimal s.width = c.bytes-3.ensures.bytes ∙ c.decimal_text-width.ensures ∙
    ap decimal c.from.ensures ∙ ap (λ (k : Choices). decimal k.width) c.settings.view_is in
    let protection_is : c.protection_word.result.now ≡ protection_word s.protection = c.protection_word.ensures ∙
    ap (λ (k : Choices). protection_word k.protection) c.settings-2.view_is in
    let pointer = line (codes "pointer") (address_of s.pointer ∷ []) in
    let recalculation =
    line (codes "recalculation") (order_word s.order ∷ mode_word s.automatic ∷ decimal s.passes ∷ []) in
    let prefix = line (codes "prefix") ((prefix_byte s.prefix ∷ []) ∷ []) in
    let format = line (codes "format") (indicator_of s.format ∷ []) in
    let width = line (codes "width") (decimal s.width ∷ []) in
    let protection = line (codes "protection") (protection_word s.protection ∷ []) in
    let pointer_put : l1 ≡ l0 ++ pointer = c.in_ok-put_setting.ensures ∙
    ap (λ (l : List ℕ). l0 ++ l) (one_field (codes "pointer") _ _ pointer_is) in
    let prefix_put : l3 ≡ l2 ++ prefix = c.in_ok-put_setting-2.ensures ∙
    ap (λ (b : ℕ). l2 ++ line (codes "prefix") ((b ∷ []) ∷ [])) prefix_is in
    let format_put : l4 ≡ l3 ++ format = c.in_ok-put_setting-3.ensures ∙
    ap (λ (l : List ℕ). l3 ++ l) (one_field (codes "format") _ _ format_is) in
    let width_put : l5 ≡ l4 ++ width = c.in_ok-put_setting-4.ensures ∙
    ap (λ (l : List ℕ). l4 ++ l) (one_field (codes "width") _ _ width_is) in
    let result = c.put_setting-5.result in
    lines_then result l0 l1 l6 pointer _ pointer_put
    (lines_then result l1 l2 l6 recalculation _ c.in_ok-put_recalculation.ensures
    (lines_then result l2 l3 l6 prefix _ prefix_put
    (lines_then result l3 l4 l6 format _ format_put
    (lines_then result l4 l5 l6 width protection width_put
    (as_told result l6 l5 _ protection (one_field (codes "protection") _ _ protection_is) c.put_setting-5.ensures)))))
