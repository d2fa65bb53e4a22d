use Rattle.std.proofs.Common.{◌≡◌, ◌++◌, codes, ap, sym, ◌∙◌}
use Rattle.std.specs.Prelude.{take}
use Rattle.room_keys.specs.menu.Ring.{marked}
use Rattle.room_keys.proofs.Names.{three_parts}
use Rattle.room_keys.proofs.menu.lines.put_item.Goals as goal

pub returns-then-is_highlighted : goal.returns-then-is_highlighted
returns-then-is_highlighted c =
    three_parts 240 c.args.line.now (codes "[") c.args.name.now (codes "]") c.put_byte.new.line c.put_cut.new.line
    c.put_byte-then-is_highlighted.new.line c.put_byte.ensures c.put_cut.ensures c.put_byte-then-is_highlighted.ensures
    ∙ ap (λ b. take 240 (c.args.line.now ++ marked b c.args.name.now)) (sym c.if-is_highlighted.true)

pub returns-else-is_highlighted : goal.returns-else-is_highlighted
returns-else-is_highlighted c =
    three_parts 240 c.args.line.now (codes " ") c.args.name.now (codes " ") c.put_byte-else-is_highlighted.new.line
    c.put_cut-else-is_highlighted.new.line c.put_byte-else-is_highlighted-2.new.line
    c.put_byte-else-is_highlighted.ensures c.put_cut-else-is_highlighted.ensures
    c.put_byte-else-is_highlighted-2.ensures
    ∙ ap (λ b. take 240 (c.args.line.now ++ marked b c.args.name.now)) (sym c.if-is_highlighted.false)
