use Rattle.std.proofs.Common.{sym, ap, ◌∙◌}
use Rattle.formula_parts.specs.Lookups.{place_in, range_of}
use Rattle.formula_parts.proofs.Composing.{in_lookup, three}
use Rattle.formula_parts.proofs.numbers.looked_up.Goals as goal

pub returns-in_ok-place-in-len3-clause-number : goal.returns-in_ok-place-in-len3-clause-number
returns-in_ok-place-in-len3-clause-number g c =
    let es = c.args.exprs.now in
    let x = c.x-item.result in
    let r = c.range-item.result in
    let n = c.number-item.result in
    let span = c.in_ok-span-in-len3.span in
    let number = c.in_ok-number-in-len3.number in
    in_lookup es x r n c.args.at (g.K.Look.sight c.args.look.now) span c.in_ok-x-in-len3.x number
    c.in_ok-place-in-len3.place c.lookup_number.result
    (three es x r n c.in-len3.len_at_least c.in-len3.len_below c.x-item.is c.range-item.is c.number-item.is)
    (ap range_of (sym c.operand_of.ensures) ∙ sym c.in_ok-span-in-len3.ensures)
    c.in_ok-x-in-len3.ensures
    c.in_ok-number-in-len3.ensures
    (ap (place_in number) (sym c.width.ensures.width) ∙ sym c.in_ok-place-in-len3.ensures.place)
    c.lookup_number.ensures.number
