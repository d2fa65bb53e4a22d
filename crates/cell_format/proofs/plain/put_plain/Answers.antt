use Rattle.std.proofs.Common.{rules, ◌≡◌, true, length, sym, ◌∙◌, arith}
use Rattle.fixed_value.specs.Written.{decimals}
use Rattle.cell_format.proofs.BlankCell.{plain_shown}
use Rattle.cell_format.proofs.plain.put_plain.Goals as goal

pub returns-clause-shown : goal.returns-clause-shown
returns-clause-shown c done =
    let shows : c.shows_decimals_that_fit.result ≡ true = search rules in
    plain_shown c.args.value c.args.format.0 (length c.args.cell.now) (decimals c.args.value) c.args.cell.now
    c.put_exact.new.bytes
    (omega arith) c.requires (c.shows_decimals_that_fit.ensures shows c.args.value) c.put_exact.ensures.enough
    c.put_exact.ensures.few (sym done ∙ c.put_exact.ensures.fits) (c.put_exact.ensures.text done)
