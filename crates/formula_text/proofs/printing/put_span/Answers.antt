use Rattle.std.proofs.Common.{rules, ◌≡◌, ◌++◌, codes, sym, ap}
use Rattle.grid_address.specs.Axes.{is_fixed}
use Rattle.formula_text.specs.Printed.{mark, named_or, reference_text}
use Rattle.formula_text.proofs.Pieces.{put_as, two_put}
use Rattle.formula_text.proofs.printing.put_span.Goals as goal

pub returns-in-Some : goal.returns-in-Some
returns-in-Some g c =
    let at = c.args.at in
    let fixed = is_fixed c.args.one.col in
    let name = c.in-Some.name.now in
    let mark_is : c.is_fixed.result ≡ fixed = search rules in
    put_as (two_put c.args.out.now c.put_mark.new.out c.put.new.out (mark fixed) name
    (put_as c.put_mark.ensures (ap mark mark_is)) c.put.ensures)
    (ap (named_or fixed (reference_text at c.args.one ++ (codes ".." ++ reference_text at c.args.other)))
    (sym c.in-Some.ensures.some))

pub returns-in-None : goal.returns-in-None
returns-in-None g c =
    let at = c.args.at in
    put_as c.put_corners.ensures
    (ap (named_or (is_fixed c.args.one.col)
    (reference_text at c.args.one ++ (codes ".." ++ reference_text at c.args.other))) (sym c.in-None.ensures.none))
