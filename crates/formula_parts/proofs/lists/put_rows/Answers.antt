use Rattle.std.proofs.Common.{◌≡◌, ◌++◌, List, sym, ap, subst, ◌∙◌}
use Rattle.std.proofs.lemmas.List.{append-nil}
use Rattle.formula_parts.specs.declared.items.Item.{Item}
use Rattle.formula_parts.specs.Lists.{items_in}
use Rattle.formula_parts.specs.Outlook.{cells_of}
use Rattle.formula_parts.specs.inner.Totals.{IsTotal}
use Rattle.formula_parts.proofs.Totalled.{unfiltered, unused_none}
use Rattle.formula_parts.proofs.lists.put_rows.Goals as goal

pub returns-then-is_unused : goal.returns-then-is_unused
returns-then-is_unused g c =
    let values = (g.K.Look.sight c.args.look.now).values in
    λ m is. subst (IsTotal c.args.total.now) (sym (append-nil m)
    ∙ ap (λ (l : List Item). m ++ l) (sym (unused_none values c.args.rows (c.is_unused.ensures c.if-is_unused.true))))
    is

pub returns : goal.returns
returns g c =
    let values = (g.K.Look.sight c.args.look.now).values in
    λ m is. subst (IsTotal c.put_cells.new.total)
    (ap (λ (l : List Item). m ++ l) (ap (items_in values) (c.as_slice.ensures ∙ c.in_ok-cells.ensures)
    ∙ unfiltered values (cells_of c.args.rows))) (c.in_ok-put_cells.ensures m is)
