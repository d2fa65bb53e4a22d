use Rattle.std.specs.Prelude.{◌+◌, suc, length}
use Rattle.std.proofs.Common.{ap, arith, inl, subst, sym, ◌∙◌}
use Rattle.grid_address.specs.Place.{same_place}
use Rattle.cell_maps.specs.inner.Numbering.{above, AreNumbered}
use Rattle.cell_maps.specs.Sets.{insert_key, Cells}
use Rattle.cell_maps.proofs.Above.{above_set, fresh_above, had_above}
use Rattle.cell_maps.proofs.Filled.{few_places, number_last}
use Rattle.cell_maps.proofs.Sets.{member, no_member, put_again, put_behind}
use Rattle.cell_maps.proofs.set.CellSet.insert_in_room.Goals as goal

pub put_behind-requires : goal.put_behind-requires
put_behind-requires c =
    let most = few_places (above c.self.inside.gone c.self.inside.table) c.self.inside.cells.items
    c.self.invariant.1.0 in
    let up_to = c.self.invariant.0 in
    omega (arith, most, up_to)

pub invariant_of-self-then-had-self : goal.invariant_of-self-then-had-self
invariant_of-self-then-had-self c =
    let gone = c.self.inside.gone in
    let table = c.self.inside.table in
    let cells = c.self.inside.cells.items in
    let new = above gone c.put_behind.new.self in
    let had = c.in-Some.ensures.had in
    let low = c.if-had-self.true in
    let fresh = fresh_above gone table c.args.cell (omega (arith, had, low)) in
    let numbers = above_set gone (suc (gone + length cells)) (suc (length cells)) table c.put_behind.new.self
    c.args.cell (omega arith) (c.in-Some.ensures.set low) in (
      c.self.invariant.0,
      (
        subst (AreNumbered new) (sym c.push_reserved.ensures.items)
            (number_last (above gone table) new cells c.args.cell c.self.invariant.1.0 c.is_on_sheet.ensures fresh
            numbers),
        inl c.clear.ensures.items,
      ),
    )

pub returns-then-had-self-clause-yes : goal.returns-then-had-self-clause-yes
returns-then-had-self-clause-yes c = λ _.
    let gone = c.self.inside.gone in
    let table = c.self.inside.table in
    let cells = c.self.inside.cells.items in
    let had = c.in-Some.ensures.had in
    let low = c.if-had-self.true in
    let fresh = fresh_above gone table c.args.cell (omega (arith, had, low)) in
    c.push_reserved.ensures.items
    ∙ put_behind cells c.args.cell (no_member (above gone table) cells c.self.invariant.1.0 c.args.cell fresh)
    ∙ ap (λ (s : Cells). insert_key same_place s.keys c.args.cell) c.self.view_is

pub returns-else-had-self-clause-yes : goal.returns-else-had-self-clause-yes
returns-else-had-self-clause-yes c = λ _.
    let gone = c.self.inside.gone in
    let table = c.self.inside.table in
    let cells = c.self.inside.cells.items in
    let number = c.in-Some.ensures.had in
    let high = c.if-had-self.false in
    let had = had_above gone table c.args.cell (omega (arith, number, high)) in
    put_again cells c.args.cell
    (member (above gone table) cells c.self.invariant.1.0 c.args.cell had.0 c.is_on_sheet.ensures had.1)
    ∙ ap (λ (s : Cells). insert_key same_place s.keys c.args.cell) c.self.view_is
