use Rattle.std.proofs.Common.{◌≡◌, ◌/◌, ap, arith, get_or, ◌∙◌}
use Rattle.cell_maps.specs.Numbers.{head_of, number_at, Numbers}
use Rattle.cell_maps.proofs.Tables.{few_pages, parted_grown, same_grown}
use Rattle.cell_maps.proofs.table.PlaceTable.add_room.Goals as goal

pub overflow_cast-pages : goal.overflow_cast-pages
overflow_cast-pages c = let few = few_pages _ c.self.invariant in let e = c.len-pages.ensures in omega (arith, few, e)

pub overflow_add-pages : goal.overflow_add-pages
overflow_add-pages c = let few = few_pages _ c.self.invariant in let e = c.len-pages.ensures in omega (arith, few, e)

pub invariant_of-self-2 : goal.invariant_of-self-2
invariant_of-self-2 c =
    let t : Numbers = record { heads = c.self.inside.heads.items; numbers = c.self.inside.numbers.items } in
    let free : get_or t.heads c.page_of-page.result 0 ≡ 0 = ap (λ i. get_or t.heads i 0) c.page_of-page.ensures
    ∙ ap (λ (u : Numbers). head_of u c.args.cell) c.self.view_is ∙ c.requires in
    parted_grown t c.self.invariant c.add_heads.new.heads.items c.add_page.new.numbers.items c.page_of-page.result
    (c.len-pages.result / 256) c.add_heads.ensures.same c.add_heads.ensures.used c.add_heads.ensures.whole
    (let e = c.page_of-page.ensures in let l = c.in_ok-add_heads.ensures.long in let on = c.is_on_sheet.ensures in
    omega (arith, e, l, on.0, on.1)) free (let e = c.len-pages.ensures in omega (arith, e)) c.add_page.ensures.same
    c.in_ok-add_page.ensures.long

pub returns-clause-same : goal.returns-clause-same
returns-clause-same c = λ d.
    (let t : Numbers = record { heads = c.self.inside.heads.items; numbers = c.self.inside.numbers.items } in
    let free : get_or t.heads c.page_of-page.result 0 ≡ 0 = ap (λ i. get_or t.heads i 0) c.page_of-page.ensures
    ∙ ap (λ (u : Numbers). head_of u c.args.cell) c.self.view_is ∙ c.requires in
    same_grown t c.self.invariant c.add_heads.new.heads.items c.add_page.new.numbers.items c.page_of-page.result
    (c.len-pages.result / 256) c.add_heads.ensures.same c.add_heads.ensures.used c.add_heads.ensures.whole
    (let e = c.page_of-page.ensures in let l = c.in_ok-add_heads.ensures.long in let on = c.is_on_sheet.ensures in
    omega (arith, e, l, on.0, on.1)) free (let e = c.len-pages.ensures in omega (arith, e)) c.add_page.ensures.same
    c.in_ok-add_page.ensures.long d
    ∙ ap (λ u. number_at u d) c.self.view_is)
