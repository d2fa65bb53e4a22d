use Rattle.std.specs.Prelude.{◌≡◌, ◌-◌, ◌++◌, ◌∷◌, [], suc, length, set}
use Rattle.std.proofs.Common.{refl, ap, sym, ◌∙◌, subst, ◌<◌, List, arith}
use Rattle.std.specs.FinMap.{from_entries, get, insert}
use Rattle.list_lemmas.proofs.Results.{on_err_always}
use Rattle.grid_address.specs.Place.{place_cmp}
use Rattle.cell_maps.specs.Filled.{cells_of, filled}
use Rattle.cell_maps.specs.Numbers.{number_at}
use Rattle.cell_maps.specs.inner.Numbering.{AreNumbered}
use Rattle.cell_maps.proofs.Filled.{added, added_numbered, few, got_none, put_in, same_numbered, same_table, within}
use Rattle.cell_maps.specs.declared.held.Held.{Held}
use Rattle.cell_maps.specs.declared.held.Held.TheVariants as held
use Rattle.cell_maps.proofs.map.CellMap.insert.Goals as goal
use Rattle.cell_maps.proofs.map.CellMap.insert.Goals.{in-Filled-1, in-Erased-1}

pub number_for-requires : goal.number_for-requires
number_for-requires g c =
    (let most = few c.self.inside.table c.self.inside.held.items c.self.invariant in omega (arith, most))

pub invariant_of-self : goal.invariant_of-self
invariant_of-self g c =
    subst (λ (hs : List (Held g.row.T.Denot)). AreNumbered c.number_for.new.table (cells_of hs))
    (sym c.in_err-had.ensures.items)
    (same_table c.self.inside.table c.number_for.new.table (cells_of c.self.inside.held.items)
    (λ d _. c.in_err-had.ensures.err.same d) c.self.invariant)

pub returns-in_err-had-clause-absent : goal.returns-in_err-had-clause-absent
returns-in_err-had-clause-absent g c =
    on_err_always c.from_residual.result
    (ap (λ m. get m c.args.cell) (sym c.self.view_is) ∙ got_none c.self.inside.table c.self.inside.held.items
    c.self.invariant c.args.cell c.is_on_sheet.ensures c.in_err-had.ensures.err.absent)

pub invariant_of-self-then-had-eq0 : goal.invariant_of-self-then-had-eq0
invariant_of-self-then-had-eq0 g c =
    let given = c.in_ok-had.ensures.given in
    let zero = c.if-had-eq0.true in
    let own = given.own in
    let none : number_at c.self.inside.table c.args.cell ≡ 0 = omega (arith, own, zero) in
    subst (λ (hs : List (Held g.row.T.Denot)). AreNumbered c.number_for.new.table (cells_of hs))
    (sym (c.push_reserved.ensures.items ∙ ap (λ (hs : List (Held g.row.T.Denot)).
    hs ++ held.Filled c.args.cell c.args.item ∷ []) c.in_ok-had.ensures.items))
    (added_numbered c.self.inside.table c.number_for.new.table c.self.inside.held.items c.args.cell c.args.item
    c.self.invariant c.is_on_sheet.ensures none (given.set (omega (arith, zero))))

pub index_mut-requires : goal.index_mut-requires
index_mut-requires g c =
    let own = c.in_ok-had.ensures.given.own in
    let some = c.if-had-eq0.false in
    let is : number_at c.self.inside.table c.args.cell ≡ suc (c.in_ok-had.had - 1) = omega (arith, own, some) in
    let inside = within c.self.inside.table c.self.inside.held.items c.self.invariant c.args.cell
    c.is_on_sheet.ensures (c.in_ok-had.had - 1) is in
    subst (λ n. c.in_ok-had.had - 1 < n) (sym c.number_for.new.held.ok.0)
    (subst (λ (hs : List (Held g.row.T.Denot)). c.in_ok-had.had - 1 < length hs) (sym c.in_ok-had.ensures.items) inside)

pub invariant_of-self-else-had-eq0 : goal.invariant_of-self-else-had-eq0
invariant_of-self-else-had-eq0 g c =
    let own = c.in_ok-had.ensures.given.own in
    let some = c.if-had-eq0.false in
    let is : number_at c.self.inside.table c.args.cell ≡ suc (c.in_ok-had.had - 1) = omega (arith, own, some) in
    let item = held.Filled c.args.cell c.args.item in
    subst (λ t. AreNumbered t (cells_of (set c.number_for.new.held.items (c.in_ok-had.had - 1) item)))
    (sym (c.in_ok-had.ensures.given.same (omega (arith, some))))
    (subst (λ (hs : List (Held g.row.T.Denot)). AreNumbered c.self.inside.table
    (cells_of (set hs (c.in_ok-had.had - 1) item))) (sym c.in_ok-had.ensures.items)
    (same_numbered c.self.inside.table c.self.inside.held.items c.self.invariant c.args.cell c.is_on_sheet.ensures
    (c.in_ok-had.had - 1) item is refl))

pub invariant_of-self-else-had-eq0-2 : goal.invariant_of-self-else-had-eq0-2
invariant_of-self-else-had-eq0-2 g c =
    let own = c.in_ok-had.ensures.given.own in
    let some = c.if-had-eq0.false in
    let is : number_at c.self.inside.table c.args.cell ≡ suc (c.in_ok-had.had - 1) = omega (arith, own, some) in
    let item = held.Filled c.args.cell c.args.item in
    subst (λ t. AreNumbered t (cells_of (set c.number_for.new.held.items (c.in_ok-had.had - 1) item)))
    (sym (c.in_ok-had.ensures.given.same (omega (arith, some))))
    (subst (λ (hs : List (Held g.row.T.Denot)). AreNumbered c.self.inside.table
    (cells_of (set hs (c.in_ok-had.had - 1) item))) (sym c.in_ok-had.ensures.items)
    (same_numbered c.self.inside.table c.self.inside.held.items c.self.invariant c.args.cell c.is_on_sheet.ensures
    (c.in_ok-had.had - 1) item is refl))

pub returns-then-had-eq0-clause-ok : goal.returns-then-had-eq0-clause-ok
returns-then-had-eq0-clause-ok g c =
    let own = c.in_ok-had.ensures.given.own in
    let zero = c.if-had-eq0.true in
    let none : number_at c.self.inside.table c.args.cell ≡ 0 = omega (arith, own, zero) in
    ap (λ (hs : List (Held g.row.T.Denot)). from_entries {R = place_cmp} (filled hs)) (c.push_reserved.ensures.items
    ∙ ap (λ (hs : List (Held g.row.T.Denot)). hs ++ held.Filled c.args.cell c.args.item ∷ [])
    c.in_ok-had.ensures.items)
    ∙ added c.self.inside.table c.self.inside.held.items c.self.invariant c.args.cell c.is_on_sheet.ensures c.args.item
    none ∙ ap (λ m. insert m c.args.cell c.args.item) c.self.view_is

pub returns-else-had-eq0-clause-ok : goal.returns-else-had-eq0-clause-ok
returns-else-had-eq0-clause-ok g c =
    let own = c.in_ok-had.ensures.given.own in
    let some = c.if-had-eq0.false in
    let is : number_at c.self.inside.table c.args.cell ≡ suc (c.in_ok-had.had - 1) = omega (arith, own, some) in
    let put = ap (λ (hs : List (Held g.row.T.Denot)). from_entries {R = place_cmp}
    (filled (set hs (c.in_ok-had.had - 1) (held.Filled c.args.cell c.args.item)))) c.in_ok-had.ensures.items
    ∙ put_in c.self.inside.table c.self.inside.held.items c.self.invariant c.args.cell c.is_on_sheet.ensures
    (c.in_ok-had.had - 1) c.args.item is ∙ ap (λ m. insert m c.args.cell c.args.item) c.self.view_is in
    elim c.match-index_mut.branch [ in-Filled-1 w ↦ w.self-is ∙ put | in-Erased-1 w ↦ w.self-is ∙ put ]
