use Rattle.std.proofs.Common.{◌≡◌, ap, sym, ◌∙◌, subst, ◌<◌, inr, set}
use Rattle.std.proofs.lemmas.List.{set-get_or}
use Rattle.std.specs.Option.{ghost_name_of}
use borrow.Follows.Closed.{read_of}
use Rattle.std.specs.FinMap.{from_entries, get, insert}
use Rattle.grid_address.specs.Place.{place_cmp, Place}
use Rattle.cell_maps.specs.Filled.{cell_in, filled, item_in}
use Rattle.cell_maps.proofs.Filled.{cell_at, got, got_none, put_in, same_numbered, within}
use Rattle.cell_maps.specs.declared.held.Held.TheVariants as held
use Rattle.cell_maps.proofs.map.CellMap.get_mut.Goals as goal

pub index_mut-requires : goal.index_mut-requires
index_mut-requires g c = subst (λ n. c.in-Some.at < n) (sym c.self.inside.held.ok.0) (within c.self.inside.table
    c.self.inside.held.items c.self.invariant c.args.cell c.is_on_sheet.ensures c.in-Some.at c.in-Some.ensures.some)

pub invariant_of-self-lent : goal.invariant_of-self-lent
invariant_of-self-lent g c = λ _.
    (let now = c.index_mut.result.now in
    let at : cell_in now ≡ c.args.cell =
    ap cell_in c.index_mut.ensures.value ∙ cell_at c.self.inside.table c.self.inside.held.items c.self.invariant
    c.args.cell c.is_on_sheet.ensures c.in-Some.at now c.in-Some.ensures.some in (
      λ w. same_numbered c.self.inside.table c.self.inside.held.items c.self.invariant c.args.cell c.is_on_sheet.ensures
          c.in-Some.at (held.Filled (cell_in now) w) c.in-Some.ensures.some at,
      same_numbered c.self.inside.table c.self.inside.held.items c.self.invariant c.args.cell c.is_on_sheet.ensures
          c.in-Some.at now c.in-Some.ensures.some at,
    ))

pub returns-in-Some : goal.returns-in-Some
returns-in-Some g c =
    let now = c.index_mut.result.now in
    let some = c.in-Some.ensures.some in
    let at : cell_in now ≡ c.args.cell = ap cell_in c.index_mut.ensures.value ∙ cell_at c.self.inside.table
    c.self.inside.held.items c.self.invariant c.args.cell c.is_on_sheet.ensures c.in-Some.at now some in
    let put : (w : g.row.T.Denot) → from_entries {R = place_cmp} (filled (set c.self.inside.held.items c.in-Some.at
    (held.Filled (cell_in now) w))) ≡ insert c.args.self.now c.args.cell w = λ w.
    ap (λ (q : Place). from_entries {R = place_cmp}
    (filled (set c.self.inside.held.items c.in-Some.at (held.Filled q w)))) at
    ∙ put_in c.self.inside.table c.self.inside.held.items c.self.invariant c.args.cell c.is_on_sheet.ensures
    c.in-Some.at w some
    ∙ ap (λ m. insert m c.args.cell w) c.self.view_is in
    let kept : from_entries {R = place_cmp} (filled (set c.self.inside.held.items c.in-Some.at now)) ≡ c.args.self.now =
    ap (λ h. from_entries {R = place_cmp} (filled (set c.self.inside.held.items c.in-Some.at h)))
    c.index_mut.ensures.value
    ∙ ap (λ hs. from_entries {R = place_cmp} (filled hs)) (set-get_or c.self.inside.held.items c.in-Some.at now)
    ∙ c.self.view_is in
    let item : get c.args.self.now c.args.cell ≡ item_in now =
    ap (λ m. get m c.args.cell) (sym c.self.view_is) ∙ got c.self.inside.table c.self.inside.held.items c.self.invariant
    c.args.cell c.is_on_sheet.ensures c.in-Some.at now some
    ∙ ap item_in (sym c.index_mut.ensures.value) in (
      λ i. read_of (ghost_name_of c.item_mut.result) (λ w. put w i) (kept i),
      record { writes_back = tt; value = c.item_mut.ensures.value ∙ sym item },
    )

pub returns-in-None : goal.returns-in-None
returns-in-None g c =
    let none = ap (λ m. get m c.args.cell) (sym c.self.view_is) ∙ got_none c.self.inside.table c.self.inside.held.items
    c.self.invariant c.args.cell c.is_on_sheet.ensures c.in-None.ensures.none in
    (λ i. inr (c.self.view_is i), record { writes_back = tt; value = sym none })
