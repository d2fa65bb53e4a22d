use Rattle.std.specs.Prelude.{ℕ, ◌≡◌, ◌<◌, ◌+◌, ◌≤◌, ◌++◌, ◌∷◌, [], suc, cond, false, length}
use Rattle.std.proofs.lemmas.Option.{slice_get_within}
use Rattle.std.proofs.Common.{ap, arith, inl, subst, sym, ◌∙◌}
use Rattle.grid_address.specs.Place.{same_place, InSheet, Place}
use Rattle.cell_maps.specs.inner.Numbering.{AreNumbered}
use Rattle.cell_maps.specs.Numbers.{number_at, Numbers}
use Rattle.cell_maps.specs.inner.Numbering.{above}
use Rattle.cell_maps.specs.Sets.{has, Cells}
use Rattle.cell_maps.proofs.Above.{above_set}
use Rattle.cell_maps.proofs.Filled.{few_places, last_is}
use Rattle.cell_maps.proofs.Sets.{none_gone, others, removed, room, set_past, still_here}
use Rattle.cell_maps.proofs.set.CellSet.remove.Goals as goal

pub returns-in_default : goal.returns-in_default
returns-in_default c = λ d.
    subst (λ (s : Cells). has same_place s.keys d ≡ cond (same_place c.args.cell d) false (has same_place s.keys d))
    c.self.view_is
    (none_gone (above c.self.inside.gone c.self.inside.table) c.self.inside.cells.items c.self.invariant.1.0 c.args.cell
    c.in_default.ensures.none d)

-- the cells with the last one behind the others
numbered : (c : goal.After-set-arg-1)
    → AreNumbered (above c.self.inside.gone c.self.inside.table) (c.pop.new.self.items ++ c.in-Some-pop.last ∷ [])
numbered c =
    subst (AreNumbered (above c.self.inside.gone c.self.inside.table)) c.in-Some-pop.ensures.items c.self.invariant.1.0

few : (c : goal.After-set-arg-1) → c.in-Some.at < 2097152
few c =
    let most = few_places (above c.self.inside.gone c.self.inside.table) c.self.inside.cells.items
    c.self.invariant.1.0 in
    let w = slice_get_within c.self.inside.cells.items c.in-Some.at c.args.cell
    (c.self.invariant.1.0.found c.args.cell c.in-Some.at c.is_on_sheet.ensures c.in-Some.ensures.some) in
    omega (arith, most, w)

pub overflow_cast-at : goal.overflow_cast-at
overflow_cast-at c = let h = few c in omega (arith, h)

pub overflow_add-self-inside : goal.overflow_add-self-inside
overflow_add-self-inside c = let h = few c in let up_to = c.self.invariant.0 in omega (arith, h, up_to)

pub overflow_add-self-inside-in-Some-pop : goal.overflow_add-self-inside-in-Some-pop
overflow_add-self-inside-in-Some-pop c = let h = few c in let up_to = c.self.invariant.0 in omega (arith, h, up_to)

pub set-requires : goal.set-requires
set-requires c =
    let rest = c.pop.new.self.items in
    room (above c.self.inside.gone c.self.inside.table) c.in-Some-pop.last (length rest)
    ((numbered c).told (length rest) c.in-Some-pop.last (last_is rest c.in-Some-pop.last))

-- the number that the last cell gets
moved_over : (gone at : ℕ) (old new : Numbers) (last : Place)
    → ((d : Place) → InSheet d → number_at new d ≡ cond (same_place last d) (gone + at + 1) (number_at old d))
    → (d : Place) → InSheet d
    → number_at (above gone new) d ≡ cond (same_place last d) (suc at) (number_at (above gone old) d)
moved_over gone at old new last = above_set gone (gone + at + 1) (suc at) old new last (omega arith)

pub set-requires-in-Some-pop : goal.set-requires-in-Some-pop
set-requires-in-Some-pop c =
    let gone = c.self.inside.gone in
    let old = above gone c.self.inside.table in
    let mid = above gone c.set.new.self in
    let last = c.in-Some-pop.last in
    let moved = moved_over gone c.in-Some.at c.self.inside.table c.set.new.self last c.set.ensures in
    room mid c.args.cell c.in-Some.at
    (still_here old mid c.in-Some.at c.args.cell last c.is_on_sheet.ensures c.in-Some.ensures.some moved)

pub invariant_of-self : goal.invariant_of-self
invariant_of-self c =
    let gone = c.self.inside.gone in
    let old = above gone c.self.inside.table in
    let mid = above gone c.set.new.self in
    let new = above gone c.set-in-Some-pop.new.self in
    let last = c.in-Some-pop.last in
    let ok = subst (AreNumbered old) c.in-Some-pop.ensures.items c.self.invariant.1.0 in
    let moved = moved_over gone c.in-Some.at c.self.inside.table c.set.new.self last c.set.ensures in
    let taken = above_set gone 0 0 c.set.new.self c.set-in-Some-pop.new.self c.args.cell
    (omega arith) c.set-in-Some-pop.ensures in (
      c.self.invariant.0,
      (
        removed old mid new c.pop.new.self.items c.in-Some.at c.args.cell last ok c.is_on_sheet.ensures
            c.in-Some.ensures.some moved taken,
        inl c.clear.ensures.items,
      ),
    )

pub returns-then-at-len : goal.returns-then-at-len
returns-then-at-len c = λ d.
    (let gone = c.self.inside.gone in
    let old = above gone c.self.inside.table in
    let mid = above gone c.set.new.self in
    let new = above gone c.set-in-Some-pop.new.self in
    let last = c.in-Some-pop.last in
    let ok = subst (AreNumbered old) c.in-Some-pop.ensures.items c.self.invariant.1.0 in
    let moved = moved_over gone c.in-Some.at c.self.inside.table c.set.new.self last c.set.ensures in
    let taken = above_set gone 0 0 c.set.new.self c.set-in-Some-pop.new.self c.args.cell
    (omega arith) c.set-in-Some-pop.ensures in
    others old mid new c.pop.new.self.items c.in-Some.at c.args.cell last ok c.is_on_sheet.ensures
    c.in-Some.ensures.some moved taken d
    ∙ ap (λ xs. cond (same_place c.args.cell d) false (has same_place xs d)) (sym c.in-Some-pop.ensures.items)
    ∙ ap (λ (s : Cells). cond (same_place c.args.cell d) false (has same_place s.keys d)) c.self.view_is)

pub invariant_of-self-else-at-len : goal.invariant_of-self-else-at-len
invariant_of-self-else-at-len c =
    let gone = c.self.inside.gone in
    let old = above gone c.self.inside.table in
    let mid = above gone c.set.new.self in
    let new = above gone c.set-in-Some-pop.new.self in
    let rest = c.pop.new.self.items in
    let last = c.in-Some-pop.last in
    let h = c.if-at-len.false in
    let e = c.len.ensures in
    let long = c.pop.new.self.ok.0 in
    let past : length rest ≤ c.in-Some.at = omega (arith, h, e, long) in
    let ok = subst (AreNumbered old) c.in-Some-pop.ensures.items c.self.invariant.1.0 in
    let moved = moved_over gone c.in-Some.at c.self.inside.table c.set.new.self last c.set.ensures in
    let taken = above_set gone 0 0 c.set.new.self c.set-in-Some-pop.new.self c.args.cell
    (omega arith) c.set-in-Some-pop.ensures in (
      c.self.invariant.0,
      (
        subst (AreNumbered new) (set_past rest c.in-Some.at last past)
            (removed old mid new rest c.in-Some.at c.args.cell last ok c.is_on_sheet.ensures c.in-Some.ensures.some
            moved taken),
        inl c.clear.ensures.items,
      ),
    )

pub returns-else-at-len : goal.returns-else-at-len
returns-else-at-len c = λ d.
    (let gone = c.self.inside.gone in
    let old = above gone c.self.inside.table in
    let mid = above gone c.set.new.self in
    let new = above gone c.set-in-Some-pop.new.self in
    let rest = c.pop.new.self.items in
    let last = c.in-Some-pop.last in
    let h = c.if-at-len.false in
    let e = c.len.ensures in
    let long = c.pop.new.self.ok.0 in
    let past : length rest ≤ c.in-Some.at = omega (arith, h, e, long) in
    let ok = subst (AreNumbered old) c.in-Some-pop.ensures.items c.self.invariant.1.0 in
    let moved = moved_over gone c.in-Some.at c.self.inside.table c.set.new.self last c.set.ensures in
    let taken = above_set gone 0 0 c.set.new.self c.set-in-Some-pop.new.self c.args.cell
    (omega arith) c.set-in-Some-pop.ensures in
    ap (λ xs. has same_place xs d) (sym (set_past rest c.in-Some.at last past))
    ∙ others old mid new rest c.in-Some.at c.args.cell last ok c.is_on_sheet.ensures c.in-Some.ensures.some
    moved taken d
    ∙ ap (λ xs. cond (same_place c.args.cell d) false (has same_place xs d)) (sym c.in-Some-pop.ensures.items)
    ∙ ap (λ (s : Cells). cond (same_place c.args.cell d) false (has same_place s.keys d)) c.self.view_is)
