-- References and formulas whose cells have gone elsewhere.
use Rattle.std.specs.Prelude.{Option, Some, None}
use Rattle.grid_address.specs.Axes.{is_fixed, Reference}
use Rattle.grid_address.specs.Leads.{reference_to, resolve}
use Rattle.grid_address.specs.Place.{Extent, Place}
use Rattle.formula_tree.specs.Redirected.{redirected}
use Rattle.formula_tree.specs.Tree.{Tree}
use Rattle.ref_adjust.specs.declared.change.Change.{Change}
use Rattle.ref_adjust.specs.Lines.{place_shifted}
use Rattle.ref_adjust.specs.Moves.{place_moved}

-- a reference of the same kind, seen from a cell, to a place; none to no place
abbrev pub reference_like : Reference → Place → Option Place → Option Reference
reference_like r at (Some p) = Some (reference_to p at (is_fixed r.col) (is_fixed r.row))
reference_like r at None = None

-- the reference seen from the new cell, to where the place that it names from the old cell has gone
abbrev pub adjusted : (Place → Option Place) → Place → Place → Reference → Option Reference
adjusted goes old_at new_at r = reference_like r new_at (goes (resolve r old_at))

-- a formula whose cell has gone from the old to the new place, after a move
abbrev pub formula_moved : Extent → Place → Place → Place → Tree → Tree
formula_moved from to old_at new_at t = redirected (adjusted (place_moved from to) old_at new_at) t

-- and after lines were inserted or deleted
abbrev pub formula_shifted : Change → Place → Place → Tree → Tree
formula_shifted change old_at new_at t = redirected (adjusted (place_shifted change) old_at new_at) t
