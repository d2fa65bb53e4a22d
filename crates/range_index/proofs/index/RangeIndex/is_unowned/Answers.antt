use Rattle.std.specs.Prelude.{◌≡◌, false, []}
use Rattle.std.specs.FinMap.{from_entries}
use Rattle.std.proofs.Common.{ap, sym, ◌∙◌, arith}
use Rattle.range_index.specs.Owners.{owners_of, Owners}
use Rattle.range_index.proofs.Around.{no_owner, outside}
use Rattle.range_index.proofs.index.RangeIndex.is_unowned.Goals as goal

pub returns-then-not-holds : goal.returns-then-not-holds
returns-then-not-holds c = λ _.
    (let m : Owners = from_entries c.self.inside.owners.entries in
    let none : owners_of m c.args.cell ≡ [] = no_owner m c.args.cell
    (outside m c.self.inside.hull c.args.cell c.self.invariant.1 (sym c.holds.ensures ∙ c.if-not-holds.true)) in
    sym (ap (λ (m : Owners). owners_of m c.args.cell) c.self.view_is) ∙ none)

pub returns-else-not-holds : goal.returns-else-not-holds
returns-else-not-holds c = λ yes.
    (let m : Owners = from_entries c.self.inside.owners.entries in
    let no : c.has_owner.result ≡ false = grind (arith, yes) in
    let none : owners_of m c.args.cell ≡ [] = no_owner m c.args.cell (c.has_owner.ensures no) in
    sym (ap (λ (m : Owners). owners_of m c.args.cell) c.self.view_is) ∙ none)
