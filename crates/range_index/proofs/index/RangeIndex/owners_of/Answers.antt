use Rattle.std.specs.Prelude.{◌≡◌, [], IfOk}
use Rattle.std.specs.FinMap.{from_entries}
use Rattle.std.proofs.Common.{ap, subst, sym, ◌∙◌}
use Rattle.range_index.specs.Owners.{owners_of, Owners}
use Rattle.range_index.proofs.Around.{no_owner, outside}
use Rattle.range_index.proofs.index.RangeIndex.owners_of.Goals as goal

pub returns-then-not-holds : goal.returns-then-not-holds
returns-then-not-holds c =
    let m : Owners = from_entries c.self.inside.owners.entries in
    let none : owners_of m c.args.cell ≡ [] = no_owner m c.args.cell
    (outside m c.self.inside.hull c.args.cell c.self.invariant.1 (sym c.holds.ensures ∙ c.if-not-holds.true)) in
    c.new.ensures ∙ sym none ∙ ap (λ (m : Owners). owners_of m c.args.cell) c.self.view_is

pub returns : goal.returns
returns c = subst (λ (m : Owners). IfOk c.owners_of.result (λ l. l ≡ owners_of m c.args.cell)) c.self.view_is
    c.owners_of.ensures
