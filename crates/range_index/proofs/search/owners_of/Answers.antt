use Rattle.std.specs.Prelude.{◌≡◌, IfOk, List}
use Rattle.std.specs.FinMap.{from_entries}
use Rattle.std.proofs.Common.{subst}
use Rattle.grid_address.specs.Place.{Place}
use Rattle.range_index.specs.Owners.{Owners}
use Rattle.range_index.proofs.Found.{all_owners}
use Rattle.range_index.proofs.Listed.{listed}
use Rattle.range_index.proofs.search.owners_of.Goals as goal

pub returns : goal.returns
returns c =
    let m : Owners = from_entries c.args.owners.now.entries in
    subst (λ (ks : List Place). IfOk c.listed.result (λ l. l ≡ ks)) (listed c.args.cell c.args.owners.now.entries
    c.len-owners.ensures.ordered c.in_ok-found.found c.len-found.ensures.ordered c.in_ok-found.ensures.owners
    (all_owners m c.args.cell c.args.registrations.now.keys c.args.sizes.now.keys c.in_ok-found.found.keys c.requires
    c.in_ok-found.ensures.all))
    c.listed.ensures
