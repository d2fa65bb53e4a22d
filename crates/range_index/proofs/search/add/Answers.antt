use Rattle.range_index.proofs.Registrations.{grows}
use Rattle.range_index.proofs.Found.{gained_only}
use Rattle.grid_address.specs.Place.{place_cmp}
use Rattle.range_index.proofs.search.add.Goals as goal

pub returns-clause-kept : goal.returns-clause-kept
returns-clause-kept c = λ o h. grows place_cmp _ _ c.args.owner o (c.in_ok-insert.ensures.updates.0 o) h

pub returns-clause-only : goal.returns-clause-only
returns-clause-only c = λ q h. gained_only _ _ c.args.owner q (c.in_ok-insert.ensures.updates.0 q) h
