use Rattle.grid_address.specs.Place.{same_place}
use Rattle.cell_maps.specs.Sets.{has}
use Rattle.recalculation.proofs.Contents.{formulas_same}
use Rattle.recalculation.proofs.Ends.{right_plain}
use Rattle.recalculation.specs.Context.{seen_context}
use Rattle.recalculation.proofs.recalculation.recalc.Goals as goal

pub returns-in_ok-circular-in-Natural-clause-right : goal.returns-in_ok-circular-in-Natural-clause-right
returns-in_ok-circular-in-Natural-clause-right g c =
    λ _ plain. right_plain g.E.Means.meaning (seen_context c.args.context.now)
    c.args.store.now c.recalc_natural.new.store (has same_place c.recalc_natural.new.dirty.keys)
    (formulas_same c.args.store.now c.recalc_natural.new.store c.recalc_natural.ensures.contents)
    c.in_ok-circular-in-Natural.ensures.stays c.recalc_natural.ensures.sound plain
