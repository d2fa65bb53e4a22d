use Rattle.std.proofs.Common.{◌∷◌, ap, ◌∙◌, refl, Option, List, ℕ}
use Rattle.outside_world.specs.Journal.{told_by}
use Rattle.outside_world.specs.Told.{shelf_told}
use Rattle.outside_world.specs.declared.faults.ShelfFault.TheVariants as fault
use Rattle.outside_world.specs.declared.map_shelf.Entry.TheVariants as it
use Rattle.outside_world.proofs.Found.{no_put, unchanged_put}
use Rattle.outside_world.proofs.map_shelf.MapShelf.fail.Goals as goal

pub returns-in_default-clause-put : goal.returns-in_default-clause-put
returns-in_default-clause-put c = λ bytes. unchanged_put c.args.name.now bytes _ _ refl

pub returns-in-Ok-enter-clause-put : goal.returns-in-Ok-enter-clause-put
returns-in-Ok-enter-clause-put c = λ bytes. no_put c.args.name.now bytes (shelf_told c.args.self.now) _ fault.Failed
    (λ _. ap told_by (c.in-Ok-enter.ensures.ok
    ∙ ap (λ (h : Option (List ℕ)). it.Failed h ∷ c.args.self.now.journal.items) c.in-Ok.ensures)) (λ e. absurd cc)
