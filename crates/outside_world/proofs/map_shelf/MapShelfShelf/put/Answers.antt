use Rattle.std.proofs.Common.{Some, Err, subst}
use Rattle.outside_world.specs.Shelf.{OnShelf, HasPut}
use Rattle.outside_world.specs.Told.{shelf_told}
use Rattle.outside_world.proofs.Found.{unchanged_put}
use Rattle.outside_world.proofs.map_shelf.MapShelfShelf.put.Goals as goal

pub returns-then-begin-clause-held : goal.returns-then-begin-clause-held
returns-then-begin-clause-held c =
    subst (λ (s : OnShelf). HasPut c.args.name.now c.args.bytes.now (Some s) (Some (shelf_told c.fail.new.self))
    (Err c.fail.result)) c.begin.ensures.told (c.fail.ensures.put c.args.bytes.now)

pub returns-in_default-clause-held : goal.returns-in_default-clause-held
returns-in_default-clause-held c = unchanged_put c.args.name.now c.args.bytes.now _ _ c.begin.ensures.told
