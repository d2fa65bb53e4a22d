use Rattle.std.specs.Prelude.{◌≡◌, refl, List, None, Ok, Option, Some, ℕ}
use Rattle.std.proofs.Common.{rules, subst}
use Rattle.std.proofs.lemmas.Result.{IfOk-weaker}
use Rattle.list_lemmas.proofs.Results.{on_err_always}
use Rattle.commands_file.specs.Calls.{gets, loaded}
use Rattle.commands_file.proofs.Broken.{memory_stands, read_unfinished}
use Rattle.outside_world.specs.Shelf.{file_in, HasRead}
use Rattle.wk1_file.specs.Files.{IsFile}
use Rattle.commands_file.proofs.loading.load.Goals as goal

pub returns-in-Ok-Some-clause-loaded : goal.returns-in-Ok-Some-clause-loaded
returns-in-Ok-Some-clause-loaded g c =
    let some : c.in-Ok-Some.field-0 ≡ Some c.in-Ok-Some.bytes = search rules in
    IfOk-weaker c.loaded_of.result _ _
    (λ came h. record {
      reply = loaded (Some h.0);
      came_so = h.2;
      answered = record {
        told = (
          c.in-Ok-Some.bytes,
          subst (λ (b : List ℕ). IsFile b h.0) c.bytes-in-Ok-Some.ensures h.1,
          subst (λ (o : Option (List ℕ)). HasRead (file_in c.args.name.now) c.args.name.now
              (g.S.Shelf.holds c.args.shelf.now)
              (g.S.Shelf.holds c.get.new.self) (Ok o)) some c.in-Ok-Some.ensures.held,
        );
        faults = c.in-Ok-Some.ensures.cause;
      };
    }) c.loaded_of.ensures

pub returns-in-Ok-Some-clause-memory : goal.returns-in-Ok-Some-clause-memory
returns-in-Ok-Some-clause-memory g c = on_err_always c.loaded_of.result
    (read_unfinished (gets c.args.name.now) (file_in c.args.name.now) c.args.name.now _ _ _ _ _
    c.in-Ok-Some.ensures.held c.in-Ok-Some.ensures.cause)

pub returns-in-Ok-None-clause-loaded : goal.returns-in-Ok-None-clause-loaded
returns-in-Ok-None-clause-loaded g c =
    let none : c.in-Ok-None.field-0 ≡ None = search rules in
    record {
      reply = loaded None;
      came_so = refl;
      answered = record {
        told =
            subst (λ (o : Option (List ℕ)). HasRead (file_in c.args.name.now) c.args.name.now
            (g.S.Shelf.holds c.args.shelf.now)
            (g.S.Shelf.holds c.get.new.self) (Ok o)) none c.in-Ok-None.ensures.held;
        faults = c.in-Ok-None.ensures.cause;
      };
    }

pub returns-in-Err-Memory-clause-memory : goal.returns-in-Err-Memory-clause-memory
returns-in-Err-Memory-clause-memory g c =
    read_unfinished (gets c.args.name.now) (file_in c.args.name.now) c.args.name.now _ _ _ _ _
    c.in-Err-Memory.ensures.held
    (memory_stands (Option (List ℕ)) _ _ _ c.in-Err-Memory.field-0-is c.in-Err-Memory.ensures.cause)
