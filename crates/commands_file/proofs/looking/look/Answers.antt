use Rattle.std.specs.Prelude.{◌≡◌, ℕ, Bool, List, Option, Some}
use Rattle.std.proofs.Common.{ap, inl, refl, subst, sym, ◌∙◌}
use Rattle.outside_world.specs.FileNames.{file_name}
use Rattle.outside_world.specs.Shelf.{has_file}
use Rattle.outside_world.specs.declared.file_name.Ext.{Ext}
use Rattle.commands_file.specs.Calls.{asks, failed, shelf_view, there, HasBrokenOver}
use Rattle.commands_file.specs.Commands.{kind_of, looked_at, named, HasLooked}
use Rattle.commands_file.specs.declared.looking.Looked.TheVariants.{There}
use Rattle.commands_file.proofs.Broken.{memory_stands, read_unfinished}
use Rattle.commands_file.proofs.looking.look.Goals as goal

pub returns-in-Ok-clause-looked : goal.returns-in-Ok-clause-looked
returns-in-Ok-clause-looked g c =
    let kind : Ext = kind_of c.args.action in
    let is : Some c.in-Some.name ≡ named kind c.args.answers.now =
    sym c.in-Some.is ∙ c.with.ensures ∙ ap (λ (e : Ext). file_name e c.line_at.result.now) c.kind_of.ensures
    ∙ ap (file_name kind) c.line_at.ensures in
    subst (λ (o : Option (List ℕ)). HasLooked (looked_at o) (There c.in-Ok.there)
    (shelf_view (g.S.Shelf.holds c.args.shelf.now) (g.S.Shelf.faults c.args.shelf.now))
    (shelf_view (g.S.Shelf.holds c.has.new.self) (g.S.Shelf.faults c.has.new.self))) is (record {
      reply = there c.in-Ok.there;
      end = refl;
      answered = (_, record { told = c.in-Ok.ensures.held; faults = c.in-Ok.ensures.cause }, refl);
    })

pub returns-in-Err-Memory-clause-memory : goal.returns-in-Err-Memory-clause-memory
returns-in-Err-Memory-clause-memory g c =
    let kind : Ext = kind_of c.args.action in
    let is : Some c.in-Some.name ≡ named kind c.args.answers.now =
    sym c.in-Some.is ∙ c.with.ensures ∙ ap (λ (e : Ext). file_name e c.line_at.result.now) c.kind_of.ensures
    ∙ ap (file_name kind) c.line_at.ensures in
    subst (λ (o : Option (List ℕ)). HasBrokenOver (λ reply. (looked_at o reply).calls)
    (shelf_view (g.S.Shelf.holds c.args.shelf.now) (g.S.Shelf.faults c.args.shelf.now))
    (shelf_view (g.S.Shelf.holds c.has.new.self) (g.S.Shelf.faults c.has.new.self))) is (record {
      answers = failed;
      broke = inl (read_unfinished (asks c.in-Some.name) (has_file c.in-Some.name) c.in-Some.name _ _ _ _ _
          c.in-Err-Memory.ensures.held
          (memory_stands Bool _ _ _ c.in-Err-Memory.field-0-is c.in-Err-Memory.ensures.cause));
    })
