use Rattle.std.proofs.Common.{ap, sym, ◌∙◌}
use Rattle.macro_words.specs.Rows as spec
use Rattle.macro_words.specs.Sources.{outlook_from}
use Rattle.macro_words.specs.declared.files.FileWord.TheVariants as asked
use Rattle.macro_words.proofs.table.command_row.Goals as goal

pub returns-in-ReadLn : goal.returns-in-ReadLn
unfolding spec.command_row
returns-in-ReadLn g c =
    let w = outlook_from g.K.Look c.args.from.now in
    let at = c.args.at.now in
    c.read_line_row.ensures
    ∙ ap (λ l. spec.on_place w (spec.arg l 0) (λ x. spec.asks at (asked.ReadLine x))) c.list-in-ReadLn.ensures
    ∙ ap (λ k. spec.command_row w c.args.from.now.global.0 c.args.running.now at k c.args.given.now)
    (sym c.in-ReadLn.is)

pub returns-in-FileSize : goal.returns-in-FileSize
unfolding spec.command_row
returns-in-FileSize g c =
    let w = outlook_from g.K.Look c.args.from.now in
    let at = c.args.at.now in
    c.size_row.ensures
    ∙ ap (λ l. spec.on_place w (spec.arg l 0) (λ x. spec.asks at (asked.Size x))) c.list-in-FileSize.ensures
    ∙ ap (λ k. spec.command_row w c.args.from.now.global.0 c.args.running.now at k c.args.given.now)
    (sym c.in-FileSize.is)

pub returns-in-GetPos : goal.returns-in-GetPos
unfolding spec.command_row
returns-in-GetPos g c =
    let w = outlook_from g.K.Look c.args.from.now in
    let at = c.args.at.now in
    c.position_row.ensures
    ∙ ap (λ l. spec.on_place w (spec.arg l 0) (λ x. spec.asks at (asked.Position x))) c.list-in-GetPos.ensures
    ∙ ap (λ k. spec.command_row w c.args.from.now.global.0 c.args.running.now at k c.args.given.now)
    (sym c.in-GetPos.is)
