use Rattle.std.specs.Prelude.{ℕ, ◌≡◌, IfOk, List, None, Option}
use Rattle.std.proofs.Common.{ap, subst, sym, ◌∙◌}
use Rattle.command_desk.specs.Acting.{HasActed}
use Rattle.command_desk.specs.Answered.{line_at}
use Rattle.commands_range.specs.Commands.{span_named, unless_faulty}
use Rattle.range_names.specs.Names.{fault_of}
use Rattle.range_names.specs.declared.fault.NameFault.{NameFault}
use Rattle.work_sheet.specs.Seen.{of_worksheet, Sheet}
use Rattle.commands_range.proofs.naming.create_name.Goals as goal

pub returns-in-None : goal.returns-in-None
returns-in-None c =
    let s : Sheet = of_worksheet c.args.sheet.now in
    let name : List ℕ = line_at c.args.answers.now 0 in
    let is : fault_of name ≡ None =
    ap fault_of (sym c.line_at-name.ensures) ∙ sym c.fault_of.ensures.fault ∙ c.in-None.is in
    subst (λ (o : Option NameFault). IfOk c.name_span.result (λ end. (n : ℕ) →
    HasActed (unless_faulty o (span_named name c.args.answers.now s) s) end c.args.sheet.now c.name_span.new.sheet n
    n)) (sym is)
    (subst (λ (l : List ℕ). IfOk c.name_span.result (λ end. (n : ℕ) →
    HasActed (span_named l c.args.answers.now s) end c.args.sheet.now c.name_span.new.sheet n n))
    c.line_at-name.ensures c.name_span.ensures)
