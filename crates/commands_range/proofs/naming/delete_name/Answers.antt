use Rattle.std.specs.Prelude.{ℕ, IfOk, Option}
use Rattle.std.specs.FinMap as map
use Rattle.std.proofs.Common.{subst, sym, ◌∙◌}
use Rattle.command_desk.specs.Acting.{HasActed}
use Rattle.commands_range.specs.Commands.{taken_away, unless_faulty}
use Rattle.range_names.specs.Names.{key_of}
use Rattle.range_names.specs.declared.fault.NameFault.{NameFault}
use Rattle.work_sheet.specs.Seen.{of_worksheet, Sheet}
use Rattle.commands_range.proofs.naming.delete_name.Goals as goal

pub returns-in-None : goal.returns-in-None
returns-in-None c =
    let s : Sheet = of_worksheet c.args.sheet.now in
    subst (λ (o : Option NameFault). IfOk c.take_away.result (λ end. (n : ℕ) →
    HasActed (unless_faulty o (taken_away (map.get s.names (key_of c.args.name.now)) c.args.name.now s) s) end
    c.args.sheet.now c.take_away.new.sheet n n)) (sym (sym c.fault_of.ensures.fault ∙ c.in-None.is))
    c.take_away.ensures
