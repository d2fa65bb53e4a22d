use Rattle.std.specs.Prelude.{refl}
use Rattle.std.proofs.lemmas.Result.{IfOk-weaker}
use Rattle.commands_range.proofs.acting.act_on.Goals as goal

pub returns-in-NameDelete : goal.returns-in-NameDelete
returns-in-NameDelete c =
    IfOk-weaker c.delete_name.result _ _ (λ end acts. record {
      same = record { sheet = refl; scene = refl; tally = refl };
      acted = rw c.in-NameDelete.is (rw (← c.line_at.ensures) (acts c.args.work.now.tally.now.count));
    }) c.delete_name.ensures

pub returns-in-NameReset : goal.returns-in-NameReset
returns-in-NameReset c = record {
  same = record { sheet = refl; scene = refl; tally = refl };
  acted = rw c.in-NameReset.is (c.reset_names.ensures c.args.work.now.tally.now.count);
}
