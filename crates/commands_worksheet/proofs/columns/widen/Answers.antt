use Rattle.std.proofs.Common.{rules, refl}
use Rattle.commands_worksheet.proofs.Acts.{pointer_widened}
use Rattle.commands_worksheet.proofs.columns.widen.Goals as goal

pub returns : goal.returns
returns c =
    λ n. record {
      end = refl;
      did = pointer_widened c.args.sheet.now c.set_width.new.self _ c.args.width (search rules) c.set_width.ensures n;
    }
