use Rattle.sheet_gen.proofs.OneSheet.{one_sheet}
use Rattle.sheet_gen.proofs.one_sheet_is_generated.Goals as goal

pub returns : goal.returns
returns c = one_sheet
