use Rattle.session_core.proofs.Reports.{keeps}
use Rattle.session_core.proofs.laws.only_print_changes_what_reports_need.Goals as goal

pub returns : goal.returns
returns c a answers scene d reply other = keeps a answers scene d reply other
