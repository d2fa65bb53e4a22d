use Rattle.sheet_shifts.proofs.Standing.{cells_came, cells_go}
use Rattle.sheet_shifts.proofs.laws.cells_stand_where_they_went.Goals as goal

pub returns-clause-go : goal.returns-clause-go
returns-clause-go c shift m is held = cells_go shift is m held

pub returns-clause-came : goal.returns-clause-came
returns-clause-came c shift m is held = cells_came shift is m held
