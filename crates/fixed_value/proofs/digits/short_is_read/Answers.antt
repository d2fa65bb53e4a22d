use Rattle.fixed_value.proofs.Short.{read_back}
use Rattle.fixed_value.proofs.digits.short_is_read.Goals as goal

pub returns : goal.returns
returns c v places within enough = read_back v places within enough
