use Rattle.fixed_value.proofs.Written.{read_back}
use Rattle.fixed_value.proofs.digits.written_is_read.Goals as goal

pub returns : goal.returns
returns c v places within enough = read_back v places within enough
