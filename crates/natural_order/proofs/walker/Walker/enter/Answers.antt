use Rattle.std.proofs.Common.{refl}
use Rattle.natural_order.proofs.walker.Walker.enter.Goals as goal

pub returns-in_err-push-clause-done : goal.returns-in_err-push-clause-done
returns-in_err-push-clause-done g c = refl

pub returns-clause-done : goal.returns-clause-done
returns-clause-done g c = refl
