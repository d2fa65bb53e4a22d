use Rattle.ref_adjust.proofs.Following.{all_follow, moves_apart, moves_stay}
use Rattle.ref_adjust.specs.Moves.{place_moved}
use Rattle.ref_adjust.proofs.laws.references_follow_a_move.Goals as goal

pub returns-clause-follow : goal.returns-clause-follow
returns-clause-follow c from to fits = all_follow (place_moved from to) (moves_stay from to fits)

pub returns-clause-inside : goal.returns-clause-inside
returns-clause-inside c = moves_stay

pub returns-clause-apart : goal.returns-clause-apart
returns-clause-apart c = moves_apart
