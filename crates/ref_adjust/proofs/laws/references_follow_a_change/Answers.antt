use Rattle.ref_adjust.proofs.Following.{all_follow, changes_apart, changes_stay}
use Rattle.ref_adjust.specs.Lines.{place_shifted}
use Rattle.ref_adjust.proofs.laws.references_follow_a_change.Goals as goal

pub returns-clause-follow : goal.returns-clause-follow
returns-clause-follow c change lines = all_follow (place_shifted change) (changes_stay change)

pub returns-clause-inside : goal.returns-clause-inside
returns-clause-inside c change lines = changes_stay change

pub returns-clause-apart : goal.returns-clause-apart
returns-clause-apart c change lines = changes_apart change
