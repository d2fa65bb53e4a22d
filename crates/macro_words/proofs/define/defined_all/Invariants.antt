use Rattle.std.proofs.Common.{◌≡◌, length}
use Rattle.macro_words.specs.Rows.{defined_all}
use Rattle.macro_words.specs.Sources.{outlook_from}
use Rattle.macro_words.proofs.Defining.{joined}
use Rattle.macro_words.proofs.define.defined_all.Given as goal

abbrev pub invariant-loop-targets : goal.invariant-loop-targets
invariant-loop-targets g l =
    joined l.writes (defined_all (outlook_from g.K.Look l.from) l.at l.targets l.given)
    ≡ defined_all (outlook_from g.K.Look l.from) l.at l.fn.targets l.fn.given

abbrev pub decreases-loop-targets : goal.decreases-loop-targets
decreases-loop-targets g l = length l.targets
