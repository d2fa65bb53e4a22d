use Rattle.std.proofs.Common.{◌≡◌, false, length}
use Rattle.macro_text.specs.Listed.{ends_quoted}
use Rattle.macro_text.proofs.listed.ends_quoted.Given as goal

abbrev pub invariant-loop-name : goal.invariant-loop-name
invariant-loop-name l = ends_quoted l.quoted l.name ≡ ends_quoted false l.fn.name

abbrev pub decreases-loop-name : goal.decreases-loop-name
decreases-loop-name l = length l.name
