use Rattle.std.specs.Char.{to_ascii_uppercase}
use Rattle.std.proofs.Common.{◌≡◌, ◌++◌, map, length}
use Rattle.key_words.specs.Names.{looked_up}
use Rattle.key_words.proofs.name.spelled.Given as goal

abbrev pub invariant-loop-rest : goal.invariant-loop-rest
invariant-loop-rest l = record {
  capitals : map to_ascii_uppercase l.letters ≡ l.letters;
  same : looked_up (l.letters ++ map to_ascii_uppercase l.rest)
      ≡ looked_up (l.fn.letters ++ map to_ascii_uppercase l.fn.rest);
}

abbrev pub decreases-loop-rest : goal.decreases-loop-rest
decreases-loop-rest l = length l.rest
