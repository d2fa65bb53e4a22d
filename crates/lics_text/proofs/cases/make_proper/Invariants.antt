use Rattle.std.proofs.Common.{◌≡◌, ◌++◌, take, drop, length}
use Rattle.lics_text.specs.Texts.{proper_after, proper_of}
use Rattle.lics_text.proofs.cases.make_proper.Given as goal

abbrev pub invariant-loop-at : goal.invariant-loop-at
invariant-loop-at l = record {
  rest : drop l.at l.bytes.items ≡ drop l.at l.initial.bytes.items;
  done : take l.at l.bytes.items ++ proper_after l.inside (drop l.at l.initial.bytes.items)
      ≡ proper_of l.initial.bytes.items;
  size : length l.bytes.items ≡ length l.initial.bytes.items;
}
