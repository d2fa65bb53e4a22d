use Rattle.std.proofs.Common.{pos, sym, ◌∙◌}
use Rattle.serial_date.proofs.DayNumbers.{number_in_range}
use Rattle.serial_date.proofs.moment.moment_of.Goals as goal

pub invariant_of-result : goal.invariant_of-result
invariant_of-result c = record {
  day_in_range =
      λ n is. number_in_range c.date.result.year (pos c.date.result.month) (pos c.date.result.day) n
      (sym c.day_of_date.ensures ∙ is);
  second_in_range = c.second_of.ensures.below;
}
