use Rattle.std.proofs.Common.{◌≡◌, ◌-◌, ◌≤◌}
use Rattle.macro_words.specs.Items.{items_at, items_from, most_items}
use Rattle.macro_words.proofs.items.items_at.Given as goal

abbrev pub invariant-loop-place : goal.invariant-loop-place
invariant-loop-place g l = record {
  within : l.place ≤ most_items;
  counted : items_from (g.K.Look.sight l.look) l.first l.place (most_items - l.place)
      ≡ items_at (g.K.Look.sight l.look) l.first;
}
