use Rattle.std.proofs.Common.{◌≡◌, ◌-◌}
use Rattle.macro_words.specs.Items.{chosen_by, chosen_from}
use Rattle.macro_words.proofs.items.chosen_by.Given as goal

abbrev pub invariant-loop-place : goal.invariant-loop-place
invariant-loop-place g l =
    chosen_from (g.K.Look.sight l.look) l.menu.first l.byte l.place (l.menu.count - l.place)
    ≡ chosen_by (g.K.Look.sight l.look) l.menu l.byte
