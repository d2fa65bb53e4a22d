use Rattle.std.proofs.Common.{◌≡◌, ℕ, suc, ◌+◌, ◌-◌, sym, ◌∙◌, arith}
use Rattle.macro_words.proofs.Counting.{chosen_here, chosen_later, none_chosen}
use Rattle.macro_words.proofs.items.chosen_by.Goals as goal

pub returns-then-item_begins : goal.returns-then-item_begins
returns-then-item_begins g c =
    let s = g.K.Look.sight c.args.look.now in
    let first = c.args.menu.now.first in
    let n : ℕ = c.loop-place.place in
    let more : ℕ = c.args.menu.now.count - n in
    let rest : ℕ = c.args.menu.now.count - (n + 1) in
    let left : more ≡ suc rest = omega (arith, c.loop-place-test.true) in
    sym (chosen_here s first c.args.byte n more rest left (sym c.item_begins.ensures ∙ c.if-item_begins.true))
    ∙ c.loop-place.invariant

pub loop-place-preserved : goal.loop-place-preserved
loop-place-preserved g c =
    let s = g.K.Look.sight c.args.look.now in
    let first = c.args.menu.now.first in
    let n : ℕ = c.loop-place.place in
    let more : ℕ = c.args.menu.now.count - n in
    let rest : ℕ = c.args.menu.now.count - (n + 1) in
    let left : more ≡ suc rest = omega (arith, c.loop-place-test.true) in
    sym (chosen_later s first c.args.byte n more rest left (sym c.item_begins.ensures ∙ c.if-item_begins.false))
    ∙ c.loop-place.invariant

pub returns : goal.returns
returns g c =
    let s = g.K.Look.sight c.args.look.now in
    let n : ℕ = c.loop-place.place in
    let more : ℕ = c.args.menu.now.count - n in
    let none : more ≡ 0 = omega (arith, c.loop-place-test.false) in
    sym (none_chosen s c.args.menu.now.first c.args.byte n more none) ∙ c.loop-place.invariant
