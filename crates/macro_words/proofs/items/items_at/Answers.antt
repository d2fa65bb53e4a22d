use Rattle.std.specs.Prelude.{is_some}
use Rattle.std.proofs.Common.{◌≡◌, ℕ, suc, ◌+◌, ◌-◌, false, true, refl, sym, ap, ◌∙◌, arith}
use Rattle.macro_words.specs.Items.{item_text}
use Rattle.macro_words.proofs.Counting.{last_item, no_item, one_item}
use Rattle.macro_words.proofs.items.items_at.Goals as goal

pub loop-place-init : goal.loop-place-init
loop-place-init g c = record { within = omega arith; counted = refl }

pub returns-in-None : goal.returns-in-None
returns-in-None g c =
    let s = g.K.Look.sight c.args.look.now in
    let n : ℕ = c.loop-place.place in
    let left : 8 - n ≡ suc (8 - (n + 1)) = omega (arith, c.loop-place-test.true) in
    let none : is_some (item_text s c.args.first n) ≡ false = ap is_some c.in-None.ensures.none in
    sym (no_item s c.args.first n (8 - n) (8 - (n + 1)) left none) ∙ c.loop-place.invariant.counted

pub loop-place-preserved : goal.loop-place-preserved
loop-place-preserved g c =
    let s = g.K.Look.sight c.args.look.now in
    let n : ℕ = c.loop-place.place in
    let left : 8 - n ≡ suc (8 - (n + 1)) = omega (arith, c.loop-place-test.true) in
    let is : is_some (item_text s c.args.first n) ≡ true = ap is_some c.in-Some.ensures.some in
    record {
      within = omega (arith, c.loop-place-test.true);
      counted = sym (one_item s c.args.first n (8 - n) (8 - (n + 1)) left is) ∙ c.loop-place.invariant.counted;
    }

pub returns : goal.returns
returns g c =
    let s = g.K.Look.sight c.args.look.now in
    let n : ℕ = c.loop-place.place in
    let all : n ≡ 8 = omega (arith, c.loop-place.invariant.within, c.loop-place-test.false) in
    let none : 8 - n ≡ 0 = omega (arith, all) in
    sym all ∙ sym (last_item s c.args.first n (8 - n) none) ∙ c.loop-place.invariant.counted
