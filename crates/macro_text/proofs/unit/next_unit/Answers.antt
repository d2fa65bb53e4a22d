use Rattle.std.proofs.Common.{◌≡◌, suc, ◌+◌, ◌-◌, ◌<◌, refl, sym, subst, ◌∙◌, arith}
use Rattle.std.specs.Prelude.{IfSome, Some}
use Rattle.formula_parts.specs.Scenes.{outlook_of}
use Rattle.macro_text.specs.Texts.{macro_text}
use Rattle.macro_text.specs.Units.{command_in}
use Rattle.macro_text.specs.declared.unit.WordOutcome.{WordOutcome}
use Rattle.macro_text.proofs.Units.{within_none, within_now, within_passed}
use Rattle.macro_text.proofs.unit.next_unit.Goals as goal

pub loop-turn-init : goal.loop-turn-init
loop-turn-init g c = refl

pub returns-in-Now : goal.returns-in-Now
returns-in-Now g c =
    let w = outlook_of (g.K.Look.sight c.args.look.now) c.args.scene.now in
    let left : 0 < 241 - c.loop-turn.turn = omega (arith, c.loop-turn-test.true) in
    record {
      unit = sym (within_now (241 - c.loop-turn.turn) w c.loop-turn.place c.in-Now.unit c.in-Now.next left
          (sym c.in_ok-unit.ensures.outcome ∙ c.in-Now.is))
          ∙ c.loop-turn.invariant;
      kept = subst (λ (t : WordOutcome). IfSome (command_in t)
          (λ at. macro_text (g.K.Look.sight c.args.look.now) at.cell ≡ Some c.outcome_at.new.kept))
          c.in-Now.is c.in_ok-unit.ensures.kept;
    }

pub loop-turn-preserved : goal.loop-turn-preserved
loop-turn-preserved g c =
    let w = outlook_of (g.K.Look.sight c.args.look.now) c.args.scene.now in
    let left : 241 - c.loop-turn.turn ≡ suc (241 - (c.loop-turn.turn + 1)) = omega (arith, c.loop-turn-test.true) in
    sym (within_passed (241 - c.loop-turn.turn) (241 - (c.loop-turn.turn + 1)) w c.loop-turn.place c.in-Passed.next left
    (sym c.in_ok-unit.ensures.outcome ∙ c.in-Passed.is))
    ∙ c.loop-turn.invariant

pub returns : goal.returns
returns g c =
    let w = outlook_of (g.K.Look.sight c.args.look.now) c.args.scene.now in
    let none : 241 - c.loop-turn.turn ≡ 0 = omega (arith, c.loop-turn-test.false) in
    record {
      unit = within_none (241 - c.loop-turn.turn) w c.loop-turn.place none ∙ c.loop-turn.invariant;
      kept = tt;
    }
