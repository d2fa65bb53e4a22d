use Rattle.std.specs.Prelude.{◌≡◌, ℕ, [], List, true, length}
use Rattle.std.proofs.Common.{ap, arith, rules, sym, vec_len, ◌∙◌}
use Rattle.std.proofs.lemmas.Bool.{eqb-true}
use Rattle.std.proofs.lemmas.List.{nil_from_length}
use Rattle.natural_order.specs.Machine.{fuel, walked}
use Rattle.natural_order.specs.inner.Stack.{finish}
use Rattle.natural_order.specs.declared.walker.Frame.{Frame}
use Rattle.natural_order.proofs.Machine.{begun_walk, on-begun}
use Rattle.natural_order.proofs.walker.Walker.walk.Goals as goal

pub visit-requires-clause-on : goal.visit-requires-clause-on
visit-requires-clause-on g c =
    on-begun (g.G.Precedents.pre c.args.graph.now) (g.G.Precedents.all c.args.graph.now) c.args.self.now.done.keys
    c.args.self.now.path.keys c.args.self.now.stack.items c.requires.clear c.requires.idle

pub steps-init : goal.steps-init
steps-init g c = record {
  same = c.in_ok-visit.ensures.same
      ∙ begun_walk (g.G.Precedents.pre c.args.graph.now) (fuel (g.G.Precedents.all c.args.graph.now))
      c.args.self.now.stack.items (walked c.args.self.now.done c.args.self.now.circular) c.args.root c.requires.idle;
  on = c.in_ok-visit.ensures.on;
}

pub steps-preserved : goal.steps-preserved
steps-preserved g c = record { same = c.in_ok-step.ensures.same ∙ c.steps.invariant.same; on = c.in_ok-step.ensures.on }

pub returns-clause-walked : goal.returns-clause-walked
returns-clause-walked g c =
    let over : c.is_empty.result ≡ true = search rules in
    let last : ◌≡◌ {A = ℕ} (vec_len c.steps.self.stack) 0 =
    eqb-true (vec_len c.steps.self.stack) 0 (sym c.is_empty.ensures ∙ over) in
    let ok = c.steps.self.stack.ok.0 in
    let none : length c.steps.self.stack.items ≡ 0 = omega (arith, last, ok) in
    ap (λ (fs : List Frame). finish (g.G.Precedents.pre c.args.graph.now) (fuel (g.G.Precedents.all c.args.graph.now))
    [] fs (walked c.steps.self.done c.steps.self.circular)) (sym (nil_from_length c.steps.self.stack.items none))
    ∙ c.steps.invariant.same
