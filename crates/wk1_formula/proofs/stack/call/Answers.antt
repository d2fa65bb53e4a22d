use Rattle.std.proofs.Common.{List, length, reverse, subst, ◌<◌, arith}
use Rattle.std.proofs.lemmas.List.{length-reverse}
use Rattle.wk1_formula.specs.declared.item.Item.{Item}
use Rattle.wk1_formula.specs.Codes.{function}
use Rattle.wk1_formula.specs.inner.Items.{AreItems}
use Rattle.wk1_formula.proofs.Steppings.{lacks_call, turned, went_call, went_on}
use Rattle.wk1_formula.proofs.stack.call.Goals as goal

pub returns-then-len-from : goal.returns-then-len-from
returns-then-len-from c ts h =
    let few : length (reverse c.args.stack.now.items) < c.args.count =
    omega (arith, length-reverse c.args.stack.now.items, c.if-len-from.true, c.len.ensures, c.from.ensures) in
    lacks_call c.args.function c.args.count (reverse c.args.stack.now.items) few ts h

pub returns : goal.returns
returns c =
    let args = c.in_ok-args.args.items in
    let rest = reverse c.take_last.new.stack.items in
    let old = turned c.args.stack.now.items c.take_last.new.stack.items args c.in_ok-args.ensures.both in
    went_on (function c.args.function c.args.count) c.called.result rest _ _ c.go_on.result
    (λ is ts h. went_call c.args.function c.args.count args rest _ c.in_ok-gathered.gathered c.called.result
    c.in_ok-args.ensures.count is c.requires c.in_ok-gathered.ensures c.called.ensures ts
    (subst (λ (l : List Item). AreItems l ts) old h)) c.go_on.ensures
