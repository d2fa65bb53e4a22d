use Rattle.std.proofs.Common.{sym, ◌∙◌}
use Rattle.macro_text.specs.Listed.{split_from}
use Rattle.macro_text.proofs.Splitting.{last_one, one_more}
use Rattle.macro_text.proofs.listed.split.Goals as goal

pub loop-end-preserved : goal.loop-end-preserved
loop-end-preserved c = (
  one_more c.loop-end.list c.push_copy.new.list (split_from c.args.quoted 0 c.args.bytes.now) c.loop-end.inside
      c.loop-end.rest.now c.front.result.now c.rest_of-rest.result.now c.in-Some.end
      (sym c.in-Some.ensures.place) c.front.ensures.front c.in_ok-push_copy.ensures c.rest_of-rest.ensures.rest
      c.loop-end.invariant.0,
  c.rest_of-rest.ensures.text c.loop-end.invariant.1,
)

pub returns : goal.returns
returns c =
    last_one c.loop-end.list c.push_copy-2.new.list (split_from c.args.quoted 0 c.args.bytes.now) c.loop-end.inside
    c.loop-end.rest.now (sym c.separator.ensures.place ∙ c.in_default.is) c.in_ok-push_copy-2.ensures
    c.loop-end.invariant.0
