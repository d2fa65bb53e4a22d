use Rattle.std.proofs.lemmas.Bool.{false≢true}
use Rattle.depend_graph.proofs.Listing.{kept_itself, kept_on, listed_more}
use Rattle.depend_graph.proofs.lists.add_all.Goals as goal

pub loop-span-init : goal.loop-span-init
loop-span-init c = record { kept = kept_itself c.args.lists.now; listed = λ d h. absurd (false≢true h) }

pub loop-span-preserved : goal.loop-span-preserved
loop-span-preserved c = record {
  kept = kept_on c.args.lists.now c.loop-span.lists c.add_span.new.lists c.loop-span.invariant.kept
      c.add_span.ensures.kept;
  listed = listed_more c.loop-span.lists c.add_span.new.lists c.args.formula c.args.spans.now c.loop-span.span-index
      c.span-item.result c.loop-span-test.true c.span-item.is c.add_span.ensures.kept c.loop-span.invariant.listed
      c.in_ok-add_span.ensures.here;
}
