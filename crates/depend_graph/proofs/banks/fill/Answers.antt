use Rattle.std.specs.Prelude.{◌++◌, ◌∷◌, [], take}
use Rattle.std.specs.FinMap.{get}
use Rattle.std.proofs.Common.{ap, subst, sym, ◌∙◌}
use Rattle.std.proofs.lemmas.List.{take_more}
use Rattle.grid_address.specs.Place.{Extent}
use Rattle.range_index.specs.Owners.{spans_in, Owners}
use Rattle.depend_graph.proofs.Others.{removed_none, removed_others, then_others, wide-append}
use Rattle.depend_graph.specs.inner.Banks.{wide, AreOthers}
use Rattle.depend_graph.proofs.banks.fill.Goals as goal

pub loop-span-init : goal.loop-span-init
loop-span-init c = record {
  is = ap (λ (m : Owners). spans_in (get m c.args.owner)) c.remove.ensures ∙ removed_none c.args.index.now c.args.owner;
  others = subst (λ (m : Owners). AreOthers c.args.index.now m c.args.owner) (sym c.remove.ensures)
      (removed_others c.args.index.now c.args.owner);
}

pub loop-span-preserved : goal.loop-span-preserved
loop-span-preserved c =
    let span : Extent = c.span-item.result in
    record {
      is = c.in_ok-add_wide.ensures.is ∙ ap (λ l. l ++ wide (span ∷ [])) c.loop-span.invariant.is
          ∙ sym (wide-append (take c.loop-span.span-index c.args.spans.now) (span ∷ []))
          ∙ ap (λ (s : Extent). wide (take c.loop-span.span-index c.args.spans.now ++ s ∷ [])) c.span-item.is
          ∙ ap wide (sym (take_more c.args.spans.now c.loop-span.span-index span c.loop-span-test.true));
      others = then_others c.args.index.now c.loop-span.index c.add_wide.new.index c.args.owner
          c.loop-span.invariant.others c.add_wide.ensures.others;
    }
