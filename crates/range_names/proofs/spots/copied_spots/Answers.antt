use Rattle.std.proofs.lemmas.List.Elements.{same_from_all_zip}
use Rattle.std.proofs.lemmas.Map.Entries.{entries_from_clone}
use Rattle.range_names.proofs.spots.copied_spots.Goals as goal

pub returns : goal.returns
returns c =
    entries_from_clone _ _ (λ xs ys z. same_from_all_zip _ xs ys z.whole (λ x y e. e))
    (λ xs ys z. same_from_all_zip _ xs ys z.whole (λ x y e. e)) _ _ c.in_ok-clone.ensures.cases
