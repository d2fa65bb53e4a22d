use Rattle.std.proofs.Common.{◌≡◌, ◌+ℤ◌, to_z, of_z, w64, refl, rules}
use Rattle.formula_parts.proofs.Totalled.{number_put}
use Rattle.formula_parts.proofs.totals.add_number.Goals as goal

pub returns : goal.returns
returns c =
    let held = c.args.held.now in
    let sum = c.in-Some-checked_add.sum in
    let more : to_z w64 (of_z w64 sum) ≡ held.apart +ℤ c.args.number = search rules in
    λ _. number_put held (record {
      total = record held.total {
        count = c.in-Some.count;
        least = c.smaller-least.result;
        greatest = c.larger-greatest.result;
      };
      apart = to_z w64 (of_z w64 sum);
    }) (to_z w64 (of_z w64 sum)) c.args.number more refl (search rules) refl c.smaller-least.ensures
    c.larger-greatest.ensures refl refl
