use Rattle.std.proofs.Common.{◌≡◌, ◌<◌, ◌≤◌, ◌++◌, ℕ, nat_eq, get_or, List, length, map, ap, subst, sym, ◌∙◌, arith}
use Rattle.std.specs.List.{range_with_len}
use Rattle.std.specs.Prelude.{take}
use Rattle.std.proofs.lemmas.List.{take_all}
use Rattle.std.proofs.lemmas.List.FromFn.{get_or-range_with_len, length-range_with_len}
use Rattle.room_keys.proofs.Names.{one_item}
use Rattle.room_keys.specs.menu.Ring.{marked, marked_from}
use Rattle.session_core.specs.Waiting.{item_of}
use Rattle.work_sheet.specs.Seen.{of_worksheet}
use Rattle.session_core.proofs.waiting.items_line.Goals as goal

pub loop-place-preserved : goal.loop-place-preserved
loop-place-preserved c =
    let item : ℕ → List ℕ = item_of (of_worksheet c.args.sheet.now) c.args.menu.now in
    let count : ℕ = c.args.menu.now.count in
    let places : List ℕ = range_with_len 0 count in
    let n : ℕ = c.loop-place.place in
    let inside : n < length places = omega (arith, length-range_with_len 0 count, c.loop-place-test.true) in
    let here : get_or places n 0 ≡ n = get_or-range_with_len 0 count n 0 c.loop-place-test.true ∙ omega arith in
    let mark : List ℕ → List ℕ = marked (nat_eq n c.args.menu.now.highlight) in
    record {
      within = omega (arith, c.loop-place-test.true);
      line = one_item item 240 c.args.menu.now.highlight n places 0 c.loop-place.line c.put_item.new.line inside
          c.loop-place.invariant.line
          (c.put_item.ensures ∙ ap (λ (t : List ℕ). take 240 (c.loop-place.line ++ mark t))
          (c.item_bytes.ensures ∙ ap item (sym here)));
    }

pub returns : goal.returns
returns c =
    let item : ℕ → List ℕ = item_of (of_worksheet c.args.sheet.now) c.args.menu.now in
    let count : ℕ = c.args.menu.now.count in
    let places : List ℕ = range_with_len 0 count in
    let all : take c.loop-place.place places ≡ places =
    take_all c.loop-place.place places (omega (arith, length-range_with_len 0 count, c.loop-place-test.false)) in
    c.loop-place.invariant.line ∙ ap
    (λ (l : List ℕ). take 240 (marked_from 0 c.args.menu.now.highlight (map item l))) all
