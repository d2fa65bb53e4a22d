use Rattle.std.proofs.Common.{rules, ◌≡◌, ◌++◌, nat_eq, get_or, List, ap, ◌∙◌, ℕ}
use Rattle.std.specs.Prelude.{take}
use Rattle.room_keys.specs.menu.Ring.{marked}
use Rattle.menu_tree.specs.Tree.{item_name}
use Rattle.menu_tree.specs.declared.menu.Item.{Item}
use Rattle.menu_tree.specs.declared.menu.Item.TheVariants as item
use Rattle.menu_tree.specs.declared.menu.Menu.TheVariants as menu
use Rattle.room_keys.proofs.Names.{one_item}
use Rattle.room_keys.proofs.menu.lines.items_line.Goals as goal

pub loop-place-preserved : goal.loop-place-preserved
loop-place-preserved c =
    let item : Item = item.Menu menu.Main in
    let items : List Item = c.args.items.now in
    let named : c.name.result.now ≡ item_name (get_or items c.loop-place.place item) = search rules in
    let mark : List ℕ → List ℕ = marked (nat_eq c.loop-place.place c.args.highlight) in
    one_item item_name 240 c.args.highlight c.loop-place.place items item c.loop-place.line c.put_item.new.line
    c.loop-place-test.true c.loop-place.invariant
    (c.put_item.ensures ∙ ap (λ (n : List ℕ). take 240 (c.loop-place.line ++ mark n)) named)
