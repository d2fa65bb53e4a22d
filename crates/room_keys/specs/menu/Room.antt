-- What a key comes to in MENU, and what is shown there.
use Rattle.std.specs.Prelude.{ℕ, Bool, is_some, not, List, [], length, map, take, Option, None, Some, slice_get}
use Rattle.session_rooms.specs.Panels.{plain_panel}
use Rattle.session_rooms.specs.declared.panel.Mode.TheVariants as mode
use Rattle.session_rooms.specs.declared.panel.Panel.{Panel}
use Rattle.key_words.specs.declared.key.Key.{Key}
use Rattle.key_words.specs.declared.key.Key.TheVariants as key
use Rattle.lics_text.specs.Limits.{MAX_LEN}
use Rattle.menu_tree.specs.Levels.{parent}
use Rattle.menu_tree.specs.Tree.{chosen, item_name, items}
use Rattle.menu_tree.specs.declared.menu.Item.{Item}
use Rattle.menu_tree.specs.declared.menu.Item.TheVariants as item
use Rattle.menu_tree.specs.declared.menu.Menu.{Menu}
use Rattle.room_keys.specs.menu.Ring.{highlighted, items_line, listed}
use Rattle.session_rooms.specs.declared.rooms.MenuRoom.{MenuRoom}
use Rattle.session_rooms.specs.declared.rooms.Room.{Room}
use Rattle.session_rooms.specs.declared.rooms.Room.TheVariants as room
use Rattle.session_rooms.specs.declared.turn.Turn.{Turn}
use Rattle.session_rooms.specs.declared.turn.Turn.TheVariants as turn

-- a menu with its first item highlighted
abbrev pub opened : Menu → Room
opened m = room.Menu (record { menu = m; highlight = 0 })

-- the menu that is gone back to, or READY
abbrev pub menu_or_ready : Option Menu → Room
menu_or_ready None = room.Ready
menu_or_ready (Some m) = opened m

-- an item opens its menu, or its command begins to ask
abbrev pub turn_by_item : Item → Turn
turn_by_item (item.Menu m) = turn.Become (opened m)
turn_by_item (item.Action a) = turn.Ask (record { action = a; answers = [] })

-- where there is no such item, the key is passed over
abbrev pub turn_by_choice : Option Item → MenuRoom → Turn
turn_by_choice None r = turn.Become (room.Menu r)
turn_by_choice (Some i) r = turn_by_item i

-- where a key leaves the highlight
abbrev pub highlight_after : Key → MenuRoom → ℕ
highlight_after k r = highlighted k (length (items r.menu)) r.highlight

-- Enter chooses the highlighted item, a byte the first that begins with it, ESC goes up one level, and any other key
-- moves the highlight or is passed over
abbrev pub press : Key → MenuRoom → Turn
press key.Enter r = turn_by_choice (slice_get (items r.menu) r.highlight) r
press (key.Byte b) r = turn_by_choice (chosen (items r.menu) b) r
press key.Esc r = turn.Become (menu_or_ready (parent r.menu))
press k r = turn.Become (room.Menu (record r { highlight = highlight_after k r }))

-- no item of the menu begins with a letter
abbrev pub lacks_item : ℕ → MenuRoom → Bool
lacks_item b r = not (is_some (chosen (items r.menu) b))

-- the names of a menu's items
abbrev pub names_of : Menu → List (List ℕ)
names_of m = map item_name (items m)

-- the names of the next level; an action has none
abbrev pub names_below : Option Item → List (List ℕ)
names_below (Some (item.Menu m)) = names_of m
names_below _ = []

-- the items, of which the highlighted one is marked, and below them what it leads to
abbrev pub panel : MenuRoom → Panel
panel r = record (plain_panel mode.Menu) {
  menu = take MAX_LEN (items_line r.highlight (names_of r.menu));
  below = take MAX_LEN (listed (names_below (slice_get (items r.menu) r.highlight)));
}
