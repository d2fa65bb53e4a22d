-- What the slots tell after each change.
use Rattle.std.specs.Prelude.{◌≡◌, Bool, true, false, cond, is_some, refl, Option, None, Some}
use Rattle.std.specs.FinMap.{get, insert, remove}
use Rattle.std.proofs.Common.{sym, ◌∙◌, ap}
use Rattle.std.proofs.lemmas.Bool.{true≢false}
use Rattle.grid_address.proofs.Places.{get_inserted, get_removed, same_place_itself, same_places}
use Rattle.grid_address.specs.Place.{same_place, Place}
use Rattle.depend_graph.specs.Network.{accepted, dropped, offered, put, promoted, withdrawn, Network}
use Rattle.depend_graph.specs.inner.Readers.{network_of}
use Rattle.depend_graph.specs.inner.Slots.{filled, formed, had, node_in, offer_in, offering, picked, placed, turned}
use Rattle.depend_graph.specs.inner.Slots.{turned_to, without, Slots}
use Rattle.depend_graph.specs.Network.{Nodes}
use Rattle.depend_graph.specs.declared.slots.Part.TheVariants.{Formula, Offer}
use Rattle.depend_graph.specs.declared.node.Node.{Node}
use Rattle.depend_graph.specs.declared.slots.Slot.{Slot}
use Rattle.depend_graph.proofs.Kept.{get_picked, picked_placed, picked_same}

both : {a b : Nodes} {x y : Nodes} → a ≡ b → x ≡ y
    → ◌≡◌ {A = Network} (record { formulas = a; offers = x }) (record { formulas = b; offers = y })
both {b = b} {x = x} e f = ap {B = Network} (λ (m : Nodes). record { formulas = m; offers = x }) e
    ∙ ap {B = Network} (λ (m : Nodes). record { formulas = b; offers = m }) f

node_without : (o : Option Slot) → had node_in (without Offer o) ≡ had node_in o
node_without None = refl
node_without (Some s) = with s.node
  where
    with : (n : Option Node) → had node_in (filled n (record s { node = n; offer = None })) ≡ n
    with None = refl
    with (Some n) = refl

offer_without : (o : Option Slot) → had offer_in (without Offer o) ≡ None
offer_without None = refl
offer_without (Some s) = with s.node
  where
    with : (n : Option Node) → had offer_in (filled n (record s { node = n; offer = None })) ≡ None
    with None = refl
    with (Some n) = refl

offer_with : (o : Option Slot) → had offer_in (without Formula o) ≡ had offer_in o
offer_with None = refl
offer_with (Some s) = with s.offer
  where
    with : (n : Option Node) → had offer_in (filled n (record s { node = None; offer = n })) ≡ n
    with None = refl
    with (Some n) = refl

node_with : (o : Option Slot) → had node_in (without Formula o) ≡ None
node_with None = refl
node_with (Some s) = with s.offer
  where
    with : (n : Option Node) → had node_in (filled n (record s { node = None; offer = n })) ≡ None
    with None = refl
    with (Some n) = refl

-- a slot with a formula alone tells that the formula was put
pub viewed_formed : (m : Slots) (c : Place) (n : Node)
    → network_of (placed m c (Some (formed n))) ≡ put (network_of m) c n
viewed_formed m c n =
    both (picked_placed node_in m c (Some (formed n))) (picked_placed offer_in m c (Some (formed n)))

-- a slot without its offer tells that the offer was withdrawn
pub viewed_withdrawn : (m : Slots) (c : Place)
    → network_of (placed m c (without Offer (get m c))) ≡ withdrawn (network_of m) c
viewed_withdrawn m c = both (picked_same node_in m c (without Offer (get m c)) (node_without (get m c)))
    (picked_placed offer_in m c (without Offer (get m c)) ∙ ap (placed (picked offer_in m) c) (offer_without (get m c)))

-- a slot without its formula tells that the formula was dropped
pub viewed_dropped : (m : Slots) (c : Place)
    → network_of (placed m c (without Formula (get m c))) ≡ dropped (network_of m) c
viewed_dropped m c = both (picked_placed node_in m c (without Formula (get m c))
    ∙ ap (placed (picked node_in m) c) (node_with (get m c)))
    (picked_same offer_in m c (without Formula (get m c)) (offer_with (get m c)))

node_offering : (o : Option Slot) (n : Node) → had node_in (Some (offering o n)) ≡ had node_in o
node_offering None n = refl
node_offering (Some s) n = refl

offer_offering : (o : Option Slot) (n : Node) → had offer_in (Some (offering o n)) ≡ Some n
offer_offering None n = refl
offer_offering (Some s) n = refl

-- a slot with an offer tells that it was offered
pub viewed_offered : (m : Slots) (c : Place) (n : Node)
    → network_of (placed m c (Some (offering (get m c) n))) ≡ offered (network_of m) c n
viewed_offered m c n = both (picked_same node_in m c (Some (offering (get m c) n)) (node_offering (get m c) n))
    (picked_placed offer_in m c (Some (offering (get m c) n))
    ∙ ap (placed (picked offer_in m) c) (offer_offering (get m c) n))

-- an offer in the place of an earlier one
pub offered_again : (g : Network) (c : Place) (n : Node) → offered (withdrawn g c) c n ≡ offered g c n
offered_again g c n =
    ap {B = Network} (λ (m : Nodes). record { formulas = g.formulas; offers = m }) (same_places _ _ (λ q.
    get_inserted (remove g.offers c) c n q ∙ ap (cond (same_place q c) (Some n)) (get_removed g.offers c q)
    ∙ twice (same_place q c) (get g.offers q) ∙ sym (get_inserted g.offers c n q)))
  where
    twice : (b : Bool) (o : Option Node) → cond b (Some n) (cond b None o) ≡ cond b (Some n) o
    twice true o = refl
    twice false o = refl

turned_some : (m : Slots) (c : Place) (s : Slot) → get m c ≡ Some s → (o : Option Node) → had offer_in (get m c) ≡ o
    → s.offer ≡ o → is_some o ≡ true → network_of (placed m c (Some (turned_to o s))) ≡ promoted o (network_of m) c
turned_some m c s e None has is some = absurd (true≢false (sym some))
turned_some m c s e (Some n) has is some = both (picked_placed node_in m c (Some (turned_to (Some n) s)))
    (picked_placed offer_in m c (Some (turned_to (Some n) s)))

turned_at : (m : Slots) (c : Place) (o : Option Slot) → get m c ≡ o → is_some (had offer_in o) ≡ true
    → network_of (placed m c (turned o)) ≡ promoted (had offer_in o) (network_of m) c
turned_at m c None e some = absurd (true≢false (sym some))
turned_at m c (Some s) e some = turned_some m c s e s.offer (ap (λ (o : Option Slot). had offer_in o) e) refl some

-- a slot whose offer became its formula tells that the offer was accepted
pub viewed_accepted : (m : Slots) (c : Place) → is_some (had offer_in (get m c)) ≡ true
    → network_of (placed m c (turned (get m c))) ≡ accepted (network_of m) c
viewed_accepted m c some =
    turned_at m c (get m c) refl some ∙ ap (λ o. promoted o (network_of m) c) (sym (get_picked offer_in m c))

-- where no offer waits, to accept it changes nothing
pub none_accepted : (m : Slots) (c : Place) → is_some (had offer_in (get m c)) ≡ false
    → network_of m ≡ accepted (network_of m) c
none_accepted m c none =
    sym (ap (λ o. promoted o (network_of m) c) (get_picked offer_in m c) ∙ with (had offer_in (get m c)) none)
  where
    with : (o : Option Node) → is_some o ≡ false → promoted o (network_of m) c ≡ network_of m
    with None h = refl
    with (Some n) h = absurd (true≢false h)

-- to offer a formula and to accept it puts it
pub set_is : (g : Network) (c : Place) (n : Node) → accepted (offered g c n) c ≡ put g c n
set_is g c n = ap (λ o. promoted o (offered g c n) c)
    (get_inserted g.offers c n c ∙ ap (λ b. cond b (Some n) (get g.offers c)) (same_place_itself c))
    ∙ ap {B = Network} (λ (m : Nodes). record { formulas = insert g.formulas c n; offers = m }) (same_places _ _ (λ q.
    get_removed (insert g.offers c n) c q ∙ ap (cond (same_place q c) None) (get_inserted g.offers c n q)
    ∙ twice (same_place q c) (get g.offers q) ∙ sym (get_removed g.offers c q)))
  where
    twice : (b : Bool) (o : Option Node) → cond b None (cond b (Some n) o) ≡ cond b None o
    twice true o = refl
    twice false o = refl
