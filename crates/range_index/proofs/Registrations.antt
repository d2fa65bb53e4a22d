-- What an insertion and a removal leave of the registrations.
use Rattle.std.specs.Prelude.{◌≡◌, Bool, true, false, cond, refl, List}
use Rattle.std.specs.declared.cmp.Ordering.{Ordering}
use Rattle.std.specs.declared.cmp.Ordering.TheVariants.{Less, Equal, Greater}
use Rattle.std.specs.Ordering.{is_eq, ordering_then}
use Rattle.std.specs.Cmp.{IsTotalOrder, nat_cmp_total}
use Rattle.std.specs.BTreeMap.{is_at}
use Rattle.std.specs.List.{list_any}
use Rattle.std.proofs.Common.{sym, ◌∙◌, ap, inl, inr, subst}
use Rattle.std.proofs.lemmas.Bool.{and_from, and_parts, cases_Bool, true≢false}
use Rattle.std.proofs.lemmas.Cmp.{on_total, then_total, tied_itself}
use Rattle.grid_address.proofs.Maps.{equal_of}
use Rattle.grid_address.proofs.Places.{cells_exact, cells_total, in_whole, same_place_itself}
use Rattle.grid_address.specs.Place.{place_cmp, same_place, Extent, InSheet, Place}
use Rattle.range_index.specs.inner.Blocks.{are_one, size_of}
use Rattle.range_index.specs.inner.Powers.{powers_cmp, Powers}
use Rattle.range_index.specs.inner.Registered.{block_cmp, has_registration, has_size, is_registered, registered}
use Rattle.range_index.specs.inner.Registered.{registration_cmp, StaysRegistered}
use Rattle.range_index.specs.declared.register.Registration.{Registration}

-- where two orders, one after the other, see no difference, neither does
pub then_parts : (a b : Ordering) → ordering_then a b ≡ Equal → (a ≡ Equal) × (b ≡ Equal)
then_parts Less b h = absurd cc
then_parts Equal b h = (refl, h)
then_parts Greater b h = absurd cc

-- sizes are in order
pub powers_total : IsTotalOrder powers_cmp
powers_total = then_total (on_total (λ s. s.rows) nat_cmp_total) (on_total (λ s. s.cols) nat_cmp_total)

-- blocks are in order
pub block_total : IsTotalOrder block_cmp
block_total = then_total (on_total (λ b. b.size) powers_total)
    (then_total (on_total (λ b. b.row) nat_cmp_total) (on_total (λ b. b.col) nat_cmp_total))

-- registrations are in order
pub registration_total : IsTotalOrder registration_cmp
registration_total = then_total (on_total (λ r. r.block) block_total) (on_total (λ r. r.owner) cells_total)

-- a set that gains a key keeps what it has
pub grows : {K : Type 0} (R : K → K → Ordering) (old new : List K) (k q : K) → list_any (is_at (R q)) new ≡ cond (is_at
    (R k) q) true (list_any (is_at (R q)) old) → list_any (is_at (R q)) old ≡ true → list_any (is_at (R q)) new ≡ true
grows R old new k q h e = h ∙ ap (cond (is_at (R k) q) true) e ∙ same (is_at (R k) q)
  where
    same : (b : Bool) → cond b true true ≡ true
    same true = refl
    same false = refl

-- a set has the key that it gained
gains : {K : Type 0} {R : K → K → Ordering} (total : IsTotalOrder R) (old new : List K) (k q : K) → k ≡ q
    → ((x : K) → list_any (is_at (R x)) new ≡ cond (is_at (R k) x) true (list_any (is_at (R x)) old))
    → list_any (is_at (R q)) new ≡ true
gains {R = R} total old new k q e h = subst (λ x. list_any (is_at (R x)) new ≡ true) e
    (h k ∙ ap (λ o. cond (is_eq o) true (list_any (is_at (R k)) old)) (tied_itself total k))

-- where its size and its registration were put in, a span is registered
pub entered : (sizes sizes' : List Powers) (rs rs' : List Registration) (z : Powers) (r : Registration) (o : Place)
    (s : Extent) → InSheet o → are_one s ≡ true → z ≡ size_of s → r ≡ registered o s
    → ((y : Powers) → has_size sizes' y ≡ cond (is_at (powers_cmp z) y) true (has_size sizes y))
    → ((x : Registration) → has_registration rs' x ≡ cond (is_at (registration_cmp r) x) true (has_registration rs x))
    → is_registered sizes' rs' o s ≡ true
entered sizes sizes' rs rs' z r o s inside one ez er hz hr = and_from _ _ (and_from _ _ (in_whole o inside) one)
    (and_from _ _ (gains powers_total sizes sizes' z (size_of s) ez hz)
    (gains registration_total rs rs' r (registered o s) er hr))

-- where sizes and registrations stay, each span that was registered is
pub stays : (sizes sizes' : List Powers) (rs rs' : List Registration) → ((z : Powers) → has_size sizes z ≡ true
    → has_size sizes' z ≡ true) → ((r : Registration) → has_registration rs r ≡ true → has_registration rs' r ≡ true)
    → StaysRegistered sizes rs sizes' rs'
stays sizes sizes' rs rs' hz hr o s h =
    let p = and_parts _ _ h in
    let q = and_parts _ _ p.1 in
    and_from _ _ p.0 (and_from _ _ (hz (size_of s) q.0) (hr (registered o s) q.1))

-- another owner's registration isn't the one that is taken away
apart : (k r : Registration) → same_place r.owner k.owner ≡ false → is_at (registration_cmp k) r ≡ false
apart k r h = elim (cases_Bool (is_at (registration_cmp k) r)) [
  | inl t ↦
      let e : k.owner ≡ r.owner = cells_exact k.owner r.owner
      (then_parts (block_cmp k.block r.block) (place_cmp k.owner r.owner) (equal_of _ t)).1 in
      absurd (true≢false (sym (same_place_itself k.owner) ∙ ap (λ (p : Place). same_place p k.owner) e ∙ h))
  | inr f ↦ f
]

-- a registration of another owner than the one that is taken away stays
pub other_stays : (old new : List Registration) (k r : Registration)
    → has_registration new r ≡ cond (is_at (registration_cmp k) r) false (has_registration old r)
    → same_place r.owner k.owner ≡ false → has_registration old r ≡ true → has_registration new r ≡ true
other_stays old new k r h a e = h ∙ ap (λ b. cond b false (has_registration old r)) (apart k r a) ∙ e
