-- The records of settings say the settings.
use Rattle.std.proofs.Common.{◌≡◌, ℕ, Bool, true, false, nat_le, List, [], ◌∷◌, ◌++◌, replicate, refl, ap, ◌∙◌, arith}
use Rattle.std.specs.Int.{from_le_bytes, to_le_bytes, w16}
use Rattle.std.specs.Prelude.{not, ◌==◌, min, max, Ok, if◌then◌else◌}
use Rattle.std.proofs.lemmas.Bool.Decides.{nat_tests}
use Rattle.std.proofs.lemmas.Nat.{from_le_bytes-to_le_bytes_2}
use Rattle.grid_address.specs.Place.{InSheet, Place}
use Rattle.sheet_store.specs.Choices.{Choices}
use Rattle.sheet_store.specs.declared.order.Order.{Order}
use Rattle.sheet_store.specs.declared.order.Order.TheVariants.{Natural, Columnwise, Rowwise}
use Rattle.wk1_records.specs.Meanings.{is_inside, is_width, meaning, order_of, place_at, pointer_of}
use Rattle.wk1_formula.specs.Reading.{short_at}
use Rattle.wk1_file.specs.Said.{settings_entries, AreSettings, Says}
use Rattle.wk1_records.specs.Bodies.{made, place_bytes}
use Rattle.wk1_file.specs.Saved.{on_byte, settings_pieces}
use Rattle.wk1_records.specs.Kinds.{order_byte}
use Rattle.wk1_records.specs.declared.entry.Entry.TheVariants as entry
use Rattle.wk1_records.specs.declared.kind.RecordKind.TheVariants as kind
use Rattle.wk1_file.proofs.Heads.{by_type, inside_is, tested}
use Rattle.lics_text.specs.Prefixes.{prefix_byte}
use Rattle.lics_text.proofs.Prefixes.{prefix_back}

on_255 : (b : Bool) → not (on_byte b 255 == 0) ≡ b
on_255 true = refl
on_255 false = refl

on_1 : (b : Bool) → not (on_byte b 1 == 0) ≡ b
on_1 true = refl
on_1 false = refl

order_back : (o : Order) → order_of (order_byte o) ≡ o
order_back Natural = refl
order_back Columnwise = refl
order_back Rowwise = refl

-- where a place is written it is read
pub place_back : (p : Place) → InSheet p
    → (from_le_bytes w16 (to_le_bytes w16 p.row) ≡ p.row) × (from_le_bytes w16 (to_le_bytes w16 p.col) ≡ p.col)
place_back p h = (
  from_le_bytes-to_le_bytes_2 p.row (omega (arith, h.0)),
  from_le_bytes-to_le_bytes_2 p.col (omega (arith, h.1)),
)

module _ (c : Choices) (ok : AreSettings c) where
  passes_said : (n : ℕ) → meaning n (made kind.CalcCount (c.passes ∷ [])) ≡ Ok (entry.Passes c.passes)
  passes_said n =
      let low = ok.within.some_passes in
      let high = ok.within.few_passes in
      by_type n kind.CalcCount (c.passes ∷ []) (λ x. absurd cc)
      ∙ tested n (c.passes ∷ []) kind.CalcCount (entry.Passes c.passes) (omega arith) refl
      (ap (λ k. Ok (entry.Passes k)) (let e : min (max c.passes 1) 50 ≡ c.passes = omega (arith, low, high) in e))

  mode_said : (n : ℕ) → meaning n (made kind.CalcMode (on_byte c.automatic 255 ∷ [])) ≡ Ok (entry.Automatic c.automatic)
  mode_said n =
      by_type n kind.CalcMode (on_byte c.automatic 255 ∷ []) (λ x. absurd cc)
      ∙ tested n (on_byte c.automatic 255 ∷ []) kind.CalcMode (entry.Automatic c.automatic) (omega arith) refl
      (ap (λ b. Ok (entry.Automatic b)) (on_255 c.automatic))

  order_said : (n : ℕ) → meaning n (made kind.CalcOrder (order_byte c.order ∷ [])) ≡ Ok (entry.Order c.order)
  order_said n =
      by_type n kind.CalcOrder (order_byte c.order ∷ []) (λ x. absurd cc)
      ∙ tested n (order_byte c.order ∷ []) kind.CalcOrder (entry.Order c.order) (omega arith) refl
      (ap (λ o. Ok (entry.Order o)) (order_back c.order))

  protection_said : (n : ℕ)
      → meaning n (made kind.Protection (on_byte c.protection 1 ∷ [])) ≡ Ok (entry.Protection c.protection)
  protection_said n =
      by_type n kind.Protection (on_byte c.protection 1 ∷ []) (λ x. absurd cc)
      ∙ tested n (on_byte c.protection 1 ∷ []) kind.Protection (entry.Protection c.protection) (omega arith) refl
      (ap (λ b. Ok (entry.Protection b)) (on_1 c.protection))

  prefix_said : (n : ℕ) → meaning n (made kind.LabelFormat (prefix_byte c.prefix ∷ [])) ≡ Ok (entry.Prefix c.prefix)
  prefix_said n =
      by_type n kind.LabelFormat (prefix_byte c.prefix ∷ []) (λ x. absurd cc)
      ∙ tested n (prefix_byte c.prefix ∷ []) kind.LabelFormat (entry.Prefix c.prefix) (omega arith) refl
      (rw (prefix_back c.prefix, ok.within.known_prefix) refl)

  abbrev window : List ℕ
  window = place_bytes c.pointer ++ c.format ∷ 0 ∷ (to_le_bytes w16 c.width ++ replicate 23 0)

  window_said : (n : ℕ)
      → meaning n (made kind.Window window) ≡ Ok (entry.Window c.pointer (record { 0 = c.format }) c.width)
  window_said n =
      let back = place_back c.pointer ok.inside in
      let place : place_at 0 window ≡ c.pointer = λ i. record { row = back.0 i; col = back.1 i } in
      let inside : is_inside c.pointer ≡ true = inside_is c.pointer ok.inside in
      let most = ok.within.most_width in
      let some = ok.within.some_width in
      let width : from_le_bytes w16 (to_le_bytes w16 c.width) ≡ c.width =
      from_le_bytes-to_le_bytes_2 c.width (omega (arith, most)) in
      let fits : is_width c.width ≡ true =
      (let a : nat_le 1 c.width ≡ true = grind (arith, nat_tests, some) in
      let b : nat_le c.width 240 ≡ true = grind (arith, nat_tests, most) in rw (a, b) refl) in
      let pointer : pointer_of (place_at 0 window) ≡ c.pointer = ap pointer_of place ∙ rw inside refl in
      let wide : (if is_width (short_at 6 window) then short_at 6 window else 9) ≡ c.width =
      ap (λ w. if is_width w then w else 9) width ∙ rw fits refl in
      by_type n kind.Window window (λ x. absurd cc)
      ∙ tested n window kind.Window (entry.Window c.pointer (record { 0 = c.format }) c.width) (omega arith) refl
      (ap (λ p. Ok (entry.Window p (record { 0 = c.format })
      (if is_width (short_at 6 window) then short_at 6 window else 9))) pointer
      ∙ ap (λ w. Ok (entry.Window c.pointer (record { 0 = c.format }) w)) wide)

  -- the records of the settings say them in their order
  pub settings_said_of : Says (settings_pieces c) (settings_entries c)
  settings_said_of = (passes_said, (mode_said, (order_said, (protection_said, (prefix_said, (window_said, tt))))))

-- the same of any settings that a sheet may have
pub settings_said : (c : Choices) → AreSettings c → Says (settings_pieces c) (settings_entries c)
settings_said c ok = settings_said_of c ok
