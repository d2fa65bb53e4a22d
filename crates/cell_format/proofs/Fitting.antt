-- As many decimals as fit.
use Rattle.std.proofs.Common.{◌≡◌, ◌≤◌, ◌<◌, ◌+◌, ◌-◌, ℕ, zero, suc, ℤ, true, false, List, Option, Some, None, length}
use Rattle.std.proofs.Common.{refl, sym, ap, ◌∙◌, arith, inl, inr}
use Rattle.std.proofs.lemmas.Bool.{cases_Bool, leb-true, leb-false, le-leb, lt-leb}
use Rattle.std.specs.Prelude.{nat_le, is_some, if◌then◌else◌}
use Rattle.fixed_value.specs.Written.{short, written}
use Rattle.cell_format.specs.Numbers.{fitting}

fits : (places room : ℕ) (v : ℤ) → length (written v places) ≤ room → Some (short v places) ≡ fitting places v room
unfolding fitting
fits zero room v h = (let test = le-leb (length (written v 0)) room h in rw test refl)
fits (suc p) room v h = (let test = le-leb (length (written v (suc p))) room h in rw test refl)

one_less : (places room : ℕ) (v : ℤ) → room < length (written v places) → 0 < places
    → fitting (places - 1) v room ≡ fitting places v room
unfolding fitting
one_less zero room v h more = absurd (omega (arith, more))
one_less (suc p) room v h more =
    let test = lt-leb (length (written v (suc p))) room h in
    let same : suc p - 1 ≡ p = omega arith in
    ap (λ k. fitting k v room) same ∙ rw test refl

-- the text with so many places, if there is room for it with its zeros
abbrev pub tried : ℕ → ℤ → ℕ → Option (List ℕ)
tried places v room = if nat_le (length (written v places)) room then Some (short v places) else None

-- a try that fits is the number as it fits
pub tried_fits : (places room : ℕ) (v : ℤ) (text : Option (List ℕ)) → text ≡ tried places v room → is_some text ≡ true
    → text ≡ fitting places v room
tried_fits places room v text is some = elim (cases_Bool (nat_le (length (written v places)) room)) [
  | inl more ↦ is ∙ rw more (fits places room v (leb-true _ _ more))
  | inr none ↦
      absurd (let no : is_some (tried places v room) ≡ false = rw none refl in
      let both : true ≡ false = sym some ∙ ap (λ (t : Option (List ℕ)). is_some t) is ∙ no in cc)
]

-- one that doesn't leaves it to one place fewer
pub tried_more : (places room : ℕ) (v : ℤ) (text : Option (List ℕ)) → text ≡ tried places v room → is_some text ≡ false
    → fitting (places - 1) v room ≡ fitting places v room
tried_more zero room v text is none = refl
tried_more (suc p) room v text is none = elim (cases_Bool (nat_le (length (written v (suc p))) room)) [
  | inl fit ↦
      absurd (let yes : is_some (tried (suc p) v room) ≡ true = rw fit refl in
      let both : false ≡ true = sym none ∙ ap (λ (t : Option (List ℕ)). is_some t) is ∙ yes in cc)
  | inr past ↦ one_less (suc p) room v (leb-false _ _ past) (omega arith)
]

-- the most places that fit, where less than so many may
abbrev pub fitting_below : ℕ → ℤ → ℕ → Option (List ℕ)
fitting_below zero v room = None
fitting_below (suc places) v room = fitting places v room

-- the most places are those below one more
pub up_to : (most room : ℕ) (v : ℤ) → fitting_below (most + 1) v room ≡ fitting most v room
up_to most room v = (let more : most + 1 ≡ suc most = omega arith in ap (λ k. fitting_below k v room) more)

-- the most places that fit are the ones that are asked for
pub fits_here : (places room : ℕ) (v : ℤ) → length (written v places) ≤ room
    → Some (short v places) ≡ fitting_below (places + 1) v room
fits_here places room v h = fits places room v h ∙ sym (up_to places room v)

-- places that don't fit are passed over
pub past_here : (places room : ℕ) (v : ℤ) → room < length (written v places)
    → fitting_below places v room ≡ fitting_below (places + 1) v room
unfolding fitting
past_here zero room v h = (let test = lt-leb (length (written v 0)) room h in rw test refl)
past_here (suc p) room v h = (let same : suc p - 1 ≡ p = omega arith in
    ap (λ k. fitting k v room) (sym same) ∙ one_less (suc p) room v h (omega arith) ∙ sym (up_to (suc p) room v))

-- places for which there is no room
pub skipped : (k places room : ℕ) (v : ℤ) → ((p : ℕ) → places < p → p ≤ 6 → room < length (written v p))
    → places + k ≤ 6 → fitting places v room ≡ fitting (places + k) v room
skipped zero places room v others few = ap (λ p. fitting p v room) (let e : places ≡ places + 0 = omega arith in e)
skipped (suc k) places room v others few =
    skipped k places room v others (omega (arith, few))
    ∙ ap (λ p. fitting p v room) (let e : places + k ≡ places + suc k - 1 = omega arith in e)
    ∙ one_less (places + suc k) room v (others (places + suc k) (omega arith) few) (omega arith)

-- places that are enough, where these fit
enough : (k exact room : ℕ) (v : ℤ) → ((p : ℕ) → exact ≤ p → short v p ≡ written v exact)
    → length (written v exact) ≤ room → Some (written v exact) ≡ fitting (exact + k) v room
enough zero exact room v same fit =
    ap Some (sym (same exact (omega arith))) ∙ fits exact room v fit
    ∙ ap (λ p. fitting p v room) (let e : exact ≡ exact + 0 = omega arith in e)
enough (suc k) exact room v same fit = elim (cases_Bool (nat_le (length (written v (exact + suc k))) room)) [
  | inl more ↦ ap Some (sym (same (exact + suc k) (omega arith))) ∙ fits (exact + suc k) room v (leb-true _ _ more)
  | inr none ↦ (let past : room < length (written v (exact + suc k)) = leb-false _ _ none in
      enough k exact room v same fit
      ∙ ap (λ p. fitting p v room) (let e : exact + k ≡ exact + suc k - 1 = omega arith in e)
      ∙ one_less (exact + suc k) room v past (omega arith))
]

-- all decimals, where there is room for them
pub all_fit : (exact room : ℕ) (v : ℤ) → ((p : ℕ) → exact ≤ p → short v p ≡ written v exact) → exact ≤ 6
    → length (written v exact) ≤ room → Some (written v exact) ≡ fitting 6 v room
all_fit exact room v same few fit =
    (let all : exact + (6 - exact) ≡ 6 = omega (arith, few) in
    enough (6 - exact) exact room v same fit ∙ ap (λ p. fitting p v room) all)

-- a text with all decimals, if there is room for it
pub exact_fits : (exact room : ℕ) (v : ℤ) (text : Option (List ℕ))
    → ((p : ℕ) → exact ≤ p → short v p ≡ written v exact) → exact ≤ 6
    → text ≡ (if nat_le (length (written v exact)) room then Some (written v exact) else None) → is_some text ≡ true →
    text ≡ fitting 6 v room
exact_fits exact room v text same few is some = elim (cases_Bool (nat_le (length (written v exact)) room)) [
  | inl fit ↦ (let all : exact + (6 - exact) ≡ 6 = omega (arith, few) in
      is ∙ rw fit (enough (6 - exact) exact room v same (leb-true _ _ fit) ∙ ap (λ p. fitting p v room) all))
  | inr past ↦ absurd (
      let no : is_some (if nat_le (length (written v exact)) room then Some (written v exact) else None) ≡ false =
      rw past refl in
      let both : true ≡ false = sym some ∙ ap (λ (t : Option (List ℕ)). is_some t) is ∙ no in cc)
]
