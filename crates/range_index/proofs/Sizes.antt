-- The size of which one block holds a span, and that the block holds each of the span's cells.
use Rattle.std.specs.Prelude.{ℕ, zero, suc, ◌≡◌, ◌<◌, ◌≤◌, ◌+◌, ◌-◌, ◌/◌, ◌^◌, true, false, cond, nat_eq, refl}
use Rattle.std.proofs.Common.{sym, ◌∙◌, ap, subst, arith, inl, inr}
use Rattle.std.proofs.lemmas.Bool.{and_from, and_parts, cases_Bool, eq-eqb, eqb-true, false_from_ne_true, leb-true}
use Rattle.std.proofs.lemmas.Nat.{le-div, pow_pos, shr_below}
use Rattle.std.proofs.Math.Nat.{div-mul-le_self}
use Rattle.grid_address.specs.Place.{is_within, Extent, InSheet, Place}
use Rattle.range_index.specs.inner.Blocks.{are_one, block_at, power, power_from, size_of}

power_step : (n p a b : ℕ) → nat_eq (a / 2 ^ p) (b / 2 ^ p) ≡ false
    → power_from (suc n) p a b ≡ power_from n (suc p) a b
power_step n p a b h = ap (λ t. cond t p (power_from n (suc p) a b)) h

power_stop : (n p a b : ℕ) → nat_eq (a / 2 ^ p) (b / 2 ^ p) ≡ true → power_from (suc n) p a b ≡ p
power_stop n p a b h = ap (λ t. cond t p (power_from n (suc p) a b)) h

unlike : (x y : ℕ) → (x ≡ y → ⊥) → nat_eq x y ≡ false
unlike x y h = false_from_ne_true _ (λ t. h (eqb-true x y t))

-- where a power of two divides the numbers to different ones, the least that doesn't is a higher one
pub next_power : (p a b : ℕ) → p < 13 → (a / 2 ^ p ≡ b / 2 ^ p → ⊥)
    → power_from (13 - (p + 1)) (p + 1) a b ≡ power_from (13 - p) p a b
next_power p a b lt h =
    let e : 13 - p ≡ suc (13 - (p + 1)) = omega arith in
    let f : suc p ≡ p + 1 = omega arith in
    sym (ap (λ n. power_from n p a b) e ∙ power_step (13 - (p + 1)) p a b (unlike (a / 2 ^ p) (b / 2 ^ p) h)
    ∙ ap (λ q. power_from (13 - (p + 1)) q a b) f)

-- where it divides them to the same one, it is the least
pub this_power : (p a b : ℕ) → p < 13 → a / 2 ^ p ≡ b / 2 ^ p → p ≡ power_from (13 - p) p a b
this_power p a b lt h =
    let e : 13 - p ≡ suc (13 - (p + 1)) = omega arith in
    sym (ap (λ n. power_from n p a b) e ∙ power_stop (13 - (p + 1)) p a b (eq-eqb _ _ h))

-- the highest power is the least where no lower one is
pub last_power : (p a b : ℕ) → 13 ≡ p → 13 ≡ power_from (13 - p) p a b
last_power p a b e = subst (λ q. 13 ≡ power_from (13 - q) q a b) e refl

agree : (n p a b : ℕ) → a / 2 ^ (n + p) ≡ b / 2 ^ (n + p) → a / 2 ^ power_from n p a b ≡ b / 2 ^ power_from n p a b
agree zero p a b h = let e : 0 + p ≡ p = omega arith in subst (λ m. a / 2 ^ m ≡ b / 2 ^ m) e h
agree (suc n) p a b h = elim (cases_Bool (nat_eq (a / 2 ^ p) (b / 2 ^ p))) [
  | inl t ↦ subst (λ k. a / 2 ^ k ≡ b / 2 ^ k) (sym (power_stop n p a b t)) (eqb-true _ _ t)
  | inr f ↦
      let e : suc n + p ≡ n + suc p = omega arith in
      subst (λ k. a / 2 ^ k ≡ b / 2 ^ k) (sym (power_step n p a b f))
      (agree n (suc p) a b (subst (λ m. a / 2 ^ m ≡ b / 2 ^ m) e h))
]

below : (a : ℕ) → a < 8192 → a / 2 ^ 13 ≡ 0
below a h = let k : a / 2 ^ 13 < 2 ^ 0 = shr_below a 0 13 h in omega arith

agrees : (a b : ℕ) → a < 8192 → b < 8192 → nat_eq (a / 2 ^ power a b) (b / 2 ^ power a b) ≡ true
agrees a b h k = eq-eqb _ _ (agree 13 0 a b (below a h ∙ sym (below b k)))

-- one block of its size holds both corners of a span in the sheet
pub one_block : (s : Extent) → InSheet s.first → InSheet s.last → are_one s ≡ true
one_block s f l = and_from _ _ (agrees s.first.row s.last.row f.0 l.0)
    (agrees s.first.col s.last.col (omega (arith, f)) (omega (arith, l)))

between : (k a x b : ℕ) → a ≤ x → x ≤ b → a / 2 ^ k ≡ b / 2 ^ k → x / 2 ^ k ≡ a / 2 ^ k
between k a x b low high e =
    let p : 0 < 2 ^ k = pow_pos k in
    let q : a / 2 ^ k ≤ x / 2 ^ k = le-div (a / 2 ^ k) x (2 ^ k) p (let h = div-mul-le_self a (2 ^ k) in omega arith) in
    let r : x / 2 ^ k ≤ b / 2 ^ k = le-div (x / 2 ^ k) b (2 ^ k) p (let h = div-mul-le_self x (2 ^ k) in omega arith) in
    omega arith

-- the block of a span holds each of its cells
pub same_block : (s : Extent) (p : Place) → are_one s ≡ true → is_within s p ≡ true
    → block_at (size_of s) p ≡ block_at (size_of s) s.first
same_block s p one inside =
    let o = and_parts _ _ one in
    let w = and_parts _ _ inside in
    let rows = and_parts _ _ w.0 in
    let cols = and_parts _ _ w.1 in
    let r : p.row / 2 ^ (size_of s).rows ≡ s.first.row / 2 ^ (size_of s).rows =
    between (size_of s).rows s.first.row p.row s.last.row (leb-true _ _ rows.0) (leb-true _ _ rows.1)
    (eqb-true _ _ o.0) in
    let c : p.col / 2 ^ (size_of s).cols ≡ s.first.col / 2 ^ (size_of s).cols =
    between (size_of s).cols s.first.col p.col s.last.col (leb-true _ _ cols.0) (leb-true _ _ cols.1)
    (eqb-true _ _ o.1) in
    λ i. record { size = size_of s; row = r i; col = c i }
