-- The bits that are read one by one.
use Rattle.std.proofs.Common.{◌≡◌, ℕ, zero, suc, ◌+◌, ◌<◌, Bool, false, List, length, map, get_or, take, drop, ◌++◌, []}
use Rattle.std.proofs.Common.{refl, ap, ◌∙◌, arith}
use Rattle.std.specs.List.{range_with_len}
use Rattle.std.proofs.Math.ListN.{drop_of_length-le}
use Rattle.std.proofs.lemmas.List.{append-nil, length-map, take_all}
use Rattle.std.proofs.lemmas.List.FromFn.{length-range_with_len}
use Rattle.wk1_records.specs.Meanings.{bit_at, bits_in}

bit_of : (f : ℕ → Bool) (a n i : ℕ) → i < n → get_or (map f (range_with_len a n)) i false ≡ f (a + i)
bit_of f a zero i h = absurd (omega (arith, h))
bit_of f a (suc n) zero h = ap f (let e : a ≡ a + 0 = omega arith in e)
bit_of f a (suc n) (suc i) h =
    bit_of f (a + 1) n i (omega (arith, h)) ∙ ap f (let e : a + 1 + i ≡ a + suc i = omega arith in e)

-- each of the 256 bits is the one of its number in the body
pub bit_in : (body : List ℕ) (at : ℕ) → at < 256 → get_or (bits_in body) at false ≡ bit_at body at
unfolding bits_in
bit_in body at h = bit_of (bit_at body) 0 256 at h ∙ ap (bit_at body) (let e : 0 + at ≡ at = omega arith in e)

-- there are 256 bits
pub bits_in_long : (body : List ℕ) → length (bits_in body) ≡ 256
unfolding bits_in
bits_in_long body = length-map (range_with_len 0 256) (bit_at body) ∙ length-range_with_len 0 256

-- where every bit was read, none of the old ones is left
pub all_bits : (bits old : List Bool) (at : ℕ) → length bits ≡ at → length old ≡ at → take at bits ++ drop at old ≡ bits
all_bits bits old at h k =
    ap (λ l. l ++ drop at old) (take_all at bits (omega (arith, h)))
    ∙ ap (λ l. bits ++ l) (drop_of_length-le old (omega (arith, k))) ∙ append-nil bits
