-- Names as keys.
use Rattle.std.specs.Char.{to_ascii_uppercase}
use Rattle.std.proofs.Common.{◌≡◌, ◌≤◌, ◌<◌, ◌+◌, ◌-◌, ℕ, suc, List, [], ◌∷◌, ◌++◌, take, drop, length}
use Rattle.std.proofs.Common.{map, get_or, sym, ap, ◌∙◌, arith, append_assoc}
use Rattle.std.specs.Prelude.{min, replicate, set}
use Rattle.std.proofs.lemmas.List.{length-map, length-take-le, map-append, take_min}
use Rattle.std.proofs.lemmas.List.{take_more}
use Rattle.std.proofs.Math.Nat.{min_comm}
use Rattle.std.proofs.Math.Seq.{set-append_seam}
use Rattle.range_names.specs.Names.{name_in}

-- the first bytes of a name, folded, and zeros
abbrev pub key_upto : List ℕ → ℕ → List ℕ
key_upto name at = map to_ascii_uppercase (take at name) ++ replicate (15 - at) 0

-- one more letter of a name in its key
pub filled : (name key : List ℕ) (at b : ℕ) → at < length name → length name ≤ 15 → key ≡ key_upto name at
    → b ≡ to_ascii_uppercase (get_or name at 0) → set key at b ≡ key_upto name (at + 1)
filled name key at b inside fits is folds =
    let front : List ℕ = map to_ascii_uppercase (take at name) in
    let long : length front ≡ at =
    length-map (take at name) to_ascii_uppercase ∙ length-take-le at name (omega (arith, inside)) in
    let zeros : replicate (15 - at) 0 ≡ 0 ∷ replicate (14 - at) 0 =
    ap (λ k. replicate k 0) (let e : 15 - at ≡ suc (14 - at) = omega (arith, inside, fits) in e) in
    let whole : key ≡ front ++ 0 ∷ replicate (14 - at) 0 = is ∙ ap (λ (l : List ℕ). front ++ l) zeros in
    let left : 14 - at ≡ 15 - (at + 1) = omega arith in
    ap (λ (l : List ℕ). set l at b) whole ∙ ap (λ k. set (front ++ 0 ∷ replicate (14 - at) 0) k b) (sym long)
    ∙ set-append_seam front 0 (replicate (14 - at) 0) b
    ∙ ap (λ c. front ++ c ∷ replicate (14 - at) 0) folds
    ∙ sym (append_assoc front (to_ascii_uppercase (get_or name at 0) ∷ []) (replicate (14 - at) 0))
    ∙ ap (λ (l : List ℕ). l ++ replicate (14 - at) 0)
    (sym (ap (map to_ascii_uppercase) (take_more name at 0 inside)
    ∙ map-append to_ascii_uppercase (take at name) (get_or name at 0 ∷ [])))
    ∙ ap (λ k. map to_ascii_uppercase (take (at + 1) name) ++ replicate k 0) left

-- so far no zero
abbrev pub IsNamed : List ℕ → ℕ → Type 0
IsNamed key len = take len key ++ name_in (drop len key) ≡ name_in key

-- a name's count in a key is its first 15 bytes
pub counted_is : (name : List ℕ) (count : ℕ) → count ≡ min (length name) 15 → take count name ≡ take 15 name
counted_is name count is = ap (λ k. take k name) (is ∙ min_comm (length name) 15) ∙ take_min 15 name
