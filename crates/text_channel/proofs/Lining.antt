-- The length of a line, byte by byte.
use Rattle.std.proofs.Common.{◌≡◌, ◌≤◌, ◌<◌, ◌+◌, ◌-◌, ℕ, suc, min, take, true, false, List, ◌∷◌, drop, length}
use Rattle.std.proofs.Common.{get_or, sym, ap, ◌∙◌, arith}
use Rattle.std.specs.Prelude.{◌==◌, nat_lt, if◌then◌else◌}
use Rattle.std.proofs.lemmas.Bool.Decides.{nat_tests}
use Rattle.std.proofs.lemmas.List.{take_all, length-drop}
use Rattle.std.proofs.Math.Seq.{drop-cons}
use Rattle.text_channel.specs.Lines.{ending_of, line_length, next_line, piece}

split_at : (bytes : List ℕ) (at : ℕ) → at < length bytes → drop at bytes ≡ get_or bytes at 0 ∷ drop (at + 1) bytes
split_at bytes at inside =
    drop-cons bytes at 0 inside
    ∙ ap (λ k. get_or bytes at 0 ∷ drop k bytes) (let e : suc at ≡ at + 1 = omega arith in e)

cons_more : (b : ℕ) (rest : List ℕ) → ending_of (b ∷ rest) ≡ 0 → line_length (b ∷ rest) ≡ line_length rest + 1
cons_more b rest none = ap (λ t. if t then line_length rest + 1 else 0) (ap (λ n. n == 0) none)

-- a line that doesn't end where it begins is one byte longer than the line from its next byte on
pub one_more : (bytes : List ℕ) (at : ℕ) → at < length bytes → ending_of (drop at bytes) ≡ 0
    → line_length (drop at bytes) ≡ line_length (drop (at + 1) bytes) + 1
one_more bytes at inside none =
    let split = split_at bytes at inside in
    ap line_length split ∙ cons_more (get_or bytes at 0) (drop (at + 1) bytes) (sym (ap ending_of split) ∙ none)

-- as many bytes as are left from an offset on are all of them
pub whole_rest : (bytes : List ℕ) (at : ℕ) → take (length bytes - at) (drop at bytes) ≡ drop at bytes
whole_rest bytes at = take_all (length bytes - at) (drop at bytes) (omega (arith, length-drop at bytes))

-- of a line longer than 240 bytes, 240 are read, and no ending
pub long_line : (left : List ℕ) → 240 < min (line_length left) 241 → next_line left ≡ piece (take 240 left) 240
long_line left long =
    ap (λ t. if t then piece (take 240 left) 240
    else piece (take (line_length left) left) (line_length left + ending_of (drop (line_length left) left)))
    (let e : nat_lt 240 (line_length left) ≡ true = grind (arith, nat_tests, long) in e)

short_as : (left : List ℕ) (n : ℕ) → n ≡ line_length left → n ≤ 240
    → next_line left ≡ piece (take n left) (n + ending_of (drop n left))
short_as left n is short =
    ap (λ t. if t then piece (take 240 left) 240
    else piece (take (line_length left) left) (line_length left + ending_of (drop (line_length left) left)))
    (let e : nat_lt 240 (line_length left) ≡ false = grind (arith, nat_tests, is, short) in e)
    ∙ ap (λ k. piece (take k left) (k + ending_of (drop k left))) (sym is)

-- a line of at most 240 bytes is read whole, and its ending is passed over
pub short_line : (left : List ℕ) (n : ℕ) → n ≡ min (line_length left) 241 → n ≤ 240
    → next_line left ≡ piece (take n left) (n + ending_of (drop n left))
short_line left n is short = short_as left n (omega (arith, is, short)) short
