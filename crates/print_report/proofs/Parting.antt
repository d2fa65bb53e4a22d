-- Parts of a line, byte by byte.
use Rattle.std.proofs.Common.{◌≡◌, ℕ, suc, ◌+◌, ◌≤◌, ◌<◌, List, ◌∷◌, ◌++◌, Option, length, take, drop, get_or}
use Rattle.std.proofs.Common.{ap, sym, ◌∙◌, arith, append_assoc}
use Rattle.std.proofs.lemmas.List.{append-nil, drop_all, length-take, take_all}
use Rattle.std.proofs.Math.Seq.{drop-cons}
use Rattle.list_lemmas.proofs.Takes.{take-take-append}
use Rattle.print_report.specs.Running.{filled, filled_in, part}

-- one more byte of a header or footer
pub byte_filled : (width number : ℕ) (day : Option ℕ) (text now next : List ℕ) (at d : ℕ) → at < length text
    → part width number day text ≡ take width (now ++ filled_in number day (drop at text))
    → next ≡ take width (now ++ filled number day (get_or text at d))
    → part width number day text ≡ take width (next ++ filled_in number day (drop (at + 1) text))
byte_filled width number day text now next at d inside so_far is =
    let behind : drop at text ≡ get_or text at d ∷ drop (at + 1) text =
    drop-cons text at d inside
    ∙ ap (λ (k : ℕ). get_or text at d ∷ drop k text) (let e : suc at ≡ at + 1 = omega arith in e) in
    let rest : List ℕ = filled_in number day (drop (at + 1) text) in
    so_far ∙ ap (λ (l : List ℕ). take width (now ++ filled_in number day l)) behind
    ∙ ap (take width) (sym (append_assoc now (filled number day (get_or text at d)) rest))
    ∙ sym (take-take-append width (now ++ filled number day (get_or text at d)) rest)
    ∙ ap (λ (l : List ℕ). take width (l ++ rest)) (sym is)

-- what is cut to a width is no longer
pub still_short : (width : ℕ) (xs next : List ℕ) → next ≡ take width xs → length next ≤ width
still_short width xs next is = omega (arith, ap length is, length-take width xs)

-- the whole text is filled in
pub all_filled : (width number : ℕ) (day : Option ℕ) (text now : List ℕ) (at : ℕ) → length text ≤ at
    → length now ≤ width
    → part width number day text ≡ take width (now ++ filled_in number day (drop at text))
    → now ≡ part width number day text
all_filled width number day text now at past short so_far =
    sym (so_far ∙ ap (λ (l : List ℕ). take width (now ++ filled_in number day l)) (drop_all at text past)
    ∙ ap (take width) (append-nil now) ∙ take_all width now short)
