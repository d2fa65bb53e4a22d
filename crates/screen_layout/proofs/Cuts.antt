-- Texts that are cut and filled.
use Rattle.std.proofs.Common.{◌≡◌, ℕ, zero, suc, ◌+◌, ◌-◌, ◌≤◌, List, [], ◌∷◌, ◌++◌, length, take, drop, map, replicate}
use Rattle.std.proofs.Common.{refl, ap, sym, ◌∙◌, arith, inl, inr, length-append, append_assoc}
use Rattle.std.specs.Prelude.{min}
use Rattle.std.proofs.lemmas.Bool.{cases_lt}
use Rattle.std.proofs.lemmas.List.{append-nil, length-take, length-replicate, take-replicate}
use Rattle.std.proofs.lemmas.List.{take-append-drop, take-take, take_all}
use Rattle.list_lemmas.proofs.Takes.{take-append}
use Rattle.shown_cells.specs.Cells.{padded, shown_byte}
use Rattle.screen_layout.specs.Lines.{filled, shown_line}

-- a text is added up to a column, behind what was added up to it
pub added : (n : ℕ) (xs ys : List ℕ) → take n xs ++ take (n - length (take n xs)) ys ≡ take n (xs ++ ys)
added n xs ys =
    let same : n - length (take n xs) ≡ n - length xs = omega (arith, length-take n xs) in
    ap (λ (k : ℕ). take n xs ++ take k ys) same ∙ sym (take-append n xs ys)

-- a cut run of one byte
pub take_run : (n m b : ℕ) → take n (replicate m b) ≡ replicate (min n m) b
take_run n m b = elim (cases_lt m n) [
  | inl less ↦
      let k : min n m ≡ m = omega arith in
      rw k (take_all n (replicate m b) (omega (arith, length-replicate {A = ℕ} m b)))
  | inr more ↦
      let k : min n m ≡ n = omega arith in
      rw k (take-replicate n m b more)
]

-- a padded text is as long as its width
pub padded_length : (width : ℕ) (text : List ℕ) → length (padded width text) ≡ width
padded_length width text = simp (length-append, length-take, length-replicate) (omega arith)

-- a filled text is cut to a filled text
pub cut_padded : (n width : ℕ) (text : List ℕ) → take n (padded width text) ≡ padded (min n width) text
cut_padded n width text = elim (cases_lt n width) [
  | inl less ↦
      let m : min n width ≡ n = omega arith in
      let left : n - length (take width text) ≡ n - min width (length text) = omega (arith, length-take width text) in
      let blanks : min (n - min width (length text)) (width - length text) ≡ n - length text = omega arith in
      rw m (take-append n (take width text) (replicate (width - length text) 32)
      ∙ ap (λ (l : List ℕ). l ++ take (n - length (take width text)) (replicate (width - length text) 32))
      (take-take n width text (omega arith))
      ∙ ap (λ (k : ℕ). take n text ++ take k (replicate (width - length text) 32)) left
      ∙ ap (λ (l : List ℕ). take n text ++ l) (take_run (n - min width (length text)) (width - length text) 32)
      ∙ ap (λ (k : ℕ). take n text ++ replicate k 32) blanks)
  | inr more ↦
      let m : min n width ≡ width = omega arith in
      rw m (take_all n (padded width text) (omega (arith, padded_length width text)))
]

-- a text is added and filled up to a column, which is behind the line's end by its width or is the last
pub text_added : (width at : ℕ) (line text : List ℕ) → length line ≤ 80 → at ≡ min (length line + width) 80 →
    (line ++ take (at - length line) text) ++ replicate (at - length (line ++ take (at - length line) text)) 32
    ≡ take 80 (line ++ padded width text)
text_added width at line text short is =
    let room : at - length line ≡ min (80 - length line) width = omega arith in
    let long : length (line ++ take (at - length line) text) ≡ length line + min (at - length line) (length text) =
    length-append line (take (at - length line) text)
    ∙ ap (λ (k : ℕ). length line + k) (length-take (at - length line) text) in
    let blanks : at - length (line ++ take (at - length line) text) ≡ (at - length line) - length text = omega arith in
    append_assoc line (take (at - length line) text) (replicate (at - length (line ++ take (at - length line) text)) 32)
    ∙ ap (λ (k : ℕ). line ++ (take (at - length line) text ++ replicate k 32)) blanks
    ∙ ap (λ (k : ℕ). line ++ padded k text) room
    ∙ sym (ap (λ (l : List ℕ). line ++ l) (cut_padded (80 - length line) width text))
    ∙ sym (ap (λ (l : List ℕ). l ++ take (80 - length line) (padded width text)) (take_all 80 line short))
    ∙ sym (take-append 80 line (padded width text))

-- a line that was cut is filled
pub cut_filled : (text : List ℕ) → take 80 text ++ replicate (80 - length (take 80 text)) 32 ≡ padded 80 text
cut_filled text = ap (λ (k : ℕ). take 80 text ++ replicate k 32) (omega (arith, length-take 80 text))

-- a text that fills its width is added to a line that has room for it
pub whole_added : (width : ℕ) (line shown : List ℕ) → length line + width ≤ 80 → length shown ≡ width
    → line ++ shown ≡ take 80 (line ++ padded width shown)
whole_added width line shown room long =
    let none : width - length shown ≡ 0 = omega (arith, long) in
    let filled : padded width shown ≡ shown =
    ap (λ (k : ℕ). take width shown ++ replicate k 32) none ∙ append-nil (take width shown)
    ∙ take_all width shown (omega (arith, long)) in
    let within : length (line ++ shown) ≤ 80 = omega (arith, length-append line shown, long, room) in
    sym (take_all 80 (line ++ shown) within) ∙ ap (λ (l : List ℕ). take 80 (line ++ l)) (sym filled)

-- a cut line is shown as the whole
pub shown_cut : (text : List ℕ) → shown_line (take 80 text) ≡ shown_line text
shown_cut text =
    ap (map shown_byte) (ap (λ (l : List ℕ). l ++ replicate (80 - length (take 80 text)) 32)
    (take-take 80 80 text (omega arith)) ∙ cut_filled text)

-- two texts are added up to a column, of the second of which the first 240 bytes are there
pub added_two : (front text e x y : List ℕ) → e ≡ [] → x ≡ e ++ take (72 - length e) front
    → y ≡ x ++ take (72 - length x) (take 240 text) → y ≡ take 72 (front ++ text)
added_two front text e x y none one two =
    let first : x ≡ take 72 front = one ∙ ap (λ (l : List ℕ). l ++ take (72 - length l) front) none in
    let less : 72 - length front ≤ 240 = omega arith in
    two ∙ ap (λ (l : List ℕ). l ++ take (72 - length l) (take 240 text)) first ∙ added 72 front (take 240 text)
    ∙ take-append 72 front (take 240 text)
    ∙ ap (λ (l : List ℕ). take 72 front ++ l) (take-take (72 - length front) 240 text less)
    ∙ sym (take-append 72 front text)

drop-on : (n : ℕ) (xs ys : List ℕ) → drop n (xs ++ ys) ≡ drop n xs ++ drop (n - length xs) ys
drop-on zero [] ys = refl
drop-on (suc n) [] ys = (let same : suc n ≡ suc n - length {A = ℕ} [] = omega arith in ap (λ (k : ℕ). drop k ys) same)
drop-on zero (x ∷ xs) ys =
    (let none : 0 ≡ 0 - length (x ∷ xs) = omega arith in ap (λ (k : ℕ). (x ∷ xs) ++ drop k ys) none)
drop-on (suc n) (x ∷ xs) ys =
    (let less : n - length xs ≡ suc n - length (x ∷ xs) = omega arith in
    drop-on n xs ys ∙ ap (λ (k : ℕ). drop n xs ++ drop k ys) less)

-- one text more, from a byte of them all on
pub added_from : (n : ℕ) (xs ys l m : List ℕ) → l ≡ take 80 (drop n xs)
    → m ≡ l ++ take (80 - length l) (drop (n - length xs) ys) → m ≡ take 80 (drop n (xs ++ ys))
added_from n xs ys l m is more =
    more ∙ ap (λ (k : List ℕ). k ++ take (80 - length k) (drop (n - length xs) ys)) is
    ∙ added 80 (drop n xs) (drop (n - length xs) ys) ∙ ap (take 80) (sym (drop-on n xs ys))

-- what isn't painted is blank
pub shown_whole : (len : ℕ) (bytes : List ℕ) → length bytes ≡ 80 → len ≤ 80 → drop len bytes ≡ replicate (80 - len) 32
    → map shown_byte bytes ≡ shown_line (take len bytes)
shown_whole len bytes size within blank =
    let long : length (take len bytes) ≡ len = omega (arith, length-take len bytes) in
    ap (map shown_byte) (sym (take-append-drop len bytes) ∙ ap (λ (l : List ℕ). take len bytes ++ l) blank
    ∙ ap (λ (l : List ℕ). l ++ replicate (80 - len) 32) (sym (take_all 80 (take len bytes) (omega (arith, long))))
    ∙ ap (λ (k : ℕ). take 80 (take len bytes) ++ replicate (80 - k) 32) (sym long))

-- a name behind the first 73 bytes
pub mode_added : (front mode : List ℕ) → length front ≡ 73 → length mode ≤ 5
    → front ++ take (80 - length front) mode ≡ front ++ mode
mode_added front mode h short = ap (λ (l : List ℕ). front ++ l) (take_all (80 - length front) mode (omega arith))
