-- Names one after another in a line that is cut.
use Rattle.std.specs.Prelude.{ℕ, zero, suc, ◌≡◌, ◌+◌, ◌<◌, ◌≤◌, nat_eq, nat_lt, refl, List, [], ◌∷◌, ◌++◌}
use Rattle.std.specs.Prelude.{get_or, length, map, take}
use Rattle.std.proofs.Common.{ap, sym, ◌∙◌, arith, false, inl, inr, length-append}
use Rattle.std.proofs.lemmas.Bool.{cases_lt, false_from_ne_true, lt-ltb, ltb-true}
use Rattle.std.proofs.lemmas.List.{append-nil, append_assoc, length-map, length-take-le, map_more, take_all, take_at}
use Rattle.lics_text.specs.Texts.{line_with}
use Rattle.room_keys.specs.menu.Ring.{marked, marked_from}

-- what was cut, went on and is cut again
pub cut_again : (n : ℕ) (xs ys : List ℕ) → take n (take n xs ++ ys) ≡ take n (xs ++ ys)
cut_again zero xs ys = refl
cut_again (suc n) [] ys = refl
cut_again (suc n) (x ∷ xs) ys = ap (λ l. x ∷ l) (cut_again n xs ys)

-- a byte that is put where there is room is cut where there is none
pub byte_cut : (text : List ℕ) (b : ℕ) → length text ≤ 240 → line_with text b ≡ take 240 (text ++ b ∷ [])
byte_cut text b short = elim (cases_lt (length text) 240) [
  | inl room ↦ (rw (lt-ltb (length text) 240 room)
      (sym (take_all 240 (text ++ b ∷ []) (omega (arith, room, length-append text (b ∷ []))))))
  | inr full ↦
      (let past : nat_lt (length text) 240 ≡ false =
      false_from_ne_true (nat_lt (length text) 240)
      (λ h. let low : length text < 240 = ltb-true (length text) 240 h in omega (arith, full, low)) in
      rw past (sym (take_at text (b ∷ []) 240 (omega (arith, full, short)))))
]

-- two parts, each put behind what was cut
pub two_parts : (n : ℕ) (xs a b one two : List ℕ) → one ≡ take n (xs ++ a) → two ≡ take n (one ++ b)
    → two ≡ take n (xs ++ (a ++ b))
two_parts n xs a b one two p q =
    q ∙ ap (λ l. take n (l ++ b)) p ∙ cut_again n (xs ++ a) b ∙ ap (λ l. take n l) (append_assoc xs a b)

-- three parts
pub three_parts : (n : ℕ) (xs a b c one two three : List ℕ) → one ≡ take n (xs ++ a) → two ≡ take n (one ++ b) →
    three ≡ take n (two ++ c) → three ≡ take n (xs ++ (a ++ (b ++ c)))
three_parts n xs a b c one two three p q r =
    two_parts n xs a (b ++ c) one three p (two_parts n one b c two three q r)

-- a part behind what is a line's beginning
going_on : (n : ℕ) (front line name new : List ℕ) → line ≡ take n front → new ≡ take n (line ++ name)
    → new ≡ take n (front ++ name)
going_on n front line name new is put = put ∙ ap (λ l. take n (l ++ name)) is ∙ cut_again n front name

-- one more name at the end, with its mark
marked_more : (place h : ℕ) (ns : List (List ℕ)) (n : List ℕ) →
    marked_from place h (ns ++ n ∷ []) ≡ marked_from place h ns ++ marked (nat_eq (place + length ns) h) n
marked_more place h [] n =
    let here : nat_eq place h ≡ nat_eq (place + 0) h = ap (λ k. nat_eq k h) (omega arith) in
    append-nil (marked (nat_eq place h) n) ∙ ap (λ b. marked b n) here
marked_more place h (m ∷ ns) n =
    let next : nat_eq (place + 1 + length ns) h ≡ nat_eq (place + suc (length ns)) h =
    ap (λ k. nat_eq k h) (omega arith) in
    ap (λ l. marked (nat_eq place h) m ++ l)
    (marked_more (place + 1) h ns n ∙ ap (λ b. marked_from (place + 1) h ns ++ marked b n) next)
    ∙ sym (append_assoc (marked (nat_eq place h) m) (marked_from (place + 1) h ns)
    (marked (nat_eq (place + suc (length ns)) h) n))

module _ {X : Type 0} (name : X → List ℕ) where
  -- a line of the first items, and one more
  pub one_item : (n h i : ℕ) (xs : List X) (d : X) (line new : List ℕ) → i < length xs →
      line ≡ take n (marked_from 0 h (map name (take i xs)))
      → new ≡ take n (line ++ marked (nat_eq i h) (name (get_or xs i d)))
      → new ≡ take n (marked_from 0 h (map name (take (i + 1) xs)))
  one_item n h i xs d line new within is put =
      let long : length (map name (take i xs)) ≡ i =
      length-map (take i xs) name ∙ length-take-le i xs (omega (arith, within)) in
      let start : 0 + length (map name (take i xs)) ≡ i = omega (arith, long) in
      going_on n (marked_from 0 h (map name (take i xs))) line (marked (nat_eq i h) (name (get_or xs i d))) new is put
      ∙ ap (λ k. take n (marked_from 0 h (map name (take i xs)) ++ marked (nat_eq k h) (name (get_or xs i d))))
      (sym start)
      ∙ ap (λ l. take n l) (sym (marked_more 0 h (map name (take i xs)) (name (get_or xs i d))))
      ∙ ap (λ l. take n (marked_from 0 h l)) (sym (map_more name xs i d within))
