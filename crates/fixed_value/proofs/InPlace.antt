-- A text at its place among other bytes.
use Rattle.std.proofs.Common.{◌≡◌, ℕ, zero, suc, ◌+◌, ◌-◌, ◌/◌, ◌%◌, ◌^◌, ◌≤◌, ◌<◌, List, [], ◌∷◌, ◌++◌, length, take}
use Rattle.std.proofs.Common.{drop, set, refl, sym, ap, subst, ◌∙◌, arith, inl, inr, append_assoc, length-append}
use Rattle.std.specs.Prelude.{nat_lt}
use Rattle.std.proofs.lemmas.Bool.{cases_Bool}
use Rattle.std.proofs.lemmas.Bool.Decides.{nat_tests}
use Rattle.std.proofs.lemmas.List.{drop-set, length-set, take-append-drop, take-set, take-take}
use Rattle.fixed_value.specs.Standing.{Stands}
use Rattle.fixed_value.specs.Written.{fixed_digits, pointed, without_zeros}
use Rattle.fixed_value.proofs.LastDigits.{below_len, by_ten, more_digits, one_digit, one_more, smaller}
use Rattle.fixed_value.proofs.Places.{power_positive, quotient_is}
use Rattle.fixed_value.proofs.Written.{fixed_digits_length, pointed_more}

-- fronts that are the same have the same shorter fronts
front_shorter : (n m : ℕ) (xs ys : List ℕ) → n ≤ m → take m xs ≡ take m ys → take n xs ≡ take n ys
front_shorter n m xs ys less same = sym (take-take n m xs less) ∙ ap (take n) same ∙ take-take n m ys less

-- one byte
pub byte_stands : (bytes : List ℕ) (end byte : ℕ) → 1 ≤ end → end ≤ length bytes
    → Stands (byte ∷ []) (end - 1) end bytes (set bytes (end - 1) byte)
byte_stands bytes end byte some within =
    let next : end - 1 + 1 ≡ end = omega (arith, some) in
    record {
      at = next;
      behind = drop-set bytes (end - 1) byte (omega (arith, some, within)) ∙ ap (λ (k : ℕ). byte ∷ drop k bytes) next;
      before = take-set bytes (end - 1) byte;
      size = length-set bytes (end - 1) byte;
    }

-- no byte
pub nothing_stands : (bytes : List ℕ) (end : ℕ) → Stands [] end end bytes bytes
nothing_stands bytes end = record { at = omega arith; behind = refl; before = refl; size = refl }

-- a text in front of another
pub stands_more : (front text : List ℕ) (from at end : ℕ) (old now new : List ℕ) → Stands front from at now new
    → Stands text at end old now → Stands (front ++ text) from end old new
stands_more front text from at end old now new f t = record {
  at = omega (arith, f.at, t.at, length-append front text);
  behind = f.behind ∙ ap (λ (l : List ℕ). front ++ l) t.behind ∙ sym (append_assoc front text (drop end old));
  before = f.before ∙ front_shorter from at now old (omega (arith, f.at)) t.before;
  size = f.size ∙ t.size;
}

-- the bytes are what stands there, between those that are as they were
pub stood : (text : List ℕ) (from end : ℕ) (old new : List ℕ) → Stands text from end old new
    → new ≡ take from old ++ (text ++ drop end old)
stood text from end old new s =
    sym (take-append-drop from new) ∙ ap (λ (l : List ℕ). l ++ drop from new) s.before
    ∙ ap (λ (l : List ℕ). take from old ++ l) s.behind

-- digits that are put in front of each other, from one place down to another
pub record Placing (first end count number : ℕ) (initial : List ℕ) (from left : ℕ) (bytes : List ℕ) : Type 0 where
  pub digits : fixed_digits (from - first) left ++ drop from bytes ≡ fixed_digits count number ++ drop end initial
  pub before : take from bytes ≡ take from initial
  pub size : length bytes ≡ length initial
  pub left_is : left / 10 ^ (from - first) ≡ number / 10 ^ count
  pub least : first ≤ from
  pub most : from ≤ end

-- before the first digit all of the number is left to place
pub placing_starts : (first end count number : ℕ) (initial : List ℕ) → count ≤ end → first ≡ end - count
    → Placing first end count number initial end number initial
placing_starts first end count number initial room is =
    let all : end - first ≡ count = omega (arith, room, is) in
    record {
      digits = ap (λ (k : ℕ). fixed_digits k number ++ drop end initial) all;
      before = refl;
      size = refl;
      left_is = ap (λ (k : ℕ). number / 10 ^ k) all;
      least = omega (arith, is);
      most = omega arith;
    }

-- the last digit of what is left is placed one place further to the front
pub placing_goes_on : (first end count number : ℕ) (initial : List ℕ) (from left : ℕ) (bytes new : List ℕ)
    → first < from →
    Placing first end count number initial from left bytes → Stands ((48 + left % 10) ∷ []) (from - 1) from bytes new →
    Placing first end count number initial (from - 1) (left / 10) new
placing_goes_on first end count number initial from left bytes new more p s =
    let less : from - 1 - first ≡ from - first - 1 = omega arith in
    let some : 0 < from - first = omega (arith, more) in
    record {
      digits = ap (λ (l : List ℕ). fixed_digits (from - 1 - first) (left / 10) ++ l) s.behind
          ∙ ap (λ (k : ℕ). fixed_digits k (left / 10) ++ (48 + left % 10) ∷ drop from bytes) less
          ∙ one_more (from - first) left (drop from bytes) some ∙ p.digits;
      before = s.before ∙ front_shorter (from - 1) from bytes initial (omega arith) p.before;
      size = s.size ∙ p.size;
      left_is = ap (λ (k : ℕ). left / 10 / 10 ^ k) less ∙ by_ten (from - first) left some ∙ p.left_is;
      least = omega (arith, more);
      most = omega (arith, p.most);
    }

-- where the front is reached, the digits stand
pub placed_all : (first end count number : ℕ) (initial : List ℕ) (from left : ℕ) (bytes : List ℕ) → count ≤ end
    → first ≡ end - count → from ≤ first →
    Placing first end count number initial from left bytes
    → Stands (fixed_digits count number) (end - count) end initial bytes
placed_all first end count number initial from left bytes room is last p =
    let here : from ≡ end - count = omega (arith, is, last, p.least) in
    let none : from - first ≡ 0 = omega (arith, last) in
    record {
      at = omega (arith, room, fixed_digits_length count number);
      behind =
          ap (λ (k : ℕ). drop k bytes) (sym here) ∙ ap (λ (k : ℕ). fixed_digits k left ++ drop from bytes) (sym none)
          ∙ p.digits;
      before = ap (λ (k : ℕ). take k bytes) (sym here) ∙ p.before ∙ ap (λ (k : ℕ). take k initial) here;
      size = p.size;
    }

-- two digits at a time
pub placing_pair : (first end count number : ℕ) (initial : List ℕ) (from left : ℕ) (bytes mid new : List ℕ)
    → first + 1 < from →
    Placing first end count number initial from left bytes
    → Stands ((48 + left % 100 % 10) ∷ []) (from - 1) from bytes mid →
    Stands ((48 + left % 100 / 10) ∷ []) (from - 1 - 1) (from - 1) mid new
    → Placing first end count number initial (from - 2) (left / 100) new
placing_pair first end count number initial from left bytes mid new more p last front =
    let last_is : left % 100 % 10 ≡ left % 10 = omega arith in
    let front_is : left % 100 / 10 ≡ left / 10 % 10 = omega arith in
    let place : from - 1 - 1 ≡ from - 2 = omega arith in
    let rest : left / 10 / 10 ≡ left / 100 = omega arith in
    let one =
    placing_goes_on first end count number initial from left bytes mid (omega (arith, more)) p
    (subst (λ (d : ℕ). Stands ((48 + d) ∷ []) (from - 1) from bytes mid) last_is last) in
    let two = placing_goes_on first end count number initial (from - 1) (left / 10) mid new (omega (arith, more)) one
    (subst (λ (d : ℕ). Stands ((48 + d) ∷ []) (from - 1 - 1) (from - 1) mid new) front_is front) in
    subst (λ (f : ℕ). Placing first end count number initial f (left / 100) new) place
    (subst (λ (l : ℕ). Placing first end count number initial (from - 1 - 1) l new) rest two)

-- the last digit of a number that has no more
pub one_left : (first end count number : ℕ) (initial : List ℕ) (from left : ℕ) (bytes : List ℕ) → number < 10 ^ count
    → first < from → from ≤ first + 1 →
    Placing first end count number initial from left bytes → left < 10
one_left first end count number initial from left bytes below more last p =
    let one : from - first ≡ 1 = omega (arith, more, last) in
    let none : number / 10 ^ count ≡ 0 =
    quotient_is (10 ^ count) 0 number (power_positive count) (omega arith) (omega (arith, below)) in
    let is : left / 10 ^ 1 ≡ 0 = ap (λ (k : ℕ). left / 10 ^ k) (sym one) ∙ p.left_is ∙ none in
    omega (arith, is)

-- where one digit is left, it is the first, and then the digits stand
pub one_placed : (first end count number : ℕ) (initial : List ℕ) (from left : ℕ) (bytes new : List ℕ) → count ≤ end
    → first ≡ end - count → number < 10 ^ count → first < from → from ≤ first + 1 →
    Placing first end count number initial from left bytes → Stands ((48 + left) ∷ []) (from - 1) from bytes new
    → Stands (fixed_digits count number) (end - count) end initial new
one_placed first end count number initial from left bytes new room is below more last p s =
    let small : left < 10 = one_left first end count number initial from left bytes below more last p in
    let digit : left ≡ left % 10 = omega (arith, small) in
    placed_all first end count number initial (from - 1) (left / 10) new room is (omega (arith, last))
    (placing_goes_on first end count number initial from left bytes new more p
    (subst (λ (d : ℕ). Stands ((48 + d) ∷ []) (from - 1) from bytes new) digit s))

-- there is room for the places and the point
pub places_room : (places number end : ℕ) → 0 < places → length (pointed (fixed_digits places number)) ≤ end
    → places + 1 ≤ end
places_room places number end some room =
    let digits : length (fixed_digits places number) ≡ places = fixed_digits_length places number in
    omega (arith, room, digits, ap length (pointed_more (fixed_digits places number) (omega (arith, some, digits))))

-- the point stands before its places
pub places_stand : (places number end taken : ℕ) (old now new : List ℕ) → 0 < places → taken ≡ places
    → Stands (fixed_digits places number) (end - places) end old now →
    Stands (46 ∷ []) (end - taken - 1) (end - taken) now new
    → Stands (pointed (fixed_digits places number)) (end - taken - 1) end old new
places_stand places number end taken old now new some is digits point =
    let digits_here : Stands (fixed_digits places number) (end - taken) end old now =
    subst (λ (k : ℕ). Stands (fixed_digits places number) (end - k) end old now) (sym is) digits in
    subst (λ (text : List ℕ). Stands text (end - taken - 1) end old new)
    (sym (pointed_more (fixed_digits places number) (omega (arith, some, fixed_digits_length places number))))
    (stands_more (46 ∷ []) (fixed_digits places number) (end - taken - 1) (end - taken) end old now new point
    digits_here)

-- as many digits as a number has
pub exact_whole : (k n : ℕ) → 0 < k → n < 10 ^ k
    → fixed_digits (length (without_zeros (fixed_digits k n))) n ≡ without_zeros (fixed_digits k n)
exact_whole zero n some below = absurd (omega (arith, some))
exact_whole (suc k) n some below = elim (cases_Bool (nat_lt n 10)) [
  | inl one ↦
      let small : n < 10 = grind (arith, nat_tests, one) in
      let is : without_zeros (fixed_digits (suc k) n) ≡ (48 + n) ∷ [] = one_digit (suc k) n (omega arith) small in
      let last : 48 + n % 10 ≡ 48 + n = omega (arith, small) in
      ap (λ (l : List ℕ). fixed_digits (length l) n) is ∙ ap (λ (d : ℕ). d ∷ []) last ∙ sym is
  | inr more ↦
      let large : 10 ≤ n = grind (arith, nat_tests, more) in
      let less = smaller (suc k) n large below in
      let same : suc k - 1 ≡ k = omega arith in
      let front : List ℕ = without_zeros (fixed_digits k (n / 10)) in
      let is : without_zeros (fixed_digits (suc k) n) ≡ front ++ (48 + n % 10) ∷ [] =
      more_digits (suc k) n large below
      ∙ ap (λ (j : ℕ). without_zeros (fixed_digits j (n / 10)) ++ (48 + n % 10) ∷ []) same in
      let long : length (front ++ (48 + n % 10) ∷ []) ≡ suc (length front) =
      omega (arith, length-append front ((48 + n % 10) ∷ [])) in
      let rest : fixed_digits (length front) (n / 10) ≡ front =
      exact_whole k (n / 10) (omega (arith, less.0)) (subst (λ (j : ℕ). n / 10 < 10 ^ j) same less.1) in
      ap (λ (l : List ℕ). fixed_digits (length l) n) is ∙ ap (λ (j : ℕ). fixed_digits j n) long
      ∙ ap (λ (l : List ℕ). l ++ (48 + n % 10) ∷ []) rest ∙ sym is
]

-- a sign, whole digits and places in front of each other
pub parts_stand : (sign : List ℕ) (whole behind places len from point end taken : ℕ) (old now front new : List ℕ) →
    len ≡ length (without_zeros (fixed_digits 10 whole)) → whole < 10 ^ 10 → taken ≡ len →
    Stands (pointed (fixed_digits places behind)) point end old now
    → Stands (fixed_digits len whole) (point - len) point now front → Stands sign from (point - taken) front new →
    Stands (sign ++ (without_zeros (fixed_digits 10 whole) ++ pointed (fixed_digits places behind))) from end old new
parts_stand sign whole behind places len from point end taken old now front new long below all p w s =
    let digits : fixed_digits len whole ≡ without_zeros (fixed_digits 10 whole) =
    ap (λ (k : ℕ). fixed_digits k whole) long ∙ exact_whole 10 whole (omega arith) below in
    let sign_here : Stands sign from (point - len) front new =
    subst (λ (k : ℕ). Stands sign from (point - k) front new) all s in
    subst (λ (text : List ℕ). Stands (sign ++ (text ++ pointed (fixed_digits places behind))) from end old new) digits
    (stands_more sign (fixed_digits len whole ++ pointed (fixed_digits places behind)) from (point - len) end old front
    new sign_here
    (stands_more (fixed_digits len whole) (pointed (fixed_digits places behind)) (point - len) point end old now front
    w p))

-- the whole digits fit their count
pub whole_fits_len : (whole len : ℕ) → len ≡ length (without_zeros (fixed_digits 10 whole)) → whole < 10 ^ 10
    → whole < 10 ^ len
whole_fits_len whole len is below = subst (λ (k : ℕ). whole < 10 ^ k) (sym is) (below_len 10 whole (omega arith) below)
