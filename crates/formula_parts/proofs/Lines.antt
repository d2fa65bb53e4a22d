-- A range is looked through line by line.
use Rattle.std.proofs.Common.{◌≡◌, ℕ, zero, suc, ◌+◌, ◌-◌, ◌≤◌, ◌<◌, Bool, true, false, not, cond, nat_lt, ◌∷◌, length}
use Rattle.std.proofs.Common.{Some, None, refl, sym, ap, ◌∙◌, arith}
use Rattle.std.specs.Prelude.{position}
use Rattle.std.specs.List.{prefix_len}
use Rattle.std.proofs.lemmas.Bool.Decides.{nat_tests}
use Rattle.grid_address.specs.Place.{Extent, Place}
use Rattle.formula_tree.specs.declared.value.Value.{Value}
use Rattle.formula_parts.specs.Lookups.{firsts, line_cell}

-- so many lines pass, and the rest is still to be seen
abbrev pub IsPassed : (Value → Bool) → (Place → Value) → Bool → Extent → ℕ → ℕ → Type 0
IsPassed p values across s lines line =
    prefix_len p (firsts values across s 0 lines) ≡ line + prefix_len p (firsts values across s line (lines - line))

next_line : (values : Place → Value) (across : Bool) (s : Extent) (lines line : ℕ) → line < lines
    → firsts values across s line (lines - line)
    ≡ values (line_cell across s line 0) ∷ firsts values across s (line + 1) (lines - (line + 1))
next_line values across s lines line h =
    ap (firsts values across s line) (let e : lines - line ≡ suc (lines - (line + 1)) = omega (arith, h) in e)

-- before the first line none has passed
pub none_passed : (p : Value → Bool) (values : Place → Value) (across : Bool) (s : Extent) (lines : ℕ)
    → IsPassed p values across s lines 0
none_passed p values across s lines =
    ap (λ k. prefix_len p (firsts values across s 0 k)) (let e : lines ≡ lines - 0 = omega arith in e)
    ∙ (let e : prefix_len p (firsts values across s 0 (lines - 0))
    ≡ 0 + prefix_len p (firsts values across s 0 (lines - 0)) =
    omega arith in
    e)

-- a line that passes
pub goes_on : (p : Value → Bool) (values : Place → Value) (across : Bool) (s : Extent) (lines line : ℕ) (v : Value)
    → line < lines → IsPassed p values across s lines line → v ≡ values (line_cell across s line 0) → p v ≡ true
    → IsPassed p values across s lines (line + 1)
goes_on p values across s lines line v h passed is pass =
    let more : ℕ = prefix_len p (firsts values across s (line + 1) (lines - (line + 1))) in
    let here : prefix_len p (firsts values across s line (lines - line)) ≡ 1 + more =
    ap (prefix_len p) (next_line values across s lines line h) ∙ ap (λ b. cond b (1 + more) 0) (ap p (sym is) ∙ pass) in
    omega (arith, passed, here)

-- a line that doesn't
pub stops_here : (p : Value → Bool) (values : Place → Value) (across : Bool) (s : Extent) (lines line : ℕ) (v : Value)
    → line < lines → IsPassed p values across s lines line → v ≡ values (line_cell across s line 0) → p v ≡ false
    → prefix_len p (firsts values across s 0 lines) ≡ line
stops_here p values across s lines line v h passed is no_pass =
    let more : ℕ = prefix_len p (firsts values across s (line + 1) (lines - (line + 1))) in
    let here : prefix_len p (firsts values across s line (lines - line)) ≡ 0 =
    ap (prefix_len p) (next_line values across s lines line h)
    ∙ ap (λ b. cond b (1 + more) 0) (ap p (sym is) ∙ no_pass) in
    omega (arith, passed, here)

-- behind the last line
pub all_passed : (p : Value → Bool) (values : Place → Value) (across : Bool) (s : Extent) (lines line : ℕ)
    → lines ≤ line → line ≤ lines → IsPassed p values across s lines line
    → prefix_len p (firsts values across s 0 lines) ≡ lines
all_passed p values across s lines line h g passed =
    let none : prefix_len p (firsts values across s line (lines - line)) ≡ 0 =
    ap (λ k. prefix_len p (firsts values across s line k)) (let e : lines - line ≡ 0 = omega (arith, h) in e) in
    omega (arith, passed, none, h, g)

firsts_long : (values : Place → Value) (across : Bool) (s : Extent) (line count : ℕ)
    → length (firsts values across s line count) ≡ count
firsts_long values across s line zero = refl
firsts_long values across s line (suc count) = ap suc (firsts_long values across s (line + 1) count)

-- the first line that has the label
pub found_at : (p : Value → Bool) (values : Place → Value) (across : Bool) (s : Extent) (lines line : ℕ) → line < lines
    → prefix_len (λ v. not (p v)) (firsts values across s 0 lines) ≡ line
    → position p (firsts values across s 0 lines) ≡ Some line
found_at p values across s lines line h is =
    let inside : nat_lt line lines ≡ true = grind (arith, nat_tests, h) in
    ap (λ k. cond (nat_lt k (length (firsts values across s 0 lines))) (Some k) None) is
    ∙ ap (λ n. cond (nat_lt line n) (Some line) None) (firsts_long values across s 0 lines)
    ∙ ap (λ b. cond b (Some line) None) inside

-- where all lines are looked past, none has the label
pub found_nowhere : (p : Value → Bool) (values : Place → Value) (across : Bool) (s : Extent) (lines : ℕ)
    → prefix_len (λ v. not (p v)) (firsts values across s 0 lines) ≡ lines
    → position p (firsts values across s 0 lines) ≡ None
found_nowhere p values across s lines is =
    let past : nat_lt lines lines ≡ false = grind (arith, nat_tests) in
    ap (λ k. cond (nat_lt k (length (firsts values across s 0 lines))) (Some k) None) is
    ∙ ap (λ n. cond (nat_lt lines n) (Some lines) None) (firsts_long values across s 0 lines)
    ∙ ap (λ b. cond b (Some lines) None) past
