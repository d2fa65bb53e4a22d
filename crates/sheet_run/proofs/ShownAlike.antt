-- Displays that began alike and showed the same screens are alike.
use Rattle.std.proofs.Common.{◌≡◌, Bool, true, false, List, [], ◌∷◌, length, map, Option, Some, None}
use Rattle.std.proofs.Common.{refl, sym, ap, ◌∙◌, subst, arith, length-append}
use Rattle.std.specs.Prelude.{cond}
use Rattle.std.specs.List.{filter}
use Rattle.std.proofs.lemmas.Bool.{true≢false}
use Rattle.screen_show.specs.Display.{raised, with_end, Shown, View}
use Rattle.screen_show.specs.declared.display.DisplayKind.{DisplayKind}
use Rattle.sheet_run.specs.Displays.{no_screen, one_more, watched, views_of, HasClosed, HasFailed, HasShown, Partitions}
use Rattle.sheet_run.specs.Displays.{Screen, Sent, ShowsAndCloses, Watched}
use Rattle.sheet_run.specs.Displays.{kept as pass_kept, none as pass_none, taken_out as pass_out}
use Rattle.sheet_run.specs.Outcome.{shown_on}

-- the displays as they were before the run
abbrev pub befores : List Watched → List View
befores ds = map (λ d. d.before) ds

-- a display shows one thing once it showed these screens and was closed
one_shown : (screens : List Screen) (s t u : Shown) → HasShown screens s t → HasShown screens s u →
    with_end t ≡ with_end u
one_shown screens s t u a b = λ i. record {
  screen = (a.screen ∙ sym b.screen) i;
  frames = (a.frames ∙ sym b.frames) i;
  puts = (a.puts ∙ sym b.puts) i;
  bytes_put = (a.bytes_put ∙ sym b.bytes_put) i;
  closed = true;
  closes = raised ((a.closes ∙ sym b.closes) i) 1;
}

one_told : (screens : List Screen) (before c d : Option Shown) → ShowsAndCloses screens before c →
    ShowsAndCloses screens before d → c ≡ d
one_told screens None c d p q = p ∙ sym q
one_told screens (Some s) c d p q = p.2 ∙ ap Some (one_shown screens s p.0 q.0 p.1 q.1) ∙ sym q.2

one_closed : (screens : List Screen) (v v' w w' : View) → shown_on v ≡ shown_on v' → HasClosed screens v w →
    HasClosed screens v' w' → shown_on w ≡ shown_on w'
one_closed screens v v' w w' same a b =
    let kind : w.kind ≡ w'.kind = a.same_kind ∙ ap (λ (p : DisplayKind × Option Shown). p.0) same ∙ sym b.same_kind in
    let before : v.told ≡ v'.told = ap (λ (p : DisplayKind × Option Shown). p.1) same in
    let told : w.told ≡ w'.told =
    one_told screens v'.told w.told w'.told (subst (λ (o : Option Shown). ShowsAndCloses screens o w.told) before
    a.shown) b.shown in
    λ i. (kind i, told i)

-- of alike displays of which none failed the closed ones are alike
pub all_alike : (screens : List Screen) (ds ks fs ds' ks' fs' : List Watched)
    → Partitions (HasClosed screens) (HasFailed screens) ds ks fs
    → Partitions (HasClosed screens) (HasFailed screens) ds' ks' fs' → fs ≡ [] → fs' ≡ []
    → map shown_on (befores ds) ≡ map shown_on (befores ds') → map shown_on (views_of ks) ≡ map shown_on (views_of ks')
all_alike screens ds ks fs ds' ks' fs' pass_none pass_none none none' same = refl
all_alike screens ds ks fs ds' ks' fs' pass_none (pass_kept had rest) none none' same =
    absurd (omega (arith, ap length same))
all_alike screens ds ks fs ds' ks' fs' pass_none (pass_out had rest) none none' same =
    absurd (omega (arith, ap length none'))
all_alike screens ds ks fs ds' ks' fs' (pass_kept had rest) pass_none none none' same =
    absurd (omega (arith, ap length same))
all_alike screens ds ks fs ds' ks' fs' (pass_kept {d} {w} {ds = more} {ks = kept} had rest) (pass_kept {d = d'} {w =
    w'} {ds = more'} {ks = kept'} had' rest') none none' same =
    let first : shown_on d.before ≡ shown_on d'.before = cc in
    let others : map shown_on (befores more) ≡ map shown_on (befores more') = cc in
    let now = one_closed screens d.before d'.before w w' first had had' in
    let later = all_alike screens _ _ _ _ _ _ rest rest' none none' others in
    λ i. now i ∷ later i
all_alike screens ds ks fs ds' ks' fs' (pass_kept had rest) (pass_out had' rest') none none' same =
    absurd (omega (arith, ap length none'))
all_alike screens ds ks fs ds' ks' fs' (pass_out had rest) other none none' same =
    absurd (omega (arith, ap length none))

starts_before : (vs : List View) → befores (map (λ v. watched v v) vs) ≡ vs
starts_before [] = refl
starts_before (v ∷ vs) = ap (λ (l : List View). v ∷ l) (starts_before vs)

pass_before : {Kept Failing : View → View → Type 0} (ds ks fs : List Watched)
    → Partitions Kept Failing ds ks fs → fs ≡ [] →
    befores ks ≡ befores ds
pass_before ds ks fs pass_none none = refl
pass_before ds ks fs (pass_kept {d} had rest) none = ap (λ (l : List View). d.before ∷ l) (pass_before _ _ _ rest none)
pass_before ds ks fs (pass_out had rest) none = absurd (omega (arith, ap length none))

no_displays : (xs : List Watched) → length xs ≡ 0 → xs ≡ []
no_displays [] e = refl
no_displays (x ∷ xs) e = absurd (omega (arith, e))

-- where no display failed, those that are left are those that were there
pub all_left : (start : List View) (screens : List Screen) (left out : List Watched) → Sent start screens left out →
    out ≡ [] → befores left ≡ start
all_left start screens left out no_screen none = starts_before start
all_left start screens left out (one_more s {out = first} {out' = more} sent passes) none =
    let first_none = no_displays first (omega (arith, ap length none, length-append first more)) in
    let more_none = no_displays more (omega (arith, ap length none, length-append first more)) in
    pass_before _ _ _ passes more_none ∙ all_left start _ _ _ sent first_none

kept_alike : (c d : Bool) (v w : View) (vs ws : List View) → c ≡ d → shown_on v ≡ shown_on w →
    map shown_on vs ≡ map shown_on ws → map shown_on (cond c (v ∷ vs) vs) ≡ map shown_on (cond d (w ∷ ws) ws)
kept_alike true true v w vs ws is first rest = λ i. first i ∷ rest i
kept_alike true false v w vs ws is first rest = absurd (true≢false is)
kept_alike false true v w vs ws is first rest = absurd (true≢false (sym is))
kept_alike false false v w vs ws is first rest = rest

-- displays of one kind, of displays that are alike
pub filtered_alike : (keeps : DisplayKind → Bool) (vs ws : List View) → map shown_on vs ≡ map shown_on ws →
    map shown_on (filter (λ v. keeps v.kind) vs) ≡ map shown_on (filter (λ v. keeps v.kind) ws)
filtered_alike keeps [] [] same = refl
filtered_alike keeps [] (w ∷ ws) same = absurd (omega (arith, ap length same))
filtered_alike keeps (v ∷ vs) [] same = absurd (omega (arith, ap length same))
filtered_alike keeps (v ∷ vs) (w ∷ ws) same =
    let first : shown_on v ≡ shown_on w = cc in
    let others : map shown_on vs ≡ map shown_on ws = cc in
    let kind : v.kind ≡ w.kind = ap (λ (p : DisplayKind × Option Shown). p.0) first in
    kept_alike (keeps v.kind) (keeps w.kind) v w _ _ (ap keeps kind) first (filtered_alike keeps vs ws others)
