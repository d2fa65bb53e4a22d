-- What is made of the shelf's answers is one thing, where the shelf holds the same files and no call fails.
use Rattle.std.proofs.Common.{◌≡◌, List, [], ◌∷◌, ◌++◌, refl, sym, ap, subst, ◌∙◌}
use Rattle.commands_file.specs.Alike.{HoldAlike}
use Rattle.commands_file.specs.Calls.{Asked, HaveAnswered, Reply, ShelfCall, ShelfView}
use Rattle.session_core.specs.Machine.{Replies}
use Rattle.session_core.specs.Unfailing.{WereAnswered, NoneFailed}
use Rattle.commands_file.proofs.OneAnswer.{one_answer}

-- what comes of answers, with the calls that it made, is the same under all answers that the same files give
abbrev pub IsOne : {R X : Type 0} → (X → List Asked) → (R → X) → Type 0
IsOne {R} calls f = (r q : R) (a b c d : ShelfView) → HoldAlike a b → WereAnswered (calls (f r)) a c →
    WereAnswered (calls (f q)) b d → f r ≡ f q

-- some calls, and then others
pub record InTwo (first more : List Asked) (a c : ShelfView) : Type 0 where
  pub between : ShelfView
  pub one : WereAnswered first a between
  pub other : WereAnswered more between c

-- where some calls and then others were answered, a shelf stands between them
pub in_two : (first more : List Asked) (a c : ShelfView) → WereAnswered (first ++ more) a c → InTwo first more a c
in_two [] more a c w = record { between = a; one = record { had = refl; fine = tt }; other = w }
in_two (k ∷ ks) more a c w =
    let later = in_two ks more w.had.0 c (record { had = w.had.2; fine = w.fine.1 }) in
    record {
      between = later.between;
      one = record { had = (w.had.0, w.had.1, later.one.had); fine = (w.fine.0, later.one.fine) };
      other = later.other;
    }

-- the same calls of shelves with the same files leave the same files
pub left_alike : (calls : List Asked) (a b c d : ShelfView) → HoldAlike a b → HaveAnswered calls a c →
    HaveAnswered calls b d → NoneFailed calls → HoldAlike c d
left_alike [] a b c d alike had had' fine =
    subst (λ (v : ShelfView). HoldAlike v d) (sym had) (subst (λ (v : ShelfView). HoldAlike a v) (sym had') alike)
left_alike (k ∷ ks) a b c d alike had had' fine =
    let first = one_answer k.call k.reply k.reply a b had.0 had'.0 alike fine.0 fine.0 had.1.told had'.1.told in
    left_alike ks had.0 had'.0 c d first.1 had.2 had'.2 fine.1

-- nothing hangs on the answers
pub constant : {R X : Type 0} (calls : X → List Asked) (x : X) → IsOne calls (λ (r : R). x)
constant calls x r q a b c d alike w w' = refl

-- the same, told in another way
pub as_one : {R X : Type 0} (calls : X → List Asked) (f g : R → X) → ((r : R) → g r ≡ f r) → IsOne calls f →
    IsOne calls g
as_one {R} {X} calls f g is one r q a b c d alike w w' =
    is r ∙ one r q a b c d alike (subst (λ (x : X). WereAnswered (calls x) a c) (is r) w)
    (subst (λ (x : X). WereAnswered (calls x) b d) (is q) w') ∙ sym (is q)

-- one call is made
pub by_one_call : {X : Type 0} (calls : X → List Asked) (f : Reply → X) (call : ShelfCall) →
    ((r : Reply) → calls (f r) ≡ record { call = call; reply = r } ∷ []) → IsOne calls f
by_one_call calls f call is r q a b c d alike w w' =
    let one : WereAnswered (record { call = call; reply = r } ∷ []) a c =
    subst (λ (l : List Asked). WereAnswered l a c) (is r) w in
    let other : WereAnswered (record { call = call; reply = q } ∷ []) b d =
    subst (λ (l : List Asked). WereAnswered l b d) (is q) w' in
    ap f (one_answer call r q a b one.had.0 other.had.0 alike one.fine.0 other.fine.0 one.had.1.told other.had.1.told).0

-- what follows from one thing, and may make more calls
pub behind_one : {R Y X : Type 0} (calls : Y → List Asked) (calls' : X → List Asked) (more : Y → List Asked) (g : R →
    Y) (h : Y → X) → IsOne calls g → ((y : Y) → calls' (h y) ≡ calls y ++ more y) → IsOne calls' (λ r. h (g r))
behind_one calls calls' more g h one is r q a b c d alike w w' =
    let first = in_two (calls (g r)) (more (g r)) a c (subst (λ (l : List Asked). WereAnswered l a c) (is (g r)) w) in
    let first' = in_two (calls (g q)) (more (g q)) b d (subst (λ (l : List Asked). WereAnswered l b d) (is (g q)) w') in
    ap h (one r q a b first.between first'.between alike first.one first'.one)

-- the same where it makes none
pub made_of : {R Y X : Type 0} (calls : Y → List Asked) (calls' : X → List Asked) (g : R → Y) (h : Y → X) →
    IsOne calls g → ((y : Y) → calls' (h y) ≡ calls y) → IsOne calls' (λ r. h (g r))
made_of calls calls' g h one is r q a b c d alike w w' =
    ap h (one r q a b c d alike (subst (λ (l : List Asked). WereAnswered l a c) (is (g r)) w)
    (subst (λ (l : List Asked). WereAnswered l b d) (is (g q)) w'))

-- one thing and then another, each over an answer of its own
pub one_by_one : {Y Z X : Type 0} (calls : Y → List Asked) (then_calls : Z → List Asked) (all : X → List Asked)
    (g : Reply → Y) (h : Y → Reply → Z) (join : Y → Z → X) → IsOne calls g → ((y : Y) → IsOne then_calls (h y)) →
    ((y : Y) (r : Reply) → all (join y (h y r)) ≡ calls y ++ then_calls (h y r)) →
    IsOne all (λ (rs : Replies). join (g rs.look) (h (g rs.look) rs.act))
one_by_one {Y} calls then_calls all g h join one others is rs qs a b c d alike w w' =
    let first = in_two (calls (g rs.look)) (then_calls (h (g rs.look) rs.act)) a c
    (subst (λ (l : List Asked). WereAnswered l a c) (is (g rs.look) rs.act) w) in
    let first' = in_two (calls (g qs.look)) (then_calls (h (g qs.look) qs.act)) b d
    (subst (λ (l : List Asked). WereAnswered l b d) (is (g qs.look) qs.act) w') in
    let same : g rs.look ≡ g qs.look = one rs.look qs.look a b first.between first'.between alike first.one
    first'.one in
    let here : HaveAnswered (calls (g rs.look)) b first'.between =
    subst (λ (y : Y). HaveAnswered (calls y) b first'.between) (sym same) first'.one.had in
    let between = left_alike (calls (g rs.look)) a b first.between first'.between alike first.one.had here
    first.one.fine in
    let then_other : WereAnswered (then_calls (h (g rs.look) qs.act)) first'.between d =
    subst (λ (y : Y). WereAnswered (then_calls (h y qs.act)) first'.between d) (sym same) first'.other in
    let next : h (g rs.look) rs.act ≡ h (g rs.look) qs.act =
    others (g rs.look) rs.act qs.act first.between first'.between c d between first.other then_other in
    ap (join (g rs.look)) next ∙ ap (λ (y : Y). join y (h y qs.act)) same

-- what hangs on one answer of two
pub by_look : {X : Type 0} (calls : X → List Asked) (f : Reply → X) → IsOne calls f →
    IsOne calls (λ (rs : Replies). f rs.look)
by_look calls f one rs qs a b c d alike w w' = one rs.look qs.look a b c d alike w w'

-- what hangs on the act's answer alone has one result with both answers given
pub by_act : {X : Type 0} (calls : X → List Asked) (f : Reply → X) → IsOne calls f →
    IsOne calls (λ (rs : Replies). f rs.act)
by_act calls f one rs qs a b c d alike w w' = one rs.act qs.act a b c d alike w w'
