use Rattle.std.specs.Prelude.{◌≡◌, ◌≤◌, ◌<◌, ◌∷◌, [], true, List, ◌++◌, length}
use Rattle.std.proofs.Common.{sym, ◌∙◌, ap, subst, arith}
use Rattle.std.proofs.Math.ListN.{drop_of_length-le}
use Rattle.std.proofs.Math.Nat.{lt_of_le_of_lt}
use Rattle.cell_maps.specs.Sets.{has}
use Rattle.natural_order.specs.Walk.{Walked}
use Rattle.grid_address.specs.Place.{same_place, Place}
use Rattle.natural_order.specs.Machine.{walked, fuel}
use Rattle.natural_order.specs.inner.Stack.{finish, work_left, IsOnPath, left, walk_on, trail}
use Rattle.natural_order.specs.declared.walker.Frame.{Frame}
use Rattle.natural_order.proofs.Machine.{on-advanced, advanced, reads-last, has_at, finish-advanced, left-advanced}
use Rattle.natural_order.proofs.Machine.{finish-closed, path-last, last-apart, closed_less, inserted_new, on-closed}
use Rattle.natural_order.proofs.Machine.{advanced_less}
use Rattle.natural_order.proofs.walker.Walker.step.Goals as goal

pub visit-requires-clause-known : goal.visit-requires-clause-known
visit-requires-clause-known g c =
    let pre = g.G.Precedents.pre c.args.graph.now in
    let all = g.G.Precedents.all c.args.graph.now in
    let d : Place = c.index-cell.result.now in
    let f : Frame = c.in-Some.frame in
    let on =
    subst (IsOnPath pre all c.args.self.now.done.keys c.args.self.now.path.keys) c.in-Some.ensures.items
    c.requires.on in
    let lt : f.next < length f.reads.items = omega arith in
    g.met.G.Precedents.closed c.args.graph.now f.cell d
    (subst (λ (ds : List Place). has same_place ds d ≡ true)
    (reads-last pre all c.args.self.now.done.keys c.args.self.now.path.keys c.pop.new.self.items f on)
    (has_at f.reads.items f.next d lt c.index-cell.ensures))

pub visit-requires-clause-on : goal.visit-requires-clause-on
visit-requires-clause-on g c =
    let pre = g.G.Precedents.pre c.args.graph.now in
    let all = g.G.Precedents.all c.args.graph.now in
    let on =
    subst (IsOnPath pre all c.args.self.now.done.keys c.args.self.now.path.keys) c.in-Some.ensures.items
    c.requires.on in
    subst (IsOnPath pre all c.args.self.now.done.keys c.args.self.now.path.keys) (sym c.in_ok-push.ensures)
    (on-advanced pre all c.args.self.now.done.keys c.args.self.now.path.keys c.pop.new.self.items c.in-Some.frame on)

pub returns-in_ok-visit-clause-same : goal.returns-in_ok-visit-clause-same
returns-in_ok-visit-clause-same g c =
    let pre = g.G.Precedents.pre c.args.graph.now in
    let all = g.G.Precedents.all c.args.graph.now in
    let d : Place = c.index-cell.result.now in
    let f : Frame = c.in-Some.frame in
    let s : Walked Place = walked c.args.self.now.done c.args.self.now.circular in
    let on =
    subst (IsOnPath pre all c.args.self.now.done.keys c.args.self.now.path.keys) c.in-Some.ensures.items
    c.requires.on in
    let lt : f.next < length f.reads.items = omega arith in
    c.in_ok-visit.ensures.same
    ∙ ap (λ (fs : List Frame). finish pre (fuel all) [] fs (walk_on pre (fuel all) (trail [] fs) s d))
    c.in_ok-push.ensures
    ∙ sym (finish-advanced pre all c.args.self.now.done.keys c.args.self.now.path.keys c.pop.new.self.items f on s d
    (left-advanced f d lt ∙ ap (λ (x : Place). x ∷ left (advanced f)) (sym c.index-cell.ensures)))
    ∙ ap (λ (fs : List Frame). finish pre (fuel all) [] fs s) (sym c.in-Some.ensures.items)

pub returns-in_ok-visit-clause-on : goal.returns-in_ok-visit-clause-on
returns-in_ok-visit-clause-on g c = c.in_ok-visit.ensures.on

pub returns-in_ok-visit-clause-less : goal.returns-in_ok-visit-clause-less
returns-in_ok-visit-clause-less g c =
    let pre = g.G.Precedents.pre c.args.graph.now in
    let all = g.G.Precedents.all c.args.graph.now in
    let done : List Place = c.args.self.now.done.keys in
    let path : List Place = c.args.self.now.path.keys in
    let f : Frame = c.in-Some.frame in
    let lt : f.next < length f.reads.items = omega arith in
    lt_of_le_of_lt
    (subst
    (λ (fs : List Frame). work_left pre all c.visit.new.self.done.keys c.visit.new.self.path.keys
    c.visit.new.self.stack.items
    ≤ work_left pre all done path fs) c.in_ok-push.ensures c.in_ok-visit.ensures.less)
    (subst (λ (fs : List Frame). work_left pre all done path (c.pop.new.self.items ++ advanced f ∷ [])
    < work_left pre all done path fs) (sym c.in-Some.ensures.items)
    (advanced_less pre all done path c.pop.new.self.items f lt))

pub returns-in_ok-insert-clause-on : goal.returns-in_ok-insert-clause-on
returns-in_ok-insert-clause-on g c =
    let pre = g.G.Precedents.pre c.args.graph.now in
    let all = g.G.Precedents.all c.args.graph.now in
    let f : Frame = c.in-Some.frame in
    let done : List Place = c.args.self.now.done.keys in
    let path : List Place = c.args.self.now.path.keys in
    let rest : List Frame = c.pop.new.self.items in
    let on : IsOnPath pre all done path (rest ++ f ∷ []) =
    subst (IsOnPath pre all done path) c.in-Some.ensures.items c.requires.on in
    let front : List Place = c.pop-else-frame-len.new.self.keys in
    let last : path ≡ front ++ f.cell ∷ [] =
    path-last pre all done path rest f on front c.pop-else-frame-len.result c.pop-else-frame-len.ensures.keys
    c.pop-else-frame-len.ensures.found.1 in
    let keys : c.insert.new.set.keys ≡ done ++ f.cell ∷ [] =
    c.in_ok-insert.ensures.keys ∙ inserted_new done f.cell (last-apart pre all done path rest f on front last) in
    subst (λ (ds : List Place). IsOnPath pre all ds front rest) (sym keys)
    (on-closed pre all done path rest f on front last)

pub returns-in_ok-insert-clause-same : goal.returns-in_ok-insert-clause-same
returns-in_ok-insert-clause-same g c =
    let pre = g.G.Precedents.pre c.args.graph.now in
    let all = g.G.Precedents.all c.args.graph.now in
    let f : Frame = c.in-Some.frame in
    let done : List Place = c.args.self.now.done.keys in
    let path : List Place = c.args.self.now.path.keys in
    let rest : List Frame = c.pop.new.self.items in
    let s : Walked Place = walked c.args.self.now.done c.args.self.now.circular in
    let on : IsOnPath pre all done path (rest ++ f ∷ []) =
    subst (IsOnPath pre all done path) c.in-Some.ensures.items c.requires.on in
    let front : List Place = c.pop-else-frame-len.new.self.keys in
    let last : path ≡ front ++ f.cell ∷ [] =
    path-last pre all done path rest f on front c.pop-else-frame-len.result c.pop-else-frame-len.ensures.keys
    c.pop-else-frame-len.ensures.found.1 in
    let long : length f.reads.items ≤ f.next = omega arith in
    let keys : c.insert.new.set.keys ≡ done ++ f.cell ∷ [] =
    c.in_ok-insert.ensures.keys ∙ inserted_new done f.cell (last-apart pre all done path rest f on front last) in
    ap (λ (ds : List Place). finish pre (fuel all) [] rest (record { done = ds; circular = c.args.self.now.circular }))
    keys
    ∙ sym (finish-closed pre all done path rest f on s (drop_of_length-le f.reads.items long))
    ∙ ap (λ (fs : List Frame). finish pre (fuel all) [] fs s) (sym c.in-Some.ensures.items)

pub returns-in_ok-insert-clause-less : goal.returns-in_ok-insert-clause-less
returns-in_ok-insert-clause-less g c =
    let pre = g.G.Precedents.pre c.args.graph.now in
    let all = g.G.Precedents.all c.args.graph.now in
    let f : Frame = c.in-Some.frame in
    let done : List Place = c.args.self.now.done.keys in
    let path : List Place = c.args.self.now.path.keys in
    let rest : List Frame = c.pop.new.self.items in
    let on : IsOnPath pre all done path (rest ++ f ∷ []) =
    subst (IsOnPath pre all done path) c.in-Some.ensures.items c.requires.on in
    let front : List Place = c.pop-else-frame-len.new.self.keys in
    let last : path ≡ front ++ f.cell ∷ [] =
    path-last pre all done path rest f on front c.pop-else-frame-len.result c.pop-else-frame-len.ensures.keys
    c.pop-else-frame-len.ensures.found.1 in
    let long : length f.reads.items ≤ f.next = omega arith in
    let keys : c.insert.new.set.keys ≡ done ++ f.cell ∷ [] =
    c.in_ok-insert.ensures.keys ∙ inserted_new done f.cell (last-apart pre all done path rest f on front last) in
    subst (λ (fs : List Frame). work_left pre all c.insert.new.set.keys front rest < work_left pre all done path fs)
    (sym c.in-Some.ensures.items)
    (subst (λ (ds : List Place). work_left pre all ds front rest < work_left pre all done path (rest ++ f ∷ []))
    (sym keys)
    (closed_less pre all done path rest f on front last (drop_of_length-le f.reads.items long)))
