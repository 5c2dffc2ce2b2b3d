use Rattle.std.proofs.Common.{◌<◌, ◌∙◌, ◌++◌, ◌∷◌, [], List, arith, ap₂, sym, subst}
use Rattle.std.proofs.lemmas.List.{length_push}
use Rattle.si_conflicts.specs.declared.keys.Key.{Key}
use Rattle.si_conflicts.specs.declared.members.Member.{Member}
use Rattle.si_conflicts.proofs.OwnLemmas.{one_staying_in, own_passed, own_taken}
use Rattle.si_conflicts.proofs.own.own_keys.Goals as goal
use Rattle.si_conflicts.proofs.own.own_keys.Goals.{then-has+in_ok-push, else-has}

pub has-requires : goal.has-requires
has-requires c =
    let within = subst (λ (x : Member). x.state < c.args.graph.now.states) (sym c.m-item.is)
    (c.requires.within c.loop-m.m-index c.m-item.result c.loop-m-test.true) in
    omega (arith, within, c.requires.size)

pub staying_in-requires-clause-state : goal.staying_in-requires-clause-state
staying_in-requires-clause-state c =
    subst (λ (x : Member). x.state < c.args.graph.now.states) (sym c.m-item.is)
    (c.requires.within c.loop-m.m-index c.m-item.result c.loop-m-test.true)

pub loop-m-preserved : goal.loop-m-preserved
loop-m-preserved c =
    let g = c.args.graph.now in
    let set = c.args.set.now in
    let ms = c.args.members.now in
    let i = c.loop-m.m-index in
    let m = c.m-item.result in
    let inside = c.loop-m-test.true in
    let at = c.m-item.is in
    let within = subst (λ (x : Member). x.state < g.states) (sym at) (c.requires.within i m inside) in
    let flag = sym c.has.ensures in
    elim c.if-has.branch [
      | then-has+in_ok-push w ↦ rw (w.keys-is, w.in_ok-push.ensures.items) (record {
        keys = λ staying all. (
            let in_set = flag ∙ w.if-has.true in
            let excited = one_staying_in g set m.state w.staying_in.result (staying m.state) w.staying_in.ensures
            (all m.state within in_set) in
            let make : List Key → Key → List Key = λ xs k. xs ++ k ∷ [] in
            ap₂ make (c.loop-m.invariant.keys staying all) (λ j. record { code = m.key.code; excited = excited j })
            ∙ sym (own_taken set staying ms i m inside at in_set));
        few = (
            let pushed : Key = record { code = m.key.code; excited = w.staying_in.result } in
            omega (arith, c.loop-m.invariant.few, length_push c.loop-m.keys.items pushed));
      })
      | else-has w ↦ rw w.keys-is (record {
        keys = λ staying all. c.loop-m.invariant.keys staying all
            ∙ sym (own_passed set staying ms i m inside at (flag ∙ w.if-has.false));
        few = omega (arith, c.loop-m.invariant.few);
      })
    ]
