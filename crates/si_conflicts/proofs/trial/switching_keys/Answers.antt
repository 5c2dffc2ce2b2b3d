use Rattle.std.proofs.Common.{◌<◌, ◌∙◌, ◌++◌, ◌∷◌, [], List, arith, ap, ap₂, sym, subst}
use Rattle.std.proofs.lemmas.List.{length_push}
use Rattle.si_insert.specs.Partition.{class_of}
use Rattle.si_conflicts.specs.declared.keys.Key.{Key}
use Rattle.si_conflicts.specs.declared.members.Member.{Member}
use Rattle.si_conflicts.specs.Loops.Apart.{is_switching, role_at}
use Rattle.si_conflicts.proofs.KeyNumbers.{one_staying}
use Rattle.si_conflicts.proofs.ApartStayLemmas.{key_taken, key_passed}
use Rattle.si_conflicts.proofs.trial.switching_keys.Goals as goal
use Rattle.si_conflicts.proofs.trial.switching_keys.Goals.{then-is_switching+in_ok-push, else-is_switching}

pub staying-requires-clause-state : goal.staying-requires-clause-state
staying-requires-clause-state c =
    subst (λ (x : Member). x.state < c.args.graph.now.states) (sym c.m-item.is)
    (c.requires.within c.loop-m.m-index c.m-item.result c.loop-m-test.true)

pub loop-m-preserved : goal.loop-m-preserved
loop-m-preserved c =
    let g = c.args.graph.now in
    let classes = c.args.classes.now in
    let ms = c.args.members.now in
    let b = c.args.value in
    let i = c.loop-m.m-index in
    let m = c.m-item.result in
    let inside = c.loop-m-test.true in
    let at = c.m-item.is in
    let within = subst (λ (x : Member). x.state < g.states) (sym at) (c.requires.within i m inside) in
    let role = c.of.ensures ∙ ap (λ s. role_at b (class_of classes s)) (ap (λ (x : Member). x.state) c.m.view_is) in
    let test = ap is_switching (sym role) ∙ sym c.is_switching.ensures in
    let code = ap (λ (x : Member). x.key.code) c.m.view_is in
    elim c.if-is_switching.branch [
      | then-is_switching+in_ok-push w ↦ rw (w.keys-is, w.in_ok-push.ensures.items) (record {
        keys = λ staying all. (
            let excited = one_staying g classes m.state w.staying.result (staying m.state) w.staying.ensures
            (all m.state within) in
            let make : List Key → Key → List Key = λ xs k. xs ++ k ∷ [] in
            ap₂ make (c.loop-m.invariant.keys staying all) (λ j. record { code = code j; excited = excited j })
            ∙ sym (key_taken classes staying b ms i m inside at (test ∙ w.if-is_switching.true)));
        few = (
            let pushed : Key = record { code = c.m.inside.0.0.code; excited = w.staying.result } in
            omega (arith, c.loop-m.invariant.few, length_push c.loop-m.keys.items pushed));
      })
      | else-is_switching w ↦ rw w.keys-is (record {
        keys = λ staying all. c.loop-m.invariant.keys staying all
            ∙ sym (key_passed classes staying b ms i m inside at (test ∙ w.if-is_switching.false));
        few = omega (arith, c.loop-m.invariant.few);
      })
    ]
