use Rattle.std.proofs.Common.{◌≡◌, ◌<◌, ◌∙◌, ℕ, List, Option, Some, length, set, inl, inr, sym, refl, ap, subst}
use Rattle.std.proofs.Common.{length-set}
use Rattle.si_same.proofs.ForestLemmas.{root_read, written_back, joined_written}
use Rattle.si_same.proofs.ties.Ties.join.Goals as goal

pub put_under-requires-clause-low_root : goal.put_under-requires-clause-low_root
put_under-requires-clause-low_root c =
    root_read c.self.inside.parents.items c.args.self.now c.deref_mut.result.now c.self.inside.ranks.items c.args.a
    c.self.invariant (sym c.self.view_is) c.deref_mut.ensures.value c.requires.one_root

pub put_under-requires-clause-high_root : goal.put_under-requires-clause-high_root
put_under-requires-clause-high_root c =
    root_read c.self.inside.parents.items c.args.self.now c.deref_mut.result.now c.self.inside.ranks.items c.args.b
    c.self.invariant (sym c.self.view_is) c.deref_mut.ensures.value c.requires.other_root

pub put_under-requires-else-low-clause-low_root : goal.put_under-requires-else-low-clause-low_root
put_under-requires-else-low-clause-low_root c =
    root_read c.self.inside.parents.items c.args.self.now c.deref_mut-else-low.result.now c.self.inside.ranks.items
    c.args.b c.self.invariant (sym c.self.view_is) c.deref_mut-else-low.ensures.value c.requires.other_root

pub put_under-requires-else-low-clause-high_root : goal.put_under-requires-else-low-clause-high_root
put_under-requires-else-low-clause-high_root c =
    root_read c.self.inside.parents.items c.args.self.now c.deref_mut-else-low.result.now c.self.inside.ranks.items
    c.args.a c.self.invariant (sym c.self.view_is) c.deref_mut-else-low.ensures.value c.requires.one_root

pub returns-then-low : goal.returns-then-low
returns-then-low c =
    let ps = c.self.inside.parents.items in
    let ranks = c.self.inside.ranks.items in
    let seen = sym c.self.view_is in
    let new = c.put_under.new.parents in
    let made = c.put_under.ensures.parents ∙ ap (λ xs. set xs c.args.a (Some c.args.b)) c.deref_mut.ensures.value in
    let size : length new ≡ length ps = ap length made ∙ length-set ps c.args.a (Some c.args.b) in
    inl (joined_written ps c.args.self.now new _ ranks c.put_under.new.ranks c.args.a c.args.b c.self.invariant seen made
    (written_back new ps c.self.inside.parents.len size (sym c.self.inside.parents.ok.0)) c.put_under.ensures.forest
    (subst (λ (xs : List (Option ℕ)). c.args.a < length xs) seen c.requires.one)
    (subst (λ (xs : List (Option ℕ)). c.args.b < length xs) seen c.requires.other)
    (root_read ps c.args.self.now ps ranks c.args.a c.self.invariant seen refl c.requires.one_root)
    (root_read ps c.args.self.now ps ranks c.args.b c.self.invariant seen refl c.requires.other_root)
    c.requires.apart)

pub returns-else-low : goal.returns-else-low
returns-else-low c =
    let ps = c.self.inside.parents.items in
    let ranks = c.self.inside.ranks.items in
    let seen = sym c.self.view_is in
    let new = c.put_under-else-low.new.parents in
    let made = c.put_under-else-low.ensures.parents
    ∙ ap (λ xs. set xs c.args.b (Some c.args.a)) c.deref_mut-else-low.ensures.value in
    let size : length new ≡ length ps = ap length made ∙ length-set ps c.args.b (Some c.args.a) in
    inr (joined_written ps c.args.self.now new _ ranks c.put_under-else-low.new.ranks c.args.b c.args.a c.self.invariant
    seen made (written_back new ps c.self.inside.parents.len size (sym c.self.inside.parents.ok.0))
    c.put_under-else-low.ensures.forest
    (subst (λ (xs : List (Option ℕ)). c.args.b < length xs) seen c.requires.other)
    (subst (λ (xs : List (Option ℕ)). c.args.a < length xs) seen c.requires.one)
    (root_read ps c.args.self.now ps ranks c.args.b c.self.invariant seen refl c.requires.other_root)
    (root_read ps c.args.self.now ps ranks c.args.a c.self.invariant seen refl c.requires.one_root)
    (λ same. c.requires.apart (sym same)))
