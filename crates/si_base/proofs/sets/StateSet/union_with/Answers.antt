use Rattle.std.proofs.Common.{◌≡◌, ◌+◌, ◌/◌, length, sym, ap, subst, ◌∙◌, arith}
use Rattle.std.proofs.lemmas.List.{take_at}
use Rattle.si_base.specs.Sets.{HasNoFlagFrom, AreFlags}
use Rattle.si_base.proofs.SetsAsWords.{none_after_union, Shows, shows, same_size, union_seen}
use Rattle.si_base.proofs.sets.StateSet.union_with.Goals as goal

pub unite-requires : goal.unite-requires
unite-requires c =
    let shown = shows c.self.inside.states _ _ c.args.self.now c.deref_mut.ensures.value c.self.view_is
    c.self.invariant.none in
    let other = shows c.other.inside.states _ _ c.args.other.now c.deref.ensures.value c.other.view_is
    c.other.invariant.none in
    omega (
      arith,
      ap length c.deref_mut.ensures.value,
      ap length c.deref.ensures.value,
      c.self.invariant.size,
      c.other.invariant.size,
      same_size _ _ _ _ _ _ shown other c.requires,
    )

pub invariant_of-self : goal.invariant_of-self
invariant_of-self c =
    let n = c.self.inside.states in
    let shown = shows n _ _ c.args.self.now c.deref_mut.ensures.value c.self.view_is c.self.invariant.none in
    let other = shows c.other.inside.states _ _ c.args.other.now c.deref.ensures.value c.other.view_is
    c.other.invariant.none in
    let same = same_size _ _ _ _ _ _ shown other c.requires in
    let kept = take_at c.unite.new.words _ c.self.inside.words.len (c.unite.ensures.size ∙ c.deref_mut.ensures.len) in
    let size : length c.unite.new.words ≡ (n + 63) / 64 =
    c.unite.ensures.size ∙ ap length c.deref_mut.ensures.value ∙ c.self.invariant.size in
    let none = none_after_union n _ _ _ c.unite.ensures.each shown.none (subst (HasNoFlagFrom _)
    (sym same) other.none) in
    subst (AreFlags n) (sym kept) (record { few = c.self.invariant.few; size = size; none = none })

pub returns : goal.returns
returns c =
    let n = c.self.inside.states in
    let shown = shows n _ _ c.args.self.now c.deref_mut.ensures.value c.self.view_is c.self.invariant.none in
    let other = shows c.other.inside.states _ _ c.args.other.now c.deref.ensures.value c.other.view_is
    c.other.invariant.none in
    let same = same_size _ _ _ _ _ _ shown other c.requires in
    let kept = take_at c.unite.new.words _ c.self.inside.words.len (c.unite.ensures.size ∙ c.deref_mut.ensures.len) in
    let other_shown : Shows n c.deref.result.now c.args.other.now =
    subst (λ k. Shows k c.deref.result.now c.args.other.now) (sym same) other in
    union_seen n _ _ c.unite.new.words _ _ _ shown other_shown c.unite.ensures.each kept
