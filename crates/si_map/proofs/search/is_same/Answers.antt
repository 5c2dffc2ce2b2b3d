use Rattle.std.proofs.Common.{◌≡◌, ◌∙◌, sym}
use Rattle.std.specs.Cmp.Lexicographic.{pointwise_decides}
use denote.Enum.Bare.{same_true, true_same}
use Rattle.si_insert.specs.declared.partition.Class.{Class}
use Rattle.si_insert.specs.contracts.partition.Class.{the_type}
use Rattle.si_map.proofs.search.is_same.Goals as goal

pub returns : goal.returns
returns c =
    let one : c.classes.result.now ≡ c.args.one.now = c.classes.ensures in
    let other : c.classes-2.result.now ≡ c.args.other.now = c.classes-2.ensures in
    let told = pointwise_decides (λ (x : Class) (y : Class). (same_true the_type tt x y, true_same the_type x y))
    c.classes.result.now c.classes-2.result.now in (
      λ is. sym one ∙ (told.0 (sym c.eq.ensures ∙ is) ∙ other),
      λ same. c.eq.ensures ∙ told.1 (one ∙ (same ∙ sym other)),
    )
