use Rattle.std.proofs.Common.{◌∙◌, length, sym, ap, subst}
use Rattle.si_base.specs.Codes.{IsCoded}
use Rattle.si_insert.specs.Partition.{IsLawful}
use Rattle.si_candidates.specs.Parts.{AreClasses}
use Rattle.si_candidates.proofs.SideClassLemmas.{never_refused, told_are_classes, unlawful_none}
use Rattle.si_candidates.proofs.by_sides.classes_by_sides.Goals as goal

pub lawful-requires : goal.lawful-requires
lawful-requires c = ap length c.in_ok-list.ensures ∙ c.new-told.ensures.size

pub returns-in-Ok-clause-classes : goal.returns-in-Ok-clause-classes
returns-in-Ok-clause-classes c =
    let a = c.args in
    let g = a.graph.now.graph in
    let coded = subst IsCoded c.coded.ensures.same c.graph-given.ensures.coded in
    let (turn, told) = c.new-told.ensures.told in
    let are = c.in-Ok.ensures.same ∙ c.in_ok-list.ensures ∙ told in
    let lawful = subst (IsLawful g) are c.in-Ok.ensures.lawful in
    subst (AreClasses g a.plus.now a.minus.now) (sym are)
    (told_are_classes g a.plus.now a.minus.now a.plus_sides.now a.minus_sides.now turn c.requires.plus_size
    coded.graph_is coded.connected c.requires.disjoint lawful)

pub returns-in-Err-clause-none : goal.returns-in-Err-clause-none
returns-in-Err-clause-none c =
    let a = c.args in
    let r = c.requires in
    let g = a.graph.now.graph in
    let coded = subst IsCoded c.coded.ensures.same c.graph-given.ensures.coded in
    unlawful_none g a.plus.now a.minus.now c.new-told.result coded.graph_is r.plus_size r.minus_size r.some_plus
    r.some_minus c.new-told.ensures.only
    (λ lawful. never_refused g c.in_ok-list.list.items c.in-Err._unlawful.1
    (subst (IsLawful g) (sym c.in_ok-list.ensures) lawful) c.in-Err.ensures.fault)
