use Rattle.std.proofs.Common.{rules, tests, ap, ◌∙◌}
use Rattle.std.specs.List.{list_any}
use Rattle.std.proofs.lemmas.Iterator.{YieldsList-from_slice}
use Rattle.std.proofs.lemmas.Iterator.Search.{any_from_yields_List}
use Rattle.si_base.specs.declared.ids.Literal.{Literal}
use Rattle.si_structure.specs.StructureText.{is_complemented}
use Rattle.si_structure.proofs.write.has_complemented.Goals as goal

pub returns-in-Cell : goal.returns-in-Cell
returns-in-Cell c = rw c.in-Cell.is
    (any_from_yields_List {all = c.deref.result.now} (λ (l : Literal). is_complemented l) _ _ _
    c.any.ensures.ran (YieldsList-from_slice c.deref.result.now cc) (λ x b q k. search (rules, tests))
    ∙ ap (list_any is_complemented) c.deref.ensures.value)
