-- Parts as the code hands them out, and the ending of a call that audits one of several.
use Rattle.std.specs.Prelude.{ℕ, List, map}
use Rattle.si_refusals.specs.Ending.{Ending, Answered}
use Rattle.si_refusals.specs.Refusal.{TextRefused}
use Rattle.si_sg.specs.GivenGraph.{sg_now}
use Rattle.si_works.specs.Audited.{AuditedPart, of_several}
use Rattle.si_works.specs.declared.audited.AuditedPart.{AuditedPart as PartMade}

abbrev pub part_now : PartMade → AuditedPart
part_now p = record { given = sg_now p.given; coded = p.part; netlist = p.netlist }

abbrev pub parts_now : List PartMade → List AuditedPart
parts_now parts = map part_now parts

abbrev pub ending_of_several : (netlist : List ℕ) → Ending → Ending
ending_of_several netlist (Answered (TextRefused refusal)) =
    Answered (TextRefused (of_several netlist refusal))
ending_of_several netlist ending = ending
