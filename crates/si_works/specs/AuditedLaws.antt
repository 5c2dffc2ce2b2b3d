-- (law) What laws say of parts that texts give.
use Rattle.std.specs.Prelude.{◌≡◌, ℕ, List, [], ◌∷◌, None, Ok, length}
use Rattle.si_audit.specs.Audit.{Certifies}
use Rattle.si_base.specs.Behaviour.{Implements}
use Rattle.si_base.specs.System.{IsFor}
use Rattle.si_insert.specs.Lineage.{History}
use Rattle.si_netlist_reader.specs.NetlistFault.{netlist_fault}
use Rattle.si_netlist_reader.specs.NetlistValue.{netlist_of}
use Rattle.si_readings.specs.Checks.{IsSound}
use Rattle.si_sg.specs.GivenGraph.{IsGivenBy}
use Rattle.si_works.specs.Audited.{AuditedPart, audited_parts}
use Rattle.si_works.specs.System.{two_by_two}

-- the graph of the one text is proper, and the netlist that the other spells is certified for it:
-- so it implements it
pub record IsAuditedPart (graph netlist : List ℕ) (p : AuditedPart) : Type 0 where
  pub is_given : IsGivenBy graph p.given
  pub sound : IsSound p.given.graph p.coded
  pub no_fault : netlist_fault netlist ≡ None
  pub netlist_is : p.netlist ≡ netlist_of netlist
  pub is_for : IsFor p.coded p.netlist
  pub lineage : History
  pub certifies : Certifies p.given.states p.coded p.netlist lineage
  pub implements : Implements p.netlist p.given.graph

-- each of two texts
abbrev pub AreAuditedParts : (texts : List (List ℕ × List ℕ)) → List AuditedPart → Type 0
AreAuditedParts [] [] = Unit {0}
AreAuditedParts (t ∷ texts) (p ∷ parts) = IsAuditedPart t.0 t.1 p × AreAuditedParts texts parts
AreAuditedParts [] (p ∷ parts) = ⊥
AreAuditedParts (t ∷ texts) [] = ⊥

-- parts that texts give are audited
abbrev pub PartsAreAudited : Type 0
PartsAreAudited = (files texts : List (List ℕ)) (parts : List AuditedPart)
    → length texts ≡ length files → audited_parts files texts (Ok parts)
    → AreAuditedParts (two_by_two texts) parts
