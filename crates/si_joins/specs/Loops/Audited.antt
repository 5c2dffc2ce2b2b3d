-- What is known of the parts before they are joined.
use Rattle.std.specs.Prelude.{ℕ, List, [], ◌∷◌}
use Rattle.si_works.specs.Audited.{AuditedPart}
use Rattle.si_works.specs.AuditedLaws.{IsAuditedPart}

-- each is a graph that some text gives, with a netlist that is certified for it
abbrev pub AreAudited : List AuditedPart → Type 0
AreAudited [] = Unit {0}
AreAudited (p ∷ parts) =
    ((graph : List ℕ) × (netlist : List ℕ) × IsAuditedPart graph netlist p) × AreAudited parts
