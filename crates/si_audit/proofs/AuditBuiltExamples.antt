-- Worked examples: netlists beside the lineage of a graph into which nothing is inserted.
use Rattle.std.proofs.Common.{◌≡◌, ℕ, List, [], ◌∷◌, refl, sym, ◌∙◌}
use Rattle.si_base.specs.Codes.{CodedGraph}
use Rattle.si_base.specs.Netlist.{Insertion, Netlist}
use Rattle.si_insert.specs.Built.{IsBuilt}
use Rattle.si_insert.specs.Lineage.{IsLineage, given_current, given_history}
use Rattle.si_circuit.specs.Spelling.{insertions_of}
use Rattle.si_audit.specs.Audit.{Certifies}
use Rattle.si_audit.specs.Laws.{IsBuiltAlong}
use Rattle.si_audit.proofs.AuditBuiltLineages.{built_along}

module _ (states : List (List ℕ)) (c : CodedGraph) (n : Netlist) (line : IsLineage c [] (given_current c))
    (built : IsBuilt (given_current c) n) where
  nothing_inserted : n.inserts ≡ [] → IsBuiltAlong states c n (given_history c)
  unfolding insertions_of
  nothing_inserted none = record { given_is = refl; lineage = line; built = built; inserts_are = none }

  -- the graph alone certifies it
  so_certified : n.inserts ≡ [] → Certifies states c n (given_history c)
  so_certified none = built_along states c n (given_history c) (nothing_inserted none)

  -- a netlist that names an insertion isn't built along it
  one_too_many : (i : Insertion) → n.inserts ≡ i ∷ [] → IsBuiltAlong states c n (given_history c) → ⊥
  unfolding insertions_of
  one_too_many i one along = (let both : i ∷ [] ≡ [] = sym one ∙ along.inserts_are in cc)
