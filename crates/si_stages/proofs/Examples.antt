-- An audit: the definitions at work.
use Rattle.std.proofs.Common.{◌≡◌, ℕ, Bool, [], ◌∷◌, ◌++◌, refl, true, false, codes}
use Rattle.std.specs.Prelude.{decimal}
use Rattle.si_audit.specs.declared.fault.AuditFault.TheVariants as fault
use Rattle.si_base.specs.Netlist.{Netlist, SumGate, Gc}
use Rattle.si_base.specs.declared.ids.Literal.{Literal}
use Rattle.si_insert.specs.declared.accept.Rejected.TheVariants as why
use Rattle.si_insert.specs.Lineage.{History, given_current}
use Rattle.si_refusals.specs.declared.rejection.NamedRejection.TheVariants.{Delays, Gate}
use Rattle.si_reports.proofs.Examples.{signals, three_ends, two_states}
use Rattle.si_stages.specs.Audited.{IsNamedSo, audit_text}

-- ---- a netlist
-- `z = a b + c'`, and the generalised C-element with set `a b` and reset `a' b'`
abbrev literal : ℕ → Bool → Literal
literal sig plain = record { sig = sig; plain = plain }

abbrev two_gates : Netlist
two_gates = record {
  model = codes "m";
  signals = [];
  start = 0;
  inserts = [];
  gates = SumGate ((literal 0 true ∷ literal 1 true ∷ []) ∷ (literal 2 false ∷ []) ∷ [])
      ∷ Gc ((literal 0 true ∷ literal 1 true ∷ []) ∷ []) ((literal 0 false ∷ literal 1 false ∷ []) ∷ [])
      ∷ [];
}

-- ---- an audit
-- a lineage of two states without insertions, and a netlist of two gates
abbrev two_states_alone : History
two_states_alone = record { given = two_states; trace = []; current = given_current two_states }

yes_text : audit_text two_states_alone two_gates
    ≡ codes "audited\ninserted " ++ (decimal 0 ++ (codes "\nstates " ++ (decimal 2 ++ (codes "\ngates "
    ++ (decimal 2 ++ codes "\n")))))
yes_text =
    three_ends (decimal 0) (decimal 2) (decimal 2) (codes "audited\ninserted ") (codes "states ") (codes "gates ") []

-- the signals and events of a fault are shown by their names
wrong_gate : IsNamedSo signals (fault.Gate 1 (codes "s1")) (Gate (codes "c") (codes "s1"))
wrong_gate = refl

delayed_input : IsNamedSo signals (fault.Refused 1 (codes "s5") (why.DelaysInput 5 (record { sig = 0; up = false })))
    (Delays 1 (codes "s5") (codes "a-"))
delayed_input = refl
