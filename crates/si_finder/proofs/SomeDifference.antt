-- A netlist with the signals of the last graph is built on it, or there is a first difference.
use Rattle.std.proofs.Common.{◌≡◌, ℕ, ◌<◌, ◌≤◌, ◌⊎◌, length, arith, inl, inr}
use Rattle.std.proofs.lemmas.Bool.{cases_lt}
use Rattle.std.proofs.lemmas.Option.{slice_get_within}
use Rattle.si_base.specs.Bits.{bit}
use Rattle.si_base.specs.Codes.{CodedGraph, code, next_value}
use Rattle.si_base.specs.Netlist.{Netlist, gate_value}
use Rattle.si_base.specs.Order.{IsFirst}
use Rattle.si_base.specs.System.{IsFor}
use Rattle.si_base.specs.WellFormed.{IsNetlist}
use Rattle.si_checks.proofs.SearchDecisions as decide
use Rattle.si_checks.proofs.SearchDecisions.{Decided, both, driven, less, same_value}
use Rattle.si_insert.specs.Built.{IsBuilt}
use Rattle.si_insert.specs.Lineage.{Current, History, Keeps}
use Rattle.si_audit.specs.Faults.{IsWrong, Spot, StartsOtherwise, spot_place}
use Rattle.si_audit.proofs.LastBuilt.{at_first_signal, at_first_spot, gives_if_none, is_built, same_start}
use Rattle.si_finder.specs.declared.not_found.Difference.{Difference}
use Rattle.si_finder.specs.declared.not_found.Difference.TheVariants.{Start, Gate}
use Rattle.si_finder.specs.NotFound.{IsFirstDifference}
use Rattle.si_finder.proofs.Firsts.{IsFirstNumber, first_number}

-- ---- start values
not_below : (a z : ℕ) → Decided (a ≤ z)
not_below a z = elim (cases_lt z a) [
  | inl below ↦ inr (λ above. omega (arith, below, above))
  | inr above ↦ inl above
]

otherwise_or_not : (c : CodedGraph) (v : Current) (n : Netlist) (z : ℕ) → Decided (StartsOtherwise c v n z)
otherwise_or_not c v n z =
    elim (both (not_below (length c.graph.signals) z) (both (less z (length n.signals))
    (decide.not (same_value (bit n.start z) (bit (code v.coded v.coded.graph.start) z))))) [
      | inl is ↦ inl (record { inserted = is.0; there = is.1.0; differs = is.1.1 })
      | inr none ↦ inr (λ is. none (is.inserted, (is.there, is.differs)))
    ]

-- ---- gates
module _ (d : CodedGraph) (n : Netlist) where
  abbrev WrongAt : ℕ → ℕ → Type 0
  WrongAt z s = IsWrong d n (record { sig = z; state = s })

  wrong_or_not : (z s : ℕ) → Decided (WrongAt z s)
  wrong_or_not z s =
      elim (both (driven n.signals z) (both (less s d.graph.states)
      (decide.not (same_value (gate_value n z (code d s)) (next_value d s z))))) [
        | inl is ↦ inl (record { gate = is.0; within = is.1.0; differs = is.1.1 })
        | inr none ↦ inr (λ is. none (is.gate, (is.within, is.differs)))
      ]

  -- the first state at which the gate of the signal is wrong
  abbrev FirstAt : ℕ → Type 0
  FirstAt z = (s : ℕ) × IsFirstNumber (WrongAt z) s

  first_state : (z : ℕ) → FirstAt z ⊎ ((s : ℕ) → WrongAt z s → ⊥)
  first_state z = first_number (WrongAt z) (wrong_or_not z) d.graph.states (λ s wrong. wrong.within)

  first_or_not : (z : ℕ) → Decided (FirstAt z)
  first_or_not z = elim (first_state z) [
    | inl found ↦ inl found
    | inr none ↦ inr (λ first. none first.0 first.1.holds)
  ]

  signal_there : (z : ℕ) → FirstAt z → z < length n.signals
  signal_there z first =
      let gate = first.1.holds.gate in slice_get_within n.signals z gate.0 gate.1

  none_wrong : (z : ℕ) → (FirstAt z → ⊥) → (s : ℕ) → WrongAt z s → ⊥
  none_wrong z none s wrong = elim (first_state z) [
    | inl found ↦ none found
    | inr never ↦ never s wrong
  ]

  some_spot : ((z : ℕ) × (s : ℕ) × IsFirst spot_place (IsWrong d n) (record { sig = z; state = s }))
      ⊎ ((x : Spot) → IsWrong d n x → ⊥)
  some_spot = elim (first_number FirstAt first_or_not (length n.signals) signal_there) [
    | inr none ↦ inr (λ x wrong. none_wrong x.sig (none x.sig) x.state wrong)
    | inl z ↦ (
        let s = z.1.holds in
        inl (
          z.0,
          s.0,
          at_first_spot (IsWrong d n) z.0 s.0 s.1.holds
              (λ x before wrong. none_wrong x.sig (z.1.first x.sig before) x.state wrong) s.1.first,
        ))
  ]

-- ---- both
module _ (l : History) (n : Netlist) (is : IsNetlist n) (fits : IsFor l.given n) (kept : Keeps l.given l.current)
    (signals : n.signals ≡ l.current.coded.graph.signals) where
  pub built_or_different : IsBuilt l.current n ⊎ ((why : Difference) × IsFirstDifference l n why)
  built_or_different =
      elim (first_number (StartsOtherwise l.given l.current n) (otherwise_or_not l.given l.current n) (length n.signals)
      (λ z starts. starts.there)) [
        | inl z ↦ inr
            (Start z.0, at_first_signal (StartsOtherwise l.given l.current n) z.0 z.1.holds z.1.first)
        | inr alike ↦ elim (some_spot l.current.coded n) [
          | inl spot ↦ inr (
            Gate spot.0 spot.1,
            (same_start l.given l.current n is fits kept signals alike, spot.2),
          )
          | inr right ↦ inl
              (is_built l.given l.current n is fits kept signals alike (gives_if_none l.current.coded n right))
        ]
      ]
