-- An audited netlist is certified, or it has a fault.
use Rattle.std.proofs.Common.{◌≡◌, ◌≢◌, ℕ, zero, suc, ◌+◌, ◌<◌, ◌≤◌, ◌⊎◌, Bool, List, [], ◌∷◌, ◌++◌, length}
use Rattle.std.proofs.Common.{append_assoc, refl, sym, subst, ◌∙◌, arith, inl, inr}
use Rattle.std.proofs.lemmas.Bool.{cases_lt, cases_order}
use Rattle.std.proofs.lemmas.List.{append-nil}
use Rattle.std.proofs.lemmas.Option.{slice_get_within}
use Rattle.si_base.specs.Bits.{bit}
use Rattle.si_base.specs.Codes.{CodedGraph, code, next_value}
use Rattle.si_base.specs.Netlist.{Insertion, Netlist, gate_value}
use Rattle.si_base.specs.WellFormed.{IsInsertion}
use Rattle.si_checks.proofs.SearchDecisions as decide
use Rattle.si_checks.proofs.SearchDecisions.{Decided, both, driven, less, same_value}
use Rattle.si_insert.specs.declared.lineage.TraceStep.{TraceStep}
use Rattle.si_insert.specs.declared.partition.Class.{Class}
use Rattle.si_insert.specs.Fresh.{IsTaken}
use Rattle.si_insert.specs.Lineage.{Current, History, Keeps, given_history}
use Rattle.si_insert.proofs.InsertionKeeps.{keeps}
use Rattle.si_candidates.specs.Parts.{AreClasses}
use Rattle.si_candidates.proofs.ClassesExist.{classes_or_torn}
use Rattle.si_candidates.proofs.PartLaws.{classes_lawful}
use Rattle.si_circuit.specs.Spelling.{current_word}
use Rattle.si_audit.specs.declared.fault.AuditFault.{AuditFault}
use Rattle.si_audit.specs.declared.fault.AuditFault.TheVariants.{NoMemory, States, Classes, Refused, Start, Gate}
use Rattle.si_audit.specs.Named.{NamesSets}
use Rattle.si_audit.specs.Audit.{Certifies, Takes, TakesAll}
use Rattle.si_audit.specs.Faults.{IsWrong, Spot, StartsOtherwise, ShowsFault, StopsAt, StopsLast, refused_word}
use Rattle.si_audit.specs.Laws.{CanBeAudited, CertifiedOrFaulty}
use Rattle.si_audit.proofs.LastBuilt.{at_first_signal, at_first_spot, gives_if_none, is_built, same_start}
use Rattle.si_audit.proofs.StateWords.{HasStateNames}
use Rattle.si_insert.proofs.InsertionsExist.{some_next}
use Rattle.si_audit.proofs.OneCertificate.{front_form}
use Rattle.si_audit.proofs.OneAudit.{have_states, spelled_all, spelled_first}
use Rattle.si_audit.proofs.FaultReasonExists.{accepted_or_reason}
use Rattle.si_audit.proofs.NamedSetsExist.{sets_or_none}
use Rattle.si_audit.proofs.InsertionFaults.{last_shows, rejection_shows, stops_show}
use Rattle.si_audit.proofs.WalkLemmas.{free_at, given_stays, last_signals, one_more}

-- ---- one insertion
abbrev Stop : List (List ℕ) → History → Insertion → ℕ → Type 0
Stop states l i k = (fault : AuditFault) × (fault ≢ NoMemory) × StopsAt states l i k fault

module _ (states : List (List ℕ)) (l : History) (i : Insertion) (k : ℕ) (spelled : HasStateNames states l)
    (form : IsInsertion i) (free : IsTaken l.current.coded.graph.signals i.name → ⊥) where
  abbrev kept : Keeps l.given l.current
  kept = keeps l.given l.trace l.current spelled.lineage

  with_classes : (p q : List Bool) (classes : List Class) → NamesSets states l i p q
      → AreClasses l.current.coded.graph p q classes → ((m : History) × Takes states l i m) ⊎ Stop states l i k
  with_classes p q classes names are =
      let c = l.current.coded in
      let at = have_states states l i spelled form p q names in
      let lawful = classes_lawful c.graph p q classes at.0 at.1 kept.coded.graph_is are at.2 at.3 at.4 at.5 in
      elim (accepted_or_reason c classes kept.coded kept.proper lawful) [
        | inl accepted ↦ (
            let step : TraceStep = record { name = i.name; partition = classes } in
            let next = some_next l.current step kept.coded accepted free in
            let m : History = record { given = l.given; trace = l.trace ++ step ∷ []; current = next.0 } in
            inl (
              m,
              record {
                step = step;
                name_is = refl;
                names = record { plus = p; minus = q; names = names; parted = are; accepted = accepted };
                extends = record { given_stays = refl; trace_grows = refl; inserts = next.1.inserts };
              },
            ))
        | inr (why, shows) ↦ inr (
          Refused k (refused_word states l why) why,
          (λ (e : Refused k (refused_word states l why) why ≡ NoMemory). cc),
          (
            refl,
            record { plus = p; minus = q; names = names; classes = classes; parted = are; shows = shows; word = refl },
          ),
        )
      ]

  step_or_stop : ((m : History) × Takes states l i m) ⊎ Stop states l i k
  step_or_stop = elim (sets_or_none states l i spelled) [
    | inr none ↦ inr (
      States k,
      (λ (e : States k ≡ NoMemory). cc),
      (refl, λ p q names. none (p, q, names)),
    )
    | inl (p, q, names) ↦ (
        let g = l.current.coded.graph in
        let at = have_states states l i spelled form p q names in
        elim (classes_or_torn g p q at.0 at.1 kept.coded.graph_is kept.coded.connected names.up.size names.down.size
        names.apart at.2 at.4) [
          | inl (classes, are) ↦ with_classes p q classes names are
          | inr (s, torn) ↦ inr (
            Classes k,
            (λ (e : Classes k ≡ NoMemory). cc),
            (refl, record { plus = p; minus = q; names = names; state = s; torn = torn }),
          )
        ])
  ]

-- ---- the least number
least_or_none : (P : ℕ → Type 0) → ((z : ℕ) → Decided (P z)) → (n : ℕ)
    → ((z : ℕ) × P z × ((y : ℕ) → y < z → P y → ⊥)) ⊎ ((z : ℕ) → z < n → P z → ⊥)
least_or_none P decided zero = inr (λ z below. absurd (omega arith))
least_or_none P decided (suc n) = elim (least_or_none P decided n) [
  | inl found ↦ inl found
  | inr none ↦ elim (decided n) [
    | inl here ↦ inl (n, here, none)
    | inr not_here ↦ inr (λ z below is. elim (cases_order z n) [
      | inl same ↦ not_here (subst P same is)
      | inr (inl before) ↦ none z before is
      | inr (inr after) ↦ absurd (omega arith)
    ])
  ]
]

-- ---- start and gates
module _ (states : List (List ℕ)) (c : CodedGraph) (n : Netlist) (can : CanBeAudited states c n) where
  abbrev Answer : Type 0
  Answer = ((l : History) × Certifies states c n l)
      ⊎ ((fault : AuditFault) × (fault ≢ NoMemory) × ShowsFault states c n fault)

  at_or_above : (m z : ℕ) → Decided (m ≤ z)
  at_or_above m z = elim (cases_lt z m) [ inl below ↦ inr (λ le. absurd (omega arith)) | inr above ↦ inl above ]

  other_start : (d : CodedGraph) (v : Current) (z : ℕ) → Decided (StartsOtherwise d v n z)
  other_start d v z =
      elim (both (both (at_or_above (length d.graph.signals) z) (less z (length n.signals)))
      (decide.not (same_value (bit n.start z) (bit (code v.coded v.coded.graph.start) z)))) [
        | inl is ↦ inl (record { inserted = is.0.0; there = is.0.1; differs = is.1 })
        | inr none ↦ inr (λ is. none ((is.inserted, is.there), is.differs))
      ]

  wrong_at : (d : CodedGraph) (z s : ℕ) → Decided (IsWrong d n (record { sig = z; state = s }))
  wrong_at d z s =
      elim (both (both (driven n.signals z) (less s d.graph.states))
      (decide.not (same_value (gate_value n z (code d s)) (next_value d s z)))) [
        | inl is ↦ inl (record { gate = is.0.0; within = is.0.1; differs = is.1 })
        | inr none ↦ inr (λ is. none ((is.gate, is.within), is.differs))
      ]

  abbrev WrongAt : CodedGraph → ℕ → Type 0
  WrongAt d z = (s : ℕ) × IsWrong d n (record { sig = z; state = s })
      × ((t : ℕ) → t < s → IsWrong d n (record { sig = z; state = t }) → ⊥)

  wrong_or_not : (d : CodedGraph) (z : ℕ)
      → WrongAt d z ⊎ ((s : ℕ) → IsWrong d n (record { sig = z; state = s }) → ⊥)
  wrong_or_not d z =
      elim (least_or_none (λ s. IsWrong d n (record { sig = z; state = s })) (wrong_at d z) d.graph.states) [
        | inl found ↦ inl found
        | inr none ↦ inr (λ s is. none s is.within is)
      ]

  wrong_decided : (d : CodedGraph) (z : ℕ) → Decided (WrongAt d z)
  wrong_decided d z = elim (wrong_or_not d z) [
    | inl found ↦ inl found
    | inr none ↦ inr (λ found. none found.0 found.1)
  ]

  first_spot : (d : CodedGraph) → ((z : ℕ) × WrongAt d z × ((y : ℕ) → y < z → WrongAt d y → ⊥))
      ⊎ ((x : Spot) → IsWrong d n x → ⊥)
  first_spot d = elim (least_or_none (WrongAt d) (wrong_decided d) (length n.signals)) [
    | inl found ↦ inl found
    | inr none ↦ inr (λ x is. elim (wrong_or_not d x.sig) [
      | inl found ↦ none x.sig (slice_get_within n.signals x.sig is.gate.0 is.gate.1) found
      | inr not_here ↦ not_here x.state is
    ])
  ]

  none_at : (d : CodedGraph) (z : ℕ) → (WrongAt d z → ⊥) → (s : ℕ) → IsWrong d n (record { sig = z; state = s }) → ⊥
  none_at d z none s is = elim (wrong_or_not d z) [
    | inl found ↦ none found
    | inr not_here ↦ not_here s is
  ]

  module _ (l : History) (all : TakesAll states (given_history c) n.inserts l) where
    spelled_last : HasStateNames states l
    spelled_last = spelled_all states (given_history c) n.inserts l (spelled_first states c n can) all

    given_is : l.given ≡ c
    given_is = given_stays states (given_history c) n.inserts l all

    unbuilt : (fault : AuditFault) → (fault ≢ NoMemory) → StopsLast states l n fault → Answer
    unbuilt fault other stops =
        inr (
          fault,
          other,
          last_shows states c n l fault (λ f also. record { lineage = l; taken = all; stops = also }) stops,
        )

    kept_last : Keeps c l.current
    kept_last = subst (λ (d : CodedGraph). Keeps d l.current) given_is
        (keeps l.given l.trace l.current spelled_last.lineage)

    at_end : Answer
    at_end = elim (least_or_none (StartsOtherwise l.given l.current n) (other_start l.given l.current)
        (length n.signals)) [
          | inl (z, is, first) ↦ unbuilt (Start z) (λ (e : Start z ≡ NoMemory). cc)
              (at_first_signal (StartsOtherwise l.given l.current n) z is first)
          | inr none ↦ (
              let signals = last_signals states c n l can.netlist can.fits all in
              let no_other : (z : ℕ) → StartsOtherwise c l.current n z → ⊥ =
              subst (λ (d : CodedGraph). (z : ℕ) → StartsOtherwise d l.current n z → ⊥) given_is
              (λ z is. none z is.there is) in
              elim (first_spot l.current.coded) [
                | inl (z, found, first) ↦ unbuilt (Gate z (current_word states l found.0))
                    (λ (e : Gate z (current_word states l found.0) ≡ NoMemory). cc)
                    (record {
                      starts = same_start c l.current n can.netlist can.fits kept_last signals no_other;
                      at = found.0;
                      first = at_first_spot (IsWrong l.current.coded n) z found.0 found.1
                          (λ x below is. none_at l.current.coded x.sig (first x.sig below) x.state is) found.2;
                      word = refl;
                    })
                | inr no_spot ↦ inl (
                  l,
                  record {
                    taken = all;
                    built = is_built c l.current n can.netlist can.fits kept_last signals no_other
                        (gives_if_none l.current.coded n no_spot);
                  },
                )
              ])
        ]

  -- ---- insertion after insertion
  walk : (before rest : List Insertion) (l : History) → n.inserts ≡ before ++ rest
      → TakesAll states (given_history c) before l
      → Answer
  walk before [] l cut taken =
      let P : List Insertion → Type 0 = λ xs. TakesAll states (given_history c) xs l in
      at_end l (subst P (sym (cut ∙ append-nil before)) taken)
  walk before (i ∷ rest) l cut taken =
      let spelled = spelled_all states (given_history c) before l (spelled_first states c n can) taken in
      let form = front_form states c n can before i rest cut in
      let free = free_at states c n l before i rest cut taken can.netlist can.fits in
      elim (step_or_stop states l i (length before + 1) spelled form free) [
        | inl (m, takes) ↦ walk (before ++ i ∷ []) rest m (cut ∙ sym (append_assoc before (i ∷ []) rest))
            (one_more states (given_history c) before l i m taken takes)
        | inr (fault, other, stops) ↦ inr (
          fault,
          other,
          rejection_shows states c n fault (stops_show states c n l i (length before + 1) fault
              (λ f also. record {
                before = before;
                insertion = i;
                after = rest;
                cut = cut;
                lineage = l;
                taken = taken;
                stops = also;
              })
              stops),
        )
      ]

pub certified_or_faulty : CertifiedOrFaulty
certified_or_faulty states c n can = walk states c n can [] n.inserts (given_history c) refl refl
