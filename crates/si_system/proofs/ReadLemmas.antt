-- What the gates read, and that a gate that doesn't read the signal which fires isn't lost.
use Rattle.std.proofs.Common.{◌≡◌, ◌≢◌, ℕ, ◌+◌, ◌<◌, ◌≤◌, true, false, List, length, get_or, set, replicate, refl, sym}
use Rattle.std.proofs.Common.{ap, ◌∙◌, subst, slice_get, slice_index, Some, arith, inl, inr, below_more}
use Rattle.std.proofs.lemmas.Bool.{true≢false, cases_lt}
use Rattle.std.proofs.lemmas.Grind.{get_or_default_zero}
use Rattle.std.proofs.lemmas.List.{get_or-set_same, get_or-set_other, get_or-replicate, get_or_past, length-replicate}
use Rattle.std.proofs.lemmas.List.{length-set}
use Rattle.std.proofs.lemmas.Option.{slice_get_read}
use Rattle.si_base.specs.declared.graph.Signal.{Signal}
use Rattle.si_base.specs.Bits.{bit, flip}
use Rattle.si_base.specs.Graph.{is_driven, IsNonInput}
use Rattle.si_base.specs.Limits.{max_signals}
use Rattle.si_base.specs.Netlist.{Netlist}
use Rattle.si_netlist.specs.Reads.{MarksExactly, signal_reads}
use Rattle.si_netlist.proofs.GateLemmas.{within_signals}
use Rattle.si_netlist.proofs.ReadLemmas.{excitation_keeps}
use Rattle.si_system.specs.Loops.Reads.{AreReads}
use Rattle.si_system.specs.Verdict.{Loses}

named : (n : Netlist) (signals : List Signal) (k : ℕ) (x : Signal) → signals ≡ n.signals → k < length signals
    → x ≡ get_or signals k x → slice_get n.signals k ≡ Some x
named n signals k x same within is = rw (← same) (slice_get_read signals (length signals) k x refl within is)

pub has_gate : (n : Netlist) (signals : List Signal) (k : ℕ) (x : Signal) → signals ≡ n.signals
    → k < length signals → x ≡ get_or signals k x → is_driven x.kind ≡ true → IsNonInput n.signals k
has_gate n signals k x same within is driven = (x, named n signals k x same within is, driven)

pub has_none : (n : Netlist) (signals : List Signal) (k : ℕ) (x : Signal) → signals ≡ n.signals
    → k < length signals → x ≡ get_or signals k x → is_driven x.kind ≡ false → IsNonInput n.signals k → ⊥
has_none n signals k x same within is input gate =
    let here = named n signals k x same within is in
    let other = gate.1 in
    let driven = gate.2 in
    let equal : gate.0 ≡ x = cc in
    true≢false (sym driven ∙ ap (λ (s : Signal). is_driven s.kind) equal ∙ input)

-- the reads of the first k signals, and none for the others
pub record AreFilled (n : Netlist) (k : ℕ) (reads : List ℕ) : Type 0 where
  pub count : length reads ≡ max_signals
  pub gates : (z : ℕ) → z < k → IsNonInput n.signals z → MarksExactly (signal_reads n z) (slice_index reads z)
  pub others : (z : ℕ) → (z < k → IsNonInput n.signals z → ⊥) → slice_index reads z ≡ 0

abbrev no_code : ℕ
no_code = 0

nothing_anywhere : (count z : ℕ) → slice_index (replicate count no_code) z ≡ 0
nothing_anywhere count z =
    elim (cases_lt z count) [
      | inl below ↦ get_or-replicate count z 0 0 below
      | inr past ↦ get_or_past (replicate count no_code) z 0 (rw (length-replicate count no_code) past)
    ]

pub filled_none : (n : Netlist) → AreFilled n 0 (replicate max_signals no_code)
filled_none n = record {
  count = length-replicate max_signals no_code;
  gates = λ z below. absurd (omega arith);
  others = λ z none. nothing_anywhere max_signals z;
}

pub filled_skip : (n : Netlist) (k : ℕ) (reads : List ℕ) → AreFilled n k reads → (IsNonInput n.signals k → ⊥)
    → AreFilled n (k + 1) reads
filled_skip n k reads filled input = record {
  count = filled.count;
  gates = below_more _ k filled.gates (λ gate. absurd (input gate));
  others = λ z none. filled.others z (λ below. none (omega arith));
}

pub filled_more : (n : Netlist) (k : ℕ) (reads : List ℕ) (code : ℕ) → AreFilled n k reads → k < max_signals
    → IsNonInput n.signals k → MarksExactly (signal_reads n k) code → AreFilled n (k + 1) (set reads k code)
filled_more n k reads code filled within gate marks = record {
  count = length-set reads k code ∙ filled.count;
  gates = below_more _ k (λ z below there. old z (omega arith) (filled.gates z below there))
      (λ there. subst (MarksExactly (signal_reads n k)) (sym (get_or-set_same reads k code 0 room)) marks);
  others = λ z none. get_or-set_other reads k z code 0 (apart z none)
      ∙ filled.others z (λ below. none (omega arith));
}
  where
    room : k < length reads
    room = omega (arith, filled.count)

    old : (z : ℕ) → z ≢ k → MarksExactly (signal_reads n z) (slice_index reads z)
        → MarksExactly (signal_reads n z) (slice_index (set reads k code) z)
    old z other = subst (MarksExactly (signal_reads n z)) (sym (get_or-set_other reads k z code 0 other))

    apart : (z : ℕ) → (z < k + 1 → IsNonInput n.signals z → ⊥) → z ≢ k
    apart z none same = none (omega (arith, same)) (rw same gate)

pub filled_all : (n : Netlist) (reads : List ℕ) → AreFilled n (length n.signals) reads
    → length n.signals ≤ max_signals → AreReads n reads
filled_all n reads filled few = record {
  room = omega (arith, filled.count);
  gates = λ z gate. filled.gates z (within_signals n.signals z gate) gate;
  others = λ z none. filled.others z (λ below. none);
}

-- a gate that doesn't read the signal that fires isn't lost
pub unread_kept : (n : Netlist) (reads : List ℕ) (before after fired z code : ℕ) → AreReads n reads
    → after ≡ flip before fired → z < length n.signals → code ≡ get_or reads z code → bit code fired ≡ false
    → Loses n before after fired z → ⊥
unread_kept n reads before after fired z code are switched within is unread lost =
    let here : code ≡ slice_index reads z = is ∙ get_or_default_zero reads z code (omega (arith, are.room)) in
    let gate = lost.was_excited.gate in
    let none : signal_reads n z fired ≡ false = sym (are.gates z gate fired) ∙ (rw here at unread) in
    let kept = excitation_keeps n z fired before lost.other none lost.was_excited in
    lost.is_not (rw switched kept)
