-- Arcs between gates, and the signals that have gates.
use Rattle.std.proofs.Common.{◌≡◌, ℕ, true, false, List, length, slice_get, Option, Some, None, Contains, refl, sym, []}
use Rattle.std.proofs.Common.{◌∷◌, subst, ◌∙◌, arith, inl, inr, filter}
use Rattle.std.specs.Prelude.{option_map, unwrap_or}
use Rattle.std.specs.List.{range_with_len}
use Rattle.std.proofs.lemmas.Bool.{true≢false}
use Rattle.si_base.specs.declared.graph.Signal.{Signal}
use Rattle.si_base.specs.Graph.{IsNonInput, is_driven}
use Rattle.si_base.specs.Netlist.{Netlist}
use Rattle.si_netlist.proofs.GateLemmas.{within_signals}
use Rattle.si_loops.specs.declared.arcs.Arc.{Arc}
use Rattle.si_loops.specs.Arcs.{AreCut, arc_to, arcs_into, arcs_of, gated, has_gate, reads}
use Rattle.si_loops.proofs.ArcLemmas.{gate_of_signal}
use Rattle.si_loops.proofs.Cutting.{cuts_close_loops, each_is_kept_or_cut, kept_are_acyclic}
use Rattle.si_timing.proofs.Members.{filter_from, filter_in, joined_from, joined_in, map_from, map_in, range_in}

-- ---- signals with gates

signal_found : (signals : List Signal) (z : ℕ) (found : Option Signal) → slice_get signals z ≡ found
    → unwrap_or (option_map (λ x. is_driven x.kind) found) false ≡ true → IsNonInput signals z
signal_found signals z None at is = absurd (true≢false (sym is))
signal_found signals z (Some x) at is = (x, at, is)

pub gated_in : (signals : List Signal) (z : ℕ) → IsNonInput signals z → Contains (gated signals) z
gated_in signals z there =
    let within = within_signals signals z there in
    filter_in (has_gate signals) (range_with_len 0 (length signals)) z
    (range_in 0 (length signals) z (omega arith) (omega (arith, within)))
    (gate_of_signal signals z there.0 there.1 ∙ there.2)

pub gated_from : (signals : List Signal) (z : ℕ) → Contains (gated signals) z → IsNonInput signals z
gated_from signals z there = signal_found signals z (slice_get signals z) refl
    (filter_from (has_gate signals) (range_with_len 0 (length signals)) z there).1

-- ---- arcs

pub arc_in : (n : Netlist) (y z : ℕ) → IsNonInput n.signals y → IsNonInput n.signals z → reads n z y ≡ true
    → Contains (arcs_of n) (arc_to z y)
arc_in n y z begins ends is =
    let gates = gated n.signals in
    joined_in (arcs_into n) gates z (arc_to z y) (gated_in n.signals z ends)
    (map_in (arc_to z) (filter (reads n z) gates) y (filter_in (reads n z) gates y (gated_in n.signals y begins) is))

-- an arc between gates, one of which reads the signal of the other
pub record IsNetArc (n : Netlist) (a : Arc) : Type 0 where
  pub begins : IsNonInput n.signals a.from
  pub ends : IsNonInput n.signals a.to
  pub is_read : reads n a.to a.from ≡ true

pub arc_is : (n : Netlist) (a : Arc) → Contains (arcs_of n) a → IsNetArc n a
arc_is n a there =
    let into = joined_from (arcs_into n) (gated n.signals) a there in
    let from = map_from (arc_to into.0) (filter (reads n into.0) (gated n.signals)) a into.2 in
    let passes = filter_from (reads n into.0) (gated n.signals) from.0 from.1 in
    subst (IsNetArc n) from.2 (record {
      begins = gated_from n.signals from.0 passes.0;
      ends = gated_from n.signals into.0 into.1;
      is_read = passes.1;
    })

-- ---- kept and cut

pub cut_is : (n : Netlist) (kept cut : List Arc) → AreCut n kept cut → (a : Arc) → Contains cut a → IsNetArc n a
cut_is n kept cut split a there = arc_is n a ((each_is_kept_or_cut (arcs_of n) kept cut a split).1 (inr there))

pub kept_is : (n : Netlist) (kept cut : List Arc) → AreCut n kept cut → (a : Arc) → Contains kept a → IsNetArc n a
kept_is n kept cut split a there = arc_is n a ((each_is_kept_or_cut (arcs_of n) kept cut a split).1 (inl there))

-- no arc is both
pub kept_not_cut : (n : Netlist) (kept cut : List Arc) → AreCut n kept cut → (a : Arc) → Contains kept a
    → Contains cut a → ⊥
kept_not_cut n kept cut split a stays goes =
    let back = cuts_close_loops (arcs_of n) kept cut a split goes in
    let none = kept_are_acyclic (arcs_of n) kept cut split a.from (a.to ∷ back.0) (stays, back.1) in
    absurd (some none)
  where
    some : {xs : List ℕ} → a.to ∷ xs ≡ [] → ⊥
    some same = cc
