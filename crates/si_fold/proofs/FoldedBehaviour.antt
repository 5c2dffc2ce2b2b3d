-- A netlist behaves beside a graph as beside its folded graph, and is for the one where it is for the other.
use Rattle.std.proofs.Common.{◌≡◌, ℕ, ◌<◌, List, length, sym, ap, subst, ◌∙◌}
use Rattle.si_base.specs.declared.graph.Signal.{Signal}
use Rattle.si_base.specs.Bits.{bit}
use Rattle.si_base.specs.Codes.{CodedGraph, IsCoded, code}
use Rattle.si_base.specs.Netlist.{Netlist}
use Rattle.si_base.specs.System.{IsFor}
use Rattle.si_fold.specs.Folded.{IsFolded}
use Rattle.si_fold.specs.Laws.{BehavesAlike}
use Rattle.si_fold.proofs.FoldLemmas.{class_of, code_of_class, is_quotient, folded_is_coded}
use Rattle.si_fold.proofs.SameBehaviour.{same_excitations, same_bisimilarity, same_silence}

pub folded_behaviour : (c d : CodedGraph) (kept class : List ℕ) (n : Netlist) → IsCoded c → IsFolded c kept class d
    → BehavesAlike c d n
folded_behaviour c d kept class n is folded =
    let q = is_quotient c d kept class is folded in
    let coded = folded_is_coded c d kept class is folded in
    let class_of = class_of c d kept class is folded in
    record {
      excitations = same_excitations c d class_of is coded q n;
      bisimilarity = same_bisimilarity c d class_of is coded q n;
      silent_cycles = same_silence c d class_of is coded q n;
    }

pub folded_for : (c d : CodedGraph) (kept class : List ℕ) (n : Netlist) → IsCoded c → IsFolded c kept class d
    → IsFor d n → IsFor c n
folded_for c d kept class n is folded fits =
    let start : code d d.graph.start ≡ code c c.graph.start =
    ap (code d) folded.start_is ∙ code_of_class c d kept class is folded c.graph.start is.graph_is.starts in
    record {
      signals = fits.signals ∙ folded.signals_stay;
      values = λ a within.
          fits.values a (subst (λ (xs : List Signal). a < length xs) (sym folded.signals_stay) within)
          ∙ ap (λ (k : ℕ). bit k a) start;
    }
