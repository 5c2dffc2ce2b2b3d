-- What is known of a fit decides it, or which signals its instances read.
use Rattle.std.proofs.Common.{◌≡◌, ℕ, ◌<◌, false, is_none, Option, Some}
use Rattle.std.proofs.Common.{None, refl, sym, ap, ◌∙◌, arith}
use Rattle.std.proofs.lemmas.Bool.{lt-ltb, true≢false}
use Rattle.std.proofs.lemmas.Option.{slice_get_within}
use Rattle.si_base.specs.Bits.{bit, ones}
use Rattle.si_base.specs.Codes.{CodedGraph, IsCoded}
use Rattle.si_base.specs.Graph.{IsNonInput}
use Rattle.si_base.specs.Limits.{code_width}
use Rattle.si_cell.specs.Library.{Library, Instance}
use Rattle.si_cube.proofs.LiteralLemmas.{bit-ones}
use Rattle.si_match.specs.Fit.{first_fit}
use Rattle.si_match.specs.Loops.Known.{AreKnown, IsFitted}
use Rattle.si_match.specs.declared.known.KnownFits.{KnownFits}
use Rattle.si_match.proofs.FitLemmas.{none_fits}

-- a signal of the graph has a bit in codes
pub has_bit : (c : CodedGraph) (z : ℕ) → IsCoded c → IsNonInput c.graph.signals z → z < code_width
has_bit c z is (x, at, driven) =
    let within = slice_get_within c.graph.signals z x at in omega (arith, within, is.graph_is.few_signals)

-- what fits has a first fit
pub fitted_some : (c : CodedGraph) (library : Library) (z : ℕ) → IsCoded c → IsFitted c library z
    → is_none (first_fit c library z) ≡ false
fitted_some c library z is (i, over, fit) = by_first (first_fit c library z) refl
  where
    by_first : (o : Option Instance) → first_fit c library z ≡ o → is_none o ≡ false
    by_first None none = absurd (none_fits c library z i is none over fit)
    by_first (Some f) some = refl

-- where all is unknown, all that is known is so
pub nothing_known : (c : CodedGraph) (library : Library) (known : KnownFits) → known.unknown ≡ ones code_width
    → IsCoded c → AreKnown c library known
nothing_known c library known all is = record {
  fitted = λ z driven told. absurd (open_there z driven told);
  others = λ z driven told. absurd (open_there z driven told);
}
  where
    open_there : (z : ℕ) → IsNonInput c.graph.signals z → bit known.unknown z ≡ false → ⊥
    open_there z driven told =
        let set = bit-ones code_width z ∙ lt-ltb z code_width (has_bit c z is driven) in
        true≢false (sym set ∙ sym (ap (λ (k : ℕ). bit k z) all) ∙ told)
