-- A netlist with the lines that spell the lineage that fits it; and an audited netlist, whose lines
-- come back.
use Rattle.std.proofs.Common.{◌≡◌, ℕ, List, [], ◌∷◌, ◌++◌, length, map, flat_map}
use Rattle.std.proofs.Common.{refl, sym, ap, ap₂, subst, ◌∙◌}
use Rattle.si_audit.specs.Audit.{Certifies}
use Rattle.si_audit.specs.Laws.{CanBeAudited}
use Rattle.si_audit.proofs.AuditBuiltLineages.{certified_along}
use Rattle.si_audit.proofs.WalkSignals.{new_of, signals_are}
use Rattle.si_base.specs.declared.graph.Signal.{Signal}
use Rattle.si_base.specs.declared.graph.SigKind.TheVariants.{Inserted}
use Rattle.si_base.specs.Codes.{CodedGraph}
use Rattle.si_base.specs.Netlist.{Insertion, Netlist}
use Rattle.si_base.specs.NetlistText.{names_of}
use Rattle.si_base.specs.System.{IsFor}
use Rattle.si_base.specs.WellFormed.{IsNetlist}
use Rattle.si_certified.specs.Bare.{with_lines}
use Rattle.si_certified.proofs.ComingBack.{built_fits, fits_relined}
use Rattle.si_circuit.specs.Circuits.{AreStateNames}
use Rattle.si_circuit.specs.Spelled.{AreInserted}
use Rattle.si_circuit.specs.Spelling.{insertions_of}
use Rattle.si_circuit.proofs.SpelledInsertions.{are_inserted}
use Rattle.si_found.specs.Found.{Fits}
use Rattle.si_insert.specs.Lineage.{History}
use Rattle.si_certify.specs.Hidden.{hidden_signal, hide, hiding, unknown_of}

-- ---- the lines of a lineage that fits
module _ (states : List (List ℕ)) (c : CodedGraph) (n : Netlist) (l : History) (fits : Fits c n l)
    (names : AreStateNames c.graph states) (netlist : IsNetlist n) where
  lines : AreInserted (insertions_of states l) l.current.coded.graph.signals
  lines = are_inserted states l fits.lineage
      (subst (λ (d : CodedGraph). AreStateNames d.graph states) (sym fits.given_is) names)

  pub spelled_is_netlist : IsNetlist (with_lines (insertions_of states l) n)
  spelled_is_netlist = record {
    model = netlist.model;
    no_brace = netlist.no_brace;
    names = netlist.names;
    distinct = netlist.distinct;
    kinds = netlist.kinds;
    few = netlist.few;
    start = netlist.start;
    insert_names = lines.names ∙ ap (names_of Inserted) (sym fits.built.signals);
    inserts = lines.each;
    gate_count = netlist.gate_count;
    gates = netlist.gates;
  }

  pub spelled_is_for : IsFor c n → IsFor c (with_lines (insertions_of states l) n)
  spelled_is_for is = record { signals = is.signals; values = is.values }

-- ---- an audited netlist
still_new : (inserts : List Insertion) → map hidden_signal (new_of inserts) ≡ new_of inserts
still_new [] = refl
still_new (i ∷ rest) = ap₂ (λ (x : Signal) (xs : List Signal). x ∷ xs) refl (still_new rest)

hides_rest : (xs ys : List Signal) → hide (length xs) (xs ++ ys) ≡ xs ++ map hidden_signal ys
hides_rest [] ys = refl
hides_rest (x ∷ xs) ys = ap (λ (zs : List Signal). x ∷ zs) (hides_rest xs ys)

module _ (c : CodedGraph) (n : Netlist) (netlist : IsNetlist n) (fits : IsFor c n) where
  abbrev given : ℕ
  given = length c.graph.signals

  hides_none : hide given n.signals ≡ n.signals
  hides_none =
      let all = signals_are c n netlist fits in
      ap (hide given) all ∙ hides_rest c.graph.signals (new_of n.inserts)
      ∙ ap (λ (ys : List Signal). c.graph.signals ++ ys) (still_new n.inserts) ∙ sym all

  pub hidden_is : hiding given n ≡ with_lines (flat_map unknown_of n.signals) n
  hidden_is =
      let make : List Signal → Netlist = λ xs. record {
        model = n.model;
        signals = xs;
        start = n.start;
        inserts = flat_map unknown_of xs;
        gates = n.gates;
      } in
      ap make hides_none

  pub hidden_is_for : IsFor c (hiding given n)
  hidden_is_for = subst (IsFor c) (sym hidden_is) (record { signals = fits.signals; values = fits.values })

module _ (states : List (List ℕ)) (c : CodedGraph) (n : Netlist) (l : History) (can : CanBeAudited states c n)
    (certifies : Certifies states c n l) where
  pub certified_fits : Fits c (hiding (length c.graph.signals) n) l
  certified_fits =
      let along = certified_along states c n l can certifies in
      subst (λ (m : Netlist). Fits c m l) (sym (hidden_is c n can.netlist can.fits))
      (fits_relined c n (flat_map unknown_of n.signals) l (built_fits states c n l along))

  pub lines_come_back : with_lines (insertions_of states l) (hiding (length c.graph.signals) n) ≡ n
  lines_come_back =
      let along = certified_along states c n l can certifies in
      ap (with_lines (insertions_of states l)) (hidden_is c n can.netlist can.fits)
      ∙ ap (λ (lines : List Insertion). with_lines lines n) (sym along.inserts_are)
