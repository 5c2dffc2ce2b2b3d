-- No loop is left of the arcs of timing, and each that is disabled closes one.
use Rattle.std.proofs.Common.{◌≡◌, ◌⊎◌, ℕ, ◌<◌, true, List, [], ◌∷◌, ◌++◌, length, flat_map, Contains, refl, sym, ap}
use Rattle.std.proofs.Common.{subst, ◌∙◌, inl, inr}
use Rattle.std.specs.Prelude.{IsTrue}
use Rattle.std.proofs.lemmas.List.Elements.{Contains-append_cases, Contains-append_left, Contains-append_right}
use Rattle.si_base.specs.Graph.{IsNonInput}
use Rattle.si_base.specs.Netlist.{Netlist}
use Rattle.si_cell.specs.Library.{Instance, Library, cell_at}
use Rattle.si_genlib.specs.Ports.{PortedLibrary}
use Rattle.si_loops.specs.declared.arcs.Arc.{Arc}
use Rattle.si_loops.specs.Arcs.{AreCut, Path as ArcPath, arc_to, arcs_of, gated, reads}
use Rattle.si_loops.proofs.Cutting.{cuts_close_loops, each_is_kept_or_cut, kept_are_acyclic}
use Rattle.si_structure.specs.StructureText.{reads_own}
use Rattle.si_timing.specs.Arcs.{ClosesLoop, HasNoLoop, IsAlong, IsDisabled, IsInside, IsLeft, Path}
use Rattle.si_timing.specs.Meaning.{IsOver}
use Rattle.si_timing.specs.Instances.{FeedbackOf, HasInstance, IsInput, IsInputOf, NamedArc, OutputOf, PinOf, Port}
use Rattle.si_timing.specs.Instances.{gate_of, named, no_literal, signal_at}
use Rattle.si_timing.specs.TimingText.{cut_arcs, disabled_arcs, feedback_arcs}
use Rattle.si_timing.proofs.InstanceLemmas.{instance_reads, instance_there, names_tell_arcs, signal_is, signal_there}
use Rattle.si_timing.proofs.Members.{any_from, any_in, joined_from, joined_in}
use Rattle.si_timing.proofs.Naming.{cut_named, cut_there, own_named, own_there}
use Rattle.si_timing.proofs.NetArcs.{arc_in, cut_is, gated_from, gated_in, kept_is, kept_not_cut}

abbrev IsOutput : Port → Type 0
IsOutput (PinOf z k) = ⊥
IsOutput (FeedbackOf z) = ⊥
IsOutput (OutputOf z) = Unit {0}

no_output : (library : Library) (i : Instance) (p : Port) → IsInputOf library i p → IsOutput p → ⊥
no_output library i (PinOf z k) input output = output
no_output library i (FeedbackOf z) input output = output
no_output library i (OutputOf z) input output = input

some_there : {A : Type 0} (x : A) (xs : List A) → x ∷ xs ≡ [] → ⊥
some_there x xs same = cc

no_pin : (z k y : ℕ) → PinOf z k ≡ FeedbackOf y → ⊥
no_pin z k y same = subst IsPin same tt
  where
    IsPin : Port → Type 0
    IsPin (PinOf a b) = Unit {0}
    IsPin (FeedbackOf a) = ⊥
    IsPin (OutputOf a) = ⊥

module _ (library : PortedLibrary) (n : Netlist) (kept cut : List Arc) (over : IsOver library n)
    (split : AreCut n kept cut) where
  abbrev disabled : List NamedArc
  disabled = disabled_arcs library n cut

  abbrev from_cuts : List NamedArc
  from_cuts = flat_map (cut_arcs library n) cut

  abbrev from_own : List NamedArc
  from_own = flat_map (feedback_arcs library n) (gated n.signals)

  abbrev signal : Port → ℕ
  signal p = signal_there n p

  -- ---- what is disabled

  cut_disabled : (z k : ℕ) (i : Instance) → HasInstance library.library n z i → k < length i.literals
      → Contains cut (arc_to z (signal_at i (PinOf z k))) → Contains disabled (named library n (PinOf z k) i)
  cut_disabled z k i has within goes =
      let it : NamedArc = named library n (PinOf z k) i in
      Contains-append_left from_cuts from_own it (joined_in (cut_arcs library n) cut
      (arc_to z (signal_at i (PinOf z k))) it goes (cut_there library n over z k i has within))

  own_disabled : (z : ℕ) (i : Instance) → HasInstance library.library n z i
      → IsTrue (reads_own (cell_at library.library i.cell)) → Contains disabled (named library n (FeedbackOf z) i)
  own_disabled z i has own =
      let it : NamedArc = named library n (FeedbackOf z) i in
      Contains-append_right from_cuts from_own it (joined_in (feedback_arcs library n) (gated n.signals) z it
      (gated_in n.signals z has.has.driven) (own_there library n over z i has own))

  -- ---- steps between signals

  step_kept : (p q : Port) → IsInside library.library n p q → (IsDisabled library n disabled p → ⊥)
      → IsNonInput n.signals (signal p) → Contains kept (arc_to (gate_of p) (signal p))
  step_kept (PinOf z k) q inside free driven =
      let i : Instance = inside.instance in
      let has = inside.input.instance in
      let y : ℕ = signal_at i (PinOf z k) in
      let same : y ≡ signal (PinOf z k) = signal_is library.library n (PinOf z k) i has in
      let is_read : reads n z y ≡ true =
      instance_reads library.library n z i has y ∙ any_in i.literals k y no_literal inside.input.input refl in
      let there = arc_in n y z (subst (IsNonInput n.signals) (sym same) driven) has.has.driven is_read in
      elim ((each_is_kept_or_cut (arcs_of n) kept cut (arc_to z y) split).0 there) [
        | inl stays ↦ subst (λ (x : ℕ). Contains kept (arc_to z x)) same stays
        | inr goes ↦ absurd (free (record {
          instance = i;
          input = inside.input;
          there = cut_disabled z k i has inside.input.input goes;
        }))
      ]
  step_kept (FeedbackOf z) q inside free driven = absurd (free (record {
    instance = inside.instance;
    input = inside.input;
    there = own_disabled z inside.instance inside.input.instance inside.input.input;
  }))
  step_kept (OutputOf z) q inside free driven = absurd inside.input.input

  step_driven : (p q : Port) → IsLeft library n disabled p q → IsNonInput n.signals (signal q)
  step_driven p q (inl inside) = subst (λ (r : Port). IsNonInput n.signals (signal r)) (sym inside.0.output)
      inside.0.input.instance.has.driven
  step_driven p q (inr along) = subst (IsNonInput n.signals)
      (signal_is library.library n q along.instance along.input.instance) along.driven

  last_driven : (p u : Port) (us : List Port) (q : Port) → Path library n disabled p (u ∷ us) q
      → IsNonInput n.signals (signal q)
  last_driven p u [] q path = subst (λ (r : Port). IsNonInput n.signals (signal r)) path.1 (step_driven p u path.0)
  last_driven p u (v ∷ vs) q path = last_driven u v vs q path.1

  -- ---- a path between signals

  -- where it has no step, the ports are one, or an output and an input on one net
  pub record IsProjected (p : Port) (us : List Port) (q : Port) : Type 0 where
    pub signals : List ℕ
    pub path : ArcPath kept (signal p) signals (signal q)
    pub short : signals ≡ [] → (us ≡ []) ⊎ (IsOutput p × (IsOutput q → ⊥))

  no_step : (p u : Port) (us : List Port) (q : Port) → IsAlong library.library n p u → Path library n disabled u us q
      → (us ≡ []) ⊎ (IsOutput u × (IsOutput q → ⊥)) → IsOutput p × (IsOutput q → ⊥)
  no_step p u us q along path (inl none) =
      let same : u ≡ q = subst (λ (vs : List Port). Path library n disabled u vs q) none path in (
        subst IsOutput (sym along.output) tt,
        λ output. no_output library.library along.instance u along.input.input (subst IsOutput (sym same) output),
      )
  no_step p u us q along path (inr output) =
      absurd (no_output library.library along.instance u along.input.input output.0)

  projected : (p : Port) (us : List Port) (q : Port) → IsNonInput n.signals (signal p)
      → Path library n disabled p us q → IsProjected p us q
  projected p [] q driven path = record { signals = []; path = ap signal path; short = λ none. inl refl }
  projected p (u ∷ us) q driven (inl inside, rest) =
      let later = projected u us q (step_driven p u (inl inside)) rest in
      let to : signal u ≡ gate_of p = ap signal inside.0.output in
      let stays = subst (λ (z : ℕ). Contains kept (arc_to z (signal p))) (sym to)
      (step_kept p u inside.0 inside.1 driven) in
      record {
        signals = signal u ∷ later.signals;
        path = (stays, later.path);
        short = λ none. absurd (some_there (signal u) later.signals none);
      }
  projected p (u ∷ us) q driven (inr along, rest) =
      let later = projected u us q (step_driven p u (inr along)) rest in
      let same : signal p ≡ signal u =
      ap signal along.output ∙ signal_is library.library n u along.instance along.input.instance in
      record {
        signals = later.signals;
        path = subst (λ (y : ℕ). ArcPath kept y later.signals (signal q)) (sym same) later.path;
        short = λ none. inr (no_step p u us q along rest (later.short none));
      }

  pub no_loop : HasNoLoop library n disabled
  no_loop p [] path = refl
  no_loop p (u ∷ us) path =
      let all = projected p (u ∷ us) p (last_driven p u us p path) path in
      let none = kept_are_acyclic (arcs_of n) kept cut split (signal p) all.signals all.path in
      elim (all.short none) [
        | inl empty ↦ empty
        | inr apart ↦ absurd (apart.1 apart.0)
      ]

  -- ---- what is kept isn't disabled

  kept_free : (z k : ℕ) (i : Instance) → HasInstance library.library n z i
      → Contains kept (arc_to z (signal_at i (PinOf z k))) → IsDisabled library n disabled (PinOf z k) → ⊥
  kept_free z k i has stays off = elim (Contains-append_cases from_cuts from_own _ off.there) [
    | inl in_cuts ↦
        (let at = joined_from (cut_arcs library n) cut _ in_cuts in
        let pin = cut_named library n over at.0 (cut_is n kept cut split at.0 at.1).ends _ at.2 in
        let same : PinOf z k ≡ PinOf at.0.to pin.pin =
        names_tell_arcs library n (PinOf z k) (PinOf at.0.to pin.pin) off.instance pin.instance over off.input pin.input
        pin.is in
        let from : signal_at i (PinOf z k) ≡ at.0.from =
        signal_is library.library n (PinOf z k) i has ∙ ap signal same
        ∙ sym (signal_is library.library n (PinOf at.0.to pin.pin) pin.instance pin.input.instance) ∙ pin.source in
        let to : z ≡ at.0.to = ap gate_of same in
        let arcs : arc_to z (signal_at i (PinOf z k)) ≡ at.0 = λ x. record { from = from x; to = to x } in
        kept_not_cut n kept cut split at.0 (subst (λ (a : Arc). Contains kept a) arcs stays) at.1)
    | inr in_own ↦
        (let at = joined_from (feedback_arcs library n) (gated n.signals) _ in_own in
        let port = own_named library n over at.0 (gated_from n.signals at.0 at.1) _ at.2 in
        no_pin z k at.0 (names_tell_arcs library n (PinOf z k) (FeedbackOf at.0) off.instance port.instance over
        off.input port.input port.is))
  ]

  -- ---- a path along arcs that are kept, between ports

  along_to : (y z k : ℕ) (i : Instance) → IsNonInput n.signals y → IsInput library.library n (PinOf z k) i
      → signal_at i (PinOf z k) ≡ y → IsAlong library.library n (OutputOf y) (PinOf z k)
  along_to y z k i driven input is = record {
    instance = i;
    input = input;
    driven = subst (IsNonInput n.signals) (sym is) driven;
    output = ap (λ (x : ℕ). OutputOf x) (sym is);
  }

  lifted : (y : ℕ) (us : List ℕ) (z : ℕ) → IsNonInput n.signals y → ArcPath kept y us z
      → (ports : List Port) × Path library n disabled (OutputOf y) ports (OutputOf z)
  lifted y [] z driven path = ([], ap (λ (x : ℕ). OutputOf x) path)
  lifted y (u ∷ us) z driven path =
      let is = kept_is n kept cut split (arc_to u y) path.0 in
      let there = instance_there library n over u is.ends in
      let i : Instance = there.0 in
      let pin = any_from i.literals y (sym (instance_reads library.library n u i there.1 y) ∙ is.is_read) in
      let input : IsInput library.library n (PinOf u pin.0) i = record { instance = there.1; input = pin.1 } in
      let stays = subst (λ (x : ℕ). Contains kept (arc_to u x)) (sym (pin.2 no_literal)) path.0 in
      let inside : IsInside library.library n (PinOf u pin.0) (OutputOf u) =
      record { instance = i; input = input; output = refl } in
      let later = lifted u us z is.ends path.1 in (
        PinOf u pin.0 ∷ OutputOf u ∷ later.0,
        (
          inr (along_to y u pin.0 i driven input (pin.2 no_literal)),
          (inl (inside, kept_free u pin.0 i there.1 stays), later.1),
        ),
      )

  one_more : (p : Port) (us : List Port) (q r : Port) → Path library n disabled p us q → IsLeft library n disabled q r
      → Path library n disabled p (us ++ r ∷ []) r
  one_more p [] q r path step = (subst (λ (s : Port). IsLeft library n disabled s r) (sym path) step, refl)
  one_more p (u ∷ us) q r path step = (path.0, one_more u us q r path.1 step)

  cut_closes : (a : Arc) (d : NamedArc) → Contains cut a → Contains (cut_arcs library n a) d
      → ClosesLoop library n disabled d
  cut_closes a d goes there =
      let is = cut_is n kept cut split a goes in
      let pin = cut_named library n over a is.ends d there in
      let back = cuts_close_loops (arcs_of n) kept cut a split goes in
      let path = lifted a.to back.0 a.from is.ends back.1 in
      record {
        port = PinOf a.to pin.pin;
        instance = pin.instance;
        input = pin.input;
        is = pin.is;
        back = path.0 ++ PinOf a.to pin.pin ∷ [];
        path = one_more (OutputOf a.to) path.0 (OutputOf a.from) (PinOf a.to pin.pin) path.1
            (inr (along_to a.from a.to pin.pin pin.instance is.begins pin.input pin.source));
      }

  own_closes : (z : ℕ) (d : NamedArc) → IsNonInput n.signals z → Contains (feedback_arcs library n z) d
      → ClosesLoop library n disabled d
  own_closes z d driven there =
      let port = own_named library n over z driven d there in
      record {
        port = FeedbackOf z;
        instance = port.instance;
        input = port.input;
        is = port.is;
        back = FeedbackOf z ∷ [];
        path = (inr (record { instance = port.instance; input = port.input; driven = driven; output = refl }), refl);
      }

  pub closes_loop : (d : NamedArc) → Contains disabled d → ClosesLoop library n disabled d
  closes_loop d there = elim (Contains-append_cases from_cuts from_own d there) [
    | inl in_cuts ↦
        (let at = joined_from (cut_arcs library n) cut d in_cuts in cut_closes at.0 d at.1 at.2)
    | inr in_own ↦
        (let at = joined_from (feedback_arcs library n) (gated n.signals) d in_own in
        own_closes at.0 d (gated_from n.signals at.0 at.1) at.2)
  ]
