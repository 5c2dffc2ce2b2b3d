-- What an insertion keeps of the fits of signals none of whose arcs waits.
use Rattle.std.proofs.Common.{◌≡◌, ℕ, ◌+◌, ◌<◌, ◌&&◌, ◌||◌, ◌++◌, ◌∷◌, not, true, false, [], List, length, map}
use Rattle.std.proofs.Common.{slice_get, Some, None}
use Rattle.std.proofs.Common.{refl, sym, ap, subst, ◌∙◌, arith, inl, inr, length-append, ◌≢◌, Option, is_some}
use Rattle.std.proofs.lemmas.List.Elements.{recursion_from_All}
use Rattle.si_base.specs.Bits.{bit, IsSet}
use Rattle.si_base.specs.Codes.{CodedGraph, IsCoded, code, next_value}
use Rattle.si_base.specs.Graph.{StateGraph, Step, enables, rise, fall}
use Rattle.si_base.specs.Netlist.{literal_value, sum_value}
use Rattle.si_base.specs.declared.ids.Event.{Event}
use Rattle.si_base.specs.declared.ids.Literal.{Literal}
use Rattle.si_base.specs.declared.graph.Signal.{Signal}
use Rattle.si_base.proofs.GraphSteps.{enables-step, step_from_enables}
use Rattle.si_cell.specs.Library.{Library, Instance, cell_at, code_of, instance_value}
use Rattle.si_insert.specs.declared.partition.Class.{Class}
use Rattle.si_insert.specs.Partition.{class_of, IsLawful}
use Rattle.si_insert.specs.Insertion.{Copy, IsCopied, IsInsertedGraph, coded, entry, waits}
use Rattle.si_insert.proofs.PartitionClasses.{entry_there}
use Rattle.si_insert.proofs.InsertionCopies.{copy, copy_at, given_copied, placed}
use Rattle.si_insert.proofs.InsertionProper.{leads, goes_on, code_at, old_bit}
use Rattle.si_match.specs.Fit.{first_fit, IsOver, Fits}
use Rattle.si_match.specs.Triggers.{IsUnread}
use Rattle.si_match.proofs.FitLemmas.{none_fits}
use Rattle.si_match.proofs.TriggerLemmas.{same_values}
use Rattle.si_bounds.specs.Loops.Waiting.{NeverWaits}
use Rattle.si_bounds.specs.Loops.Fitted.{AreFitted}
use Rattle.si_match.specs.Loops.Known.{AreKnown}
use Rattle.si_match.specs.declared.known.KnownFits.{KnownFits}
use Rattle.si_match.proofs.FitLemmas.{fit_fits}
use Rattle.si_insert.specs.Loops.Applied.{IsApplied}
use Rattle.si_insert.specs.Insertion.{new_signal}
use Rattle.si_insert.specs.GraphOfCopies.{copies_of}
use Rattle.si_insert.proofs.AcceptedLosses.{driven_before}
use Rattle.si_base.specs.Graph.{IsNonInput}
use Rattle.std.proofs.lemmas.Bool.{true≢false}
use Rattle.std.proofs.lemmas.Option.{slice_get_within}
use Rattle.si_base.proofs.Booleans.{same_if}

-- no arc of z waits at the copy
abbrev pub GoesOn : StateGraph → List Class → ℕ → Copy → Type 0
GoesOn g classes z x = (e : Event) (t : ℕ) → Step g x.state e t → e.sig ≡ z
    → waits (class_of classes x.state) (class_of classes t) x.value ≡ false

module _ (c : CodedGraph) (classes : List Class) (new : Signal) (copies : List Copy) (h : StateGraph)
    (is : IsCoded c) (lawful : IsLawful c.graph classes) (inserted : IsInsertedGraph c.graph classes new copies h) where
  abbrev n : ℕ
  n = length c.graph.signals

  abbrev d : CodedGraph
  d = coded c copies h

  count : length h.signals ≡ n + 1
  count = ap (length {A = Signal}) inserted.signals ∙ length-append c.graph.signals (new ∷ [])

  -- ---- one copy of a state
  module _ (k : ℕ) (x : Copy) (at : slice_get copies k ≡ Some x) where
    pub given_bit : (j : ℕ) → (j ≡ n → ⊥) → bit (code d k) j ≡ bit (code c x.state) j
    given_bit j old = ap (λ v. bit v j) (code_at c copies h k x at) ∙ old_bit c x j old

    module _ (z : ℕ) (old : z < n) where
      not_new : z ≡ n → ⊥
      not_new same = omega (arith, old, same)

      -- no arc of z waits at the copy
      module _ (goes : GoesOn c.graph classes z x) where
        leads_given : (e : Event) → e.sig ≡ z → enables h k e ≡ true → enables c.graph x.state e ≡ true
        leads_given e of_z on =
            let step = step_from_enables h k e on in
            let to = leads c.graph classes new copies h k e step.0 x inserted step.1 at in
            let moved = given_copied c.graph classes x e to.0 (λ same. not_new (sym of_z ∙ same)) to.2 in
            enables-step c.graph x.state e to.0.state moved.step

        leads_copied : (e : Event) → e.sig ≡ z → enables c.graph x.state e ≡ true → enables h k e ≡ true
        leads_copied e of_z on =
            let step = step_from_enables c.graph x.state e on in
            let moved : IsCopied c.graph classes x e (copy step.0 x.value) =
            record { step = step.1; keeps = refl; goes = goes e step.0 step.1 of_z } in
            let to = goes_on c.graph classes new copies h k e x (copy step.0 x.value) is.graph_is lawful inserted at
            (inl moved) in
            enables-step h k e to.0 to.2

        same_enabled : (e : Event) → e.sig ≡ z → enables h k e ≡ enables c.graph x.state e
        same_enabled e of_z = same_if (enables h k e) (enables c.graph x.state e) (leads_given e of_z)
            (leads_copied e of_z)

        -- the next value at the copy is that at the state
        pub next_there : next_value d k z ≡ next_value c x.state z
        next_there = λ i. same_enabled (rise z) refl i || (given_bit z not_new i && not (same_enabled (fall z) refl i))

      pub same_next : NeverWaits c.graph classes z → next_value d k z ≡ next_value c x.state z
      same_next never = next_there (λ e t step of_z. never x.state e t step of_z x.value)

      -- and so is the value of an instance that doesn't read the new signal
      same_value : (library : Library) (f : Instance) → IsUnread n f.literals
          → instance_value library f (code d k) (bit (code d k) z)
          ≡ instance_value library f (code c x.state) (bit (code c x.state) z)
      same_value library f unread =
          let values : map (literal_value (code d k)) f.literals ≡ map (literal_value (code c x.state)) f.literals =
          same_values (code c x.state) (code d k) n given_bit f.literals
          (recursion_from_All (λ (l : Literal). l.sig ≢ n) f.literals unread) in
          λ i. sum_value (code_of (values i ++ given_bit z not_new i ∷ [])) (cell_at library f.cell).sum

  -- ---- a signal that doesn't wait
  module _ (library : Library) (z : ℕ) (old : z < n) (never : NeverWaits c.graph classes z) where
    -- an instance that fitted it fits it still
    pub fits_still : (f : Instance) → IsOver c library f → Fits c library z f → IsOver d library f × Fits d library z f
    fits_still f over fits = (
      record {
        instance = over.instance;
        signals = λ k l inside. (let small = over.signals k l inside in
            omega (arith, small, count));
        admitted = over.admitted;
      },
      λ k within. (
          let (x, at, there) = copy_at c.graph classes new copies h k inserted within in
          let unread : IsUnread n f.literals = λ j l inside same. (let small = over.signals j l inside in
          omega (arith, small, same)) in
          same_value k x at z old library f unread ∙ fits x.state there.within
          ∙ sym (same_next k x at z old never)),
    )

    -- where none fitted it, only those fit it that read the new signal
    pub fits_by_new : first_fit c library z ≡ None → (f : Instance) → IsOver d library f → Fits d library z f
        → IsUnread n f.literals → ⊥
    fits_by_new none f over fits unread = none_fits c library z f is none given_over given_fits
      where
        given_over : IsOver c library f
        given_over = record {
          instance = over.instance;
          signals = λ k l inside. (let small = over.signals k l inside in let other = unread k l inside in
              grind (arith, small, count, other));
          admitted = over.admitted;
        }

        given_fits : Fits c library z f
        given_fits s within =
            let class = class_of classes s in
            let (k, inside, at) = placed c.graph classes new copies h (copy s (entry class)) inserted
            (record { within = within; there = entry_there class }) in
            sym (same_value k (copy s (entry class)) at z old library f unread) ∙ fits k inside
            ∙ same_next k (copy s (entry class)) at z old never

-- ---- what is known after an insertion
some_first : (o : Option Instance) → is_some o ≡ true → (f : Instance) × (o ≡ Some f)
some_first None some = absurd (true≢false (sym some))
some_first (Some f) some = (f, refl)

pub none_first : (o : Option Instance) → is_some o ≡ false → o ≡ None
none_first None none = refl
none_first (Some f) none = absurd (true≢false none)

module _ (c : CodedGraph) (library : Library) (classes : List Class) (name : List ℕ) (h : CodedGraph)
    (is : IsCoded c) (lawful : IsLawful c.graph classes) (applied : IsApplied c classes name h) (fitted : ℕ)
    (are : AreFitted c library fitted) where
  abbrev made : CodedGraph
  made = coded c (copies_of classes) h.graph

  is_made : made ≡ h
  is_made = let codes = sym applied.codes in λ i. record { graph = h.graph; codes = codes i }

  given_driven : (z : ℕ) → IsNonInput h.graph.signals z → z ≢ length c.graph.signals → IsNonInput c.graph.signals z
  given_driven z driven old =
      let Driven : List Signal → Type 0 = λ xs. IsNonInput xs z in
      elim (driven_before c.graph (new_signal name) z (subst Driven applied.insertion.signals driven)) [
        | inl given ↦ given
        | inr new ↦ absurd (old new)
      ]

  inside : (z : ℕ) → IsNonInput c.graph.signals z → z < length c.graph.signals
  inside z (x, at, driven) = slice_get_within c.graph.signals z x at

  known_here : (k : KnownFits) → ((z : ℕ) → bit k.unknown z ≡ false
      → NeverWaits c.graph classes z × (z ≢ length c.graph.signals))
      → k.fitted ≡ fitted → k.read ≡ length c.graph.signals → AreKnown made library k
  known_here k never fitted_is read_is = record {
    fitted = λ z driven clear there. (
        let given = given_driven z driven (never z clear).1 in
        let fits = sym (are z given) ∙ ap (λ m. bit m z) (sym fitted_is) ∙ there in
        let (f, first) = some_first (first_fit c library z) fits in
        let (over, fit) = fit_fits c library z f is first in
        let (over_still, fit_still) = fits_still c classes (new_signal name) (copies_of classes) h.graph is lawful
        applied.insertion library z (inside z given) (never z clear).0 f over fit in
        (f, over_still, fit_still));
    others = λ z driven clear absent f over fit unread. (
        let given = given_driven z driven (never z clear).1 in
        let fails = sym (are z given) ∙ ap (λ m. bit m z) (sym fitted_is) ∙ absent in
        let Unread : ℕ → Type 0 = λ y. IsUnread y f.literals in
        fits_by_new c classes (new_signal name) (copies_of classes) h.graph is lawful applied.insertion library z
        (inside z given) (never z clear).0 (none_first (first_fit c library z) fails) f over fit
        (subst Unread read_is unread));
  }

  pub kept_known : (lent : CodedGraph) → lent ≡ h → (g : StateGraph) (given : List Class) → g ≡ c.graph
      → given ≡ classes → (k : KnownFits) → ((z : ℕ) → bit k.unknown z ≡ false
      → NeverWaits g given z × (z ≢ length g.signals))
      → k.fitted ≡ fitted → k.read ≡ length g.signals → AreKnown lent library k
  kept_known lent same g given g_is given_is k never fitted_is read_is =
      let Never : StateGraph → List Class → Type 0 =
      λ x ys. (z : ℕ) → bit k.unknown z ≡ false → NeverWaits x ys z × (z ≢ length x.signals) in
      let never_here : Never c.graph classes = subst (Never c.graph) given_is (subst (λ x. Never x given) g_is never) in
      subst (λ d. AreKnown d library k) (is_made ∙ sym same)
      (known_here k never_here fitted_is (read_is ∙ ap (λ (x : StateGraph). length x.signals) g_is))

pub known_unknown : (g h : StateGraph) (classes : List Class) (waiting next : ℕ) → h ≡ g
    → IsSet waiting (length g.signals) true next → ((z : ℕ) → bit waiting z ≡ false → NeverWaits h classes z)
    → (z : ℕ) → bit next z ≡ false → NeverWaits g classes z × (z ≢ length g.signals)
known_unknown g h classes waiting next same set never z clear =
    let not_new : z ≢ length g.signals = λ at. true≢false (sym set.there ∙ ap (bit next) (sym at) ∙ clear) in
    let here = never z (sym (set.others z not_new) ∙ clear) in
    (subst (λ (x : StateGraph). NeverWaits x classes z) same here, not_new)
