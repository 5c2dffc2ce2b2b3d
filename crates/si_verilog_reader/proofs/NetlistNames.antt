-- The names of a netlist's signals have no fault, as ports and as those of equations.
use Rattle.std.proofs.Common.{◌≡◌, ℕ, ◌+◌, ◌≤◌, List, [], ◌∷◌, ◌++◌, length, None, sym, ap, subst, append_assoc, arith}
use Rattle.std.specs.Prelude.{IsTrue}
use Rattle.std.specs.List.{AllByRecursion}
use Rattle.std.proofs.lemmas.List.{append-nil, length-append, length-map}
use Rattle.std.proofs.lemmas.List.Elements.{recursion_from_All}
use Rattle.si_base.specs.declared.graph.Signal.{Signal}
use Rattle.si_base.specs.declared.graph.SigKind.TheVariants.{Input, Output}
use Rattle.si_base.specs.Faults.{first_after}
use Rattle.si_base.specs.Graph.{names_in}
use Rattle.si_base.specs.Limits.{max_signals}
use Rattle.si_base.specs.Netlist.{Netlist}
use Rattle.si_base.specs.NetlistText.{names_of}
use Rattle.si_base.specs.WellFormed.{IsNetlist}
use Rattle.si_base.specs.Words.{is_signal_name}
use Rattle.si_words.specs.Names.{name_fault}
use Rattle.si_equations.specs.Equations.{internal_among}
use Rattle.si_equations.proofs.ListLemmas.{names_good}
use Rattle.si_equations.proofs.NetlistLemmas.{driven_in, driven_in_order, inner, names_in_order}
use Rattle.si_equations.proofs.NewLemmas.{AreGood, AreNew, NoFaults, inner_are, netlist_new, new_apart, new_parts}
use Rattle.si_equations.proofs.NewLemmas.{new_without, no_faults}

good_parts : (xs ys : List (List ℕ)) → AreGood (xs ++ ys) → AreGood xs × AreGood ys
good_parts [] ys all = (tt, all)
good_parts (x ∷ xs) ys all = let rest = good_parts xs ys all.1 in ((all.0, rest.0), rest.1)

good_names : (xs : List Signal) → AllByRecursion (λ x. IsTrue (is_signal_name x.name)) xs → AreGood (names_in xs)
good_names [] all = tt
good_names (x ∷ xs) all = (all.0, good_names xs all.1)

module _ (n : Netlist) (is : IsNetlist n) where
  abbrev pub inputs : List (List ℕ)
  inputs = names_of Input n.signals

  abbrev pub outputs : List (List ℕ)
  outputs = names_of Output n.signals

  abbrev pub others : List (List ℕ)
  others = inner n.signals

  pub whole : (inputs ++ outputs) ++ others ≡ names_in n.signals
  whole = names_in_order n.signals is.kinds

  pub driven_whole : outputs ++ others ≡ driven_in n.signals
  driven_whole = driven_in_order n.signals is.kinds

  pub all_good : AreGood (names_in n.signals)
  all_good =
      good_names n.signals (recursion_from_All (λ (x : Signal). IsTrue (is_signal_name x.name)) n.signals is.names)

  by_kinds_good : AreGood ((inputs ++ outputs) ++ others)
  by_kinds_good = subst AreGood (sym whole) all_good

  good_driven : AreGood (outputs ++ others)
  good_driven = (good_parts inputs (outputs ++ others)
      (subst AreGood (append_assoc inputs outputs others) by_kinds_good)).1

  all_new : AreNew [] ((inputs ++ outputs) ++ others)
  all_new = subst (AreNew []) (sym whole) (netlist_new n is)

  new_ports : AreNew [] (inputs ++ outputs) × AreNew (inputs ++ outputs) others
  new_ports = new_parts [] (inputs ++ outputs) others all_new

  new_driven : AreNew (inputs ++ []) (outputs ++ others)
  new_driven = subst (λ (l : List (List ℕ)). AreNew l (outputs ++ others)) (sym (append-nil inputs))
      (new_parts [] inputs (outputs ++ others) (subst (AreNew []) (append_assoc inputs outputs others) all_new)).1

  count : length (inputs ++ outputs) + length others ≤ max_signals
  count =
      let same = ap (λ (l : List (List ℕ)). length l) whole in
      let few = is.few in
      omega (
        arith,
        few,
        same,
        length-append (inputs ++ outputs) others,
        length-map n.signals (λ (x : Signal). x.name),
      )

  pub ports_fine : first_after (name_fault max_signals) [] (inputs ++ outputs) ≡ None
  ports_fine = names_good [] (inputs ++ outputs) (good_parts (inputs ++ outputs) others by_kinds_good).0 new_ports.0
      (omega (arith, count))

  pub inner_is : internal_among outputs (outputs ++ others) ≡ others
  inner_is = inner_are outputs others (new_apart outputs [] others
      (subst (λ (l : List (List ℕ)). AreNew l others) (sym (append-nil outputs))
      (new_without inputs outputs others new_ports.1)))

  pub equation_names : NoFaults inputs outputs [] (driven_in n.signals)
  equation_names = subst (NoFaults inputs outputs []) driven_whole (no_faults inputs outputs [] (outputs ++ others)
      good_driven (new_apart inputs [] (outputs ++ others) new_driven)
      (new_without inputs [] (outputs ++ others) new_driven)
      (subst (λ (l : List (List ℕ)). length (inputs ++ outputs) + length l ≤ max_signals) (sym inner_is) count))
