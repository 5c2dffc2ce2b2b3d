-- Each gate of the netlist of equations has the values of the equation of its signal.
use Rattle.std.proofs.Common.{◌≡◌, ℕ, zero, suc, ◌+◌, true, List, [], ◌∷◌, map, slice_get}
use Rattle.std.proofs.Common.{Option, Some, None, Contains, bytes_eq, unwrap_or, option_map}
use Rattle.std.proofs.Common.{refl, sym, ap, ◌∙◌, arith, inl, inr, not}
use Rattle.std.proofs.lemmas.Bool.{cases_Bool}
use Rattle.std.proofs.lemmas.Option.{slice_get-map}
use Rattle.std.proofs.lemmas.Slice.Eq.{bytes_eq-Decides}
use Rattle.si_base.specs.declared.graph.Signal.{Signal}
use Rattle.si_base.specs.declared.graph.SigKind.TheVariants.{Inserted}
use Rattle.si_base.specs.Faults.{◌otherwise◌, first_in}
use Rattle.si_base.specs.GivenGraph.{signals_of}
use Rattle.si_base.specs.Graph.{is_driven, names_in}
use Rattle.si_base.specs.Netlist.{Gate, Sum, gate_place, value_if_there}
use Rattle.si_base.proofs.OrderAscending.{In}
use Rattle.si_words.specs.Names.{stands_in}
use Rattle.si_equations.specs.Equations.{Equation, Equations, driven, expression_value}
use Rattle.si_from_equations.specs.Beside.{all_signals, expression_of, gate_for, gated, has_name, has_signal}
use Rattle.si_from_equations.specs.Beside.{hidden_names, if_missing, lists_place, netlist_beside, sum_for}
use Rattle.si_from_equations.specs.Beside.{without_sum}
use Rattle.si_from_equations.specs.BesideLaws.{GatesAreEquations}
use Rattle.si_from_equations.proofs.ElementLemmas.{in_at, in_either, in_whole, of_each, standing_in}
use Rattle.si_from_equations.proofs.SignalLemmas.{has_each}
use Rattle.si_from_equations.proofs.ValueLemmas.{sums_have_values}

-- ---- the equation of a name
record IsEquationOf (equations : List Equation) (name : List ℕ) : Type 0 where
  pub equation : Equation
  pub there : Contains equations equation
  pub named : equation.name ≡ name
  pub tree_is : expression_of equations name ≡ equation.tree

behind_one : (q : Equation) (qs : List Equation) (x : Equation) → Contains qs x → Contains (q ∷ qs) x
behind_one q qs x (k, within, at) = (suc k, omega (arith, within), at)

equation_there : (qs : List Equation) (name : List ℕ) → stands_in (map (λ q. q.name) qs) name ≡ true
    → IsEquationOf qs name
equation_there [] name stands = absurd cc
equation_there (q ∷ qs) name stands = elim (cases_Bool (bytes_eq name q.name)) [
  | inl same ↦ record {
    equation = q;
    there = (zero, omega arith, refl);
    named = sym ((bytes_eq-Decides name q.name).0 same);
    tree_is = rw same refl;
  }
  | inr other ↦
      let later = equation_there qs name (rw other at stands) in
      record {
        equation = later.equation;
        there = behind_one q qs later.equation later.there;
        named = later.named;
        tree_is = rw other later.tree_is;
      }
]

-- ---- the gate of a signal
gate_at : (xs : List Signal) (z : ℕ) (x : Signal) → slice_get xs z ≡ Some x → is_driven x.kind ≡ true
    → slice_get (gated xs) (gate_place xs z) ≡ Some x
gate_at [] z x at drives = absurd cc
gate_at (y ∷ xs) zero x at drives =
    let same : y ≡ x = cc in
    let first : is_driven y.kind ≡ true = rw same drives in
    rw first (ap (λ (w : Signal). Some w) same)
gate_at (y ∷ xs) (suc z) x at drives = elim (cases_Bool (is_driven y.kind)) [
  | inl also ↦
      let next : 1 + gate_place xs z ≡ suc (gate_place xs z) = omega arith in
      rw (also, next) (gate_at xs z x at drives)
  | inr input ↦
      let next : 0 + gate_place xs z ≡ gate_place xs z = omega arith in
      rw (input, next) (gate_at xs z x at drives)
]

none_both : {F : Type 0} (a b : Option F) → (a otherwise b) ≡ None → (a ≡ None) × (b ≡ None)
none_both None b none = (refl, none)
none_both (Some x) b none = absurd cc

none_first : {A F : Type 0} (f : A → Option F) (xs : List A) (k : ℕ) (x : A) → first_in f xs ≡ None
    → slice_get xs k ≡ Some x → f x ≡ None
none_first f [] k x none at = absurd cc
none_first f (y ∷ xs) zero x none at =
    let same : y ≡ x = cc in rw (sym same) ((none_both (f y) (first_in f xs) none).0)
none_first f (y ∷ xs) (suc k) x none at = none_first f xs k x ((none_both (f y) (first_in f xs) none).1) at

not_missing : (name : List ℕ) (found : Option Sum) → if_missing name found ≡ None → found ≡ Some (unwrap_or found [])
not_missing name None none = absurd cc
not_missing name (Some sum) none = refl

-- ---- signals with a gate have an equation
hidden_name : (x : Signal) (names : List (List ℕ)) → In x (signals_of Inserted names) → In x.name names
hidden_name x [] there = there
hidden_name x (n ∷ names) (inl same) = inl (ap (λ (y : Signal). y.name) same)
hidden_name x (n ∷ names) (inr there) = inr (hidden_name x names there)

has_equation : (given : List Signal) (e : Equations) (x : Signal) → lists_place given e ≡ None
    → In x (all_signals given e) → is_driven x.kind ≡ true → stands_in (driven e) x.name ≡ true
has_equation given e x lists there drives =
    let hidden = hidden_names given e in
    elim (in_either x given (signals_of Inserted hidden) there) [
      | inl first ↦ rw drives at (of_each (λ (y : Signal). has_signal e y ≡ true) x given (has_each given e lists) first)
      | inr second ↦ standing_in (driven e) x.name
          (in_whole (λ (n : List ℕ). not (has_name given n)) x.name (driven e) (hidden_name x hidden second))
    ]

pub gates_are_equations : GatesAreEquations
gates_are_equations model c e lists summed z (x, at, drives) =
    let signals = all_signals c.graph.signals e in
    let names = names_in signals in
    let n = netlist_beside model c e in
    let of = equation_there e.equations x.name (has_equation c.graph.signals e x lists (in_at signals z x at) drives) in
    let place = gate_at signals z x at drives in
    let gate = slice_get-map (gate_for names e) (gated signals) (gate_place signals z)
    ∙ ap (option_map (gate_for names e)) place in
    let found = not_missing x.name (sum_for names e x)
    (none_first (without_sum names e) (gated signals) (gate_place signals z) x summed place) in
    let sum = unwrap_or (sum_for names e x) [] in
    record {
      equation = of.equation;
      there = of.there;
      named = of.named ∙ sym (ap (λ (o : Option Signal). unwrap_or (option_map (λ (y : Signal). y.name) o) []) at);
      value = λ values. ap (λ (o : Option Gate). value_if_there o z values) gate
          ∙ sums_have_values names (expression_of e.equations x.name) sum found values
          ∙ ap (expression_value names values) of.tree_is;
    }
