-- While the reset input is 1 the module is a netlist whose gates settle.
use Rattle.std.proofs.Common.{◌≡◌, ◌<◌, ◌⊎◌, ℕ, Bool, true, false, List, [], ◌∷◌, ◌++◌, length, map, Contains}
use Rattle.std.proofs.Common.{slice_get, option_map, Option, Some, None, if◌then◌else◌, refl, sym, ap, subst, ◌∙◌}
use Rattle.std.proofs.Common.{inl, inr, arith}
use Rattle.std.specs.List.{AllByRecursion}
use Rattle.std.proofs.lemmas.List.Elements.{Contains-append_cases}
use Rattle.std.proofs.lemmas.Option.{slice_get-map}
use Rattle.si_base.specs.Bits.{bit}
use Rattle.si_base.specs.Graph.{IsNonInput}
use Rattle.si_base.specs.Netlist.{Netlist, Gate, SumGate, gate_place, gate_value, value_if_there}
use Rattle.si_base.specs.NetlistText.{name_of}
use Rattle.si_loops.specs.Arcs.{gated}
use Rattle.si_settled.specs.Laws.{IsAtStart}
use Rattle.si_settled.specs.Settling.{Agrees, AreForced, Drops, IsForced, Rounds, Settles, SettlesBy, inputs_of}
use Rattle.si_settled.specs.Settling.{is_among}
use Rattle.si_settled.proofs.Forcing.{forced_suffice}
use Rattle.si_settled.proofs.Rounding.{tail_there, there_cases, rounds_settle}
use Rattle.si_settled.proofs.Showing.{there_among}
use Rattle.si_verilog.specs.Grammar.{Tree, Constant, Assign, Module, tree_value}
use Rattle.si_verilog.proofs.NetlistLemmas.{all_append}
use Rattle.si_resettable.specs.Laws.{IsInReset}
use Rattle.si_resettable.specs.Meaning.{IsResettable, value_at, value_in_reset}
use Rattle.si_resettable.proofs.PlaceLemmas.{all_gated, at_its_place}

-- ---- the netlist in reset

constant : Bool → Gate
constant true = SumGate ([] ∷ [])
constant false = SumGate []

gate_or : Option Gate → Gate
gate_or None = SumGate []
gate_or (Some gate) = gate

abbrev gate_in_reset : Netlist → List ℕ → ℕ → Gate
gate_in_reset n forced z =
    if is_among forced z then constant (bit n.start z) else gate_or (slice_get n.gates (gate_place n.signals z))

netlist_in_reset : Netlist → List ℕ → Netlist
netlist_in_reset n forced = record {
  model = n.model;
  signals = n.signals;
  start = n.start;
  inserts = n.inserts;
  gates = map (gate_in_reset n forced) (gated n.signals);
}

constant_value : (value : Bool) (z values : ℕ) → value_if_there (Some (constant value)) z values ≡ value
unfolding constant
constant_value true z values = refl
constant_value false z values = refl

or_value : (gate : Option Gate) (z values : ℕ)
    → value_if_there (Some (gate_or gate)) z values ≡ value_if_there gate z values
unfolding gate_or
or_value None z values = refl
or_value (Some gate) z values = refl

chosen_value : (among value : Bool) (gate : Option Gate) (z values : ℕ)
    → value_if_there (Some (if among then constant value else gate_or gate)) z values
    ≡ (if among then value else value_if_there gate z values)
chosen_value true value gate z values = constant_value value z values
chosen_value false value gate z values = or_value gate z values

value_there : (n : Netlist) (forced : List ℕ) (z values : ℕ) → IsNonInput n.signals z
    → gate_value (netlist_in_reset n forced) z values ≡ value_in_reset n forced z values
unfolding netlist_in_reset
value_there n forced z values non_input =
    let place = gate_place n.signals z in
    let at : slice_get (map (gate_in_reset n forced) (gated n.signals)) place ≡ Some (gate_in_reset n forced z) =
    slice_get-map (gate_in_reset n forced) (gated n.signals) place
    ∙ ap (option_map (gate_in_reset n forced)) (at_its_place n.signals z non_input) in
    ap (λ (o : Option Gate). value_if_there o z values) at
    ∙ chosen_value (is_among forced z) (bit n.start z) (slice_get n.gates place) z values

pub some_in_reset : (n : Netlist) (forced : List ℕ) → (k : Netlist) × IsInReset n forced k
unfolding netlist_in_reset
some_in_reset n forced = (
  netlist_in_reset n forced,
  record {
    signals = refl;
    start = refl;
    gates = λ z values non_input. value_there n forced z values non_input;
  },
)

tree_in : Option Assign → Tree
tree_in None = Constant false
tree_in (Some a) = a.tree

pub modules_are_in_reset : (n k : Netlist) (forced reset : List ℕ) (m : Module) (z : ℕ) (tree : Tree)
    → IsResettable n forced reset m → IsInReset n forced k → IsNonInput n.signals z
    → slice_get m.assigns (gate_place n.signals z) ≡ Some (record { name = name_of n.signals z; tree = tree })
    → (values : ℕ) → tree_value (value_at reset true n.signals values) tree ≡ gate_value k z values
unfolding tree_in
modules_are_in_reset n k forced reset m z tree resettable in_reset non_input there values =
    let gate = resettable.gates z non_input in
    let same : tree ≡ gate.tree = ap tree_in (sym there ∙ gate.there) in
    ap (tree_value (value_at reset true n.signals values)) same ∙ gate.held values
    ∙ sym (in_reset.gates z values non_input)

-- ---- what is forced has gates

all_dropped : (P : ℕ → Type 0) (n : Netlist) (inputs before gates forced : List ℕ) → AllByRecursion P before
    → AllByRecursion P gates → Drops n inputs before gates forced → AllByRecursion P forced
all_dropped P n inputs before [] forced all rest drops = subst (AllByRecursion P) (sym drops) all
all_dropped P n inputs before (z ∷ gates) forced all rest (inl less) =
    all_dropped P n inputs before gates forced all rest.1 less.1
all_dropped P n inputs before (z ∷ gates) forced all rest (inr needed) =
    all_dropped P n inputs (before ++ z ∷ []) gates forced (all_append P before (z ∷ []) all (rest.0, tt)) rest.1
    needed.1

forced_gated : (n : Netlist) (forced : List ℕ) → AreForced n forced → AllByRecursion (IsNonInput n.signals) forced
forced_gated n forced are =
    all_dropped (IsNonInput n.signals) n (inputs_of n.signals) [] (gated n.signals) forced tt (all_gated n.signals) are

-- ---- its gates settle

module _ (n k : Netlist) (forced : List ℕ) (in_reset : IsInReset n forced k) where
  same_gate : (z : ℕ) → IsNonInput n.signals z → IsNonInput k.signals z
  same_gate z non_input = subst (λ signals. IsNonInput signals z) (sym in_reset.signals) non_input

  same_start : (z : ℕ) → bit n.start z ≡ bit k.start z
  same_start z = ap (λ (start : ℕ). bit start z) (sym in_reset.start)

  -- a gate that is forced, or that is held to its start value in the netlist, has it in reset
  held_or : (known more : List ℕ) → ((y : ℕ) → Contains known y → Contains more y) → (z : ℕ) → IsNonInput n.signals z
      → IsForced n known z → IsForced k more z
  held_or known more within z non_input is w agrees =
      let seen : Agrees n known w = λ y there. agrees y (within y there) ∙ sym (same_start y) in
      in_reset.gates z w non_input ∙ either (is_among forced z) (is w seen) ∙ same_start z
    where
      either : (among : Bool) → gate_value n z w ≡ bit n.start z
          → (if among then bit n.start z else gate_value n z w) ≡ bit n.start z
      either true value = refl
      either false value = value

  forced_held : (known : List ℕ) (z : ℕ) → IsNonInput n.signals z → is_among forced z ≡ true → IsForced k known z
  forced_held known z non_input among w agrees =
      in_reset.gates z w non_input
      ∙ ap (λ (b : Bool). if b then bit n.start z else gate_value n z w) among ∙ same_start z

  settle_more : (known more order : List ℕ) → ((y : ℕ) → Contains known y → Contains more y)
      → SettlesBy IsForced n known order → SettlesBy IsForced k more order
  settle_more known more [] within settles = λ a small.
      within a (settles a (subst (λ (count : ℕ). a < count) (ap length in_reset.signals) small))
  settle_more known more (z ∷ order) within settles = (
    same_gate z settles.0,
    held_or known more within z settles.0 settles.1,
    settle_more (z ∷ known) (z ∷ more) order (λ y there. one_more y (there_cases z y known there)) settles.2,
  )
    where
      one_more : (y : ℕ) → (y ≡ z) ⊎ Contains known y → Contains (z ∷ more) y
      one_more y (inl same) = (0, omega arith, sym same)
      one_more y (inr there) = tail_there z y more (within y there)

  -- the forced gates come first, one after another
  forced_first : (fs known order : List ℕ) → AllByRecursion (IsNonInput n.signals) fs
      → ((z : ℕ) → Contains fs z → is_among forced z ≡ true)
      → ((more : List ℕ) → ((y : ℕ) → Contains known y ⊎ Contains fs y → Contains more y)
      → SettlesBy IsForced k more order)
      → SettlesBy IsForced k known (fs ++ order)
  forced_first [] known order gates among rest = rest known (λ y there. stays y there)
    where
      stays : (y : ℕ) → Contains known y ⊎ Contains [] y → Contains known y
      stays y (inl there) = there
      stays y (inr none) = absurd (omega (arith, none.1))
  forced_first (z ∷ fs) known order gates among rest = (
    same_gate z gates.0,
    forced_held known z gates.0 (among z (0, omega arith, refl)),
    forced_first fs (z ∷ known) order gates.1 (λ y there. among y (tail_there z y fs there))
        (λ more within. rest more (λ y there. moved y more within there)),
  )
    where
      later : (y : ℕ) (more : List ℕ) → ((x : ℕ) → Contains (z ∷ known) x ⊎ Contains fs x → Contains more x)
          → (y ≡ z) ⊎ Contains fs y → Contains more y
      later y more within (inl same) = within y (inl (0, omega arith, sym same))
      later y more within (inr there) = within y (inr there)

      moved : (y : ℕ) (more : List ℕ) → ((x : ℕ) → Contains (z ∷ known) x ⊎ Contains fs x → Contains more x)
          → Contains known y ⊎ Contains (z ∷ fs) y → Contains more y
      moved y more within (inl there) = within y (inl (tail_there z y known there))
      moved y more within (inr there) = later y more within (there_cases z y fs there)

  in_reset_settles : (order : List ℕ) → AreForced n forced → Settles n (inputs_of n.signals ++ forced) order
      → Settles k (inputs_of n.signals) (forced ++ order)
  in_reset_settles order are settles = forced_first forced (inputs_of n.signals) order (forced_gated n forced are)
      (λ z there. there_among forced z there)
      (λ more within. settle_more (inputs_of n.signals ++ forced) more order
      (λ y there. within y (Contains-append_cases (inputs_of n.signals) forced y there)) settles)

  -- so many rounds end at the start values
  reset_rounds : (order : List ℕ) (w v : ℕ) → AreForced n forced → Settles n (inputs_of n.signals ++ forced) order
      → Agrees n (inputs_of n.signals) w → Rounds k (inputs_of n.signals) (length (forced ++ order)) w v
      → IsAtStart n v
  reset_rounds order w v are settles agrees rounds a small =
      rounds_settle k (inputs_of n.signals) (forced ++ order) w v (in_reset_settles order are settles)
      (λ z there. agrees z there ∙ same_start z) rounds a
      (subst (λ (count : ℕ). a < count) (sym (ap length in_reset.signals)) small)
      ∙ sym (same_start a)

pub in_reset_settle : (n k : Netlist) (forced order : List ℕ) → AreForced n forced → IsInReset n forced k
    → Settles n (inputs_of n.signals ++ forced) order → Settles k (inputs_of n.signals) (forced ++ order)
in_reset_settle n k forced order are in_reset settles = in_reset_settles n k forced in_reset order are settles

pub resets_end : (n k : Netlist) (forced : List ℕ) → AreForced n forced → IsInReset n forced k
    → (order : List ℕ) × Settles n (inputs_of n.signals ++ forced) order
    × ((w v : ℕ) → Agrees n (inputs_of n.signals) w
    → Rounds k (inputs_of n.signals) (length (forced ++ order)) w v → IsAtStart n v)
resets_end n k forced are in_reset =
    let suffice = forced_suffice n forced are in (
      suffice.0,
      suffice.1,
      λ w v agrees rounds. reset_rounds n k forced in_reset suffice.0 w v are suffice.1 agrees rounds,
    )
