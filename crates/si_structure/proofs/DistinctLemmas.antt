-- No two nets of a controller have the same name.
use Rattle.std.proofs.Common.{◌≢◌, ℕ, suc, List, [], ◌∷◌, ◌++◌, map, flat_map}
use Rattle.std.proofs.Common.{AllPairs, codes, sym, ap, ◌∙◌, arith, inl, inr}
use Rattle.std.specs.List.{AllByRecursion}
use Rattle.std.proofs.lemmas.Bool.{cases_Bool}
use Rattle.std.proofs.lemmas.List.Elements.{recursion_from_All, All-from_recursion}
use Rattle.std.proofs.lemmas.List.Kept.{AllPairs-cons}
use Rattle.si_base.specs.declared.ids.Literal.{Literal}
use Rattle.si_base.specs.declared.graph.Signal.{Signal}
use Rattle.si_base.specs.Graph.{is_driven}
use Rattle.si_base.specs.Netlist.{Gate}
use Rattle.si_genlib.specs.Ports.{IsPortName}
use Rattle.si_verilog.proofs.NetlistLemmas.{all_append}
use Rattle.si_structure.specs.StructureText.{complemented, driven_gates, inverted_net}
use Rattle.si_structure.proofs.NameLemmas.{HasNameBytes, before, net_owner, net_parts, no_dollar, port_bytes, same_pins}
use Rattle.si_structure.proofs.CellLemmas.{Apart, apart_append}

pub pairs_apart : (xs : List (List ℕ)) → Apart xs → AllPairs (λ x y. x ≢ y) xs
pairs_apart [] apart = λ i j d before within. absurd (omega arith)
pairs_apart (x ∷ xs) apart = AllPairs-cons (λ x y. x ≢ y) x xs
    (All-from_recursion (λ (y : List ℕ). x ≢ y) xs apart.0) (pairs_apart xs apart.1)

-- ---- names of signals

names_all : (P : List ℕ → Type 0) (xs : List Signal) → AllByRecursion (λ x. P x.name) xs
    → AllByRecursion P (map (λ (x : Signal). x.name) xs)
names_all P [] all = tt
names_all P (x ∷ xs) all = (all.0, names_all P xs all.1)

pub signals_apart : (xs : List Signal) → AllPairs (λ x y. x.name ≢ y.name) xs → Apart (map (λ (x : Signal). x.name) xs)
signals_apart [] pairs = tt
signals_apart (x ∷ xs) pairs = (
  names_all (λ m. x.name ≢ m) xs (recursion_from_All (λ (y : Signal). x.name ≢ y.name) xs
      (λ k d within. pairs 0 (suc k) d (omega arith) (omega arith))),
  signals_apart xs (λ i j d before within. pairs (suc i) (suc j) d (omega arith) (omega arith)),
)

abbrev pub owners : List (Signal × Gate) → List (List ℕ)
owners ps = map (λ p. p.0.name) ps

owners_all : (P : List ℕ → Type 0) (xs : List Signal) (gates : List Gate)
    → AllByRecursion P (map (λ (x : Signal). x.name) xs) → AllByRecursion P (owners (driven_gates xs gates))
owners_all P [] gates all = tt
owners_all P (x ∷ xs) [] all = elim (cases_Bool (is_driven x.kind)) [
  | inl driven ↦ rw driven tt
  | inr input ↦ rw input (owners_all P xs [] all.1)
]
owners_all P (x ∷ xs) (g ∷ gs) all = elim (cases_Bool (is_driven x.kind)) [
  | inl driven ↦ rw driven (all.0, owners_all P xs gs all.1)
  | inr input ↦ rw input (owners_all P xs (g ∷ gs) all.1)
]

pub owners_apart : (xs : List Signal) (gates : List Gate) → Apart (map (λ (x : Signal). x.name) xs)
    → Apart (owners (driven_gates xs gates))
owners_apart [] gates apart = tt
owners_apart (x ∷ xs) [] apart = elim (cases_Bool (is_driven x.kind)) [
  | inl driven ↦ rw driven tt
  | inr input ↦ rw input (owners_apart xs [] apart.1)
]
owners_apart (x ∷ xs) (g ∷ gs) apart = elim (cases_Bool (is_driven x.kind)) [
  | inl driven ↦ rw driven (owners_all (λ m. x.name ≢ m) xs gs apart.0, owners_apart xs gs apart.1)
  | inr input ↦ rw input (owners_apart xs (g ∷ gs) apart.1)
]

-- ---- pins of one gate

pins_all : (P : List ℕ → Type 0) (pins : List (List ℕ)) (literals : List Literal) → AllByRecursion P pins
    → AllByRecursion P (map (λ p. p.0) (complemented pins literals))
pins_all P [] literals all = tt
pins_all P (p ∷ ps) [] all = tt
pins_all P (p ∷ ps) (l ∷ ls) all = elim (cases_Bool l.plain) [
  | inl plain ↦ rw plain (pins_all P ps ls all.1)
  | inr other ↦ rw other (all.0, pins_all P ps ls all.1)
]

pins_apart : (pins : List (List ℕ)) (literals : List Literal) → Apart pins
    → Apart (map (λ p. p.0) (complemented pins literals))
pins_apart [] literals apart = tt
pins_apart (p ∷ ps) [] apart = tt
pins_apart (p ∷ ps) (l ∷ ls) apart = elim (cases_Bool l.plain) [
  | inl plain ↦ rw plain (pins_apart ps ls apart.1)
  | inr other ↦ rw other (pins_all (λ m. p ≢ m) ps ls apart.0, pins_apart ps ls apart.1)
]

-- pins that are told apart, by names of ports
pub record AreOwnPins (pins : List (List ℕ)) : Type 0 where
  pub names : AllByRecursion IsPortName pins
  pub apart : Apart pins

pub own_pins : (pins : List (List ℕ)) (literals : List Literal) → AreOwnPins pins
    → AreOwnPins (map (λ p. p.0) (complemented pins literals))
own_pins pins literals own = record {
  names = pins_all IsPortName pins literals own.names;
  apart = pins_apart pins literals own.apart;
}

abbrev pub nets_at : List ℕ → List (List ℕ) → List (List ℕ)
nets_at name pins = map (inverted_net name) pins

nets_apart : (name : List ℕ) → HasNameBytes name → (pins : List (List ℕ)) → AllByRecursion IsPortName pins
    → Apart pins → Apart (nets_at name pins)
nets_apart name bytes [] names apart = tt
nets_apart name bytes (p ∷ ps) names apart =
    (others ps names.1 apart.0, nets_apart name bytes ps names.1 apart.1)
  where
    others : (qs : List (List ℕ)) → AllByRecursion IsPortName qs → AllByRecursion (λ m. p ≢ m) qs
        → AllByRecursion (λ m. inverted_net name p ≢ m) (nets_at name qs)
    others [] are differ = tt
    others (q ∷ qs) are differ = (
      λ same. differ.0 (same_pins name p q bytes (port_bytes p names.0) (port_bytes q are.0) same),
      others qs are.1 differ.1,
    )

-- ---- nets of all gates

module _ (pins_of : Gate → List (List ℕ)) where
  abbrev pub nets_of : List (Signal × Gate) → List (List ℕ)
  nets_of ps = flat_map (λ p. nets_at p.0.name (pins_of p.1)) ps

  abbrev pub HaveOwnPins : List (Signal × Gate) → Type 0
  HaveOwnPins ps = AllByRecursion (λ p. HasNameBytes p.0.name × AreOwnPins (pins_of p.1)) ps

  at_others : (name other : List ℕ) → HasNameBytes other → name ≢ other → (pins : List (List ℕ))
      → AllByRecursion (λ m. before m ≢ name) (nets_at other pins)
  at_others name other bytes differ [] = tt
  at_others name other bytes differ (p ∷ ps) = (
    λ same. differ (sym same ∙ net_owner other p bytes),
    at_others name other bytes differ ps,
  )

  of_others : (name : List ℕ) (ps : List (Signal × Gate)) → HaveOwnPins ps
      → AllByRecursion (λ m. name ≢ m) (owners ps) → AllByRecursion (λ m. before m ≢ name) (nets_of ps)
  of_others name [] own differ = tt
  of_others name (p ∷ ps) own differ = all_append (λ m. before m ≢ name) (nets_at p.0.name (pins_of p.1))
      (nets_of ps) (at_others name p.0.name own.0.0 differ.0 (pins_of p.1)) (of_others name ps own.1 differ.1)

  crossed : (name : List ℕ) → HasNameBytes name → (pins ms : List (List ℕ))
      → AllByRecursion (λ m. before m ≢ name) ms
      → AllByRecursion (λ x. AllByRecursion (λ y. x ≢ y) ms) (nets_at name pins)
  crossed name bytes [] ms others = tt
  crossed name bytes (p ∷ ps) ms others = (each ms others, crossed name bytes ps ms others)
    where
      each : (ks : List (List ℕ)) → AllByRecursion (λ m. before m ≢ name) ks
          → AllByRecursion (λ y. inverted_net name p ≢ y) ks
      each [] all = tt
      each (k ∷ ks) all = (λ same. all.0 (ap before (sym same) ∙ net_owner name p bytes), each ks all.1)

  pub all_nets_apart : (ps : List (Signal × Gate)) → HaveOwnPins ps → Apart (owners ps) → Apart (nets_of ps)
  all_nets_apart [] own apart = tt
  all_nets_apart (p ∷ ps) own apart =
      let name = p.0.name in
      let pins = pins_of p.1 in
      apart_append (nets_at name pins) (nets_of ps)
      (nets_apart name own.0.0 pins own.0.1.names own.0.1.apart) (all_nets_apart ps own.1 apart.1)
      (crossed name own.0.0 pins (nets_of ps) (of_others name ps own.1 apart.0))

  -- and none is a signal
  no_signals_at : (name other : List ℕ) → HasNameBytes name → (pins : List (List ℕ))
      → AllByRecursion (λ m. name ≢ m) (nets_at other pins)
  no_signals_at name other bytes [] = tt
  no_signals_at name other bytes (p ∷ ps) = (
    λ same. no_dollar name other (p ++ codes "$inverted") bytes (same ∙ net_parts other p),
    no_signals_at name other bytes ps,
  )

  no_signal : (name : List ℕ) → HasNameBytes name → (ps : List (Signal × Gate))
      → AllByRecursion (λ m. name ≢ m) (nets_of ps)
  no_signal name bytes [] = tt
  no_signal name bytes (p ∷ ps) = all_append (λ m. name ≢ m) (nets_at p.0.name (pins_of p.1)) (nets_of ps)
      (no_signals_at name p.0.name bytes (pins_of p.1)) (no_signal name bytes ps)

  pub no_signals : (names : List (List ℕ)) → AllByRecursion HasNameBytes names → (ps : List (Signal × Gate))
      → AllByRecursion (λ x. AllByRecursion (λ y. x ≢ y) (nets_of ps)) names
  no_signals [] bytes ps = tt
  no_signals (m ∷ names) bytes ps = (no_signal m bytes.0 ps, no_signals names bytes.1 ps)
