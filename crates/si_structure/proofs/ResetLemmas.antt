-- What a reset input adds to a controller: the free nets of forced signals, and their assigns.
use Rattle.std.specs.Prelude.{IsTrue}
use Rattle.std.proofs.Common.{◌≡◌, ◌≢◌, ℕ, zero, suc, ◌<◌, ◌||◌, ◌&&◌, not, Bool, true, false, List, [], ◌∷◌, ◌++◌, length}
use Rattle.std.proofs.Common.{map, filter, flat_map, slice_get, Option, Some, None, Contains, All, bytes_eq, if◌then◌else◌}
use Rattle.std.proofs.Common.{codes, refl, sym, ap, subst, ◌∙◌, append_assoc, arith, inl, inr}
use Rattle.std.specs.List.{AllByRecursion, list_any}
use Rattle.std.proofs.lemmas.Bool.{cases_Bool, or_parts, true≢false}
use Rattle.std.proofs.lemmas.List.{append-nil, map-append}
use Rattle.std.proofs.lemmas.List.Elements.{recursion_from_All, All-from_recursion}
use Rattle.std.proofs.lemmas.Slice.Eq.{bytes_eq-Decides}
use Rattle.si_base.specs.declared.graph.Signal.{Signal}
use Rattle.si_base.specs.Bits.{bit}
use Rattle.si_base.specs.Graph.{is_driven, IsNonInput}
use Rattle.si_base.specs.Netlist.{Gate, Netlist, gate_place, gate_value}
use Rattle.si_base.specs.NetlistText.{name_of}
use Rattle.si_base.specs.WellFormed.{IsNetlist}
use Rattle.si_base.specs.Words.{is_signal_name}
use Rattle.si_netlist.proofs.GateLemmas.{within_signals}
use Rattle.si_genlib.specs.Ports.{PortedLibrary}
use Rattle.si_loops.specs.Arcs.{gated}
use Rattle.si_settled.specs.Settling.{Drops, inputs_of, is_among}
use Rattle.si_settled.proofs.Rounding.{there_cases}
use Rattle.si_settled.proofs.Showing.{among_there}
use Rattle.si_verilog.specs.Symbols.{Symbol, Name, Word, Mark, symbols_of}
use Rattle.si_verilog.specs.Grammar.{Tree, Named, Not, And, Or, tree_value, Expression, Spells, named, grouped}
use Rattle.si_verilog.specs.Grammar.{as_factor, complemented, as_term, with_factor, as_expression, with_term, Assign, SpellAssigns}
use Rattle.si_verilog.specs.Grammar.{no_assign, assign}
use Rattle.si_verilog.specs.Declared.{port_name}
use Rattle.si_verilog.specs.ModuleText.{verilog_name}
use Rattle.si_verilog.proofs.NameLemmas.{IsWritable, signal_is_writable}
use Rattle.si_verilog.proofs.SymbolLemmas.{Reads, ReadsBefore, both_read, read_then, parted_read, parted_then}
use Rattle.si_verilog.proofs.SymbolLemmas.{opening_read, closing_read, tilde_read, and_read, or_read, written_read}
use Rattle.si_verilog.proofs.NetlistLemmas.{all_append, netlist_named}
use Rattle.si_resettable.specs.Forcing.{Forcing, IsForcing, IsResetOf}
use Rattle.si_resettable.specs.Meaning.{value_in_reset}
use Rattle.si_resettable.specs.ResettableText.{forced_text}
use Rattle.si_resettable.proofs.PlaceLemmas.{all_gated, gated_names}
use Rattle.si_resettable.proofs.LineLemmas.{forced_high, forced_low, line_reads}
use Rattle.si_structure.specs.Parts.{Part, Placement}
use Rattle.si_structure.specs.Meaning.{AreForcedAssigns, AreResetAssigns, HaveValues, IsController, IsForcedAssign}
use Rattle.si_structure.specs.Meaning.{IsSettled}
use Rattle.si_structure.specs.StructureText.{GateInstances, driven_net, forced_by, forced_line, free_net, free_nets}
use Rattle.si_structure.specs.StructureText.{in_order, reset_lines, reset_ports}
use Rattle.si_structure.proofs.NameLemmas.{HasNameBytes, free_or_inverted, free_writable, no_dollar, same_owners}
use Rattle.si_structure.proofs.NameLemmas.{signal_bytes}
use Rattle.si_structure.proofs.ReadingLemmas.{HasWritable}
use Rattle.si_structure.proofs.CellLemmas.{Apart}
use Rattle.si_structure.proofs.DistinctLemmas.{HaveOwnPins, nets_at, nets_of, signals_apart}
use Rattle.si_structure.proofs.PlacementLemmas.{weaker}

-- ---- forced signals are some of those with gates, in their order

kept_all : (P : ℕ → Type 0) (n : Netlist) (inputs before gates forced : List ℕ) → AllByRecursion P before
    → AllByRecursion P gates → Drops n inputs before gates forced → AllByRecursion P forced
kept_all P n inputs before [] forced all others drops = subst (AllByRecursion P) (sym drops) all
kept_all P n inputs before (z ∷ rest) forced all others (inl less) =
    kept_all P n inputs before rest forced all others.1 less.1
kept_all P n inputs before (z ∷ rest) forced all others (inr needed) =
    kept_all P n inputs (before ++ z ∷ []) rest forced (all_append P before (z ∷ []) all (others.0, tt)) others.1
    needed.1

module _ (f : ℕ → List ℕ) where
  fewer : (P : List ℕ → Type 0) (xs : List ℕ) (z : ℕ) (ys : List ℕ) → AllByRecursion P (map f (xs ++ z ∷ ys))
      → AllByRecursion P (map f (xs ++ ys))
  fewer P [] z ys all = all.1
  fewer P (x ∷ xs) z ys all = (all.0, fewer P xs z ys all.1)

  one_out : (xs : List ℕ) (z : ℕ) (ys : List ℕ) → Apart (map f (xs ++ z ∷ ys)) → Apart (map f (xs ++ ys))
  one_out [] z ys apart = apart.1
  one_out (x ∷ xs) z ys apart = (fewer (λ m. f x ≢ m) xs z ys apart.0, one_out xs z ys apart.1)

  kept_apart : (n : Netlist) (inputs before gates forced : List ℕ) → Apart (map f (before ++ gates))
      → Drops n inputs before gates forced → Apart (map f forced)
  kept_apart n inputs before [] forced apart drops =
      subst (λ (xs : List ℕ). Apart (map f xs)) (append-nil before ∙ sym drops) apart
  kept_apart n inputs before (z ∷ rest) forced apart (inl less) =
      kept_apart n inputs before rest forced (one_out before z rest apart) less.1
  kept_apart n inputs before (z ∷ rest) forced apart (inr needed) =
      kept_apart n inputs (before ++ z ∷ []) rest forced
      (subst (λ (xs : List ℕ). Apart (map f xs)) (sym (append_assoc before (z ∷ []) rest)) apart) needed.1

driven_all : (P : List ℕ → Type 0) (xs : List Signal) → AllByRecursion P (map (λ (x : Signal). x.name) xs)
    → AllByRecursion P (map (λ (x : Signal). x.name) (filter (λ (x : Signal). is_driven x.kind) xs))
driven_all P [] all = tt
driven_all P (x ∷ xs) all = elim (cases_Bool (is_driven x.kind)) [
  | inl is ↦ rw is (all.0, driven_all P xs all.1)
  | inr input ↦ rw input (driven_all P xs all.1)
]

driven_apart : (xs : List Signal) → Apart (map (λ (x : Signal). x.name) xs)
    → Apart (map (λ (x : Signal). x.name) (filter (λ (x : Signal). is_driven x.kind) xs))
driven_apart [] apart = tt
driven_apart (x ∷ xs) apart = elim (cases_Bool (is_driven x.kind)) [
  | inl is ↦ rw is (driven_all (λ m. x.name ≢ m) xs apart.0, driven_apart xs apart.1)
  | inr input ↦ rw input (driven_apart xs apart.1)
]

pub forced_are_driven : (n : Netlist) (f : Forcing) → IsForcing n f
    → AllByRecursion (IsNonInput n.signals) f.forced
forced_are_driven n f fits =
    kept_all (IsNonInput n.signals) n (inputs_of n.signals) [] (gated n.signals) f.forced tt (all_gated n.signals)
    fits.are

pub forced_apart : (n : Netlist) (f : Forcing) → IsForcing n f → Apart (map (λ (x : Signal). x.name) n.signals)
    → Apart (map (name_of n.signals) f.forced)
forced_apart n f fits apart =
    kept_apart (name_of n.signals) n (inputs_of n.signals) [] (gated n.signals) f.forced
    (subst Apart (sym (gated_names n.signals)) (driven_apart n.signals apart)) fits.are

-- ---- free nets are told apart, from each other, from nets of inverters and from signals

module _ (signals : List Signal) where
  abbrev pub HaveBytes : List ℕ → Type 0
  HaveBytes zs = AllByRecursion (λ z. HasNameBytes (name_of signals z)) zs

  pub free_apart : (zs : List ℕ) → HaveBytes zs → Apart (map (name_of signals) zs) → Apart (free_nets signals zs)
  free_apart [] bytes apart = tt
  free_apart (z ∷ zs) bytes apart = (others zs bytes.1 apart.0, free_apart zs bytes.1 apart.1)
    where
      others : (ys : List ℕ) → HaveBytes ys → AllByRecursion (λ m. name_of signals z ≢ m) (map (name_of signals) ys)
          → AllByRecursion (λ m. free_net (name_of signals z) ≢ m) (free_nets signals ys)
      others [] all differ = tt
      others (y ∷ ys) all differ = (
        λ same. differ.0 (same_owners (name_of signals z) (name_of signals y) bytes.0 all.0 same),
        others ys all.1 differ.1,
      )

  at_inverters : (name other : List ℕ) → HasNameBytes name → HasNameBytes other → (pins : List (List ℕ))
      → AllByRecursion (λ m. free_net name ≢ m) (nets_at other pins)
  at_inverters name other one bytes [] = tt
  at_inverters name other one bytes (p ∷ ps) =
      (free_or_inverted name other p one bytes, at_inverters name other one bytes ps)

  of_inverters : (name : List ℕ) → HasNameBytes name → (pins_of : Gate → List (List ℕ)) (ps : List (Signal × Gate))
      → HaveOwnPins pins_of ps → AllByRecursion (λ m. free_net name ≢ m) (nets_of pins_of ps)
  of_inverters name one pins_of [] own = tt
  of_inverters name one pins_of (p ∷ ps) own = all_append (λ m. free_net name ≢ m) (nets_at p.0.name (pins_of p.1))
      (nets_of pins_of ps) (at_inverters name p.0.name one own.0.0 (pins_of p.1))
      (of_inverters name one pins_of ps own.1)

  pub free_from_inverters : (zs : List ℕ) → HaveBytes zs → (pins_of : Gate → List (List ℕ)) (ps : List (Signal × Gate))
      → HaveOwnPins pins_of ps
      → AllByRecursion (λ x. AllByRecursion (λ y. x ≢ y) (nets_of pins_of ps)) (free_nets signals zs)
  free_from_inverters [] bytes pins_of ps own = tt
  free_from_inverters (z ∷ zs) bytes pins_of ps own =
      (of_inverters (name_of signals z) bytes.0 pins_of ps own, free_from_inverters zs bytes.1 pins_of ps own)

  no_free : (name : List ℕ) → HasNameBytes name → (zs : List ℕ)
      → AllByRecursion (λ m. name ≢ m) (free_nets signals zs)
  no_free name bytes [] = tt
  no_free name bytes (z ∷ zs) = (no_dollar name (name_of signals z) (codes "free") bytes, no_free name bytes zs)

  pub names_from_free : (names : List (List ℕ)) → AllByRecursion HasNameBytes names → (zs : List ℕ)
      → AllByRecursion (λ x. AllByRecursion (λ y. x ≢ y) (free_nets signals zs)) names
  names_from_free [] bytes zs = tt
  names_from_free (m ∷ names) bytes zs = (no_free m bytes.0 zs, names_from_free names bytes.1 zs)

-- items that differ from those of two lists differ from those of both
pub from_both : (xs ys zs : List (List ℕ)) → AllByRecursion (λ x. AllByRecursion (λ y. x ≢ y) ys) xs
    → AllByRecursion (λ x. AllByRecursion (λ y. x ≢ y) zs) xs
    → AllByRecursion (λ x. AllByRecursion (λ y. x ≢ y) (ys ++ zs)) xs
from_both [] ys zs one other = tt
from_both (x ∷ xs) ys zs one other =
    (all_append (λ y. x ≢ y) ys zs one.0 other.0, from_both xs ys zs one.1 other.1)

-- the reset input has none of the names
pub reset_apart : (name : List ℕ) (xs : List Signal) → list_any (λ (x : Signal). bytes_eq x.name name) xs ≡ false
    → AllByRecursion (λ m. name ≢ m) (map (λ (x : Signal). x.name) xs)
reset_apart name [] free = tt
reset_apart name (x ∷ xs) free =
    let parts = or_parts (bytes_eq x.name name) _ free in (
      λ same. true≢false (sym ((bytes_eq-Decides x.name name).1 (sym same)) ∙ parts.0),
      reset_apart name xs parts.1,
    )

-- ---- the assign of a forced signal

record SaysForced (reset free : List ℕ) (start : Bool) : Type 0 where
  tree : Tree
  symbols : List Symbol
  spells : Spells Expression symbols tree
  reads : ReadsBefore (forced_text reset start (verilog_name free)) symbols
  value : (nets : List ℕ → Bool) → tree_value nets tree ≡ (if nets reset then start else nets free)

high : (level value : Bool) → (level || value) ≡ (if level then true else value)
high true value = refl
high false value = refl

low : (level value : Bool) → (not level && value) ≡ (if level then false else value)
low true value = refl
low false value = refl

grouped_read : (free : List ℕ) → IsWritable free
    → ReadsBefore (codes "(" ++ verilog_name free ++ codes ")") ((Mark 40 ∷ Name free ∷ []) ++ Mark 41 ∷ [])
grouped_read free writable = λ rest ends.
    parted_read (codes "(" ++ verilog_name free) (codes ")") ((Mark 40 ∷ []) ++ Name free ∷ []) (Mark 41 ∷ [])
    (read_then (codes "(") (verilog_name free) (Mark 40 ∷ []) (Name free ∷ []) opening_read
    (written_read free writable))
    (λ more. refl) closing_read rest

says_forced : (reset free : List ℕ) (start : Bool) → IsWritable reset → IsWritable free → SaysForced reset free start
says_forced reset free true writable also =
    let inner = codes "(" ++ verilog_name free ++ codes ")" in
    let marks : List Symbol = (Mark 40 ∷ Name free ∷ []) ++ Mark 41 ∷ [] in
    record {
      tree = Or (Named reset) (Named free);
      symbols = (Name reset ∷ []) ++ Mark 124 ∷ marks;
      spells = with_term (as_expression (as_term (as_factor (named reset))))
          (as_term (as_factor (grouped (as_expression (as_term (as_factor (named free)))))));
      reads = λ rest ends.
          ap (λ (t : List ℕ). symbols_of (t ++ rest)) (sym (forced_high reset (verilog_name free)))
          ∙ parted_then (verilog_name reset) (codes " | " ++ inner) (Name reset ∷ []) (Mark 124 ∷ marks)
          (written_read reset writable) (λ more. refl)
          (read_then (codes " | ") inner (Mark 124 ∷ []) marks or_read (grouped_read free also)) rest ends;
      value = λ nets. high (nets reset) (nets free);
    }
says_forced reset free false writable also =
    let inner = codes "(" ++ verilog_name free ++ codes ")" in
    let marks : List Symbol = (Mark 40 ∷ Name free ∷ []) ++ Mark 41 ∷ [] in
    let off = (126 ∷ []) ++ verilog_name reset in
    record {
      tree = And (Not (Named reset)) (Named free);
      symbols = (Mark 126 ∷ Name reset ∷ []) ++ Mark 38 ∷ marks;
      spells = as_expression (with_factor (as_term (complemented (named reset)))
          (as_factor (grouped (as_expression (as_term (as_factor (named free)))))));
      reads = λ rest ends.
          ap (λ (t : List ℕ). symbols_of (t ++ rest)) (sym (forced_low reset (verilog_name free)))
          ∙ parted_then off (codes " & " ++ inner) (Mark 126 ∷ Name reset ∷ []) (Mark 38 ∷ marks)
          (read_then (126 ∷ []) (verilog_name reset) (Mark 126 ∷ []) (Name reset ∷ []) tilde_read
          (written_read reset writable)) (λ more. refl)
          (read_then (codes " & ") inner (Mark 38 ∷ []) marks and_read (grouped_read free also)) rest ends;
      value = λ nets. low (nets reset) (nets free);
    }

-- the lines of these signals spell their assigns
pub record SaysAssigns (n : Netlist) (reset zs : List ℕ) : Type 0 where
  pub assigns : List Assign
  pub symbols : List Symbol
  pub spell : SpellAssigns symbols assigns
  pub reads : Reads (flat_map (forced_line n reset) zs) symbols
  pub are : AreForcedAssigns n reset zs assigns

pub says_assigns : (n : Netlist) (reset : List ℕ) → IsWritable reset → (zs : List ℕ)
    → AllByRecursion (λ z. IsWritable (name_of n.signals z) × IsWritable (free_net (name_of n.signals z))) zs
    → SaysAssigns n reset zs
says_assigns n reset writable [] all =
    record { assigns = []; symbols = []; spell = no_assign; reads = λ rest. refl; are = tt }
says_assigns n reset writable (z ∷ zs) all =
    let name = name_of n.signals z in
    let says = says_forced reset (free_net name) (bit n.start z) writable all.0.1 in
    let rest = says_assigns n reset writable zs all.1 in
    let front : List Symbol = Word (codes "assign") ∷ Name name ∷ Mark 61 ∷ says.symbols ++ Mark 59 ∷ [] in
    record {
      assigns = record { name = name; tree = says.tree } ∷ rest.assigns;
      symbols = Word (codes "assign") ∷ Name name ∷ Mark 61 ∷ says.symbols ++ Mark 59 ∷ rest.symbols;
      spell = assign name says.spells rest.spell;
      reads = λ more.
          both_read (forced_line n reset z) (flat_map (forced_line n reset) zs) front rest.symbols
          (line_reads name all.0.0 (forced_text reset (bit n.start z) (verilog_name (free_net name))) says.symbols
          says.reads) rest.reads more
          ∙ ap (λ (s : List Symbol). (Word (codes "assign") ∷ Name name ∷ Mark 61 ∷ s) ++ symbols_of more)
          (append_assoc says.symbols (Mark 59 ∷ []) rest.symbols);
      are = (record { named = refl; value = says.value }, rest.are);
    }

-- ---- all that a reset input adds

pub record Added (n : Netlist) (reset : Option Forcing) : Type 0 where
  pub ports : AllByRecursion HasWritable (reset_ports reset)
  pub port_bytes : AllByRecursion HasNameBytes (map port_name (reset_ports reset))
  pub apart : Apart (map port_name (reset_ports reset) ++ map (λ (x : Signal). x.name) n.signals)
  pub bytes : HaveBytes n.signals (forced_by reset)
  pub writable : AllByRecursion IsWritable (free_nets n.signals (forced_by reset))
  pub forced : Apart (map (name_of n.signals) (forced_by reset))
  pub assigns : List Assign
  pub symbols : List Symbol
  pub spell : SpellAssigns symbols assigns
  pub reads : Reads (reset_lines n reset) symbols
  pub are : AreResetAssigns n reset assigns

bytes_at : (xs : List Signal) → AllByRecursion (λ (x : Signal). IsTrue (is_signal_name x.name)) xs → (z : ℕ)
    → z < length xs → HasNameBytes (name_of xs z)
bytes_at [] names z within = absurd (omega arith)
bytes_at (x ∷ xs) names zero within = signal_bytes x.name names.0
bytes_at (x ∷ xs) names (suc z) within = bytes_at xs names.1 z (omega arith)

free_writable_all : (signals : List Signal) (zs : List ℕ)
    → AllByRecursion (λ z. IsWritable (name_of signals z) × IsWritable (free_net (name_of signals z))) zs
    → AllByRecursion IsWritable (free_nets signals zs)
free_writable_all signals [] all = tt
free_writable_all signals (z ∷ zs) all = (all.0.1, free_writable_all signals zs all.1)

pub added : (n : Netlist) (reset : Option Forcing) → IsNetlist n → IsResetOf n reset → Added n reset
added n None is fits = record {
  ports = tt;
  port_bytes = tt;
  apart = signals_apart n.signals is.distinct;
  bytes = tt;
  writable = tt;
  forced = tt;
  assigns = [];
  symbols = [];
  spell = no_assign;
  reads = λ rest. refl;
  are = refl;
}
added n (Some f) is fits =
    let names = recursion_from_All (λ (x : Signal). IsTrue (is_signal_name x.name)) n.signals is.names in
    let apart = signals_apart n.signals is.distinct in
    let driven = forced_are_driven n f fits in
    let writable = signal_is_writable f.name fits.room.is_name in
    let all_writable = weaker (IsNonInput n.signals)
    (λ (z : ℕ). IsWritable (name_of n.signals z) × IsWritable (free_net (name_of n.signals z)))
    (λ z non_input.
    let one = (netlist_named n is).writable z (within_signals n.signals z non_input) in
    (one, free_writable (name_of n.signals z) one)) f.forced driven in
    let says = says_assigns n f.name writable f.forced all_writable in
    record {
      ports = (writable, tt);
      port_bytes = (signal_bytes f.name fits.room.is_name, tt);
      apart = (reset_apart f.name n.signals fits.room.is_free, apart);
      bytes = weaker (IsNonInput n.signals) (λ (z : ℕ). HasNameBytes (name_of n.signals z))
          (λ z non_input. bytes_at n.signals names z (within_signals n.signals z non_input)) f.forced driven;
      writable = free_writable_all n.signals f.forced all_writable;
      forced = forced_apart n f fits apart;
      assigns = says.assigns;
      symbols = says.symbols;
      spell = says.spell;
      reads = says.reads;
      are = says.are;
    }

-- ---- what drives a forced signal

at_element : (P : ℕ → Type 0) (zs : List ℕ) (z : ℕ) → AllByRecursion P zs → Contains zs z → P z
at_element P [] z all there = absurd (omega (arith, there.1))
at_element P (y ∷ ys) z all there = elim (there_cases y z ys there) [
  | inl same ↦ subst P (sym same) all.0
  | inr later ↦ at_element P ys z all.1 later
]

assign_there : (n : Netlist) (reset zs : List ℕ) (assigns : List Assign) (z : ℕ)
    → AreForcedAssigns n reset zs assigns → Contains zs z
    → (a : Assign) × Contains assigns a × IsForcedAssign n reset z a
assign_there n reset [] [] z are there = absurd (omega (arith, there.1))
assign_there n reset [] (a ∷ assigns) z are there = absurd are
assign_there n reset (y ∷ ys) [] z are there = absurd are
assign_there n reset (y ∷ ys) (a ∷ assigns) z are there = elim (there_cases y z ys there) [
  | inl same ↦ (a, (0, omega arith, refl), subst (λ (k : ℕ). IsForcedAssign n reset k a) (sym same) are.0)
  | inr later ↦ (
      let found = assign_there n reset ys assigns z are.1 later in
      let inside = found.1.1 in
      (found.0, (suc found.1.0, omega arith, found.1.2), found.2))
]

named_among : (signals : List Signal) (zs : List ℕ) (z : ℕ) → Contains zs z
    → list_any (λ k. bytes_eq (name_of signals k) (name_of signals z)) zs ≡ true
named_among signals [] z there = absurd (omega (arith, there.1))
named_among signals (y ∷ ys) z there = elim (there_cases y z ys there) [
  | inl same ↦ (
      let alike : bytes_eq (name_of signals y) (name_of signals z) ≡ true =
      (bytes_eq-Decides (name_of signals y) (name_of signals z)).1 (ap (name_of signals) (sym same)) in
      rw alike refl)
  | inr later ↦ elim (cases_Bool (bytes_eq (name_of signals y) (name_of signals z))) [
    | inl alike ↦ rw alike refl
    | inr other ↦ rw other (named_among signals ys z later)
  ]
]

free_if_forced : (signals : List Signal) (zs : List ℕ) (z : ℕ) → Contains zs z
    → driven_net signals zs (name_of signals z) ≡ free_net (name_of signals z)
free_if_forced signals zs z there = rw (named_among signals zs z there) refl

last_apart : {A : Type 0} (P : A → Type 0) (xs : List A) (y : A) → AllByRecursion P (xs ++ y ∷ [])
    → AllByRecursion P xs × P y
last_apart P [] y all = (tt, all.0)
last_apart P (x ∷ xs) y all = (let rest = last_apart P xs y all.1 in ((all.0, rest.0), rest.1))

start_in_reset : (n : Netlist) (forced : List ℕ) (z values : ℕ) → is_among forced z ≡ true
    → bit n.start z ≡ value_in_reset n forced z values
start_in_reset n forced z values among = rw among refl

pub forced_is_driven : (ported : PortedLibrary) (n : Netlist) (f : Forcing) (parts : List Part) (p : Part)
    (c : IsController ported n (Some f) parts p) (z values : ℕ) (nets : List ℕ → Bool) (placed : GateInstances)
    → IsForcing n f → is_among f.forced z ≡ true
    → slice_get c.instances (gate_place n.signals z) ≡ Some placed → HaveValues n.signals values nets
    → All (IsSettled parts nets) (in_order placed)
    → (a : Assign) × Contains p.body.assigns a × (a.name ≡ name_of n.signals z)
    × (tree_value nets a.tree
    ≡ (if nets f.name then value_in_reset n f.forced z values else gate_value n z values))
forced_is_driven ported n f parts p c z values nets placed fits among there have settled =
    let found = among_there f.forced z among in
    let g = c.gates z (at_element (IsNonInput n.signals) f.forced z (forced_are_driven n f fits) found) in
    let name = name_of n.signals z in
    let same : placed ≡ g.placed = (let both : Some placed ≡ Some g.placed = sym there ∙ g.there in cc) in
    let own = last_apart (IsSettled parts nets) g.placed.inverters g.placed.gate
    (recursion_from_All (IsSettled parts nets) (in_order g.placed)
    (subst (λ (i : GateInstances). All (IsSettled parts nets) (in_order i)) same settled)) in
    let gate_drives = own.1.driven g.assign (driven_net n.signals f.forced name) g.instance g.drives in
    let free : nets (free_net name) ≡ gate_value n z values =
    ap nets (sym (free_if_forced n.signals f.forced z found)) ∙ gate_drives
    ∙ g.value values nets have (All-from_recursion (IsSettled parts nets) g.placed.inverters own.0) in
    let a = assign_there n f.name f.forced p.body.assigns z c.assigns found in
    let level = nets f.name in (
      a.0,
      a.1,
      a.2.named,
      a.2.value nets ∙ (λ i. if level then start_in_reset n f.forced z values among i else free i),
    )
