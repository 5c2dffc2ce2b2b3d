-- The text of a netlist whose names can be written and are told apart spells a module, which is of the netlist.
use Rattle.std.proofs.Common.{◌≡◌, ℕ, ◌+◌, List, [], ◌++◌, length, filter, slice_get}
use Rattle.std.proofs.Common.{refl, sym, ap, ◌∙◌, arith}
use Rattle.std.specs.List.{AllByRecursion}
use Rattle.std.proofs.lemmas.List.{append-nil}
use Rattle.si_base.specs.declared.graph.Signal.{Signal}
use Rattle.si_base.specs.Graph.{is_driven, IsNonInput}
use Rattle.si_base.specs.Netlist.{Netlist, gate_place, value_if_there}
use Rattle.si_base.specs.NetlistText.{name_of}
use Rattle.si_verilog.specs.Symbols.{Symbol, symbols_of}
use Rattle.si_verilog.specs.Grammar.{Module, module_symbols}
use Rattle.si_verilog.specs.Meaning.{IsOfNetlist, IsGateOf}
use Rattle.si_verilog.specs.ModuleText.{assign_lines, verilog_text}
use Rattle.si_verilog.proofs.NameLemmas.{IsWritable}
use Rattle.si_verilog.proofs.SymbolLemmas.{Reads}
use Rattle.si_verilog.proofs.MeaningLemmas.{AreNamed, HasThere}
use Rattle.si_verilog.proofs.NetlistLemmas.{Writable}
use Rattle.si_verilog.proofs.WritingAssigns.{SaysAssigns, AreFrom, says_assigns}
use Rattle.si_structure.specs.Parts.{SpellPart}
use Rattle.si_structure.specs.Meaning.{alone}
use Rattle.si_structure.proofs.ReadingLemmas.{framed, part_read}

pub record IsReadable (n : Netlist) : Type 0 where
  pub model : IsWritable n.model
  pub writable : AllByRecursion Writable n.signals
  pub named : AreNamed n.signals
  pub count : length n.gates ≡ length (filter (λ (x : Signal). is_driven x.kind) n.signals)
  pub there : AllByRecursion (HasThere (length n.signals)) n.gates

all_from : (signals : List Signal) → AreFrom signals 0 signals
all_from signals = λ k within.
    let place : k ≡ 0 + k = omega arith in
    (ap (name_of signals) place, omega arith)

module _ (n : Netlist) (is : IsReadable n) where
  said : SaysAssigns n.signals 0 n.signals n.gates
  said = says_assigns n.signals is.named 0 n.signals n.gates (all_from n.signals) is.count is.there

  pub spelled : Module
  spelled = framed n.model [] n.signals said.assigns

  pub spelled_symbols : List Symbol
  spelled_symbols = module_symbols (framed n.model [] n.signals said.assigns) (said.symbols ++ [])

  pub text_read : Reads (verilog_text n) spelled_symbols
  unfolding verilog_text spelled_symbols
  text_read = λ rest.
      part_read n.model [] n.signals is.model tt is.writable (assign_lines n.signals n.signals n.gates) said.symbols
      said.assigns said.reads rest
      ∙ ap (λ (s : List Symbol). module_symbols (framed n.model [] n.signals said.assigns) s ++ symbols_of rest)
      (sym (append-nil said.symbols))

  pub is_part : SpellPart spelled_symbols (alone spelled)
  unfolding spelled spelled_symbols
  is_part = record { assigns = said.symbols; spell = said.spell; whole = refl }

  gate_said : (z : ℕ) → IsNonInput n.signals z → IsGateOf n spelled z
  unfolding spelled
  gate_said z non_input =
      let here = said.each z non_input in
      let order : 0 + z ≡ z = omega arith in
      record {
        tree = here.0;
        there = here.1;
        value = λ v. here.2 v
            ∙ ap (λ (k : ℕ). value_if_there (slice_get n.gates (gate_place n.signals z)) k v) order;
      }

  pub is_of_netlist : IsOfNetlist n spelled
  unfolding spelled
  is_of_netlist = record {
    named = refl;
    ports = refl;
    wires = refl;
    assigned = said.names;
    gates = gate_said;
  }
