-- (text) What is a netlist: the conditions under which its text reads back.
use Rattle.std.specs.Prelude.{◌≡◌, ◌≢◌, ℕ, ◌<◌, ◌≤◌, ◌^◌, List, [], ◌∷◌, length, map, filter, codes}
use Rattle.std.specs.Prelude.{IsTrue, All, AllPairs}
use Rattle.std.specs.List.{list_all}
use Rattle.si_base.specs.declared.ids.Literal.{Literal}
use Rattle.si_base.specs.declared.graph.SigKind.TheVariants.{Inserted}
use Rattle.si_base.specs.Bytes.{first_visible, opening_brace, closing_brace, tilde}
use Rattle.si_base.specs.Words.{is_between, is_signal_name}
use Rattle.si_base.specs.Graph.{is_driven, kind_place}
use Rattle.si_base.specs.Netlist.{Sum, Gate, SumGate, Gc, Cell, Insertion, Netlist}
use Rattle.si_base.specs.NetlistText.{names_of}
use Rattle.si_base.specs.Limits.{max_signals}

-- a word of the netlist text: braces and `#` are bytes like others
pub record IsWord (word : List ℕ) : Type 0 where
  pub some : 0 < length word
  pub bytes : IsTrue (list_all (is_between first_visible tilde) word)

-- literals in strictly rising signal order, of signals that are there
pub record IsCube (signals : ℕ) (cube : List Literal) : Type 0 where
  pub rising : AllPairs (λ k l. k.sig < l.sig) cube
  pub there : All (λ l. l.sig < signals) cube

abbrev pub IsSum : ℕ → Sum → Type 0
IsSum signals sum = All (IsCube signals) sum

abbrev pub IsGate : ℕ → Gate → Type 0
IsGate signals (SumGate sum) = IsSum signals sum
IsGate signals (Gc set reset) = IsSum signals set × IsSum signals reset
IsGate signals (Cell name literals sum) = IsTrue (is_signal_name name) × (length literals ≤ 4)
    × All (λ l. l.sig < signals) literals × IsSum signals sum

pub record IsInsertion (i : Insertion) : Type 0 where
  pub some_up : 0 < length i.up
  pub some_down : 0 < length i.down
  pub words_up : All (λ w. IsWord w × (w ≢ codes "down")) i.up
  pub words_down : All (λ w. IsWord w × (w ≢ codes "down")) i.down

pub record IsNetlist (n : Netlist) : Type 0 where
  pub model : IsWord n.model
  pub no_brace : (n.model ≢ opening_brace ∷ []) × (n.model ≢ closing_brace ∷ [])
  pub names : All (λ x. IsTrue (is_signal_name x.name)) n.signals
  pub distinct : AllPairs (λ x y. x.name ≢ y.name) n.signals
  pub kinds : AllPairs (λ x y. kind_place x.kind ≤ kind_place y.kind) n.signals
  pub few : length n.signals ≤ max_signals
  pub start : n.start < 2 ^ length n.signals
  pub insert_names : map (λ i. i.name) n.inserts ≡ names_of Inserted n.signals
  pub inserts : All IsInsertion n.inserts
  pub gate_count : length n.gates ≡ length (filter (λ x. is_driven x.kind) n.signals)
  pub gates : All (IsGate (length n.signals)) n.gates
