-- What a text of modules without fault spells is whole.
use Rattle.std.proofs.Common.{◌≡◌, ℕ, zero, suc, ◌-◌, Bool, true, false, List, [], ◌∷◌, length, bytes_eq, codes}
use Rattle.std.proofs.Common.{if◌then◌else◌, Option, Some, None, Ok, Err, refl, sym, ap, subst}
use Rattle.std.proofs.lemmas.List.{append-nil}
use Rattle.si_base.specs.Bytes.{semicolon}
use Rattle.si_base.specs.Limits.{max_signals}
use Rattle.si_base.specs.declared.fault.TextKind.TheVariants.{BadWord}
use Rattle.si_words.specs.Ends.{after_last}
use Rattle.si_words.specs.Names.{name_fault}
use Rattle.si_tokens.specs.declared.fault.Stop.TheVariants.{Fault}
use Rattle.si_genlib.specs.Expression.{Tree, value_of}
use Rattle.si_equations.specs.Equations.{Equations, driven, equation_fault, with_equation}
use Rattle.si_equations.specs.Whole.{AreWhole}
use Rattle.si_equations.proofs.ListLemmas.{AreGoodNames}
use Rattle.si_equations.proofs.WholeLemmas.{bind_ok, AreSound, still_sound, ended_whole}
use Rattle.si_verilog.specs.Symbols.{Symbol, Name, Word, Mark}
use Rattle.si_verilog_reader.specs.Placed.{Placed, placed_symbols}
use Rattle.si_verilog_reader.specs.Parts.{Reading, next, due, name_at, repeated, all_parts, goes_on}
use Rattle.si_verilog_reader.specs.Parts.{part_of_list, closed, unless_closed, list_at}
use Rattle.si_verilog_reader.specs.Modules.{Ports, no_ports, all_ports, with_port, direction, port_at, head_at, ports_at}
use Rattle.si_verilog_reader.specs.Modules.{assign_at, Cell, connected, net_of, signal_fault, cell_named}
use Rattle.si_verilog_reader.specs.Modules.{connections_at, with_signal, assign_behind, instance_behind, wire_behind}
use Rattle.si_verilog_reader.specs.Modules.{and_more, item_behind, item_at, no_equations, at_end, circuit_at, modules}
use Rattle.si_verilog_reader.specs.Modules.{cells_at, modules_at, modules_in}
use Rattle.si_verilog_reader.proofs.PartLemmas.{good_same}
use Rattle.si_verilog_reader.proofs.PortLemmas.{good_none, good_with_port}

-- ---- what parts keep

module _ {A : Type 0} (P : A → Type 0) where
  abbrev found : A → List Placed → Reading A
  found a rest = Ok (a, rest)

  kept_as : (a : A) (rest : List Placed) (x : A × List Placed) → found a rest ≡ Ok x → P a → P x.0
  kept_as a rest x is good =
      let same : (a, rest) ≡ x = cc in subst P (ap (λ (r : A × List Placed). r.0) same) good

  abbrev Keeps : (A → List Placed → Reading A) → Type 0
  Keeps part = (a : A) (ps : List Placed) (x : A × List Placed) → part a ps ≡ Ok x → P a → P x.0

  -- those that answer whether one more follows
  abbrev KeepsEach : (A → List Placed → Reading (Bool × A)) → Type 0
  KeepsEach part = (a : A) (ps : List Placed) (x : (Bool × A) × List Placed) → part a ps ≡ Ok x → P a → P x.0.1

  kept_repeated : (part : A → List Placed → Reading (Bool × A)) → KeepsEach part → (most : ℕ)
      → Keeps (repeated part most)
  kept_repeated part each zero a ps x is good = absurd cc
  kept_repeated part each (suc most) a ps x is good =
      let new = bind_ok (part a ps) _ x is in
      by_more (kept_repeated part each most) new.0.0.0 new.0.0.1 new.0.1 new.2 (each a ps new.0 new.1 good)
    where
      by_more : Keeps (repeated part most) → (more : Bool) (b : A) (rest : List Placed)
          → (if more then repeated part most b rest else Ok (b, rest)) ≡ Ok x → P b → P x.0
      by_more later true b rest is good = later b rest x is good
      by_more later false b rest is good = kept_as b rest x is good

  kept_parts : (part : A → List Placed → Reading (Bool × A)) → KeepsEach part → Keeps (all_parts part)
  unfolding all_parts
  kept_parts part each a ps = kept_repeated part each (suc (length ps)) a ps

  kept_of_list : (part : A → List Placed → Reading A) → Keeps part → KeepsEach (part_of_list part)
  unfolding part_of_list
  kept_of_list part each a ps x is good =
      let new = bind_ok (part a ps) _ x is in
      let more = bind_ok (goes_on new.0.1) _ x new.2 in
      let same : ((more.0.0, new.0.0), more.0.1) ≡ x = cc in
      subst P (ap (λ (r : (Bool × A) × List Placed). r.0.1) same) (each a ps new.0 new.1 good)

  kept_unless : (parts : A → List Placed → Reading A) → Keeps parts → (o : Option (List Placed)) (a : A)
      (ps : List Placed) (x : A × List Placed) → unless_closed o a (parts a ps) ≡ Ok x → P a → P x.0
  kept_unless parts each None a ps x is good = each a ps x is good
  kept_unless parts each (Some rest) a ps x is good = kept_as a rest x is good

  kept_list : (part : A → List Placed → Reading A) → Keeps part → Keeps (list_at part)
  unfolding list_at
  kept_list part each a ps = kept_unless (all_parts (part_of_list part))
      (kept_parts (part_of_list part) (kept_of_list part each)) (closed ps) a ps

-- ---- ports

abbrev AreGoodPorts : Ports → Type 0
AreGoodPorts ports = AreGoodNames (all_ports ports)

kept_port : Keeps AreGoodPorts (port_at (name_fault max_signals))
unfolding port_at
kept_port ports ps x is good =
    let word = bind_ok (next ps) _ x is in
    let is_input = bind_ok (direction word.0.0.line word.0.0.symbol) _ x word.2 in
    let name = bind_ok (name_at word.0.1) _ x is_input.2 in
    let more : Ports × List Placed = (with_port is_input.0 name.0.0.name ports, name.0.1) in
    let fault = name_fault max_signals (all_ports ports) name.0.0.name in
    subst AreGoodPorts (ap (λ (r : Ports × List Placed). r.0) (good_same name.0.0.line fault more x name.2))
    (good_with_port is_input.0 name.0.0.name ports good (good_none name.0.0.line fault more x name.2))

ports_whole : (ps : List Placed) (x : Ports × List Placed) → ports_at (name_fault max_signals) ps ≡ Ok x
    → AreGoodPorts x.0
unfolding ports_at
ports_whole ps x is =
    let ports = bind_ok (list_at (port_at (name_fault max_signals)) no_ports ps) _ x is in
    let rest = bind_ok (due (Mark semicolon) ports.0.1) _ x ports.2 in
    kept_as AreGoodPorts ports.0.0 rest.0 x rest.2
    (kept_list AreGoodPorts (port_at (name_fault max_signals)) kept_port no_ports ps ports.0 ports.1 refl)

-- ---- items

kept_signal : (e : Equations) (line : ℕ) (name : List ℕ) (tree : Tree) (new : Equations)
    → with_signal e line name tree ≡ Ok new → AreSound e → AreSound new
kept_signal e line name tree new is sound =
    let fault = equation_fault e.inputs e.outputs (driven e) name in
    let more = with_equation e line name tree in
    subst AreSound (good_same line fault more new is)
    (still_sound e line name tree (good_none line fault more new is) sound)

kept_assign : Keeps AreSound assign_behind
unfolding assign_behind
kept_assign e ps x is sound =
    let assign = bind_ok (assign_at signal_fault ps) _ x is in
    let new = bind_ok (with_signal e assign.0.0.line assign.0.0.name assign.0.0.tree) _ x assign.2 in
    kept_as AreSound new.0 assign.0.1 x new.2
    (kept_signal e assign.0.0.line assign.0.0.name assign.0.0.tree new.0 new.1 sound)

kept_wire : Keeps AreSound wire_behind
unfolding wire_behind
kept_wire e ps x is sound =
    let name = bind_ok (name_at ps) _ x is in
    let rest = bind_ok (due (Mark semicolon) name.0.1) _ x name.2 in
    kept_as AreSound e rest.0 x rest.2 sound

module _ (cells : List Cell) where
  kept_instance : (line : ℕ) (name : List ℕ) → Keeps AreSound (λ e ps. instance_behind cells e line name ps)
  unfolding instance_behind
  kept_instance line name e ps x is sound =
      let cell = bind_ok (cell_named line cells name) _ x is in
      let nets = bind_ok (connections_at line cell.0.ports ps) _ x cell.2 in
      let signal = net_of nets.0.0 cell.0.output in
      let tree = value_of (connected nets.0.0) cell.0.tree in
      let new = bind_ok (with_signal e line signal tree) _ x nets.2 in
      kept_as AreSound new.0 nets.0.1 x new.2 (kept_signal e line signal tree new.0 new.1 sound)

  kept_more : (r : Reading Equations) (x : (Bool × Equations) × List Placed) → and_more r ≡ Ok x
      → ((y : Equations × List Placed) → r ≡ Ok y → AreSound y.0) → AreSound x.0.1
  kept_more (Ok read) x is sound =
      let same : ((true, read.0), read.1) ≡ x = cc in
      subst AreSound (ap (λ (r : (Bool × Equations) × List Placed). r.0.1) same) (sound read refl)
  kept_more (Err stop) x is sound = absurd cc

  kept_word : (e : Equations) (line : ℕ) (ps : List Placed) (x : (Bool × Equations) × List Placed)
      → (wire assign last : Bool) → (if wire then and_more (wire_behind e ps)
      else if assign then and_more (assign_behind e ps)
      else if last then Ok ((false, e), ps)
      else Err (Fault line BadWord)) ≡ Ok x → AreSound e → AreSound x.0.1
  kept_word e line ps x true assign last is sound =
      kept_more (wire_behind e ps) x is (λ y read. kept_wire e ps y read sound)
  kept_word e line ps x false true last is sound =
      kept_more (assign_behind e ps) x is (λ y read. kept_assign e ps y read sound)
  kept_word e line ps x false false true is sound =
      let same : ((false, e), ps) ≡ x = cc in
      subst AreSound (ap (λ (r : (Bool × Equations) × List Placed). r.0.1) same) sound
  kept_word e line ps x false false false is sound = absurd cc

  kept_symbol : (e : Equations) (line : ℕ) (symbol : Symbol) (ps : List Placed)
      (x : (Bool × Equations) × List Placed) → item_behind cells e line symbol ps ≡ Ok x → AreSound e
      → AreSound x.0.1
  kept_symbol e line (Name name) ps x is sound =
      kept_more (instance_behind cells e line name ps) x is (λ y read. kept_instance line name e ps y read sound)
  kept_symbol e line (Word word) ps x is sound = kept_word e line ps x (bytes_eq (codes "wire") word)
      (bytes_eq (codes "assign") word) (bytes_eq (codes "endmodule") word) is sound
  kept_symbol e line (Mark byte) ps x is sound = absurd cc

  kept_item : KeepsEach AreSound (item_at cells)
  unfolding item_at
  kept_item e ps x is sound =
      let first = bind_ok (next ps) _ x is in
      kept_symbol e first.0.0.line first.0.0.symbol first.0.1 x first.2 sound

-- ---- the circuit

begin_sound : (ports : Ports) → AreGoodPorts ports → AreSound (no_equations ports)
begin_sound ports good = record {
  names = subst AreGoodNames (sym (append-nil (all_ports ports))) good;
  once = refl;
}

end_same : (e : Equations) (ps : List Placed) (x : Equations) → at_end e ps ≡ Ok x → e ≡ x
end_same e [] x is = cc
end_same e (p ∷ ps) x is = absurd cc

circuit_whole : (cells : List Cell) (ps : List Placed) (e : Equations) → circuit_at cells ps ≡ Ok e → AreSound e
unfolding circuit_at
circuit_whole cells ps e is =
    let head = bind_ok (head_at ps) _ e is in
    let ports = bind_ok (ports_at (name_fault max_signals) head.0.1) _ e head.2 in
    let items = bind_ok (all_parts (item_at cells) (no_equations ports.0.0) ports.0.1) _ e ports.2 in
    subst AreSound (end_same items.0.0 items.0.1 e items.2)
    (kept_parts AreSound (item_at cells) (kept_item cells) (no_equations ports.0.0) ports.0.1 items.0 items.1
    (begin_sound ports.0.0 (ports_whole head.0.1 ports.0 ports.1)))

modules_whole : (ps : List Placed) (e : Equations) → modules_at ps ≡ Ok e → AreSound e
unfolding modules_at
modules_whole ps e is =
    let cells = bind_ok (cells_at (modules ps - 1) [] ps) _ e is in
    circuit_whole cells.0.0 cells.0.1 e cells.2

pub text_whole : (text : List ℕ) (e : Equations) → modules_in text ≡ Ok e → AreWhole e
unfolding modules_in
text_whole text e is = ended_whole (after_last text) None (modules_at (placed_symbols text)) e is
    (λ x read. modules_whole (placed_symbols text) x read)
