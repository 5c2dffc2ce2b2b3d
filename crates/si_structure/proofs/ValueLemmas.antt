-- The value of an instance's output: that of the cell's sum at the values of its nets.
use Rattle.std.proofs.Common.{◌≡◌, ℕ, zero, suc, ◌+◌, ◌<◌, ◌==◌, ◌&&◌, ◌||◌, not, Bool, true, false, List, [], ◌∷◌}
use Rattle.std.proofs.Common.{◌++◌, length, map, bytes_eq, get_or, if◌then◌else◌, refl, sym, ap, ◌∙◌, arith, subst}
use Rattle.std.proofs.Common.{append_assoc, inl, inr}
use Rattle.std.specs.List.{AllByRecursion, list_all, list_any}
use Rattle.std.proofs.lemmas.Bool.{and_parts, cases_Bool, not-true, or_parts, true≢false}
use Rattle.std.proofs.lemmas.Bool.Decides.{eqb_tells, Decides-eqb}
use Rattle.std.proofs.lemmas.List.{length-map, map-append}
use Rattle.std.proofs.lemmas.List.Elements.{recursion_from_All}
use mathlib.Core.Bool.{beq}
use Rattle.si_base.specs.declared.ids.Literal.{Literal}
use Rattle.si_base.specs.declared.graph.Signal.{Signal}
use Rattle.si_base.specs.Bits.{bit}
use Rattle.si_base.specs.Netlist.{Sum, literal_value, sum_value}
use Rattle.si_base.specs.WellFormed.{IsCube}
use Rattle.si_cell.specs.Library.{Cell, IsCell, code_of}
use Rattle.si_cell.proofs.ExpandedLemmas.{bit_of}
use Rattle.si_verilog.specs.Grammar.{Module, Tree, Constant, Named, Not, And, Or, tree_value}
use Rattle.si_verilog.specs.Meaning.{named_from, named_value}
use Rattle.si_verilog.proofs.MeaningLemmas.{AreThere}
use Rattle.si_structure.specs.Parts.{Connection}
use Rattle.si_structure.specs.Meaning.{port_value}
use Rattle.si_structure.specs.StructureText.{PortedCell, cell_inputs, cell_signals, connected, feedback, is_inverter}
use Rattle.si_structure.specs.StructureText.{own_connections, reads_own}
use Rattle.si_structure.proofs.CellLemmas.{DrivesOwn, IsPortedCell, names_back, sum_there}
use Rattle.si_netlist.specs.Reads.{sum_reads}

-- ---- trees and sums at values that agree

pub tree_same : (f g : List ℕ → Bool) → ((n : List ℕ) → f n ≡ g n) → (t : Tree) → tree_value f t ≡ tree_value g t
tree_same f g agree (Constant value) = refl
tree_same f g agree (Named name) = agree name
tree_same f g agree (Not of) = ap not (tree_same f g agree of)
tree_same f g agree (And left right) =
    ap (λ (b : Bool). b && tree_value f right) (tree_same f g agree left)
    ∙ ap (λ (b : Bool). tree_value g left && b) (tree_same f g agree right)
tree_same f g agree (Or left right) =
    ap (λ (b : Bool). b || tree_value f right) (tree_same f g agree left)
    ∙ ap (λ (b : Bool). tree_value g left || b) (tree_same f g agree right)

cube_same : (v w count : ℕ) → ((k : ℕ) → k < count → bit v k ≡ bit w k) → (cube : List Literal)
    → AreThere count cube → list_all (literal_value v) cube ≡ list_all (literal_value w) cube
cube_same v w count agree [] there = refl
cube_same v w count agree (l ∷ ls) there =
    ap (λ (b : Bool). beq b l.plain && list_all (literal_value v) ls) (agree l.sig there.0)
    ∙ ap (λ (b : Bool). beq (bit w l.sig) l.plain && b) (cube_same v w count agree ls there.1)

sum_same : (v w count : ℕ) → ((k : ℕ) → k < count → bit v k ≡ bit w k) → (sum : Sum)
    → AllByRecursion (AreThere count) sum → sum_value v sum ≡ sum_value w sum
sum_same v w count agree [] there = refl
sum_same v w count agree (c ∷ cs) there =
    ap (λ (b : Bool). b || sum_value v cs) (cube_same v w count agree c there.0)
    ∙ ap (λ (b : Bool). list_all (literal_value w) c || b) (sum_same v w count agree cs there.1)

-- ---- ports have the values of their nets

abbrev pub port_names : List Connection → List (List ℕ)
port_names cs = map (λ (c : Connection). c.port) cs

abbrev pub net_values : (List ℕ → Bool) → List Connection → List Bool
net_values nets cs = map (λ (c : Connection). nets c.net) cs

ports_valued : (nets : List ℕ → Bool) (v i : ℕ) (xs : List Signal) (cs : List Connection)
    → map (λ (x : Signal). x.name) xs ≡ port_names cs
    → ((k : ℕ) → bit v (i + k) ≡ get_or (net_values nets cs) k false)
    → (name : List ℕ) → port_value nets cs name ≡ named_from i xs v name
ports_valued nets v i [] [] names bits name = refl
ports_valued nets v i [] (c ∷ cs) names bits name = cc
ports_valued nets v i (x ∷ xs) [] names bits name = cc
ports_valued nets v i (x ∷ xs) (c ∷ cs) names bits name =
    let here : c.port ≡ x.name = cc in
    let rest : map (λ (y : Signal). y.name) xs ≡ port_names cs = cc in
    let place : i ≡ i + 0 = omega arith in
    let value : nets c.net ≡ bit v i = sym (ap (bit v) place ∙ bits 0) in
    let later = ports_valued nets v (i + 1) xs cs rest (λ k.
    let order : (i + 1) + k ≡ i + suc k = omega arith in
    ap (bit v) order ∙ bits (suc k)) name in
    ap (λ (n : List ℕ). if bytes_eq n name then nets c.net else port_value nets cs name) here
    ∙ ap (λ (b : Bool). if bytes_eq x.name name then b else port_value nets cs name) value
    ∙ ap (λ (b : Bool). if bytes_eq x.name name then bit v i else b) later

-- the value of a module with these signals at the values of the nets is that at the code of those
pub at_the_nets : (nets : List ℕ → Bool) (xs : List Signal) (cs : List Connection) (t : Tree)
    → map (λ (x : Signal). x.name) xs ≡ port_names cs
    → tree_value (port_value nets cs) t ≡ tree_value (named_value xs (code_of (net_values nets cs))) t
at_the_nets nets xs cs t names =
    tree_same (port_value nets cs) (named_value xs (code_of (net_values nets cs)))
    (ports_valued nets (code_of (net_values nets cs)) 0 xs cs names (λ k.
    let place : 0 + k ≡ k = omega arith in
    ap (bit (code_of (net_values nets cs))) place ∙ bit_of (net_values nets cs) k)) t

-- ---- sums that don't read a signal

cube_unread : (n : ℕ) (cube : List Literal) → AreThere (n + 1) cube → list_any (λ l. l.sig == n) cube ≡ false
    → AreThere n cube
cube_unread n [] there none = tt
cube_unread n (l ∷ ls) there none =
    let parts = or_parts (l.sig == n) (list_any (λ m. m.sig == n) ls) none in
    let below = there.0 in
    (other l below parts.0, cube_unread n ls there.1 parts.1)
  where
    other : (m : Literal) → m.sig < n + 1 → (m.sig == n) ≡ false → m.sig < n
    other m below is = elim (eqb_tells m.sig n) [
      | inl same ↦ absurd (true≢false (sym ((Decides-eqb m.sig n).1 same.1) ∙ is))
      | inr apart ↦ (let differs = apart.1 in omega arith)
    ]

sum_unread : (n : ℕ) (sum : Sum) → AllByRecursion (AreThere (n + 1)) sum → sum_reads sum n ≡ false
    → AllByRecursion (AreThere n) sum
sum_unread n [] there none = tt
sum_unread n (c ∷ cs) there none =
    let parts = or_parts (list_any (λ (l : Literal). l.sig == n) c) (sum_reads cs n) none in
    (cube_unread n c there.0 parts.0, sum_unread n cs there.1 parts.1)

pub cell_sum_there : (cell : Cell) → IsCell cell → AllByRecursion (AreThere (length cell.pins + 1)) cell.sum
cell_sum_there cell is = sum_there (length cell.pins + 1) (length cell.pins + 1) (omega arith) cell.sum
    (recursion_from_All (IsCube (length cell.pins + 1)) cell.sum is.sum)

-- ---- the values of the nets of an instance

connected_values : (nets : List ℕ → Bool) (pins ns : List (List ℕ)) → length ns ≡ length pins
    → net_values nets (connected pins ns) ≡ map nets ns
connected_values nets [] [] same = refl
connected_values nets [] (n ∷ ns) same = absurd (omega arith)
connected_values nets (p ∷ ps) [] same = absurd (omega arith)
connected_values nets (p ∷ ps) (n ∷ ns) same =
    let rest : length ns ≡ length ps = omega arith in
    ap (λ (bs : List Bool). nets n ∷ bs) (connected_values nets ps ns rest)

own_values : (nets : List ℕ → Bool) (c : PortedCell) (read driven : List ℕ)
    → net_values nets (own_connections c read driven)
    ≡ (if reads_own c.cell then nets read ∷ nets driven ∷ [] else nets driven ∷ [])
own_values nets c read driven = by (reads_own c.cell)
  where
    by : (reads : Bool) → net_values nets ((if reads then record { port = feedback c.ports; net = read } ∷ [] else [])
        ++ record { port = c.ports.output; net = driven } ∷ [])
        ≡ (if reads then nets read ∷ nets driven ∷ [] else nets driven ∷ [])
    by true = refl
    by false = refl

agree_reading : (bs : List Bool) (q d : Bool) (k : ℕ) → k < length bs + 1
    → get_or (bs ++ q ∷ d ∷ []) k false ≡ get_or (bs ++ q ∷ []) k false
agree_reading [] q d zero below = refl
agree_reading [] q d (suc k) below = absurd (omega arith)
agree_reading (b ∷ bs) q d zero below = refl
agree_reading (b ∷ bs) q d (suc k) below = agree_reading bs q d k (omega arith)

agree_before : (bs : List Bool) (q d : Bool) (k : ℕ) → k < length bs
    → get_or (bs ++ d ∷ []) k false ≡ get_or (bs ++ q ∷ []) k false
agree_before [] q d k below = absurd (omega arith)
agree_before (b ∷ bs) q d zero below = refl
agree_before (b ∷ bs) q d (suc k) below = agree_before bs q d k (omega arith)

-- the sum of a cell sees the net that is read as the own output, and not the one that is driven
sum_reading : (cell : Cell) → IsCell cell → (bs : List Bool) → length bs ≡ length cell.pins → (q d : Bool)
    → sum_value (code_of (bs ++ (if reads_own cell then q ∷ d ∷ [] else d ∷ []))) cell.sum
    ≡ sum_value (code_of (bs ++ q ∷ [])) cell.sum
sum_reading cell is bs count q d = elim (cases_Bool (reads_own cell)) [
  | inl reads ↦ rw reads (sum_same (code_of (bs ++ q ∷ d ∷ [])) (code_of (bs ++ q ∷ [])) (length cell.pins + 1)
      (λ k below.
      let within : k < length bs + 1 = omega arith in
      bit_of (bs ++ q ∷ d ∷ []) k ∙ agree_reading bs q d k within ∙ sym (bit_of (bs ++ q ∷ []) k))
      cell.sum (cell_sum_there cell is))
  | inr other ↦ rw other (sum_same (code_of (bs ++ d ∷ [])) (code_of (bs ++ q ∷ [])) (length cell.pins)
      (λ k below.
      let within : k < length bs = omega arith in
      bit_of (bs ++ d ∷ []) k ∙ agree_before bs q d k within ∙ sym (bit_of (bs ++ q ∷ []) k))
      cell.sum (sum_unread (length cell.pins) cell.sum (cell_sum_there cell is) other))
]

-- ---- the names of the ports of an instance

connected_ports : (pins ns : List (List ℕ)) → length ns ≡ length pins → port_names (connected pins ns) ≡ pins
connected_ports [] [] same = refl
connected_ports [] (n ∷ ns) same = absurd (omega arith)
connected_ports (p ∷ ps) [] same = absurd (omega arith)
connected_ports (p ∷ ps) (n ∷ ns) same =
    let rest : length ns ≡ length ps = omega arith in
    ap (λ (names : List (List ℕ)). p ∷ names) (connected_ports ps ns rest)

pub ports_are : (c : PortedCell) (ns : List (List ℕ)) (read driven : List ℕ) → length ns ≡ length c.ports.pins
    → port_names (connected c.ports.pins ns ++ own_connections c read driven)
    ≡ cell_inputs c ++ c.ports.output ∷ []
ports_are c ns read driven same =
    map-append (λ (d : Connection). d.port) (connected c.ports.pins ns) (own_connections c read driven)
    ∙ ap (λ (names : List (List ℕ)). names ++ port_names (own_connections c read driven))
    (connected_ports c.ports.pins ns same) ∙ by (reads_own c.cell)
  where
    by : (reads : Bool) → c.ports.pins
        ++ port_names ((if reads then record { port = feedback c.ports; net = read } ∷ [] else [])
        ++ record { port = c.ports.output; net = driven } ∷ [])
        ≡ (c.ports.pins ++ (if reads then feedback c.ports ∷ [] else [])) ++ c.ports.output ∷ []
    by true = sym (append_assoc c.ports.pins (feedback c.ports ∷ []) (c.ports.output ∷ []))
    by false = sym (append_assoc c.ports.pins [] (c.ports.output ∷ []))

-- ---- the value of an instance

-- it is that of the cell's sum at the values of the pins' nets, and of the net that is read
pub instance_value : (c : PortedCell) → IsPortedCell c → (m : Module) (drives : DrivesOwn c m)
    (nets : List ℕ → Bool) (ns : List (List ℕ)) (read driven : List ℕ) → length ns ≡ length c.ports.pins
    → tree_value (port_value nets (connected c.ports.pins ns ++ own_connections c read driven)) drives.tree
    ≡ sum_value (code_of (map nets ns ++ nets read ∷ [])) c.cell.sum
instance_value c is m drives nets ns read driven same =
    let cs = connected c.ports.pins ns ++ own_connections c read driven in
    let bs = map nets ns in
    let some = bs ++ (if reads_own c.cell then nets read ∷ nets driven ∷ [] else nets driven ∷ []) in
    let count : length bs ≡ length c.cell.pins = length-map ns nets ∙ same ∙ is.ports.count in
    let all : net_values nets cs ≡ some =
    map-append (λ (d : Connection). nets d.net) (connected c.ports.pins ns) (own_connections c read driven)
    ∙ ap (λ (vs : List Bool). vs ++ net_values nets (own_connections c read driven))
    (connected_values nets c.ports.pins ns same)
    ∙ ap (λ (vs : List Bool). bs ++ vs) (own_values nets c read driven) in
    at_the_nets nets (cell_signals c) cs drives.tree
    (names_back (cell_inputs c) c.ports.output ∙ sym (ports_are c ns read driven same))
    ∙ drives.value (code_of (net_values nets cs))
    ∙ ap (λ (vs : List Bool). sum_value (code_of vs) c.cell.sum) all
    ∙ sum_reading c.cell is.cell bs count (nets read) (nets driven)

-- ---- inverters

-- what is_inverter tells of a cell
pub record Inverts (cell : Cell) : Type 0 where
  pub one : length cell.pins ≡ 1
  pub alone : reads_own cell ≡ false
  pub rises : sum_value 0 cell.sum ≡ true
  pub falls : sum_value 1 cell.sum ≡ false

pub inverts_from : (cell : Cell) → is_inverter cell ≡ true → Inverts cell
inverts_from cell is =
    let last = and_parts ((length cell.pins == 1) && not (reads_own cell) && sum_value 0 cell.sum)
    (not (sum_value 1 cell.sum)) is in
    let third = and_parts ((length cell.pins == 1) && not (reads_own cell)) (sum_value 0 cell.sum) last.0 in
    let second = and_parts (length cell.pins == 1) (not (reads_own cell)) third.0 in
    record {
      one = (Decides-eqb (length cell.pins) 1).0 second.0;
      alone = not-true (reads_own cell) second.1;
      rises = third.1;
      falls = not-true (sum_value 1 cell.sum) last.1;
    }

pub inverter_value : (cell : Cell) → IsCell cell → Inverts cell → (a q : Bool)
    → sum_value (code_of (a ∷ q ∷ [])) cell.sum ≡ not a
inverter_value cell is inverts a q = by a
  where
    there : AllByRecursion (AreThere 1) cell.sum
    there = subst (λ (n : ℕ). AllByRecursion (AreThere n) cell.sum) inverts.one
        (sum_unread (length cell.pins) cell.sum (cell_sum_there cell is) inverts.alone)

    first : (b : Bool) (v : ℕ) → b ≡ bit v 0 → (k : ℕ) → k < 1 → bit (code_of (b ∷ q ∷ [])) k ≡ bit v k
    first b v same zero below = bit_of (b ∷ q ∷ []) 0 ∙ same
    first b v same (suc k) below = absurd (omega arith)

    by : (b : Bool) → sum_value (code_of (b ∷ q ∷ [])) cell.sum ≡ not b
    by true = sum_same (code_of (true ∷ q ∷ [])) 1 1 (first true 1 refl) cell.sum there ∙ inverts.falls
    by false = sum_same (code_of (false ∷ q ∷ [])) 0 1 (first false 0 refl) cell.sum there ∙ inverts.rises
