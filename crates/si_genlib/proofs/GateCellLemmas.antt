-- What a kept gate becomes is a cell of a library.
use Rattle.std.proofs.Common.{◌≡◌, ◌≢◌, ℕ, ◌+◌, ◌<◌, ◌≤◌, Bool, true, false, if◌then◌else◌, List, [], ◌∷◌, ◌++◌, length}
use Rattle.std.proofs.Common.{take, get_or, bytes_eq, codes, nat_le, All, AllPairs, IsTrue, Result, Ok, Err, refl, sym}
use Rattle.std.proofs.Common.{subst, ◌∙◌, arith}
use Rattle.std.proofs.lemmas.Bool.{true≢false, leb-false}
use Rattle.std.proofs.lemmas.List.{length-take-le, get_or-take}
use Rattle.std.proofs.lemmas.List.Elements.{All-nil, All-cons, All-take, All-weaker, Contains-get_or}
use Rattle.std.proofs.lemmas.List.Kept.{AllPairs-cons}
use Rattle.si_base.specs.declared.ids.Literal.{Literal}
use Rattle.si_base.specs.Netlist.{Sum}
use Rattle.si_base.specs.WellFormed.{IsCube, IsSum}
use Rattle.si_base.specs.Words.{is_signal_name}
use Rattle.si_base.specs.declared.fault.TextKind.TheVariants.{OwnFalling, TooManyCells}
use Rattle.si_words.proofs.NameWords.{other_names}
use Rattle.si_cell.specs.Limits.{max_cells, max_pins}
use Rattle.si_cell.specs.Library.{own, Cell, IsPinName, IsCell, AreCells}
use Rattle.si_cell.specs.LibraryText.{names_of}
use Rattle.si_cell.proofs.CubeLemmas.{same_name}
use Rattle.si_cell.proofs.CellLemmas.{more_cells}
use Rattle.si_tokens.specs.declared.fault.Stop.{Stop}
use Rattle.si_tokens.specs.declared.fault.Stop.TheVariants.{Fault}
use Rattle.si_genlib.specs.Gate.{Gate, pin_count, width, gate_value, falls, sum_of, pin_names, cell_of, with_gate}
use Rattle.si_genlib.specs.Gate.{ports_of, with_ports}
use Rattle.si_genlib.specs.Ports.{Ports, ArePortsOf, ArePorts}
use Rattle.si_genlib.proofs.DemandLemmas.{sum_well_formed, plain_own}
use Rattle.si_genlib.proofs.CellNameLemmas.{cell_name_is_name, cell_name_is_free}
use Rattle.si_genlib.proofs.PortLemmas.{more_ports}
use Rattle.si_genlib.proofs.PortNameLemmas.{AreNamed}

-- ---- the names of the pins
is_pin_name : (name : List ℕ) → IsTrue (is_signal_name name) → bytes_eq name own ≡ false → IsPinName name
is_pin_name name is other = record {
  signal_name = is;
  other = λ same. true≢false (sym (same_name name own same) ∙ other);
}

-- the names from the second, the third and the fourth on
second : List (List ℕ)
second = codes "p2" ∷ codes "p3" ∷ codes "p4" ∷ []

third : List (List ℕ)
third = codes "p3" ∷ codes "p4" ∷ []

fourth : List (List ℕ)
fourth = codes "p4" ∷ []

all_pin_names : All IsPinName pin_names
unfolding second third fourth
all_pin_names = All-cons IsPinName (codes "p1") second (is_pin_name (codes "p1") refl refl)
    (All-cons IsPinName (codes "p2") third (is_pin_name (codes "p2") refl refl)
    (All-cons IsPinName (codes "p3") fourth (is_pin_name (codes "p3") refl refl)
    (All-cons IsPinName (codes "p4") [] (is_pin_name (codes "p4") refl refl) (All-nil IsPinName))))

pin_names_distinct : AllPairs (λ x y. x ≢ y) pin_names
unfolding second third fourth
pin_names_distinct =
    let R : List ℕ → List ℕ → Type 0 = λ x y. x ≢ y in
    AllPairs-cons R (codes "p1") second (other_names (codes "p1") second refl)
    (AllPairs-cons R (codes "p2") third (other_names (codes "p2") third refl)
    (AllPairs-cons R (codes "p3") fourth (other_names (codes "p3") fourth refl)
    (AllPairs-cons R (codes "p4") [] (All-nil (R (codes "p4")))
    (λ i j d order within. absurd (omega (arith, within))))))

first_distinct : (n : ℕ) (names : List (List ℕ)) → n ≤ length names → AllPairs (λ x y. x ≢ y) names
    → AllPairs (λ x y. x ≢ y) (take n names)
first_distinct n names few distinct i j d order within =
    let less : j < n = rw (length-take-le n names few) at within in
    rw (get_or-take n names i d (omega (arith, order, less)), get_or-take n names j d less)
    (distinct i j d order (omega (arith, less, few)))

pub pins_length : (n : ℕ) → n ≤ 4 → length (take n pin_names) ≡ n
pins_length n few = length-take-le n pin_names few

-- ---- the sum
wider : (m n : ℕ) → m ≤ n → (sum : Sum) → IsSum m sum → IsSum n sum
wider m n more sum is = All-weaker (IsCube m) (IsCube n) (λ cube c. record {
  rising = c.rising;
  there = All-weaker (λ (l : Literal). l.sig < m) (λ (l : Literal). l.sig < n)
      (λ l less. omega (arith, less, more)) cube c.there;
}) sum is

-- the literals of the chosen sum are those of pins and of the own output
pub over_pins : (bits : ℕ) (value : ℕ → Bool) (sum : Sum) → bits ≤ max_pins + 1 → sum ≡ sum_of bits value
    → All (All (λ (l : Literal). l.sig ≤ max_pins)) sum
over_pins bits value sum few is = subst (All (All (λ (l : Literal). l.sig ≤ max_pins))) (sym is)
    (All-weaker (IsCube bits) (All (λ (l : Literal). l.sig ≤ max_pins)) (λ cube c.
    All-weaker (λ (l : Literal). l.sig < bits) (λ (l : Literal). l.sig ≤ max_pins)
    (λ l less. omega (arith, less, few)) cube c.there) (sum_of bits value) (sum_well_formed bits value))

-- the own output stands plain in the sum of so many bits
abbrev OwnIsPlain : ℕ → Sum → Type 0
OwnIsPlain n sum = All (All (λ l. l.sig ≡ n → IsTrue l.plain)) sum

own_with : (n : ℕ) (value : ℕ → Bool) → falls n value ≡ false → OwnIsPlain n (sum_of (n + 1) value)
own_with n value rises = λ i c within. λ j l inside. plain_own n value rises
    (get_or (sum_of (n + 1) value) i c) (get_or (get_or (sum_of (n + 1) value) i c) j l)
    (Contains-get_or (sum_of (n + 1) value) i c within)
    (Contains-get_or (get_or (sum_of (n + 1) value) i c) j l inside)

own_without : (n : ℕ) (sum : Sum) → IsSum n sum → OwnIsPlain n sum
own_without n sum is = All-weaker (IsCube n) (All (λ (l : Literal). l.sig ≡ n → IsTrue l.plain)) (λ cube c.
    All-weaker (λ (l : Literal). l.sig < n) (λ (l : Literal). l.sig ≡ n → IsTrue l.plain)
    (λ l less at. absurd (omega (arith, less, at))) cube c.there) sum is

own_plain_at : (n : ℕ) (value : ℕ → Bool) (has : Bool) → falls n value ≡ false
    → OwnIsPlain n (sum_of (n + (if has then 1 else 0)) value)
own_plain_at n value true rises = own_with n value rises
own_plain_at n value false rises =
    let same : n + 0 ≡ n = omega arith in
    own_without n (sum_of (n + 0) value) (subst (λ (m : ℕ). IsSum m (sum_of (n + 0) value)) same
    (sum_well_formed (n + 0) value))

at_most_one : (n : ℕ) (has : Bool) → n + (if has then 1 else 0) ≤ n + 1
at_most_one n true = omega arith
at_most_one n false = omega arith

-- ---- the cell
-- what holds of each gate that is read
pub record IsReadGate (g : Gate) : Type 0 where
  pub named : 0 < length g.name
  pub few : pin_count g ≤ 4
  pub ports : AreNamed (ports_of g)

is_cell : (names : List (List ℕ)) (g : Gate) → IsReadGate g → falls (pin_count g) (gate_value g) ≡ false
    → IsCell (cell_of names g)
unfolding cell_of
is_cell names g is rises =
    let count = pins_length (pin_count g) is.few in
    let sum : Sum = sum_of (width g) (gate_value g) in record {
      name = cell_name_is_name names g.name is.named;
      pins = All-take IsPinName (pin_count g) pin_names all_pin_names;
      distinct = first_distinct (pin_count g) pin_names is.few pin_names_distinct;
      few_pins = rw count is.few;
      sum = rw count (wider (width g) (pin_count g + 1) (at_most_one (pin_count g) g.pins.own) sum
          (sum_well_formed (width g) (gate_value g)));
      own_plain = rw count (own_plain_at (pin_count g) (gate_value g) g.pins.own rises);
    }

-- the gate's names are those of the cell's ports
ports_are_of : (names : List (List ℕ)) (g : Gate) → IsReadGate g → ArePortsOf (cell_of names g) (ports_of g)
unfolding cell_of
ports_are_of names g is = record {
  count = sym (pins_length (pin_count g) is.few);
  names = is.ports.names;
  distinct = is.ports.distinct;
}

-- ---- one more gate
-- what holds of what is read, if it is read
abbrev pub Holds : {A : Type 0} → (A → Type 0) → Result A Stop → Type 0
Holds P (Ok x) = P x
Holds P (Err stop) = Unit {0}

still_cells : (cells : List Cell) (g : Gate) → AreCells cells → IsReadGate g
    → falls (pin_count g) (gate_value g) ≡ false → nat_le max_cells (length cells) ≡ false
    → AreCells (cells ++ cell_of (names_of cells) g ∷ [])
unfolding cell_of
still_cells cells g are is rises room = more_cells cells (cell_of (names_of cells) g) are
    (is_cell (names_of cells) g is rises) (cell_name_is_free (names_of cells) g.name)
    (leb-false max_cells (length cells) room)

-- what holds of the cells, and of the names of their ports
pub record AreKept (kept : List Cell) (named : List Ports) : Type 0 where
  pub cells : AreCells kept
  pub ports : ArePorts kept named

by_tests : (cells : List Cell) (ports : List Ports) (g : Gate) (more falling full : Bool) → AreKept cells ports
    → IsReadGate g
    → falls (pin_count g) (gate_value g) ≡ falling → nat_le max_cells (length cells) ≡ full
    → Holds (λ new. AreKept new (if more then ports else ports ++ ports_of g ∷ []))
    (if more then Ok cells else if falling then Err (Fault g.line OwnFalling)
    else if full then Err (Fault g.line TooManyCells) else Ok (cells ++ cell_of (names_of cells) g ∷ []))
by_tests cells ports g true falling full are is rises room = are
by_tests cells ports g false true full are is rises room = tt
by_tests cells ports g false false true are is rises room = tt
by_tests cells ports g false false false are is rises room =
    let cell : Cell = cell_of (names_of cells) g in record {
      cells = still_cells cells g are.cells is rises room;
      ports = more_ports cells ports cell (ports_of g) are.ports (ports_are_of (names_of cells) g is);
    }

pub still_kept : (cells : List Cell) (ports : List Ports) (g : Gate) → AreKept cells ports → IsReadGate g
    → Holds (λ new. AreKept new (with_ports ports g)) (with_gate cells g)
unfolding with_gate
still_kept cells ports g are is = by_tests cells ports g g.pins.more (falls (pin_count g) (gate_value g))
    (nat_le max_cells (length cells)) are is refl refl
