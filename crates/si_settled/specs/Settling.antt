-- (field) A netlist whose inputs and some gates are held at their start values, while the other
-- signals have any values: what its gates do.
use Rattle.std.specs.Prelude.{◌≡◌, ℕ, ◌<◌, ◌⊎◌, ◌&&◌, ◌==◌, not, Bool, false, List, [], ◌∷◌, ◌++◌}
use Rattle.std.specs.Prelude.{length, filter, Contains, slice_get, Option, Some, None, zero, suc, IsTrue}
use Rattle.std.specs.Prelude.{if◌then◌else◌}
use Rattle.std.specs.List.{list_any, list_all, range_with_len}
use Rattle.si_base.specs.Bits.{bit, flip}
use Rattle.si_base.specs.Graph.{IsNonInput}
use Rattle.si_base.specs.Netlist.{Netlist, Gate, SumGate, Gc, Cell, Sum, gate_value, gate_place}
use Rattle.si_base.specs.Netlist.{literal_value, IsExcited}
use Rattle.si_base.specs.declared.graph.Signal.{Signal}
use Rattle.si_loops.specs.Arcs.{gated, has_gate}

-- ---- what gates do while some signals are held

-- the gate of z, which isn't held, switches
pub record Switches (n : Netlist) (held : List ℕ) (w z v : ℕ) : Type 0 where
  pub free : Contains held z → ⊥
  pub excited : IsExcited n w z
  pub new_values : v ≡ flip w z

-- the gates of these signals, one after another
abbrev pub Runs : Netlist → List ℕ → ℕ → List ℕ → ℕ → Type 0
Runs n held w [] v = w ≡ v
Runs n held w (z ∷ zs) v = (u : ℕ) × Switches n held w z u × Runs n held u zs v

-- at some moment of the schedule z isn't excited
pub record RestsIn (n : Netlist) (held : List ℕ) (w : ℕ) (zs : List ℕ) (v z : ℕ) : Type 0 where
  pub front : List ℕ
  pub back : List ℕ
  pub cut : zs ≡ front ++ back
  pub at : ℕ
  pub first : Runs n held w front at
  pub second : Runs n held at back v
  pub rests : IsExcited n at z → ⊥

-- a schedule in which each gate that isn't held has its turn: it switches, or rests at some moment
pub record IsRound (n : Netlist) (held : List ℕ) (w : ℕ) (zs : List ℕ) (v : ℕ) : Type 0 where
  pub runs : Runs n held w zs v
  pub turns : (z : ℕ) → IsNonInput n.signals z → (Contains held z → ⊥)
      → Contains zs z ⊎ RestsIn n held w zs v z

-- so many rounds, one after another
abbrev pub Rounds : Netlist → List ℕ → ℕ → ℕ → ℕ → Type 0
Rounds n held zero w v = w ≡ v
Rounds n held (suc k) w v =
    (u : ℕ) × (zs : List ℕ) × IsRound n held w zs u × Rounds n held k u v

-- ---- which gates settle

-- the signals of the list have their start values
abbrev pub Agrees : Netlist → List ℕ → ℕ → Type 0
Agrees n known w = (z : ℕ) → Contains known z → bit w z ≡ bit n.start z

-- whatever the other signals are, the gate of z has its start value
abbrev pub IsForced : Netlist → List ℕ → ℕ → Type 0
IsForced n known z = (w : ℕ) → Agrees n known w → gate_value n z w ≡ bit n.start z

-- by a rule that says which gates are forced, one gate after another is forced by those that are
-- held and those before it, until all signals are there
abbrev pub SettlesBy : (Netlist → List ℕ → ℕ → Type 0) → Netlist → List ℕ → List ℕ → Type 0
SettlesBy Rule n known [] = (a : ℕ) → a < length n.signals → Contains known a
SettlesBy Rule n known (z ∷ zs) =
    IsNonInput n.signals z × Rule n known z × SettlesBy Rule n (z ∷ known) zs

abbrev pub Settles : Netlist → List ℕ → List ℕ → Type 0
Settles n held zs = SettlesBy IsForced n held zs

-- ---- a rule that can be computed: what the cubes show, where some signals are known to have their
-- start values

-- z is one of the signals
abbrev pub is_among : List ℕ → ℕ → Bool
is_among known z = list_any (λ k. k == z) known

-- all literals of some cube are known and true
abbrev pub shows_one : (ℕ → Bool) → ℕ → Sum → Bool
shows_one known start sum =
    list_any (λ cube. list_all (λ l. known l.sig && literal_value start l) cube) sum

-- some literal of each cube is known and false
abbrev pub shows_zero : (ℕ → Bool) → ℕ → Sum → Bool
shows_zero known start sum =
    list_all (λ cube. list_any (λ l. known l.sig && not (literal_value start l)) cube) sum

-- the cubes show that the value is v
abbrev pub sum_shows : (ℕ → Bool) → ℕ → Sum → Bool → Bool
sum_shows known start sum v = if v then shows_one known start sum else shows_zero known start sum

-- a generalised C-element is 1 where its set is, and 0 where the set isn't and the reset is
abbrev pub gate_shows : (ℕ → Bool) → ℕ → Gate → Bool → Bool
gate_shows known start (SumGate sum) v = sum_shows known start sum v
gate_shows known start (Gc set reset) v =
    if v then shows_one known start set
    else shows_zero known start set && shows_one known start reset
gate_shows known start (Cell name literals sum) v = sum_shows known start sum v

abbrev pub shows_if_there : (ℕ → Bool) → ℕ → Option Gate → Bool → Bool
shows_if_there known start None v = false
shows_if_there known start (Some gate) v = gate_shows known start gate v

-- the cubes of z's gate show its start value
abbrev pub IsShown : Netlist → List ℕ → ℕ → Type 0
IsShown n known z =
    IsTrue (shows_if_there (is_among known) n.start (slice_get n.gates (gate_place n.signals z))
    (bit n.start z))

-- the gates of these signals are shown one after another, and those signals are known in the end
abbrev pub ShownInTurn : Netlist → List ℕ → List ℕ → List ℕ → Type 0
ShownInTurn n known [] end = end ≡ known
ShownInTurn n known (z ∷ zs) end =
    IsNonInput n.signals z × IsShown n known z × ShownInTurn n (z ∷ known) zs end

-- so it goes from those that are held until no other gate is shown
pub record ComesTo (n : Netlist) (held end : List ℕ) : Type 0 where
  pub order : List ℕ
  pub in_turn : ShownInTurn n held order end
  pub stops : (z : ℕ) → IsNonInput n.signals z → IsShown n end z → Contains end z

-- ---- which outputs to force

-- with these held the cubes show that all gates settle
abbrev pub Suffices : Netlist → List ℕ → Type 0
Suffices n held = (order : List ℕ) × SettlesBy IsShown n held order

-- of the candidates, gone over in order, each is left out without which the others that are there
-- suffice; `before` are those that were kept
abbrev pub Drops : Netlist → List ℕ → List ℕ → List ℕ → List ℕ → Type 0
Drops n inputs before [] forced = forced ≡ before
Drops n inputs before (z ∷ rest) forced =
    (Suffices n (inputs ++ (before ++ rest)) × Drops n inputs before rest forced)
    ⊎ ((Suffices n (inputs ++ (before ++ rest)) → ⊥) × Drops n inputs (before ++ z ∷ []) rest forced)

-- the signals without gates, in signal order
abbrev pub inputs_of : List Signal → List ℕ
inputs_of signals =
    filter (λ z. not (has_gate signals z)) (range_with_len 0 (length signals))

-- the signals with gates that settle while the inputs are held, in signal order
pub record AreSettling (n : Netlist) (settling : List ℕ) : Type 0 where
  pub end : List ℕ
  pub comes : ComesTo n (inputs_of n.signals) end
  pub are : settling ≡ filter (is_among end) (gated n.signals)

-- the outputs to force: of all signals with gates, what is left
abbrev pub AreForced : Netlist → List ℕ → Type 0
AreForced n forced = Drops n (inputs_of n.signals) [] (gated n.signals) forced
