-- The signals of a netlist with the reset input behind them: texts and values of gates stay the same.
use Rattle.std.proofs.Common.{◌≡◌, ℕ, zero, suc, ◌+◌, ◌<◌, ◌≤◌, ◌⊎◌, Bool, true, false, List, [], ◌∷◌, ◌++◌, length}
use Rattle.std.proofs.Common.{flat_map, slice_get, Some, bytes_eq, if◌then◌else◌, codes, refl, sym, ap, ap₂, subst, ◌∙◌}
use Rattle.std.proofs.Common.{arith, inl, inr, get_or}
use Rattle.std.specs.List.{AllByRecursion, list_any}
use Rattle.std.proofs.lemmas.Bool.{cases_Bool, cases_lt, or_parts, or_from, false_from_ne_true, true≢false}
use Rattle.std.proofs.lemmas.Bool.Decides.{eqb_tells}
use Rattle.std.proofs.lemmas.List.{length-append}
use Rattle.std.proofs.lemmas.Option.{slice_get-get_or}
use Rattle.std.proofs.lemmas.Slice.Eq.{bytes_eq-Decides}
use mathlib.Core.Bool.{beq}
use Rattle.si_base.specs.declared.ids.Literal.{Literal}
use Rattle.si_base.specs.declared.graph.Signal.{Signal}
use Rattle.si_base.specs.declared.graph.SigKind.TheVariants.{Input}
use Rattle.si_base.specs.Bits.{bit, flip, IsSet}
use Rattle.si_base.specs.Graph.{IsNonInput}
use Rattle.si_base.specs.Netlist.{Sum, Gate, SumGate, Gc, Cell, Netlist, gate_place, gate_value}
use Rattle.si_base.specs.NetlistText.{name_of}
use Rattle.si_base.specs.WellFormed.{IsNetlist}
use Rattle.si_base.proofs.BitFacts.{set_same, set_flip, beq_false}
use Rattle.si_base.proofs.GraphSteps.{beq-true}
use Rattle.si_netlist.specs.Reads.{sum_reads, gate_reads, reads_if_there}
use Rattle.si_netlist.proofs.GateLemmas.{gate_place-lt, within_signals}
use Rattle.si_netlist.proofs.ReadLemmas.{cube_reads, value_keeps}
use Rattle.si_verilog.specs.Meaning.{named_from, named_value}
use Rattle.si_verilog.specs.ModuleText.{verilog_name, literal_text, cube_text, sum_text, gate_text}
use Rattle.si_verilog.proofs.NameLemmas.{IsWritable, signal_is_writable}
use Rattle.si_verilog.proofs.MeaningLemmas.{AreNamed, AreThere, HasThere}
use Rattle.si_verilog.proofs.NetlistLemmas.{netlist_named, netlist_there}
use Rattle.si_resettable.specs.Meaning.{value_at}
use Rattle.si_resettable.specs.Refusals.{HasRoomFor}

abbrev reset_signal : List ℕ → Signal
reset_signal reset = record { name = reset; kind = Input }

abbrev pub with_reset : List Signal → List ℕ → List Signal
with_reset signals reset = signals ++ reset_signal reset ∷ []

-- ---- names

name_before : (xs : List Signal) (r : Signal) (z : ℕ) → z < length xs → name_of (xs ++ r ∷ []) z ≡ name_of xs z
name_before [] r z there = absurd (omega arith)
name_before (x ∷ xs) r zero there = refl
name_before (x ∷ xs) r (suc z) there = name_before xs r z (omega arith)

name_last : (xs : List Signal) (r : Signal) → name_of (xs ++ r ∷ []) (length xs) ≡ r.name
name_last [] r = refl
name_last (x ∷ xs) r = name_last xs r

other_name : (xs : List Signal) (name : List ℕ) (z : ℕ) → list_any (λ (x : Signal). bytes_eq x.name name) xs ≡ false
    → z < length xs → bytes_eq (name_of xs z) name ≡ false
other_name [] name z free there = absurd (omega arith)
other_name (x ∷ xs) name zero free there = (or_parts (bytes_eq x.name name) _ free).0
other_name (x ∷ xs) name (suc z) free there =
    other_name xs name z (or_parts (bytes_eq x.name name) _ free).1 (omega arith)

turned : (one other : List ℕ) → bytes_eq one other ≡ false → bytes_eq other one ≡ false
turned one other apart = false_from_ne_true (bytes_eq other one) (λ same.
    true≢false (sym ((bytes_eq-Decides one other).1 (sym ((bytes_eq-Decides other one).0 same))) ∙ apart))

-- ---- values of names

-- a name that isn't that of the last signal has its value among the others
named_before : (i : ℕ) (xs : List Signal) (r : Signal) (v : ℕ) (name : List ℕ) → bytes_eq r.name name ≡ false
    → named_from i (xs ++ r ∷ []) v name ≡ named_from i xs v name
named_before i [] r v name other = rw other refl
named_before i (x ∷ xs) r v name other =
    ap (λ (b : Bool). if bytes_eq x.name name then bit v i else b) (named_before (i + 1) xs r v name other)

named_last : (i : ℕ) (xs : List Signal) (r : Signal) (v : ℕ)
    → list_any (λ (x : Signal). bytes_eq x.name r.name) xs ≡ false
    → named_from i (xs ++ r ∷ []) v r.name ≡ bit v (i + length xs)
named_last i [] r v free =
    let same : bytes_eq r.name r.name ≡ true = (bytes_eq-Decides r.name r.name).1 refl in
    let place : i ≡ i + 0 = omega arith in
    rw same (ap (bit v) place)
named_last i (x ∷ xs) r v free =
    let parts = or_parts (bytes_eq x.name r.name) _ free in
    let place : (i + 1) + length xs ≡ i + suc (length xs) = omega arith in
    rw parts.0 (named_last (i + 1) xs r v parts.1 ∙ ap (bit v) place)

-- values that agree on the signals give names the same values
named_alike : (i : ℕ) (xs : List Signal) (v w : ℕ) (name : List ℕ)
    → ((k : ℕ) → k < length xs → bit v (i + k) ≡ bit w (i + k)) → named_from i xs v name ≡ named_from i xs w name
named_alike i [] v w name agree = refl
named_alike i (x ∷ xs) v w name agree =
    let place : i + 0 ≡ i = omega arith in
    let here : bit v i ≡ bit w i = ap (bit v) (sym place) ∙ agree 0 (omega arith) ∙ ap (bit w) place in
    let later = named_alike (i + 1) xs v w name (λ k less.
    (let order : (i + 1) + k ≡ i + suc k = omega arith in
    ap (bit v) order ∙ agree (suc k) (omega arith) ∙ ap (bit w) (sym order))) in
    λ j. if bytes_eq x.name name then here j else later j

module _ (n : Netlist) (is : IsNetlist n) (reset : List ℕ) (room : HasRoomFor n reset) where
  abbrev all : List Signal
  all = with_reset n.signals reset

  abbrev count : ℕ
  count = length n.signals

  pub last_name : name_of all count ≡ reset
  last_name = name_last n.signals (reset_signal reset)

  last_value : (v : ℕ) → named_value all v reset ≡ bit v count
  last_value v =
      let place : 0 + count ≡ count = omega arith in
      named_last 0 n.signals (reset_signal reset) v room.is_free ∙ ap (bit v) place

  first_or_last : (z : ℕ) → z < length all → (z < count) ⊎ (z ≡ count)
  first_or_last z there =
      let size = length-append n.signals (reset_signal reset ∷ []) in
      elim (cases_lt z count) [
        | inl low ↦ inl low
        | inr high ↦ inr (omega (arith, size, there, high))
      ]

  all_writable : (z : ℕ) → z < length all → IsWritable (name_of all z)
  all_writable z there = elim (first_or_last z there) [
    | inl low ↦ subst IsWritable (sym (name_before n.signals (reset_signal reset) z low))
        ((netlist_named n is).writable z low)
    | inr last ↦ subst IsWritable (sym (ap (name_of all) last ∙ last_name)) (signal_is_writable reset room.is_name)
  ]

  all_valued : (v z : ℕ) → z < length all → named_value all v (name_of all z) ≡ bit v z
  all_valued v z there = elim (first_or_last z there) [
    | inl low ↦
        ap (named_value all v) (name_before n.signals (reset_signal reset) z low)
        ∙ named_before 0 n.signals (reset_signal reset) v (name_of n.signals z)
        (turned (name_of n.signals z) reset (other_name n.signals reset z room.is_free low))
        ∙ (netlist_named n is).valued v z low
    | inr last ↦
        ap (named_value all v) (ap (name_of all) last ∙ last_name) ∙ last_value v ∙ ap (bit v) (sym last)
  ]

  -- with the reset input the signals have names that can be written and read
  pub are_named : AreNamed all
  are_named = record { writable = all_writable; valued = all_valued }

  pub reset_there : count < length all
  reset_there = (let size = length-append n.signals (reset_signal reset ∷ []) in omega (arith, size))

  -- the reset input has its level, and each other name the value of its signal
  pub at_level : (level : Bool) (values new : ℕ) → IsSet values count level new
      → (name : List ℕ) → value_at reset level n.signals values name ≡ named_value all new name
  at_level level values new set name = elim (cases_Bool (bytes_eq reset name)) [
    | inl same ↦ (
        let named : reset ≡ name = (bytes_eq-Decides reset name).0 same in
        rw same (sym (ap (named_value all new) (sym named) ∙ last_value new ∙ set.there)))
    | inr other ↦ rw other (sym (named_before 0 n.signals (reset_signal reset) new name other
        ∙ named_alike 0 n.signals new values name
        (λ k less. set.others (0 + k) (λ place. absurd (omega (arith, less, place))))))
  ]

-- ---- texts

module _ (xs : List Signal) (r : Signal) where
  literal_alike : (l : Literal) → l.sig < length xs → literal_text (xs ++ r ∷ []) l ≡ literal_text xs l
  literal_alike l there = ap (λ (name : List ℕ). (if l.plain then [] else 126 ∷ []) ++ verilog_name name)
      (name_before xs r l.sig there)

  literals_alike : (ls : List Literal) → AreThere (length xs) ls
      → flat_map (λ l. codes " & " ++ literal_text (xs ++ r ∷ []) l) ls
      ≡ flat_map (λ l. codes " & " ++ literal_text xs l) ls
  literals_alike [] there = refl
  literals_alike (l ∷ ls) there = ap₂ (λ (one more : List ℕ). (codes " & " ++ one) ++ more)
      (literal_alike l there.0) (literals_alike ls there.1)

  cube_alike : (ls : List Literal) → AreThere (length xs) ls → cube_text (xs ++ r ∷ []) ls ≡ cube_text xs ls
  cube_alike [] there = refl
  cube_alike (l ∷ []) there = literal_alike l there.0
  cube_alike (l ∷ k ∷ ls) there = ap₂ (λ (one more : List ℕ). codes "(" ++ (one ++ more) ++ codes ")")
      (literal_alike l there.0) (literals_alike (k ∷ ls) there.1)

  cubes_alike : (cubes : Sum) → AllByRecursion (AreThere (length xs)) cubes
      → flat_map (λ c. codes " | " ++ cube_text (xs ++ r ∷ []) c) cubes
      ≡ flat_map (λ c. codes " | " ++ cube_text xs c) cubes
  cubes_alike [] there = refl
  cubes_alike (c ∷ cubes) there = ap₂ (λ (one more : List ℕ). (codes " | " ++ one) ++ more)
      (cube_alike c there.0) (cubes_alike cubes there.1)

  sum_alike : (cubes : Sum) → AllByRecursion (AreThere (length xs)) cubes
      → sum_text (xs ++ r ∷ []) cubes ≡ sum_text xs cubes
  sum_alike [] there = refl
  sum_alike (c ∷ cubes) there = ap₂ (λ (one more : List ℕ). one ++ more) (cube_alike c there.0)
      (cubes_alike cubes there.1)

  -- the expression of a gate is the same
  pub gate_alike : (name : List ℕ) (gate : Gate) → HasThere (length xs) gate
      → gate_text (xs ++ r ∷ []) name gate ≡ gate_text xs name gate
  gate_alike name (SumGate sum) there = sum_alike sum there
  gate_alike name (Gc set reset) there =
      ap₂ (λ (s t : List ℕ). codes "(" ++ s ++ codes ") | (" ++ verilog_name name ++ codes " & ~(" ++ t ++ codes "))")
      (sum_alike set there.0) (sum_alike reset there.1)
  gate_alike name (Cell cell literals sum) there = sum_alike sum there

pub name_alike : (signals : List Signal) (reset : List ℕ) (z : ℕ) → z < length signals
    → name_of (with_reset signals reset) z ≡ name_of signals z
name_alike signals reset z there = name_before signals (reset_signal reset) z there

-- ---- gates

part_of : {A : Type 0} (P : A → Type 0) (xs : List A) (k : ℕ) (x : A) → AllByRecursion P xs → slice_get xs k ≡ Some x
    → P x
part_of P [] k x all there = cc
part_of P (y ∷ ys) zero x all there = (let same : y ≡ x = cc in subst P same all.0)
part_of P (y ∷ ys) (suc k) x all there = part_of P ys k x all.1 there

-- a signal that isn't an input has a gate, with literals of signals that are there
pub gate_of : (n : Netlist) → IsNetlist n → (z : ℕ) → IsNonInput n.signals z
    → (gate : Gate) × (slice_get n.gates (gate_place n.signals z) ≡ Some gate) × HasThere (length n.signals) gate
gate_of n is z non_input =
    let before = gate_place-lt n.signals z non_input in
    let count = is.gate_count in
    let within : gate_place n.signals z < length n.gates = omega (arith, before, count) in
    let gate = get_or n.gates (gate_place n.signals z) (SumGate []) in
    let there = slice_get-get_or n.gates (gate_place n.signals z) (SumGate []) within in
    let fits = part_of (HasThere (length n.signals)) n.gates (gate_place n.signals z) gate (netlist_there n is) there in
    (gate, there, fits)

-- what is there among fewer signals is there among more
cube_more : (count more : ℕ) → count ≤ more → (ls : List Literal) → AreThere count ls → AreThere more ls
cube_more count more fewer [] there = tt
cube_more count more fewer (l ∷ ls) there =
    (let low = there.0 in omega (arith, low, fewer), cube_more count more fewer ls there.1)

sum_more : (count more : ℕ) → count ≤ more → (cubes : Sum) → AllByRecursion (AreThere count) cubes
    → AllByRecursion (AreThere more) cubes
sum_more count more fewer [] there = tt
sum_more count more fewer (c ∷ cubes) there =
    (cube_more count more fewer c there.0, sum_more count more fewer cubes there.1)

pub gate_more : (count more : ℕ) → count ≤ more → (gate : Gate) → HasThere count gate → HasThere more gate
gate_more count more fewer (SumGate sum) there = sum_more count more fewer sum there
gate_more count more fewer (Gc set reset) there =
    (sum_more count more fewer set there.0, sum_more count more fewer reset there.1)
gate_more count more fewer (Cell name literals sum) there = sum_more count more fewer sum there

unread_cube : (count : ℕ) (ls : List Literal) → AreThere count ls → cube_reads ls count ≡ false
unread_cube count [] there = refl
unread_cube count (l ∷ ls) there = elim (eqb_tells l.sig count) [
  | inl same ↦ (let low = there.0 in absurd (omega (arith, low, same.1)))
  | inr other ↦ or_from _ _ other.0 (unread_cube count ls there.1)
]

unread_sum : (count : ℕ) (cubes : Sum) → AllByRecursion (AreThere count) cubes → sum_reads cubes count ≡ false
unread_sum count [] there = refl
unread_sum count (c ∷ cubes) there = or_from _ _ (unread_cube count c there.0) (unread_sum count cubes there.1)

unread_gate : (count : ℕ) (gate : Gate) → HasThere count gate → gate_reads gate count ≡ false
unread_gate count (SumGate sum) there = unread_sum count sum there
unread_gate count (Gc set reset) there =
    or_from _ _ (unread_sum count set there.0) (unread_sum count reset there.1)
unread_gate count (Cell name literals sum) there = unread_sum count sum there

-- values in which one signal is set
pub record IsValuesWith (values place : ℕ) (level : Bool) (new : ℕ) : Type 0 where
  pub set : IsSet values place level new
  pub same : (new ≡ values) ⊎ (new ≡ flip values place)

pub values_with : (values place : ℕ) (level : Bool) → (new : ℕ) × IsValuesWith values place level new
values_with values place level = elim (cases_Bool (beq (bit values place) level)) [
  | inl is ↦ (
    values,
    record {
      set = set_same values place level (beq-true (bit values place) level is);
      same = inl refl;
    },
  )
  | inr other ↦ (
    flip values place,
    record {
      set = set_flip values place level (beq_false (bit values place) level other);
      same = inr refl;
    },
  )
]

-- the reset input changes no gate
pub value_stays : (n : Netlist) → IsNetlist n → (z : ℕ) → IsNonInput n.signals z → (values : ℕ) (level : Bool) (new : ℕ)
    → IsValuesWith values (length n.signals) level new → gate_value n z new ≡ gate_value n z values
value_stays n is z non_input values level new with_level = elim with_level.same [
  | inl same ↦ ap (gate_value n z) same
  | inr flipped ↦ (
      let within = within_signals n.signals z non_input in
      let has = gate_of n is z non_input in
      ap (gate_value n z) flipped
      ∙ value_keeps n z (length n.signals) values (λ same. absurd (omega (arith, within, same)))
      (ap (λ o. reads_if_there o (length n.signals)) has.1 ∙ unread_gate (length n.signals) has.0 has.2))
]
