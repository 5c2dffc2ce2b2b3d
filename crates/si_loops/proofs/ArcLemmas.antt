-- The arcs of a netlist, a signal at a time.
use Rattle.std.proofs.Common.{◌≡◌, ℕ, zero, suc, ◌+◌, ◌<◌, ◌≤◌, Bool, true, false, List, [], ◌∷◌, ◌++◌}
use Rattle.std.proofs.Common.{refl, sym, ap, subst, ◌∙◌, arith, length, map, filter, flat_map, take, get_or}
use Rattle.std.proofs.Common.{cond, slice_get, Some, All}
use Rattle.std.specs.List.{range_with_len}
use Rattle.std.proofs.lemmas.List.{take_more}
use Rattle.std.proofs.lemmas.Grind.{flat_map-append}
use Rattle.std.proofs.lemmas.List.{append-nil}
use Rattle.std.proofs.lemmas.List.Elements.{filter-append, All-append, All-map, All-filter, All-push}
use Rattle.std.proofs.lemmas.Option.{slice_get-get_or, slice_get_within, get_or_from_slice_get}
use Rattle.si_base.specs.declared.ids.Literal.{Literal}
use Rattle.si_base.specs.declared.graph.Signal.{Signal}
use Rattle.si_base.specs.Bits.{bit}
use Rattle.si_base.specs.Graph.{is_driven, IsNonInput}
use Rattle.si_base.specs.Limits.{max_signals}
use Rattle.si_base.specs.Netlist.{Cell, Gate, Gc, Netlist, Sum, SumGate, gate_place}
use Rattle.si_base.specs.WellFormed.{IsCube, IsGate, IsNetlist, IsSum}
use Rattle.si_netlist.specs.Reads.{MarksExactly}
use Rattle.si_loops.specs.declared.arcs.Arc.{Arc}
use Rattle.si_loops.specs.Arcs.{arc_to, arcs_into, gated, has_gate, has_pin, has_pin_if_there, reads}
use Rattle.si_loops.specs.Loops.Paths.{IsNarrow}

-- ---- signals with gates
pub range_more : (a n : ℕ) → range_with_len a (suc n) ≡ range_with_len a n ++ (a + n) ∷ []
range_more a zero = ap (λ (k : ℕ). k ∷ []) (omega arith)
range_more a (suc n) =
    ap (λ (l : List ℕ). a ∷ l) (range_more (a + 1) n ∙ ap (λ (k : ℕ). range_with_len (a + 1) n ++ k ∷ []) (omega arith))

pub numbers_more : (z : ℕ) → range_with_len 0 (z + 1) ≡ range_with_len 0 z ++ z ∷ []
numbers_more z =
    let next : z + 1 ≡ suc z = omega arith in
    let last : 0 + z ≡ z = omega arith in
    ap (range_with_len 0) next ∙ range_more 0 z ∙ ap (λ (k : ℕ). range_with_len 0 z ++ k ∷ []) last

pub gate_of_signal : (signals : List Signal) (z : ℕ) (x : Signal) → slice_get signals z ≡ Some x
    → has_gate signals z ≡ is_driven x.kind
gate_of_signal signals z x at = rw at refl

-- the signals with gates before signal z
abbrev pub gated_before : List Signal → ℕ → List ℕ
gated_before signals z = filter (has_gate signals) (range_with_len 0 z)

filter_one : (p : ℕ → Bool) (z : ℕ) (v : Bool) → p z ≡ v → filter p (z ∷ []) ≡ cond v (z ∷ []) []
filter_one p z v is = rw is refl

gated_more : (signals : List Signal) (z : ℕ) (v : Bool) → has_gate signals z ≡ v
    → gated_before signals (z + 1) ≡ gated_before signals z ++ cond v (z ∷ []) []
gated_more signals z v is =
    ap (filter (has_gate signals)) (numbers_more z) ∙ filter-append (has_gate signals) (range_with_len 0 z) (z ∷ [])
    ∙ ap (λ (l : List ℕ). gated_before signals z ++ l) (filter_one (has_gate signals) z v is)

pub gated_driven : (signals : List Signal) (z : ℕ) (x : Signal) (items : List ℕ) → z < length signals
    → x ≡ get_or signals z x → is_driven x.kind ≡ true → items ≡ gated_before signals z
    → items ++ z ∷ [] ≡ gated_before signals (z + 1)
gated_driven signals z x items within is driven so_far =
    let at : slice_get signals z ≡ Some x = slice_get-get_or signals z x within ∙ ap Some (sym is) in
    ap (λ (l : List ℕ). l ++ z ∷ []) so_far
    ∙ sym (gated_more signals z true (gate_of_signal signals z x at ∙ driven))

pub gated_input : (signals : List Signal) (z : ℕ) (x : Signal) (items : List ℕ) → z < length signals
    → x ≡ get_or signals z x → is_driven x.kind ≡ false → items ≡ gated_before signals z
    → items ≡ gated_before signals (z + 1)
gated_input signals z x items within is input so_far =
    let at : slice_get signals z ≡ Some x = slice_get-get_or signals z x within ∙ ap Some (sym is) in
    so_far ∙ sym (gated_more signals z false (gate_of_signal signals z x at ∙ input) ∙ append-nil (gated_before signals z))

-- ---- arcs
filter_same : (p q : ℕ → Bool) (xs : List ℕ) → ((x : ℕ) → p x ≡ q x) → filter p xs ≡ filter q xs
filter_same p q [] same = refl
filter_same p q (x ∷ xs) same = rw (same x, filter_same p q xs same) refl

pub arcs_more : (n : Netlist) (driven : List ℕ) (i z pins : ℕ) (gate : Gate) (arcs new : List Arc) → i < length driven
    → z ≡ get_or driven i z → driven ≡ gated n.signals
    → slice_get n.gates (gate_place n.signals z) ≡ Some gate → MarksExactly (has_pin gate) pins
    → arcs ≡ flat_map (arcs_into n) (take i driven)
    → new ≡ arcs ++ map (arc_to z) (filter (bit pins) driven)
    → new ≡ flat_map (arcs_into n) (take (i + 1) driven)
arcs_more n driven i z pins gate arcs new within is all at marks so_far made =
    let same : (y : ℕ) → bit pins y ≡ reads n z y =
    λ y. marks y ∙ ap (λ o. has_pin_if_there o y) (sym at) in
    let here : map (arc_to z) (filter (bit pins) driven) ≡ arcs_into n z =
    ap (map (arc_to z)) (filter_same (bit pins) (reads n z) driven same ∙ ap (filter (reads n z)) all) in
    let more : take (i + 1) driven ≡ take i driven ++ z ∷ [] =
    take_more driven i z within ∙ ap (λ (k : ℕ). take i driven ++ k ∷ []) (sym is) in
    made ∙ ap (λ (l : List Arc). l ++ map (arc_to z) (filter (bit pins) driven)) so_far
    ∙ ap (λ (l : List Arc). flat_map (arcs_into n) (take i driven) ++ l) (here ∙ sym (append-nil (arcs_into n z)))
    ∙ sym (flat_map-append (arcs_into n) (take i driven) (z ∷ [])) ∙ ap (flat_map (arcs_into n)) (sym more)

pub narrow_more : (arcs new : List Arc) (driven : List ℕ) (z pins : ℕ) → z < max_signals
    → All (λ y. y < max_signals) driven → All IsNarrow arcs
    → new ≡ arcs ++ map (arc_to z) (filter (bit pins) driven) → All IsNarrow new
narrow_more arcs new driven z pins small all before made =
    let some = All-filter (bit pins) (λ y. y < max_signals) driven all in
    let these = All-map IsNarrow (arc_to z) (filter (bit pins) driven)
    (λ i d within. record { from = some i d within; to = small }) in
    subst (All IsNarrow) (sym made) (All-append IsNarrow arcs (map (arc_to z) (filter (bit pins) driven)) before these)

-- signals with gates, of which there are few
abbrev pub AreGates : List Signal → List ℕ → Type 0
AreGates signals zs = All (λ z. IsNonInput signals z × (z < max_signals)) zs

pub gates_more : (signals : List Signal) (zs : List ℕ) (z : ℕ) (x : Signal) → z < length signals
    → length signals ≤ max_signals → x ≡ get_or signals z x → is_driven x.kind ≡ true → AreGates signals zs
    → AreGates signals (zs ++ z ∷ [])
gates_more signals zs z x within few is driven gates =
    let at : slice_get signals z ≡ Some x = slice_get-get_or signals z x within ∙ ap Some (sym is) in
    All-push (λ y. IsNonInput signals y × (y < max_signals)) zs z gates
    ((x, at, driven), omega (arith, within, few))

-- ---- gates
wider_cube : (few many : ℕ) (cube : List Literal) → few ≤ many → IsCube few cube → IsCube many cube
wider_cube few many cube le is = record {
  rising = is.rising;
  there = λ i d within. (let small = is.there i d within in omega (arith, small, le));
}

wider_sum : (few many : ℕ) (sum : Sum) → few ≤ many → IsSum few sum → IsSum many sum
wider_sum few many sum le is i d within = wider_cube few many (get_or sum i d) le (is i d within)

wider_gate : (few many : ℕ) (gate : Gate) → few ≤ many → IsGate few gate → IsGate many gate
wider_gate few many (SumGate sum) le is = wider_sum few many sum le is
wider_gate few many (Gc set reset) le is = (wider_sum few many set le is.0, wider_sum few many reset le is.1)
wider_gate few many (Cell name literals sum) le is = (
  is.0,
  is.1,
  λ i d within. (let small = is.2 i d within in omega (arith, small, le)),
  wider_sum few many sum le is.3,
)

pub gate_fits : (n : Netlist) (k : ℕ) (gate : Gate) → IsNetlist n → slice_get n.gates k ≡ Some gate
    → IsGate max_signals gate
gate_fits n k gate is at =
    let within = slice_get_within n.gates k gate at in
    wider_gate (length n.signals) max_signals gate is.few
    (subst (IsGate (length n.signals)) (get_or_from_slice_get n.gates k gate gate at) (is.gates k gate within))
