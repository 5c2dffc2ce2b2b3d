-- A netlist whose further signals are hidden is a netlist.
use Rattle.std.proofs.Common.{◌≡◌, ◌≢◌, ℕ, zero, suc, ◌<◌, ◌≤◌, ◌^◌, Bool, true, false, List, [], ◌∷◌}
use Rattle.std.proofs.Common.{length, map, filter, flat_map, get_or, All, AllPairs, IsTrue, codes}
use Rattle.std.proofs.Common.{refl, sym, ap, ◌∙◌, subst, arith}
use Rattle.std.proofs.lemmas.List.{get_or-map, length-map}
use Rattle.std.proofs.lemmas.List.Elements.{All-nil, All-cons}
use Rattle.si_base.specs.declared.graph.Signal.{Signal}
use Rattle.si_base.specs.declared.graph.SigKind.{SigKind}
use Rattle.si_base.specs.declared.graph.SigKind.TheVariants.{Input, Output, Internal, Inserted}
use Rattle.si_base.specs.Codes.{CodedGraph}
use Rattle.si_base.specs.Graph.{StateGraph, is_driven, kind_place}
use Rattle.si_base.specs.Limits.{max_signals}
use Rattle.si_base.specs.Netlist.{Insertion, Netlist}
use Rattle.si_base.specs.NetlistText.{names_of}
use Rattle.si_base.specs.WellFormed.{IsGate, IsInsertion, IsNetlist, IsWord}
use Rattle.si_base.specs.Words.{is_signal_name}
use Rattle.si_certify.specs.Hidden.{hidden_kind, hidden_signal, hide, hiding, unknown, unknown_of}

-- ---- kinds
no_earlier : (kind : SigKind) → kind_place kind ≤ kind_place (hidden_kind kind)
no_earlier Input = omega arith
no_earlier Output = omega arith
no_earlier Internal = omega arith
no_earlier Inserted = omega arith

order_stays : (a b : SigKind) → kind_place a ≤ kind_place b → kind_place (hidden_kind a) ≤ kind_place (hidden_kind b)
order_stays Input b low = omega (arith, no_earlier b, low)
order_stays Output b low = omega (arith, no_earlier b, low)
order_stays Internal Input low = absurd (omega (arith, low))
order_stays Internal Output low = absurd (omega (arith, low))
order_stays Internal Internal low = omega arith
order_stays Internal Inserted low = omega arith
order_stays Inserted Input low = absurd (omega (arith, low))
order_stays Inserted Output low = absurd (omega (arith, low))
order_stays Inserted Internal low = omega arith
order_stays Inserted Inserted low = omega arith

same_drive : (kind : SigKind) → is_driven (hidden_kind kind) ≡ is_driven kind
same_drive Input = refl
same_drive Output = refl
same_drive Internal = refl
same_drive Inserted = refl

-- ---- signals
pub hide_size : (given : ℕ) (xs : List Signal) → length (hide given xs) ≡ length xs
hide_size zero xs = length-map xs hidden_signal
hide_size (suc given) [] = refl
hide_size (suc given) (x ∷ xs) = ap suc (hide_size given xs)

-- what stands at a place: hidden from the first that isn't given
abbrev seen : ℕ → ℕ → Signal → Signal
seen zero k x = hidden_signal x
seen (suc given) zero x = x
seen (suc given) (suc k) x = seen given k x

seen_at : (given : ℕ) (xs : List Signal) (k : ℕ) (d : Signal) → k < length xs
    → get_or (hide given xs) k d ≡ seen given k (get_or xs k d)
seen_at zero xs k d within = get_or-map hidden_signal xs k d d within
seen_at (suc given) [] k d within = absurd (omega (arith, within))
seen_at (suc given) (x ∷ xs) zero d within = refl
seen_at (suc given) (x ∷ xs) (suc k) d within = seen_at given xs k d (omega (arith, within))

seen_name : (given k : ℕ) (x : Signal) → (seen given k x).name ≡ x.name
seen_name zero k x = refl
seen_name (suc given) zero x = refl
seen_name (suc given) (suc k) x = seen_name given k x

seen_order : (given i j : ℕ) (x y : Signal) → i < j → kind_place x.kind ≤ kind_place y.kind
    → kind_place (seen given i x).kind ≤ kind_place (seen given j y).kind
seen_order zero i j x y before low = order_stays x.kind y.kind low
seen_order (suc given) i zero x y before low = absurd (omega (arith, before))
seen_order (suc given) zero (suc j) x y before low = later given j
  where
    later : (given j : ℕ) → kind_place x.kind ≤ kind_place (seen given j y).kind
    later zero j = omega (arith, no_earlier y.kind, low)
    later (suc given) zero = low
    later (suc given) (suc j) = later given j
seen_order (suc given) (suc i) (suc j) x y before low = seen_order given i j x y (omega (arith, before)) low

names_stay : (given : ℕ) (xs : List Signal) → All (λ x. IsTrue (is_signal_name x.name)) xs
    → All (λ x. IsTrue (is_signal_name x.name)) (hide given xs)
names_stay given xs are k d within =
    let there : k < length xs = omega (arith, within, hide_size given xs) in
    rw (seen_at given xs k d there, seen_name given k (get_or xs k d)) (are k d there)

names_apart : (given : ℕ) (xs : List Signal) → AllPairs (λ x y. x.name ≢ y.name) xs
    → AllPairs (λ x y. x.name ≢ y.name) (hide given xs)
names_apart given xs apart i j d before within =
    let second : j < length xs = omega (arith, within, hide_size given xs) in
    let first : i < length xs = omega (arith, before, second) in
    rw (
      seen_at given xs i d first,
      seen_at given xs j d second,
      seen_name given i (get_or xs i d),
      seen_name given j (get_or xs j d),
    ) (apart i j d before second)

kinds_stay : (given : ℕ) (xs : List Signal) → AllPairs (λ x y. kind_place x.kind ≤ kind_place y.kind) xs
    → AllPairs (λ x y. kind_place x.kind ≤ kind_place y.kind) (hide given xs)
kinds_stay given xs ordered i j d before within =
    let second : j < length xs = omega (arith, within, hide_size given xs) in
    let first : i < length xs = omega (arith, before, second) in
    let low = seen_order given i j (get_or xs i d) (get_or xs j d) before (ordered i j d before second) in
    rw (seen_at given xs i d first, seen_at given xs j d second) low

-- ---- gates
abbrev driven : Signal → Bool
driven x = is_driven x.kind

as_many : (a b : Bool) (x y : Signal) (xs ys : List Signal) → a ≡ b
    → length (filter driven xs) ≡ length (filter driven ys) → driven x ≡ a → driven y ≡ b
    → length (filter driven (x ∷ xs)) ≡ length (filter driven (y ∷ ys))
as_many true true x y xs ys same rest one other = rw (one, other) (ap suc rest)
as_many true false x y xs ys same rest one other = cc
as_many false true x y xs ys same rest one other = cc
as_many false false x y xs ys same rest one other = rw (one, other) rest

as_many_driven : (given : ℕ) (xs : List Signal) → length (filter driven (hide given xs)) ≡ length (filter driven xs)
as_many_driven zero [] = refl
as_many_driven zero (x ∷ xs) = as_many (driven x) (driven x) (hidden_signal x) x (map hidden_signal xs) xs refl
    (as_many_driven zero xs) (same_drive x.kind) refl
as_many_driven (suc given) [] = refl
as_many_driven (suc given) (x ∷ xs) =
    as_many (driven x) (driven x) x x (hide given xs) xs refl (as_many_driven given xs) refl refl

-- ---- insertions
unknown_names : (xs : List Signal) → map (λ i. i.name) (flat_map unknown_of xs) ≡ names_of Inserted xs
unknown_names [] = refl
unknown_names (x ∷ xs) = by_kind x.kind refl (unknown_names xs)
  where
    by_kind : (kind : SigKind) → x.kind ≡ kind
        → map (λ i. i.name) (flat_map unknown_of xs) ≡ names_of Inserted xs
        → map (λ i. i.name) (flat_map unknown_of (x ∷ xs)) ≡ names_of Inserted (x ∷ xs)
    by_kind Input is rest = rw is rest
    by_kind Output is rest = rw is rest
    by_kind Internal is rest = rw is rest
    by_kind Inserted is rest = rw is (ap (λ (names : List (List ℕ)). x.name ∷ names) rest)

is_mark : IsWord (codes "?") × (codes "?" ≢ codes "down")
is_mark = (record { some = omega arith; bytes = refl }, λ same. cc)

marks : All (λ w. IsWord w × (w ≢ codes "down")) (codes "?" ∷ [])
marks = All-cons (λ (w : List ℕ). IsWord w × (w ≢ codes "down")) (codes "?") [] is_mark
    (All-nil (λ (w : List ℕ). IsWord w × (w ≢ codes "down")))

unknown_is : (name : List ℕ) → IsInsertion (unknown name)
unknown_is name = record {
  some_up = omega arith;
  some_down = omega arith;
  words_up = marks;
  words_down = marks;
}

unknown_are : (xs : List Signal) → All IsInsertion (flat_map unknown_of xs)
unknown_are [] = All-nil IsInsertion
unknown_are (x ∷ xs) = by_kind x.kind refl (unknown_are xs)
  where
    by_kind : (kind : SigKind) → x.kind ≡ kind → All IsInsertion (flat_map unknown_of xs)
        → All IsInsertion (flat_map unknown_of (x ∷ xs))
    by_kind Input is rest = rw is rest
    by_kind Output is rest = rw is rest
    by_kind Internal is rest = rw is rest
    by_kind Inserted is rest = rw is
        (All-cons IsInsertion (unknown x.name) (flat_map unknown_of xs) (unknown_is x.name) rest)

-- ---- the netlist
pub hiding_is_netlist : (given : ℕ) (n : Netlist) → IsNetlist n → IsNetlist (hiding given n)
hiding_is_netlist given n is =
    let size = hide_size given n.signals in
    record {
      model = is.model;
      no_brace = is.no_brace;
      names = names_stay given n.signals is.names;
      distinct = names_apart given n.signals is.distinct;
      kinds = kinds_stay given n.signals is.kinds;
      few = subst (λ (k : ℕ). k ≤ max_signals) (sym size) is.few;
      start = subst (λ (k : ℕ). n.start < 2 ^ k) (sym size) is.start;
      insert_names = unknown_names (hide given n.signals);
      inserts = unknown_are (hide given n.signals);
      gate_count = is.gate_count ∙ sym (as_many_driven given n.signals);
      gates = subst (λ (k : ℕ). All (IsGate k) n.gates) (sym size) is.gates;
    }

-- what is made of the parts of a netlist
pub made_is_netlist : (given : ℕ) (n : Netlist) (signals : List Signal) (inserts : List Insertion) → IsNetlist n
    → signals ≡ hide given n.signals → inserts ≡ flat_map unknown_of signals
    → IsNetlist (record {
      model = n.model;
      signals = signals;
      start = n.start;
      inserts = inserts;
      gates = n.gates;
    })
made_is_netlist given n signals inserts is hidden lines = rw (lines, hidden) (hiding_is_netlist given n is)

-- the signals are counted in the graph that is handed out
pub hidden_behind : (c d : CodedGraph) (g : StateGraph) (signals : List Signal) (n m : Netlist) → d ≡ c → g ≡ d.graph
    → signals ≡ g.signals → m ≡ hiding (length signals) n → m ≡ hiding (length c.graph.signals) n
hidden_behind c d g signals n m coded graph same is =
    let counted = ap (length {A = Signal}) (same ∙ ap (λ (h : StateGraph). h.signals) graph
    ∙ ap (λ (k : CodedGraph). k.graph.signals) coded) in
    is ∙ ap (λ (k : ℕ). hiding k n) counted
