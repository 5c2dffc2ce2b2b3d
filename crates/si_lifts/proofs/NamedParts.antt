-- Parts with the names that their signals have in the whole: they are netlists too.
use Rattle.std.proofs.Common.{◌≡◌, ℕ, zero, suc, ◌+◌, ◌<◌, ◌^◌, Bool, List, [], ◌∷◌, Some, refl, sym, ap}
use Rattle.std.proofs.Common.{subst, ◌∙◌, arith, inl, inr, length, map, filter, get_or, slice_get, slice_index}
use Rattle.std.proofs.Common.{option_map, unwrap_or, All, IsTrue, if◌then◌else◌}
use Rattle.std.proofs.lemmas.Bool.{cases_Bool}
use Rattle.std.proofs.lemmas.List.{length-map}
use Rattle.std.proofs.lemmas.List.Elements.{All-nil, All-cons, All-head, All-tail}
use Rattle.std.proofs.lemmas.Option.{get_or_from_slice_get, same_Some}
use Rattle.si_base.specs.declared.graph.Signal.{Signal}
use Rattle.si_base.specs.declared.graph.SigKind.{SigKind}
use Rattle.si_base.specs.declared.graph.SigKind.TheVariants.{Inserted}
use Rattle.si_base.specs.Graph.{is_driven, kind_place, name_of}
use Rattle.si_base.specs.Netlist.{Insertion, Netlist, gate_place}
use Rattle.si_base.specs.NetlistText.{names_of, same_kind}
use Rattle.si_base.specs.WellFormed.{IsGate, IsInsertion, IsNetlist}
use Rattle.si_base.specs.Words.{is_signal_name}
use Rattle.si_compose.specs.Joined.{AreDistinct}
use Rattle.si_joins.specs.Loops.Parts.{AreNamed}
use Rattle.si_lifts.specs.Parts.{named_inserts, named_signals, with_signals}

-- ---- what stands at a place of a list
pub signal_there : (xs : List Signal) (k : ℕ) → k < length xs → (x : Signal) × (slice_get xs k ≡ Some x)
signal_there [] k below = absurd (omega (arith, below))
signal_there (x ∷ xs) zero below = (x, refl)
signal_there (x ∷ xs) (suc k) below = signal_there xs k (omega (arith, below))

pub name_there : (xs : List Signal) (k : ℕ) (x : Signal) → slice_get xs k ≡ Some x → name_of xs k ≡ x.name
name_there xs k x at = ap (λ o. unwrap_or (option_map (λ (s : Signal). s.name) o) []) at

-- ---- signals with other names
module _ (whole : List Signal) where
  -- a signal with the name that stands at k
  abbrev pub named_as : ℕ → Signal → Signal
  named_as k x = record { name = name_of whole k; kind = x.kind }

  pub as_many : (to : List ℕ) (xs : List Signal) → length to ≡ length xs
      → length (named_signals whole to xs) ≡ length xs
  as_many [] [] placed = refl
  as_many [] (x ∷ xs) placed = absurd (omega (arith, placed))
  as_many (k ∷ to) [] placed = refl
  as_many (k ∷ to) (x ∷ xs) placed = ap suc (as_many to xs (omega (arith, placed)))

  pub named_there : (to : List ℕ) (xs : List Signal) (z : ℕ) (x : Signal) → length to ≡ length xs
      → slice_get xs z ≡ Some x → slice_get (named_signals whole to xs) z ≡ Some (named_as (slice_index to z) x)
  named_there [] [] z x placed at = cc
  named_there [] (y ∷ xs) z x placed at = absurd (omega (arith, placed))
  named_there (k ∷ to) [] z x placed at = cc
  named_there (k ∷ to) (y ∷ xs) zero x placed at = ap (λ (s : Signal). Some (named_as k s)) (same_Some y x at)
  named_there (k ∷ to) (y ∷ xs) (suc z) x placed at = named_there to xs z x (omega (arith, placed)) at

  pub named_from : (to : List ℕ) (xs : List Signal) (z : ℕ) (own : Signal)
      → slice_get (named_signals whole to xs) z ≡ Some own
      → (x : Signal) × (slice_get xs z ≡ Some x) × (own ≡ named_as (slice_index to z) x)
  named_from [] xs z own at = cc
  named_from (k ∷ to) [] z own at = cc
  named_from (k ∷ to) (y ∷ xs) zero own at = (y, refl, sym (same_Some (named_as k y) own at))
  named_from (k ∷ to) (y ∷ xs) (suc z) own at = named_from to xs z own at

  -- ---- the kinds are those of the part
  kind_at : (to : List ℕ) (xs : List Signal) (z : ℕ) (d : Signal) → length to ≡ length xs
      → (get_or (named_signals whole to xs) z d).kind ≡ (get_or xs z d).kind
  kind_at [] [] z d placed = refl
  kind_at [] (x ∷ xs) z d placed = absurd (omega (arith, placed))
  kind_at (k ∷ to) [] z d placed = refl
  kind_at (k ∷ to) (x ∷ xs) zero d placed = refl
  kind_at (k ∷ to) (x ∷ xs) (suc z) d placed = kind_at to xs z d (omega (arith, placed))

  pub same_gate_place : (to : List ℕ) (xs : List Signal) (z : ℕ) → length to ≡ length xs
      → gate_place (named_signals whole to xs) z ≡ gate_place xs z
  same_gate_place [] [] z placed = refl
  same_gate_place [] (x ∷ xs) z placed = absurd (omega (arith, placed))
  same_gate_place (k ∷ to) [] z placed = refl
  same_gate_place (k ∷ to) (x ∷ xs) zero placed = refl
  same_gate_place (k ∷ to) (x ∷ xs) (suc z) placed =
      ap (λ (n : ℕ). (if is_driven x.kind then 1 else 0) + n) (same_gate_place to xs z (omega (arith, placed)))

  -- as many pass a test of kinds
  as_many_pass : (test : SigKind → Bool) (to : List ℕ) (xs : List Signal) → length to ≡ length xs
      → length (filter (λ x. test x.kind) (named_signals whole to xs)) ≡ length (filter (λ x. test x.kind) xs)
  as_many_pass test [] [] placed = refl
  as_many_pass test [] (x ∷ xs) placed = absurd (omega (arith, placed))
  as_many_pass test (k ∷ to) [] placed = refl
  as_many_pass test (k ∷ to) (x ∷ xs) placed =
      let rest = as_many_pass test to xs (omega (arith, placed)) in
      elim (cases_Bool (test x.kind)) [
        | inl passes ↦ rw passes (ap suc rest)
        | inr fails ↦ rw fails rest
      ]

  -- ---- the names are spelled as names
  spelled_at : AreNamed whole → (k : ℕ) → k < length whole → IsTrue (is_signal_name (name_of whole k))
  spelled_at spelled k below =
      let x = signal_there whole k below in
      let here : get_or whole k x.0 ≡ x.0 = get_or_from_slice_get whole k x.0 x.0 x.1 in
      let name : (get_or whole k x.0).name ≡ name_of whole k =
      ap (λ (s : Signal). s.name) here ∙ sym (name_there whole k x.0 x.1) in
      subst (λ (w : List ℕ). IsTrue (is_signal_name w)) name (spelled k x.0 below)

  all_spelled : AreNamed whole → (to : List ℕ) (xs : List Signal)
      → ((z : ℕ) → z < length xs → slice_index to z < length whole) → AreNamed (named_signals whole to xs)
  all_spelled spelled [] xs within = All-nil (λ (x : Signal). IsTrue (is_signal_name x.name))
  all_spelled spelled (k ∷ to) [] within = All-nil (λ (x : Signal). IsTrue (is_signal_name x.name))
  all_spelled spelled (k ∷ to) (x ∷ xs) within =
      All-cons (λ (y : Signal). IsTrue (is_signal_name y.name)) (named_as k x) (named_signals whole to xs)
      (spelled_at spelled k (within 0 (omega arith)))
      (all_spelled spelled to xs (λ z below. within (suc z) (omega (arith, below))))

-- ---- insertions with other names
insert_names_are : (names : List (List ℕ)) (inserts : List Insertion) → length names ≡ length inserts
    → map (λ i. i.name) (named_inserts names inserts) ≡ names
insert_names_are [] inserts many = refl
insert_names_are (name ∷ names) [] many = absurd (omega (arith, many))
insert_names_are (name ∷ names) (i ∷ inserts) many =
    ap (λ (ws : List (List ℕ)). name ∷ ws) (insert_names_are names inserts (omega (arith, many)))

all_insertions : (names : List (List ℕ)) (inserts : List Insertion) → All IsInsertion inserts
    → All IsInsertion (named_inserts names inserts)
all_insertions [] inserts all = All-nil IsInsertion
all_insertions (name ∷ names) [] all = All-nil IsInsertion
all_insertions (name ∷ names) (i ∷ inserts) all =
    All-cons IsInsertion (record { name = name; up = i.up; down = i.down }) (named_inserts names inserts)
    (renamed (All-head IsInsertion i inserts all))
    (all_insertions names inserts (All-tail IsInsertion i inserts all))
  where
    renamed : IsInsertion i → IsInsertion (record { name = name; up = i.up; down = i.down })
    renamed is = record {
      some_up = is.some_up;
      some_down = is.some_down;
      words_up = is.words_up;
      words_down = is.words_down;
    }

-- ---- a part with these names is a netlist
pub named_is_netlist : (whole : List Signal) (to : List ℕ) (n : Netlist) → IsNetlist n → length to ≡ length n.signals
    → AreNamed whole → ((z : ℕ) → z < length n.signals → slice_index to z < length whole)
    → AreDistinct (named_signals whole to n.signals) → IsNetlist (with_signals (named_signals whole to n.signals) n)
named_is_netlist whole to n is placed spelled within distinct =
    let signals = named_signals whole to n.signals in
    let size : length signals ≡ length n.signals = as_many whole to n.signals placed in
    let inserted : length (names_of Inserted signals) ≡ length n.inserts = as_many_names in
    record {
      model = is.model;
      no_brace = is.no_brace;
      names = all_spelled whole spelled to n.signals within;
      distinct = distinct;
      kinds = λ j k d before inside. (
          let first = ap kind_place (kind_at whole to n.signals j d placed) in
          let second = ap kind_place (kind_at whole to n.signals k d placed) in
          let order = is.kinds j k d before (omega (arith, inside, size)) in
          omega (arith, first, second, order));
      few = omega (arith, size, is.few);
      start = subst (λ (k : ℕ). n.start < 2 ^ k) (sym size) is.start;
      insert_names = insert_names_are (names_of Inserted signals) n.inserts inserted;
      inserts = all_insertions (names_of Inserted signals) n.inserts is.inserts;
      gate_count = is.gate_count ∙ sym (as_many_pass whole is_driven to n.signals placed);
      gates = subst (λ (k : ℕ). All (IsGate k) n.gates) (sym size) is.gates;
    }
  where
    inserted_in : List Signal → List Signal
    inserted_in xs = filter (λ (x : Signal). same_kind Inserted x.kind) xs

    as_many_names : length (names_of Inserted (named_signals whole to n.signals)) ≡ length n.inserts
    as_many_names =
        length-map (inserted_in (named_signals whole to n.signals)) (λ (x : Signal). x.name)
        ∙ as_many_pass whole (same_kind Inserted) to n.signals placed
        ∙ sym (length-map (inserted_in n.signals) (λ (x : Signal). x.name))
        ∙ sym (ap (length {A = List ℕ}) is.insert_names) ∙ length-map n.inserts (λ (i : Insertion). i.name)
