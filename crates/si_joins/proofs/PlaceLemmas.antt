-- Places of signals, one after another, and the gates of parts that stand there.
use Rattle.std.proofs.Common.{◌≡◌, ℕ, zero, suc, ◌+◌, ◌<◌, ◌==◌, ◌&&◌, Bool, true, false, List, [], ◌∷◌, ◌++◌}
use Rattle.std.proofs.Common.{drop, get_or, length, Option, Some}
use Rattle.std.proofs.Common.{append_assoc, refl, sym, ap, subst, ◌∙◌}
use Rattle.std.proofs.Common.{arith, if◌then◌else◌, inl, inr, ne_eqb}
use Rattle.std.proofs.lemmas.Bool.{cases_Bool}
use Rattle.si_base.specs.declared.graph.Signal.{Signal}
use Rattle.si_base.specs.Graph.{IsNonInput, is_driven}
use Rattle.si_base.specs.Netlist.{Gate, Netlist}
use Rattle.si_base.specs.System.{is_inserted}
use Rattle.si_joins.specs.Gates.{all_places, driven_at, gate_or, joined_gate, place_of, places}
use Rattle.si_joins.specs.Loops.Parts.{ArePlaced}

-- ---- a list from a place on
pub opened : {X : Type 0} (xs : List X) (k : ℕ) (x : X) → k < length xs → x ≡ get_or xs k x
    → drop k xs ≡ x ∷ drop (k + 1) xs
opened [] k x below at = absurd (omega (arith, below))
opened {X} (y ∷ ys) zero x below at = ap (λ (z : X). z ∷ ys) (sym at)
opened {X} (y ∷ ys) (suc k) x below at =
    let on : suc (k + 1) ≡ suc k + 1 = omega arith in
    subst (λ (n : ℕ). drop k ys ≡ x ∷ drop n (y ∷ ys)) on (opened ys k x (omega (arith, below)) at)

-- ---- the places of a part's signals
module _ (whole own : List Signal) (all old : List ℕ) (next k : ℕ)
    (so_far : old ++ places whole next (drop k own) ≡ all) (x : Signal) (below : k < length own) (at : x ≡ get_or own k x)
  where
    pub inserted_place : is_inserted x.kind ≡ true → (old ++ next ∷ []) ++ places whole (next + 1) (drop (k + 1) own) ≡ all
    inserted_place is =
        let later = places whole (next + 1) (drop (k + 1) own) in
        let first : places whole next (x ∷ drop (k + 1) own) ≡ next ∷ later = rw is refl in
        append_assoc old (next ∷ []) later ∙ ap (λ (ps : List ℕ). old ++ ps) (sym first)
        ∙ ap (λ (ys : List Signal). old ++ places whole next ys) (sym (opened own k x below at)) ∙ so_far

    pub given_place : is_inserted x.kind ≡ false
        → (old ++ place_of whole x.name ∷ []) ++ places whole next (drop (k + 1) own) ≡ all
    given_place is =
        let later = places whole next (drop (k + 1) own) in
        let first : places whole next (x ∷ drop (k + 1) own) ≡ place_of whole x.name ∷ later = rw is refl in
        append_assoc old (place_of whole x.name ∷ []) later ∙ ap (λ (ps : List ℕ). old ++ ps) (sym first)
        ∙ ap (λ (ys : List Signal). old ++ places whole next ys) (sym (opened own k x below at)) ∙ so_far

pub as_many_places : (whole : List Signal) (next : ℕ) (own : List Signal) → length (places whole next own) ≡ length own
as_many_places whole next [] = refl
as_many_places whole next (x ∷ xs) =
    by_kind (is_inserted x.kind) (ap suc (as_many_places whole (next + 1) xs)) (ap suc (as_many_places whole next xs))
  where
    by_kind : (b : Bool) → suc (length (places whole (next + 1) xs)) ≡ suc (length xs)
        → suc (length (places whole next xs)) ≡ suc (length xs)
        → length (if b then next ∷ places whole (next + 1) xs else place_of whole x.name ∷ places whole next xs)
        ≡ suc (length xs)
    by_kind true one other = one
    by_kind false one other = other

-- ---- of all parts
pub part_places : (whole : List Signal) (parts : List Netlist) (all old : List (List ℕ)) (next k : ℕ) (n : Netlist)
    (to : List ℕ) → old ++ all_places whole next (drop k parts) ≡ all → k < length parts → n ≡ get_or parts k n
    → to ≡ places whole next n.signals
    → (old ++ to ∷ []) ++ all_places whole (next + length n.inserts) (drop (k + 1) parts) ≡ all
part_places whole parts all old next k n to so_far below at is =
    let later = all_places whole (next + length n.inserts) (drop (k + 1) parts) in
    append_assoc old (to ∷ []) later ∙ ap (λ (ps : List ℕ). old ++ ps ∷ later) is
    ∙ ap (λ (ys : List Netlist). old ++ all_places whole next ys) (sym (opened parts k n below at)) ∙ so_far

pub are_placed : (whole : List Signal) (next : ℕ) (parts : List Netlist) → ArePlaced parts (all_places whole next parts)
are_placed whole next [] = tt
are_placed whole next (n ∷ parts) =
    (as_many_places whole next n.signals, are_placed whole (next + length n.inserts) parts)

pub placed_many : (parts : List Netlist) (tos : List (List ℕ)) → ArePlaced parts tos → length tos ≡ length parts
placed_many [] [] are = refl
placed_many [] (to ∷ tos) are = absurd are
placed_many (n ∷ parts) [] are = absurd are
placed_many (n ∷ parts) (to ∷ tos) are = ap suc (placed_many parts tos are.1)

pub placed_at : (parts : List Netlist) (tos : List (List ℕ)) (i : ℕ) (n : Netlist) (to : List ℕ) → ArePlaced parts tos
    → i < length parts → n ≡ get_or parts i n → to ≡ get_or tos i to → length to ≡ length n.signals
placed_at [] tos i n to are below at_n at_to = absurd (omega (arith, below))
placed_at (m ∷ parts) [] i n to are below at_n at_to = absurd are
placed_at (m ∷ parts) (t ∷ tos) zero n to are below at_n at_to =
    ap (λ (ps : List ℕ). length ps) at_to ∙ are.0 ∙ sym (ap (λ (k : Netlist). length k.signals) at_n)
placed_at (m ∷ parts) (t ∷ tos) (suc i) n to are below at_n at_to =
    placed_at parts tos i n to are.1 (omega (arith, below)) at_n at_to

-- ---- the signal that stands at k
module _ (k z : ℕ) (signals : List Signal) (to : List ℕ) (o : Option ℕ)
    (so_far : driven_at k z (drop z signals) (drop z to) ≡ o) where
  module _ (x : Signal) (p : ℕ) (below : z < length signals) (inside : z < length to) (at_x : x ≡ get_or signals z x)
      (at_p : p ≡ get_or to z p) where
    both_opened : driven_at k z (x ∷ drop (z + 1) signals) (p ∷ drop (z + 1) to) ≡ o
    both_opened =
        sym (ap (λ (ps : List ℕ). driven_at k z (x ∷ drop (z + 1) signals) ps) (opened to z p inside at_p))
        ∙ sym (ap (λ (xs : List Signal). driven_at k z xs (drop z to)) (opened signals z x below at_x)) ∙ so_far

    pub stands_elsewhere : is_driven x.kind ≡ true → (p ≡ k → ⊥)
        → driven_at k (z + 1) (drop (z + 1) signals) (drop (z + 1) to) ≡ o
    stands_elsewhere driven other =
        let first : driven_at k z (x ∷ drop (z + 1) signals) (p ∷ drop (z + 1) to)
        ≡ driven_at k (z + 1) (drop (z + 1) signals) (drop (z + 1) to) = rw (driven, ne_eqb p k other) refl in
        sym first ∙ both_opened

    pub stands_as_input : is_driven x.kind ≡ false → driven_at k (z + 1) (drop (z + 1) signals) (drop (z + 1) to) ≡ o
    stands_as_input given =
        let first : driven_at k z (x ∷ drop (z + 1) signals) (p ∷ drop (z + 1) to)
        ≡ driven_at k (z + 1) (drop (z + 1) signals) (drop (z + 1) to) = rw given refl in
        sym first ∙ both_opened

-- it is driven
pub driven_is : (k z : ℕ) (signals : List Signal) (to : List ℕ) (y : ℕ) → driven_at k z signals to ≡ Some y
    → (w : ℕ) × (y ≡ z + w) × IsNonInput signals w
driven_is k z [] to y is = cc
driven_is k z (x ∷ xs) [] y is = cc
driven_is k z (x ∷ xs) (p ∷ to) y is = elim (cases_Bool (is_driven x.kind && (p == k))) [
  | inl test ↦ (
      let here : Some z ≡ Some y = rw test at is in
      let same : z ≡ y = cc in
      (0, omega (arith, same), (x, refl, both (is_driven x.kind) (p == k) test)))
  | inr test ↦ (
      let later : driven_at k (z + 1) xs to ≡ Some y = rw test at is in
      let found = driven_is k (z + 1) xs to y later in
      (suc found.0, (let same = found.1 in omega (arith, same)), found.2))
]
  where
    both : (a b : Bool) → (a && b) ≡ true → a ≡ true
    both true b two = refl
    both false b two = two

-- ---- the gate that stands at k
module _ (n k i : ℕ) (parts : List Netlist) (tos : List (List ℕ)) (g : Gate)
    (so_far : joined_gate n (drop i parts) (drop i tos) k ≡ g) where
  module _ (m : Netlist) (to : List ℕ) (below : i < length parts) (inside : i < length tos) (at_m : m ≡ get_or parts i m)
      (at_to : to ≡ get_or tos i to) where
    gates_opened : joined_gate n (m ∷ drop (i + 1) parts) (to ∷ drop (i + 1) tos) k ≡ g
    gates_opened =
        sym (ap (λ (ts : List (List ℕ)). joined_gate n (m ∷ drop (i + 1) parts) ts k) (opened tos i to inside at_to))
        ∙ sym (ap (λ (ms : List Netlist). joined_gate n ms (drop i tos) k) (opened parts i m below at_m)) ∙ so_far

    pub gate_found : (o : Option ℕ) → o ≡ driven_at k 0 m.signals to
        → gate_or n m to (joined_gate n (drop (i + 1) parts) (drop (i + 1) tos) k) o ≡ g
    gate_found o is =
        ap (gate_or n m to (joined_gate n (drop (i + 1) parts) (drop (i + 1) tos) k)) is ∙ gates_opened
