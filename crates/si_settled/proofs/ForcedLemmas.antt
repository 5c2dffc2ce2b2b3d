-- What is known as gates are shown, and what is left as outputs are left out.
use Rattle.std.proofs.Common.{◌≡◌, ℕ, ◌<◌, ◌⊎◌, ◌↔◌, Bool, true, List, [], ◌∷◌, ◌++◌, refl, sym, ap, subst, ◌∙◌, arith}
use Rattle.std.proofs.Common.{inl, inr, length, get_or, remove, slice_get, All, Contains, IsTrue, filter}
use Rattle.std.proofs.Common.{append_assoc, ap₂, bit_or, drop, suc, take, ◌-◌, ◌≤◌}
use Rattle.std.proofs.lemmas.List.{take_all}
use mathlib.Core.Path.{fun_ext}
use Rattle.si_base.specs.Bits.{bit, IsSet}
use Rattle.si_base.specs.Graph.{IsNonInput}
use Rattle.si_base.specs.Netlist.{Netlist, gate_place}
use Rattle.si_netlist.specs.Reads.{MarksExactly}
use Rattle.si_loops.specs.Arcs.{gated}
use Rattle.si_settled.specs.Loops.Known.{IsShownBy}
use Rattle.si_settled.specs.Settling.{AreForced, AreSettling, ComesTo, Drops, IsShown, ShownInTurn, Suffices, inputs_of, is_among}
use Rattle.si_settled.specs.Settling.{shows_if_there}
use Rattle.si_settled.proofs.CodeLemmas.{marks_both, others_stay, set_more}
use Rattle.si_settled.proofs.Forcing.{gate_there}
use Rattle.si_settled.proofs.Rounding.{tail_there}
use Rattle.si_settled.proofs.Showing.{among_there, there_among}
use Rattle.si_settled.proofs.Turns.{all_suffice, suffice_all, turn_more}

-- ---- what is known
shown_by_list : (n : Netlist) (signals : List ℕ) (code z : ℕ) → MarksExactly (is_among signals) code
    → IsShownBy n code z → IsShown n signals z
shown_by_list n signals code z marks shown =
    let P : (ℕ → Bool) → Type 0 = λ known. IsTrue (shows_if_there known n.start
    (slice_get n.gates (gate_place n.signals z)) (bit n.start z)) in
    subst P (fun_ext marks) shown

shown_by_code : (n : Netlist) (signals : List ℕ) (code z : ℕ) → MarksExactly (is_among signals) code
    → IsShown n signals z → IsShownBy n code z
shown_by_code n signals code z marks shown =
    let P : (ℕ → Bool) → Type 0 = λ known. IsTrue (shows_if_there known n.start
    (slice_get n.gates (gate_place n.signals z)) (bit n.start z)) in
    subst P (sym (fun_ext marks)) shown

-- from those that are held gates were shown in turn, the code has those that are known, and the gates that aren't
-- are left
pub record Going (n : Netlist) (held left : List ℕ) (code : ℕ) : Type 0 where
  pub order : List ℕ
  pub end : List ℕ
  pub in_turn : ShownInTurn n held order end
  pub marks : MarksExactly (is_among end) code
  pub others : (z : ℕ) → IsNonInput n.signals z → Contains end z ⊎ Contains left z

pub going_first : (n : Netlist) (held left : List ℕ) (code : ℕ) → left ≡ gated n.signals
    → MarksExactly (is_among held) code → Going n held left code
going_first n held left code is marks = record {
  order = [];
  end = held;
  in_turn = refl;
  marks = marks;
  others = λ z gate. inr (subst (λ (l : List ℕ). Contains l z) (sym is) (gate_there n.signals z gate));
}

pub going_more : (n : Netlist) (held left : List ℕ) (code k z new : ℕ) (fewer : List ℕ) → k < length left
    → All (IsNonInput n.signals) left → IsShownBy n code z → z ≡ get_or left k 0 → IsSet code z true new
    → fewer ≡ remove left k → Going n held left code → Going n held fewer new
going_more n held left code k z new fewer within gates shown is set less going = record {
  order = going.order ++ z ∷ [];
  end = z ∷ going.end;
  in_turn = turn_more n held going.order going.end z going.in_turn (subst (IsNonInput n.signals) (sym is) (gates k 0 within))
      (shown_by_list n going.end code z going.marks shown);
  marks = set_more going.end z code new going.marks set;
  others = λ a gate. others a (going.others a gate);
}
  where
    others : (a : ℕ) → Contains going.end a ⊎ Contains left a → Contains (z ∷ going.end) a ⊎ Contains fewer a
    others a (inl there) = inl (tail_there z a going.end there)
    others a (inr there) = elim (others_stay left k a within there) [
      | inl same ↦ inl (0, omega arith, is ∙ sym same)
      | inr stays ↦ inr (subst (λ (l : List ℕ). Contains l a) (sym less) stays)
    ]

pub going_last : (n : Netlist) (held left : List ℕ) (code : ℕ) → All (λ z. IsShownBy n code z → ⊥) left
    → Going n held left code → (end : List ℕ) × ComesTo n held end × MarksExactly (is_among end) code
going_last n held left code none going = (
  going.end,
  record {
    order = going.order;
    in_turn = going.in_turn;
    stops = λ z gate shown. stops z (shown_by_code n going.end code z going.marks shown) (going.others z gate);
  },
  going.marks,
)
  where
    stops : (z : ℕ) → IsShownBy n code z → Contains going.end z ⊎ Contains left z → Contains going.end z
    stops z shown (inl there) = there
    stops z shown (inr there) =
        absurd (none there.0 z there.1 (subst (IsShownBy n code) (sym there.2) shown))

-- all signals are known in the end exactly where those that are held suffice
pub enough : (n : Netlist) (held : List ℕ) (code : ℕ)
    → ((end : List ℕ) × ComesTo n held end × MarksExactly (is_among end) code)
    → ((z : ℕ) → z < length n.signals → bit code z ≡ true) ↔ Suffices n held
enough n held code (end, comes, marks) = (
  (λ all. all_suffice n held end comes (λ a small. among_there end a (sym (marks a) ∙ all a small))),
  (λ suffices a small. marks a ∙ there_among end a (suffice_all n held end comes suffices a small)),
)

-- ---- what is left
-- with these kept before: however the others are gone over, all gates are gone over so
abbrev pub LeftOut : Netlist → List ℕ → List ℕ → Type 0
LeftOut n before left = (forced : List ℕ) → Drops n (inputs_of n.signals) before left forced → AreForced n forced

pub one_dropped : (n : Netlist) (before left rest : List ℕ) (z : ℕ) → left ≡ z ∷ rest
    → Suffices n (inputs_of n.signals ++ (before ++ rest)) → LeftOut n before left → LeftOut n before rest
one_dropped n before left rest z is enough so_far forced drops =
    let P : List ℕ → Type 0 = λ l. Drops n (inputs_of n.signals) before l forced in
    so_far forced (subst P (sym is) (inl (enough, drops)))

pub one_forced : (n : Netlist) (before left rest : List ℕ) (z : ℕ) → left ≡ z ∷ rest
    → (Suffices n (inputs_of n.signals ++ (before ++ rest)) → ⊥) → LeftOut n before left
    → LeftOut n (before ++ z ∷ []) rest
one_forced n before left rest z is needed so_far forced drops =
    let P : List ℕ → Type 0 = λ l. Drops n (inputs_of n.signals) before l forced in
    so_far forced (subst P (sym is) (inr (needed, drops)))

-- ---- by codes

pub held_marks : (xs ys zs : List ℕ) (a b c : ℕ) → MarksExactly (is_among xs) a → MarksExactly (is_among ys) b
    → MarksExactly (is_among zs) c → MarksExactly (is_among (xs ++ (ys ++ zs))) (bit_or (bit_or a b) c)
held_marks xs ys zs a b c one two three =
    subst (λ (l : List ℕ). MarksExactly (is_among l) (bit_or (bit_or a b) c)) (append_assoc xs ys zs)
    (marks_both (xs ++ ys) zs (bit_or a b) c (marks_both xs ys a b one two) three)

-- what is known in the end of some signals, by their code
abbrev pub EndOf : Netlist → ℕ → ℕ → Type 0
EndOf n held known = (signals : List ℕ) → MarksExactly (is_among signals) held
    → (end : List ℕ) × ComesTo n signals end × MarksExactly (is_among end) known

pub settling_by : (n : Netlist) (inputs gates items : List ℕ) (code known : ℕ) → inputs ≡ inputs_of n.signals
    → MarksExactly (is_among inputs) code → EndOf n code known → gates ≡ gated n.signals
    → items ≡ filter (bit known) gates → AreSettling n items
settling_by n inputs gates items code known inputs_are marks ends gates_are are =
    let marked : MarksExactly (is_among (inputs_of n.signals)) code =
    subst (λ (l : List ℕ). MarksExactly (is_among l) code) inputs_are marks in
    let to = ends (inputs_of n.signals) marked in
    record {
      end = to.0;
      comes = to.1;
      are = are ∙ ap (λ (p : ℕ → Bool). filter p gates) (fun_ext to.2) ∙ ap (filter (is_among to.0)) gates_are;
    }

marks_as : (xs ys : List ℕ) (code other : ℕ) → xs ≡ ys → other ≡ code → MarksExactly (is_among xs) code
    → MarksExactly (is_among ys) other
marks_as xs ys code other same is marks =
    subst (λ (l : List ℕ). MarksExactly (is_among l) other) same
    (subst (λ (k : ℕ). MarksExactly (is_among xs) k) (sym is) marks)

-- whether the inputs, the outputs that are kept and those that are left suffice, by their codes
pub told_by_codes : (n : Netlist) (undriven kept before rest : List ℕ) (i k r a b c : ℕ) (told : Bool)
    → undriven ≡ inputs_of n.signals → kept ≡ before → a ≡ i → b ≡ k → c ≡ r
    → MarksExactly (is_among undriven) i → MarksExactly (is_among kept) k → MarksExactly (is_among rest) r
    → ((signals : List ℕ) → MarksExactly (is_among signals) (bit_or (bit_or a b) c)
    → (IsTrue told ↔ Suffices n signals))
    → IsTrue told ↔ Suffices n (inputs_of n.signals ++ (before ++ rest))
told_by_codes n undriven kept before rest i k r a b c told inputs_are kept_are is_a is_b is_c inputs_marks kept_marks rest_marks tells =
    tells (inputs_of n.signals ++ (before ++ rest)) (held_marks (inputs_of n.signals) before rest a b c
    (marks_as undriven (inputs_of n.signals) i a inputs_are is_a inputs_marks)
    (marks_as kept before k b kept_are is_b kept_marks) (marks_as rest rest r c refl is_c rest_marks))

-- a list with an element, taken apart
pub first_and_rest : (left : List ℕ) (z : ℕ) → 1 ≤ length left → z ≡ get_or left 0 z
    → left ≡ z ∷ take (length left - 1) (drop 1 left)
first_and_rest [] z some is = absurd (omega (arith, some))
first_and_rest (x ∷ xs) z some is =
    let all : take (length (x ∷ xs) - 1) xs ≡ xs = take_all (length (x ∷ xs) - 1) xs (omega arith) in
    ap₂ (λ (y : ℕ) (l : List ℕ). y ∷ l) (sym is) (sym all)

pub rest_all : (P : ℕ → Type 0) (left rest : List ℕ) (z : ℕ) → left ≡ z ∷ rest → All P left → All P rest
rest_all P left rest z is all i d within =
    subst (All P) is all (suc i) d (omega (arith, within))
