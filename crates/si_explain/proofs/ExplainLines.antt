-- The lines of conflicts, one call after another.
use Rattle.std.proofs.Common.{◌≡◌, ℕ, ◌+◌, ◌<◌, ◌≤◌, ◌∙◌, ◌++◌, List, [], ◌∷◌, take, flat_map, length, get_or, Contains}
use Rattle.std.proofs.Common.{Bool, true, false, true≢false, Option, Some, None, if◌then◌else◌, refl, sym, ap, subst}
use Rattle.std.proofs.Common.{arith, append_assoc, codes, decimal, inl, inr}
use Rattle.std.proofs.lemmas.Grind.{flat_map-append}
use Rattle.std.proofs.lemmas.List.{append-nil, map-append, take_more, take_all, get_or-map, length-map}
use Rattle.std.proofs.lemmas.List.Elements.{Contains-append_cases, Contains-push_cases}
use Rattle.std.specs.List.{list_any}
use Rattle.si_base.specs.declared.graph.Signal.{Signal}
use Rattle.si_base.specs.Codes.{CodedGraph, code}
use Rattle.si_base.specs.NetlistText.{bits_from, word_if_any}
use Rattle.si_base.specs.Words.{line, text_of}
use Rattle.si_conflicts.specs.declared.conflicts.Pair.{Pair}
use Rattle.si_conflicts.specs.Conflicts.{HasConflicts, AreFirstConflicts, pairs_of}
use Rattle.si_base.specs.Proper.{IsConflict}
use Rattle.si_graph.proofs.ListMembers.{Contains-cons_cases, Contains-nil}
use Rattle.si_walks.specs.Twins.{IsFirstTwinOrNone}
use Rattle.si_kin.specs.Kin.{IsFirstKinOrNone}
use Rattle.std.proofs.lemmas.Option.{same_Some}
use Rattle.si_sg.specs.CanonicalText.{state_at}
use Rattle.si_words.proofs.SumWordLemmas.{list_any-map}
use Rattle.si_walks.specs.Joined.{Source}
use Rattle.si_explain.specs.ExplainText.{max_explained, enabled_events, Explained, IsExplained, events_line}
use Rattle.si_explain.specs.ExplainText.{inputs_line}
use Rattle.si_explain.specs.ExplainText.{meaning, source_lines, explained_lines, count_line, explain_text}
use Rattle.si_explain.specs.ExplainText.{further, kin_meaning, same_pair, tells_kin, tells_twins, twin_meaning}
use Rattle.si_explain.specs.ExplainText.{unresolvable_lines, with_further}
use Rattle.si_explain.specs.ExplainText.{IsExplainText, Explains, ExplainsAll}

-- ---- the lines of a source
three : (text a b c : List ℕ) → ((text ++ a) ++ b) ++ c ≡ text ++ (a ++ (b ++ (c ++ [])))
three text a b c = simp (append_assoc, append-nil)

pub source_by_calls : (text : List ℕ) (signals : List Signal) (states : List (List ℕ)) (p q : ℕ) (x : Source)
    (one other first second third : List ℕ) → one ≡ state_at states p → other ≡ state_at states q
    → first ≡ text ++ line (inputs_line signals states x.state p x.first)
    → second ≡ first ++ line (inputs_line signals states x.state q x.second)
    → third ≡ second ++ line (codes "unresolvable" ∷ one ∷ other ∷ meaning ∷ [])
    → third ≡ text ++ text_of (source_lines signals states (p, q) (Some x))
source_by_calls text signals states p q x one other first second third d0 d1 e1 e2 e3 =
    rw (e3, e2, e1, d0, d1) (three text (line (inputs_line signals states x.state p x.first))
    (line (inputs_line signals states x.state q x.second))
    (line (codes "unresolvable" ∷ state_at states p ∷ state_at states q ∷ meaning ∷ [])))

-- ---- the line that tells why no insertions resolve it
pub unresolvable_by_call : (text : List ℕ) (states : List (List ℕ)) (p q : ℕ) (why : List ℕ) (told : Bool)
    (one other new : List ℕ) → told ≡ true → one ≡ state_at states p → other ≡ state_at states q
    → new ≡ text ++ line (codes "unresolvable" ∷ one ∷ other ∷ why ∷ [])
    → new ≡ text ++ text_of (unresolvable_lines states (p, q) why told)
unresolvable_by_call text states p q why false one other new is d0 d1 e1 = absurd (true≢false (sym is))
unresolvable_by_call text states p q why true one other new is d0 d1 e1 =
    let told = line (codes "unresolvable" ∷ state_at states p ∷ state_at states q ∷ why ∷ []) in
    rw (e1, d0, d1) (ap (λ (t : List ℕ). text ++ t) (sym (append-nil told)))

-- ---- the lines of a conflict
nine : (text a b c d e f g h rest : List ℕ) → ((((((((text ++ a) ++ b) ++ c) ++ d) ++ e) ++ f) ++ g) ++ h) ++ rest
    ≡ text ++ (a ++ (b ++ (c ++ (d ++ (e ++ (f ++ (g ++ (h ++ rest))))))))
nine text a b c d e f g h rest = simp append_assoc

pub conflict_by_calls : (c : CodedGraph) (states : List (List ℕ)) (x : Explained)
    (text one other first second third fourth fifth sixth seventh eighth last : List ℕ) → one ≡ state_at states x.pair.0
    → other ≡ state_at states x.pair.1 → first ≡ text ++ line (codes "conflict" ∷ one ∷ other ∷ [])
    → second ≡ first ++ line (codes "code" ∷ word_if_any (bits_from 0 c.graph.signals (code c x.pair.0)))
    → third ≡ second ++ line (events_line (codes "enables") c.graph.signals states x.pair.0
    (enabled_events c.graph x.pair.0))
    → fourth ≡ third ++ line (events_line (codes "enables") c.graph.signals states x.pair.1
    (enabled_events c.graph x.pair.1))
    → fifth ≡ fourth ++ line (events_line (codes "walk") c.graph.signals states x.pair.0 x.to_first)
    → sixth ≡ fifth ++ line (events_line (codes "walk") c.graph.signals states x.pair.1 x.to_second)
    → seventh ≡ sixth ++ text_of (source_lines c.graph.signals states x.pair x.source)
    → eighth ≡ seventh ++ text_of (unresolvable_lines states x.pair twin_meaning (tells_twins x.source x.twins))
    → last ≡ eighth ++ text_of (unresolvable_lines states x.pair kin_meaning (tells_kin x.source x.twins x.kin))
    → last ≡ text ++ text_of (explained_lines c states x)
conflict_by_calls c states x text one other first second third fourth fifth sixth seventh eighth last
    d0 d1 e1 e2 e3 e4 e5 e6 e7 e8 e9 =
    let signals = c.graph.signals in
    let sources = source_lines signals states x.pair x.source in
    let twins = unresolvable_lines states x.pair twin_meaning (tells_twins x.source x.twins) in
    let kin = unresolvable_lines states x.pair kin_meaning (tells_kin x.source x.twins x.kin) in
    let conflict = line (codes "conflict" ∷ state_at states x.pair.0 ∷ state_at states x.pair.1 ∷ []) in
    let code_line = line (codes "code" ∷ word_if_any (bits_from 0 signals (code c x.pair.0))) in
    let enables_first =
    line (events_line (codes "enables") signals states x.pair.0 (enabled_events c.graph x.pair.0)) in
    let enables_second =
    line (events_line (codes "enables") signals states x.pair.1 (enabled_events c.graph x.pair.1)) in
    let walk_first = line (events_line (codes "walk") signals states x.pair.0 x.to_first) in
    let walk_second = line (events_line (codes "walk") signals states x.pair.1 x.to_second) in
    let in_front : List ℕ → List ℕ = λ t. text ++ (conflict ++ (code_line ++ (enables_first ++ (enables_second
    ++ (walk_first ++ (walk_second ++ t)))))) in
    rw (e9, e8, e7, e6, e5, e4, e3, e2, e1, d0, d1) (nine text conflict code_line enables_first enables_second
    walk_first walk_second (text_of sources) (text_of twins) (text_of kin))
    ∙ ap (λ (t : List ℕ). in_front (text_of sources ++ t)) (sym (flat_map-append line twins kin))
    ∙ ap in_front (sym (flat_map-append line sources (twins ++ kin)))

-- ---- one conflict after another
abbrev pub pair_of : Explained → ℕ × ℕ
pair_of x = x.pair

abbrev lines_of : CodedGraph → List (List ℕ) → Explained → List ℕ
lines_of c states x = text_of (explained_lines c states x)

pub none_explained : (c : CodedGraph) (states : List (List ℕ)) (pairs : List Pair) (text : List ℕ)
    → ExplainsAll c states (pairs_of (take 0 pairs)) text text
none_explained c states pairs text = record {
  explained = [];
  pairs_are = refl;
  each = λ x there. absurd (Contains-nil x there);
  added = sym (append-nil text);
}

pub one_more_explained : (c : CodedGraph) (states : List (List ℕ)) (pairs : List Pair) (n : ℕ) (pair : Pair)
    (old text new : List ℕ) → n < length pairs → pair ≡ get_or pairs n pair
    → ExplainsAll c states (pairs_of (take n pairs)) old text → Explains c states (pair.p, pair.q) text new
    → ExplainsAll c states (pairs_of (take (n + 1) pairs)) old new
one_more_explained c states pairs n pair old text new within at so_far one =
    let As : Pair → ℕ × ℕ = λ y. (y.p, y.q) in
    let taken : take n pairs ++ pair ∷ [] ≡ take (n + 1) pairs =
    ap (λ (y : Pair). take n pairs ++ y ∷ []) at ∙ sym (take_more pairs n pair within) in
    let x = one.explained in
    record {
      explained = so_far.explained ++ x ∷ [];
      pairs_are = map-append pair_of so_far.explained (x ∷ [])
          ∙ ap (λ (l : List (ℕ × ℕ)). l ++ x.pair ∷ []) so_far.pairs_are
          ∙ ap (λ (y : ℕ × ℕ). pairs_of (take n pairs) ++ y ∷ []) one.pair_is
          ∙ sym (map-append As (take n pairs) (pair ∷ [])) ∙ ap pairs_of taken;
      each = λ y there. elim (Contains-push_cases so_far.explained x y there) [
        | inl earlier ↦ so_far.each y earlier
        | inr same ↦ subst (IsExplained c) same one.is
      ];
      added = one.added ∙ ap (λ (t : List ℕ). t ++ lines_of c states x) so_far.added
          ∙ append_assoc old (flat_map (lines_of c states) so_far.explained) (lines_of c states x)
          ∙ ap (λ (t : List ℕ). old ++ (flat_map (lines_of c states) so_far.explained ++ t))
          (sym (append-nil (lines_of c states x)))
          ∙ ap (λ (t : List ℕ). old ++ t) (sym (flat_map-append (lines_of c states) so_far.explained (x ∷ [])));
    }

-- the states of the pairs are states of the graph
pub pair_within : (c : CodedGraph) (pairs : List Pair) (n : ℕ) (pair : Pair)
    → ((x : ℕ × ℕ) → Contains (pairs_of pairs) x → IsConflict c x) → n < length pairs → pair ≡ get_or pairs n pair
    → (pair.p < c.graph.states) × (pair.q < c.graph.states)
pair_within c pairs n pair are within at =
    let As : Pair → ℕ × ℕ = λ y. (y.p, y.q) in
    let there : Contains (pairs_of pairs) (pair.p, pair.q) = (
      n,
      omega (arith, within, length-map pairs As),
      get_or-map As pairs n pair (pair.p, pair.q) within ∙ ap As (sym at),
    ) in
    let is = are (pair.p, pair.q) there in
    (omega (arith, is.order, is.within), is.within)

pub all_explained : (c : CodedGraph) (states : List (List ℕ)) (pairs : List Pair) (n : ℕ) (old new : List ℕ)
    → length pairs ≤ n → ExplainsAll c states (pairs_of (take n pairs)) old new
    → ExplainsAll c states (pairs_of pairs) old new
all_explained c states pairs n old new all is =
    subst (λ (l : List Pair). ExplainsAll c states (pairs_of l) old new) (take_all n pairs all) is

-- the first conflicts, and what is put behind them
further_conflict : (c : CodedGraph) (pairs : List (ℕ × ℕ)) (found : Option (ℕ × ℕ))
    → ((x : ℕ × ℕ) → Contains pairs x → IsConflict c x) → ((x : ℕ × ℕ) → found ≡ Some x → IsConflict c x)
    → (x : ℕ × ℕ) → Contains (with_further pairs found) x → IsConflict c x
further_conflict c pairs found are is x there = elim (Contains-append_cases pairs (further pairs found) x there) [
  | inl early ↦ are x early
  | inr late ↦ of_found found is late
]
  where
    of_found : (found : Option (ℕ × ℕ)) → ((y : ℕ × ℕ) → found ≡ Some y → IsConflict c y)
        → Contains (further pairs found) x → IsConflict c x
    of_found None is late = absurd (Contains-nil x late)
    of_found (Some y) is late = told (list_any (same_pair y) pairs) late
      where
        told : (b : Bool) → Contains (if b then [] else y ∷ []) x → IsConflict c x
        told true none = absurd (Contains-nil x none)
        told false here = elim (Contains-cons_cases y [] x here) [
          | inl same ↦ subst (IsConflict c) same (is y refl)
          | inr none ↦ absurd (Contains-nil x none)
        ]

twin_conflict : (c : CodedGraph) (twin : Option (ℕ × ℕ)) → IsFirstTwinOrNone c twin → (x : ℕ × ℕ)
    → twin ≡ Some x → IsConflict c x
twin_conflict c None is x same = cc
twin_conflict c (Some y) is x same = subst (IsConflict c) (same_Some y x same) is.1.holds.conflict

kin_conflict : (c : CodedGraph) (kin : Option (ℕ × ℕ)) → IsFirstKinOrNone c kin → (x : ℕ × ℕ)
    → kin ≡ Some x → IsConflict c x
kin_conflict c None is x same = cc
kin_conflict c (Some y) is x same = subst (IsConflict c) (same_Some y x same) is.holds.conflict

-- the first conflicts, the first of twins and the first of kin
pub each_conflict : (c : CodedGraph) (pairs : List (ℕ × ℕ)) (twin kin : Option (ℕ × ℕ))
    → AreFirstConflicts c max_explained pairs → IsFirstTwinOrNone c twin → IsFirstKinOrNone c kin → (x : ℕ × ℕ)
    → Contains (with_further (with_further pairs twin) kin) x → IsConflict c x
each_conflict c pairs twin kin are is_twin is_kin =
    further_conflict c (with_further pairs twin) kin
    (further_conflict c pairs twin are.each (twin_conflict c twin is_twin)) (kin_conflict c kin is_kin)

-- what is put last
abbrev As : Pair → ℕ × ℕ
As x = (x.p, x.q)

among_pairs : (pairs : List Pair) (x : ℕ × ℕ) → list_any (λ y. same_pair x (y.p, y.q)) pairs
    ≡ list_any (same_pair x) (pairs_of pairs)
among_pairs pairs x = list_any-map As (same_pair x) pairs

pub pair_there : (pairs : List Pair) (p q : ℕ) → list_any (λ x. same_pair (p, q) (x.p, x.q)) pairs ≡ true
    → pairs_of pairs ≡ with_further (pairs_of pairs) (Some (p, q))
pair_there pairs p q there =
    let told = sym (among_pairs pairs (p, q)) ∙ there in
    sym (append-nil (pairs_of pairs))
    ∙ ap (λ (b : Bool). pairs_of pairs ++ (if b then [] else (p, q) ∷ [])) (sym told)

pub pair_added : (pairs new : List Pair) (p q : ℕ) → list_any (λ x. same_pair (p, q) (x.p, x.q)) pairs ≡ false
    → new ≡ pairs ++ (record { p = p; q = q }) ∷ []
    → pairs_of new ≡ with_further (pairs_of pairs) (Some (p, q))
pair_added pairs new p q not_there is =
    let told = sym (among_pairs pairs (p, q)) ∙ not_there in
    let last : Pair = record { p = p; q = q } in
    ap pairs_of is ∙ map-append As pairs (last ∷ [])
    ∙ ap (λ (b : Bool). pairs_of pairs ++ (if b then [] else (p, q) ∷ [])) (sym told)

pub text_by_calls : (c : CodedGraph) (states : List (List ℕ)) (count : ℕ) (firsts : List (ℕ × ℕ))
    (twin kin : Option (ℕ × ℕ)) (pairs : List (ℕ × ℕ))
    (number empty first all : List ℕ) → HasConflicts c count → AreFirstConflicts c max_explained firsts
    → IsFirstTwinOrNone c twin → IsFirstKinOrNone c kin → pairs ≡ with_further (with_further firsts twin) kin
    → number ≡ decimal count → empty ≡ codes "" → first ≡ empty ++ line (codes "conflicts" ∷ number ∷ [])
    → ExplainsAll c states pairs first all → IsExplainText c states all
unfolding explain_text
text_by_calls c states count firsts twin kin pairs number empty first all counted are is_twin is_kin pairs_are
    e1 e2 e3 explains =
    let head : first ≡ text_of (count_line count ∷ []) =
    e3 ∙ rw (e2, e1) (sym (append-nil (line (count_line count)))) in
    record {
      count = count;
      counted = counted;
      pairs = firsts;
      first = are;
      twin = twin;
      first_twin = is_twin;
      kin = kin;
      first_kin = is_kin;
      explained = explains.explained;
      pairs_are = explains.pairs_are ∙ pairs_are;
      each = explains.each;
      text_is =
          explains.added ∙ ap (λ (t : List ℕ). t ++ flat_map (lines_of c states) explains.explained) head;
    }
