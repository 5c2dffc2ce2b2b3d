-- Arcs added to arcs, each once: their number, and which arcs of a graph they are.
use Rattle.std.proofs.Common.{◌≡◌, ℕ, ◌+◌, ◌≤◌, ◌==◌, Bool, true, List, [], ◌∷◌, ◌++◌, length, map}
use Rattle.std.proofs.Common.{sym, ap, ap₂, subst, ◌∙◌, inl, inr, arith, append_assoc, Contains, nat_lt, ◌<◌}
use Rattle.std.proofs.Common.{take, get_or, ◌⊎◌}
use Rattle.std.specs.List.{fold, list_any}
use Rattle.std.proofs.lemmas.Bool.{cases_Bool, and_parts, le-ltb, eqb-true}
use Rattle.std.proofs.lemmas.List.{append-nil, length_push, map_push, take_more}
use Rattle.std.proofs.lemmas.List.Sums.{fold_push}
use Rattle.std.proofs.lemmas.List.Elements.{Contains-append_left, Contains-append_right, Contains-append_cases}
use Rattle.std.proofs.lemmas.Map.Views.{Contains-from_any}
use mathlib.Core.Bool.{beq}
use Rattle.si_base.specs.Limits.{max_arcs_read}
use Rattle.si_base.specs.declared.graph.Edge.{Edge}
use Rattle.si_base.proofs.GraphSteps.{beq-true}
use Rattle.si_graph.specs.Loops.Groups.{HaveSameArcs}
use Rattle.si_graph.proofs.ListMembers.{Contains-map, Contains-cons_cases, Contains-there}
use Rattle.si_sg.specs.declared.arc_set.Arc.{Arc}
use Rattle.si_sg.specs.GivenGraph.{edge_of}
use Rattle.si_sg.specs.Section.{with_arc, same_arc}

-- ---- their number

one_more : (arcs : List Arc) (a : Arc) → length (with_arc arcs a) ≤ length arcs + 1
one_more arcs a = elim (cases_Bool (list_any (same_arc a) arcs)) [
  | inl there ↦ rw there (omega arith)
  | inr new ↦ rw new (omega (arith, length_push arcs a))
]

pub at_most : (arcs more : List Arc) → length (fold with_arc arcs more) ≤ length arcs + length more
at_most arcs [] = omega arith
at_most arcs (a ∷ more) = omega (arith, one_more arcs a, at_most (with_arc arcs a) more)

pub one_taken : (arcs more : List Arc) (i : ℕ) (d : Arc) → i < length more
    → fold with_arc arcs (take (i + 1) more) ≡ with_arc (fold with_arc arcs (take i more)) (get_or more i d)
one_taken arcs more i d within =
    ap (fold with_arc arcs) (take_more more i d within) ∙ fold_push with_arc arcs (take i more) (get_or more i d)

-- the table tells whether there are too many
pub too_many_are : (counted listed all : List Arc) → all ≡ fold with_arc counted listed
    → (length counted + length listed ≤ max_arcs_read) ⊎ (listed ≡ [])
    → nat_lt max_arcs_read (length counted) ≡ nat_lt max_arcs_read (length all)
too_many_are counted listed all is (inr none) =
    ap (λ (arcs : List Arc). nat_lt max_arcs_read (length arcs))
    (ap (fold with_arc counted) (sym none) ∙ sym is)
too_many_are counted listed all is (inl few) =
    let most : length all ≤ max_arcs_read = omega (arith, ap length is, at_most counted listed) in
    le-ltb max_arcs_read (length counted) (omega arith) ∙ sym (le-ltb max_arcs_read (length all) most)

-- ---- the same arcs of a graph

pub same_is : (a b : Arc) → same_arc a b ≡ true → a ≡ b
same_is a b same =
    let one = and_parts (a.from == b.from) _ same in
    let two = and_parts (a.sig == b.sig) _ one.1 in
    let three = and_parts (beq a.up b.up) (a.to == b.to) two.1 in
    let make : ℕ → ℕ → Bool → ℕ → Arc = λ s z u t. record { from = s; sig = z; up = u; to = t } in
    ap₂ (λ (s z : ℕ). make s z a.up a.to) (eqb-true a.from b.from one.0) (eqb-true a.sig b.sig two.0)
    ∙ ap₂ (λ (u : Bool) (t : ℕ). make b.from b.sig u t) (beq-true a.up b.up three.0) (eqb-true a.to b.to three.1)

there_before : (es fs : List Edge) (e : Edge) → Contains es e → HaveSameArcs (es ++ fs) (es ++ e ∷ fs)
there_before es fs e there f = (forth, back)
  where
    forth : Contains (es ++ fs) f → Contains (es ++ e ∷ fs) f
    forth one = elim (Contains-append_cases es fs f one) [
      | inl left ↦ Contains-append_left es (e ∷ fs) f left
      | inr right ↦ Contains-append_right es (e ∷ fs) f (Contains-there e fs f right)
    ]

    back : Contains (es ++ e ∷ fs) f → Contains (es ++ fs) f
    back one = elim (Contains-append_cases es (e ∷ fs) f one) [
      | inl left ↦ Contains-append_left es fs f left
      | inr right ↦ elim (Contains-cons_cases e fs f right) [
        | inl same ↦ Contains-append_left es fs f (subst (Contains es) same there)
        | inr later ↦ Contains-append_right es fs f later
      ]
    ]

stands : (arcs : List Arc) (a : Arc) → list_any (same_arc a) arcs ≡ true
    → Contains (map edge_of arcs) (edge_of a)
stands arcs a there = Contains-map edge_of arcs a (Contains-from_any {eq = same_arc} same_is a arcs there)

with_one : (arcs : List Arc) (a : Arc) (fs : List Edge)
    → HaveSameArcs (map edge_of (with_arc arcs a) ++ fs) (map edge_of arcs ++ edge_of a ∷ fs)
with_one arcs a fs = elim (cases_Bool (list_any (same_arc a) arcs)) [
  | inl there ↦ rw there (there_before (map edge_of arcs) fs (edge_of a) (stands arcs a there))
  | inr new ↦ let is : map edge_of (with_arc arcs a) ++ fs ≡ map edge_of arcs ++ edge_of a ∷ fs =
      rw new (ap (λ (es : List Edge). es ++ fs) (map_push edge_of arcs a)
      ∙ append_assoc (map edge_of arcs) (edge_of a ∷ []) fs) in
      subst (HaveSameArcs (map edge_of (with_arc arcs a) ++ fs)) is (λ e. (λ one. one, λ one. one))
]

pub same_edges : (arcs more : List Arc)
    → HaveSameArcs (map edge_of arcs ++ map edge_of more) (map edge_of (fold with_arc arcs more))
same_edges arcs [] =
    subst (λ (es : List Edge). HaveSameArcs es (map edge_of arcs)) (sym (append-nil (map edge_of arcs)))
    (λ e. (λ one. one, λ one. one))
same_edges arcs (a ∷ more) = λ e.
    let first = with_one arcs a (map edge_of more) e in
    let rest = same_edges (with_arc arcs a) more e in
    (λ one. rest.0 (first.1 one), λ one. first.0 (rest.1 one))

pub made : (none first edges : List Edge) (counted more listed all : List Arc) → none ≡ []
    → first ≡ none ++ map edge_of counted → edges ≡ first ++ map edge_of more → more ≡ listed
    → fold with_arc counted listed ≡ all → HaveSameArcs edges (map edge_of all)
made none first edges counted more listed all empty first_is edges_are more_is all_are =
    let both : first ≡ map edge_of counted = first_is
    ∙ ap (λ (es : List Edge). es ++ map edge_of counted) empty in
    let are : edges ≡ map edge_of counted ++ map edge_of listed = edges_are
    ∙ ap₂ (λ (es : List Edge) (arcs : List Arc). es ++ map edge_of arcs) both more_is in
    subst (λ (es : List Edge). HaveSameArcs es (map edge_of all)) (sym are)
    (subst (λ (arcs : List Arc). HaveSameArcs (map edge_of counted ++ map edge_of listed) (map edge_of arcs)) all_are
    (same_edges counted listed))
