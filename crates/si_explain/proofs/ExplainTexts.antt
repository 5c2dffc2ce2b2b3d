-- A graph with names for its states has one text that explains its conflicts.
use Rattle.std.proofs.Common.{◌≡◌, ℕ, ◌<◌, ◌≤◌, ◌∙◌, List, [], ◌∷◌, map, Contains, Option, Some, None, refl, sym}
use Rattle.std.proofs.Common.{ap₂, subst, arith, inl, inr}
use Rattle.si_base.specs.Codes.{CodedGraph, IsCoded}
use Rattle.std.proofs.lemmas.Bool.{cases_lt}
use Rattle.si_base.specs.Proper.{IsConflict, pair_place}
use Rattle.si_checks.specs.Loops.Searches.{IsFirstOrNone}
use Rattle.si_checks.proofs.SearchDecisions.{Decided, first_candidate}
use Rattle.si_checks.proofs.SearchFirst.{firsts_at_one_place}
use Rattle.si_conflicts.specs.Conflicts.{AreConflicts}
use Rattle.si_conflicts.proofs.ConflictsExist.{some_conflicts, some_count, some_first}
use Rattle.si_conflicts.proofs.OneConflictList.{one_count, first_unique}
use Rattle.si_graph.proofs.ListMembers.{Contains-cons_cases, Contains-here, Contains-there, Contains-nil}
use Rattle.si_walks.specs.declared.arcs.Arcs.TheVariants.{All}
use Rattle.si_walks.specs.Joined.{Source, IsSourceOrNone, IsJoinedConflict}
use Rattle.si_walks.proofs.FirstWalks.{along_all, one_first_walk, some_first_walk}
use Rattle.si_walks.proofs.SourceLemmas.{one_source_or_none, some_source_or_none}
use Rattle.si_walks.specs.Twins.{AreTwins, IsFirstTwinOrNone, IsTwinConflict, max_twin_states}
use Rattle.si_walks.proofs.TwinsDecided.{some_told, told_once, twins_or_not, twins_within}
use Rattle.si_kin.specs.Kin.{AreKin, IsFirstKinOrNone, IsKinConflict}
use Rattle.si_kin.proofs.KinDecided.{kin_or_not, kin_told_once, some_kin_told}
use Rattle.si_explain.specs.ExplainText.{max_explained, Explained, IsExplained, explain_text, IsExplainText}
use Rattle.si_explain.specs.ExplainText.{with_further}
use Rattle.si_explain.specs.Laws.{SourcesShowJoined, NoSourceShowsNone}
use Rattle.si_explain.proofs.ExplainLines.{each_conflict, pair_of}

one_explained : (c : CodedGraph) (x y : Explained) → IsExplained c x → IsExplained c y → x.pair ≡ y.pair → x ≡ y
one_explained c x y is also pair =
    let G = c.graph in
    let moved : IsExplained c (record {
      pair = y.pair;
      to_first = x.to_first;
      to_second = x.to_second;
      source = x.source;
      twins = x.twins;
      kin = x.kin;
    }) = subst (λ (p : ℕ × ℕ). IsExplained c (record {
      pair = p;
      to_first = x.to_first;
      to_second = x.to_second;
      source = x.source;
      twins = x.twins;
      kin = x.kin;
    })) pair is in
    let first : x.to_first ≡ y.to_first =
    one_first_walk G All G.start y.pair.0 x.to_first y.to_first moved.to_first also.to_first in
    let second : x.to_second ≡ y.to_second =
    one_first_walk G All G.start y.pair.1 x.to_second y.to_second moved.to_second also.to_second in
    let source : x.source ≡ y.source = one_source_or_none c y.pair x.source y.source moved.source also.source in
    let twins : x.twins ≡ y.twins = told_once c y.pair.0 y.pair.1 x.twins y.twins moved.twins also.twins in
    let kin : x.kin ≡ y.kin = kin_told_once c y.pair.0 y.pair.1 x.kin y.kin moved.kin also.kin in
    λ i. record {
      pair = pair i;
      to_first = first i;
      to_second = second i;
      source = source i;
      twins = twins i;
      kin = kin i;
    }

abbrev AllExplained : CodedGraph → List Explained → Type 0
AllExplained c xs = (x : Explained) → Contains xs x → IsExplained c x

same_explained : (c : CodedGraph) (xs ys : List Explained) → AllExplained c xs → AllExplained c ys
    → map pair_of xs ≡ map pair_of ys → xs ≡ ys
same_explained c [] [] are also same = refl
same_explained c [] (y ∷ ys) are also same = cc
same_explained c (x ∷ xs) [] are also same = cc
same_explained c (x ∷ xs) (y ∷ ys) are also same =
    let pair : x.pair ≡ y.pair = cc in
    let rest : map pair_of xs ≡ map pair_of ys = cc in
    let heads : x ≡ y = one_explained c x y (are x (Contains-here x xs)) (also y (Contains-here y ys)) pair in
    ap₂ (λ (z : Explained) (zs : List Explained). z ∷ zs) heads
    (same_explained c xs ys (λ z there. are z (Contains-there x xs z there))
    (λ z there. also z (Contains-there y ys z there)) rest)

-- ---- the first conflict of twins
one_first_twin : (c : CodedGraph) (x y : Option (ℕ × ℕ)) → IsFirstTwinOrNone c x → IsFirstTwinOrNone c y → x ≡ y
one_first_twin c None None is also = refl
one_first_twin c None (Some y) is also = absurd (is also.0 y also.1.holds)
one_first_twin c (Some x) None is also = absurd (also is.0 x is.1.holds)
one_first_twin c (Some x) (Some y) is also =
    let place : pair_place x ≡ pair_place y =
    firsts_at_one_place pair_place (IsTwinConflict c) x y refl is.1 also.1 in
    let first : x.0 ≡ y.0 = cc in
    let second : x.1 ≡ y.1 = cc in
    λ i. Some (first i, second i)

some_first_twin : (c : CodedGraph) → IsCoded c → (found : Option (ℕ × ℕ)) × IsFirstTwinOrNone c found
some_first_twin c coded = elim (cases_lt max_twin_states c.graph.states) [
  | inl many ↦ (None, λ few. absurd (omega (arith, many, few)))
  | inr few ↦ (let found = first_of_all in as_far few found.0 found.1)
]
  where
    all : (pairs : List (ℕ × ℕ)) × AreConflicts c pairs
    all = some_conflicts c

    twins_of : (pair : ℕ × ℕ) → Decided (AreTwins c pair.0 pair.1)
    twins_of pair = elim (cases_lt pair.0 c.graph.states) [
      | inl first ↦ elim (cases_lt pair.1 c.graph.states) [
        | inl second ↦ twins_or_not c coded pair.0 pair.1 first second
        | inr past ↦ inr (λ twins. absurd (omega (arith, past, (twins_within c coded pair.0 pair.1 twins).1)))
      ]
      | inr past ↦ inr (λ twins. absurd (omega (arith, past, (twins_within c coded pair.0 pair.1 twins).0)))
    ]

    first_of_all : (found : Option (ℕ × ℕ)) × IsFirstOrNone pair_place (IsTwinConflict c) found
    first_of_all = first_candidate pair_place (IsTwinConflict c) (λ pair. pair) (λ pair. AreTwins c pair.0 pair.1)
        twins_of all.0
        (λ pair there twins. record { conflict = (all.1.exactly pair).0 there; twins = twins })
        (λ pair twin. (pair, (all.1.exactly pair).1 twin.conflict, twin.twins, refl))

    as_far : c.graph.states ≤ max_twin_states → (found : Option (ℕ × ℕ))
        → IsFirstOrNone pair_place (IsTwinConflict c) found → (twin : Option (ℕ × ℕ)) × IsFirstTwinOrNone c twin
    as_far few None none = (None, λ _. none)
    as_far few (Some x) first = (Some x, (few, first))

-- ---- the first conflict of kin
one_first_kin : (c : CodedGraph) (x y : Option (ℕ × ℕ)) → IsFirstKinOrNone c x → IsFirstKinOrNone c y → x ≡ y
one_first_kin c None None is also = refl
one_first_kin c None (Some y) is also = absurd (is y also.holds)
one_first_kin c (Some x) None is also = absurd (also x is.holds)
one_first_kin c (Some x) (Some y) is also =
    let place : pair_place x ≡ pair_place y =
    firsts_at_one_place pair_place (IsKinConflict c) x y refl is also in
    let first : x.0 ≡ y.0 = cc in
    let second : x.1 ≡ y.1 = cc in
    λ i. Some (first i, second i)

some_first_kin : (c : CodedGraph) → (found : Option (ℕ × ℕ)) × IsFirstKinOrNone c found
some_first_kin c = as_first first_of_all.0 first_of_all.1
  where
    all : (pairs : List (ℕ × ℕ)) × AreConflicts c pairs
    all = some_conflicts c

    first_of_all : (found : Option (ℕ × ℕ)) × IsFirstOrNone pair_place (IsKinConflict c) found
    first_of_all = first_candidate pair_place (IsKinConflict c) (λ pair. pair) (λ pair. AreKin c pair.0 pair.1)
        (λ pair. kin_or_not c pair.0 pair.1) all.0
        (λ pair there kin. record { conflict = (all.1.exactly pair).0 there; kin = kin })
        (λ pair is. (pair, (all.1.exactly pair).1 is.conflict, is.kin, refl))

    as_first : (found : Option (ℕ × ℕ)) → IsFirstOrNone pair_place (IsKinConflict c) found
        → (kin : Option (ℕ × ℕ)) × IsFirstKinOrNone c kin
    as_first None none = (None, none)
    as_first (Some x) first = (Some x, first)

pub one_explain_text : (c : CodedGraph) (states : List (List ℕ)) (x y : List ℕ) → IsExplainText c states x
    → IsExplainText c states y → x ≡ y
one_explain_text c states x y a b =
    let firsts : a.pairs ≡ b.pairs = first_unique c max_explained a.pairs b.pairs a.first b.first in
    let twin : a.twin ≡ b.twin = one_first_twin c a.twin b.twin a.first_twin b.first_twin in
    let kin : a.kin ≡ b.kin = one_first_kin c a.kin b.kin a.first_kin b.first_kin in
    let pairs : map pair_of a.explained ≡ map pair_of b.explained =
    a.pairs_are ∙ ap₂ with_further (ap₂ with_further firsts twin) kin ∙ sym b.pairs_are in
    a.text_is ∙ ap₂ (explain_text c states) (one_count c a.count b.count a.counted b.counted)
    (same_explained c a.explained b.explained a.each b.each pairs) ∙ sym b.text_is

-- ---- some text
some_explained : (c : CodedGraph) (pair : ℕ × ℕ) → IsCoded c → IsConflict c pair
    → (x : Explained) × (x.pair ≡ pair) × IsExplained c x
some_explained c pair coded conflict =
    let G = c.graph in
    let p = pair.0 in
    let q = pair.1 in
    let p_within : p < G.states = omega (arith, conflict.order, conflict.within) in
    let to_p = coded.connected p p_within in
    let to_q = coded.connected q conflict.within in
    let first = some_first_walk G All p coded.deterministic G.start (to_p.0, along_all G G.start to_p.0 p to_p.1) in
    let second = some_first_walk G All q coded.deterministic G.start (to_q.0, along_all G G.start to_q.0 q to_q.1) in
    let source = some_source_or_none c p q coded p_within conflict.within in
    let twins = some_told c coded p q p_within conflict.within in
    let kin = some_kin_told c p q in (
      record {
        pair = pair;
        to_first = first.0;
        to_second = second.0;
        source = source.0;
        twins = twins.0;
        kin = kin.0;
      },
      refl,
      record { to_first = first.1; to_second = second.1; source = source.1; twins = twins.1; kin = kin.1 },
    )

abbrev With : CodedGraph → List (ℕ × ℕ) → Type 0
With c pairs = (xs : List Explained) × (map pair_of xs ≡ pairs) × AllExplained c xs

explain_each : (c : CodedGraph) (pairs : List (ℕ × ℕ)) → IsCoded c
    → ((pair : ℕ × ℕ) → Contains pairs pair → IsConflict c pair) → With c pairs
explain_each c [] coded are = ([], refl, λ x there. absurd (Contains-nil x there))
explain_each c (pair ∷ pairs) coded are =
    let here = some_explained c pair coded (are pair (Contains-here pair pairs)) in
    let rest = explain_each c pairs coded (λ other there. are other (Contains-there pair pairs other there)) in (
      here.0 ∷ rest.0,
      ap₂ (λ (z : ℕ × ℕ) (zs : List (ℕ × ℕ)). z ∷ zs) here.1 rest.1,
      λ x there. elim (Contains-cons_cases here.0 rest.0 x there) [
        | inl same ↦ subst (IsExplained c) same here.2
        | inr later ↦ rest.2 x later
      ],
    )

pub some_explain_text : (c : CodedGraph) (states : List (List ℕ)) → IsCoded c
    → (text : List ℕ) × IsExplainText c states text
some_explain_text c states coded =
    let count = some_count c in
    let pairs = some_first c max_explained in
    let twin = some_first_twin c coded in
    let kin = some_first_kin c in
    let all = explain_each c (with_further (with_further pairs.0 twin.0) kin.0) coded
    (each_conflict c pairs.0 twin.0 kin.0 pairs.1 twin.1 kin.1) in (
      explain_text c states count.0 all.0,
      record {
        count = count.0;
        counted = count.1;
        pairs = pairs.0;
        first = pairs.1;
        twin = twin.0;
        first_twin = twin.1;
        kin = kin.0;
        first_kin = kin.1;
        explained = all.0;
        pairs_are = all.1;
        each = all.2;
        text_is = refl;
      },
    )

-- ---- what a source shows
shows_joined : (c : CodedGraph) (pair : ℕ × ℕ) (source : Option Source) (x : Source) → IsConflict c pair
    → IsSourceOrNone c pair source → source ≡ Some x → IsJoinedConflict c pair
shows_joined c pair None x conflict is same = cc
shows_joined c pair (Some y) x conflict is same = record {
  conflict = conflict;
  source = y.state;
  to_first = (y.first, is.is_first.holds.to_first);
  to_second = (y.second, is.is_first.holds.to_second);
}

pub sources_show_joined : SourcesShowJoined
sources_show_joined c x source conflict is same = shows_joined c x.pair x.source source conflict is.source same

shows_none : (c : CodedGraph) (pair : ℕ × ℕ) (source : Option Source) → IsSourceOrNone c pair source
    → source ≡ None → IsJoinedConflict c pair → ⊥
shows_none c pair None is same joined = is
    (record { state = joined.source; first = joined.to_first.0; second = joined.to_second.0 })
    (record { to_first = joined.to_first.1; to_second = joined.to_second.1 })
shows_none c pair (Some x) is same joined = absurd (let both : Some x ≡ None = same in cc)

pub no_source_shows_none : NoSourceShowsNone
no_source_shows_none c x is same joined = shows_none c x.pair x.source is.source same joined
