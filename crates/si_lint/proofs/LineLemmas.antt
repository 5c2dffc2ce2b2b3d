-- The lines of each kind, one after another.
use Rattle.std.proofs.Common.{◌≡◌, ℕ, zero, suc, ◌<◌, ◌∙◌, List, [], ◌∷◌, ◌++◌, map, take, length, get_or, refl}
use Rattle.std.proofs.Common.{All, sym, ap, ap₂, subst, append_assoc, codes}
use Rattle.std.proofs.lemmas.List.{append-nil, get_or_default}
use Rattle.std.proofs.lemmas.List.Elements.{All-contains}
use Rattle.si_base.specs.Words.{line, text_of}
use Rattle.si_base.specs.declared.ids.Event.{Event}
use Rattle.si_base.specs.declared.graph.Edge.{Edge}
use Rattle.si_base.specs.declared.graph.Signal.{Signal}
use Rattle.si_base.specs.Graph.{StateGraph, IsGraph}
use Rattle.si_base.specs.Proper.{Loss}
use Rattle.si_explain.specs.ExplainText.{events_words}
use Rattle.si_explain.proofs.EventLemmas.{walk_signals}
use Rattle.si_told.proofs.LineLemmas.{printed_at}
use Rattle.si_told.specs.ToldLines.{max_told, kind_lines}
use Rattle.si_lint.specs.LintText.{one_way_line, loss_line}
use Rattle.si_conflicts.specs.declared.conflicts.Pair.{Pair}
use Rattle.si_conflicts.specs.Conflicts.{pairs_of}
use Rattle.si_graph.proofs.ListMembers.{Contains-map}
use Rattle.si_lint.specs.Loops.Lines.{PairIsWithin}
use Rattle.si_sg.specs.CanonicalText.{state_at, event_word}
use Rattle.si_walks.specs.declared.arcs.Arcs.TheVariants.{All as AllArcs}
use Rattle.si_walks.specs.Paths.{IsWayTo, events_of}
use Rattle.si_walks.proofs.FirstPaths.{walk_of_path}
use Rattle.si_words.specs.Loops.Writing.{spaced}
use Rattle.si_words.proofs.WritingLemmas.{whole_line}

-- the lines of what items stand for
fused : {A B C : Type 0} (f : A → B) (h : B → C) (n : ℕ) (xs : List A)
    → map h (take n (map f xs)) ≡ map (λ x. h (f x)) (take n xs)
fused f h zero xs = refl
fused f h (suc n) [] = refl
fused {A} {B} {C} f h (suc n) (x ∷ xs) = ap (λ (l : List C). h (f x) ∷ l) (fused f h n xs)

pub lines_of_named : {A B : Type 0} (f : A → B) (line_of : B → List (List ℕ)) (found : List A) (old text : List ℕ)
    → text ≡ old ++ text_of (kind_lines (λ x. line_of (f x)) found)
    → text ≡ old ++ text_of (kind_lines line_of (map f found))
lines_of_named f line_of found old text is =
    is ∙ ap (λ (l : List (List (List ℕ))). old ++ text_of l) (sym (fused f line_of max_told found))

-- the events of a way are of signals
pub way_signals : (g : StateGraph) (s : ℕ) (es : List Event) → IsGraph g → IsWayTo g s es
    → All (λ e. e.sig < length g.signals) es
way_signals g s es is way = subst (All (λ (e : Event). e.sig < length g.signals)) (sym way.events_are)
    (walk_signals g AllArcs g.start (events_of way.path) s is (walk_of_path g g.start s way.path way.first.holds))

-- ---- lines by their calls
grouped : (text word one event other events end : List ℕ)
    → (((((text ++ word) ++ one) ++ event) ++ other) ++ events) ++ end
    ≡ ((text ++ word) ++ (one ++ (event ++ (other ++ events)))) ++ end
grouped text word one event other events end = simp append_assoc

spaced_one : (word : List ℕ) (words : List (List ℕ)) → spaced (word ∷ words) ≡ spaced (word ∷ []) ++ spaced words
spaced_one word words = ap (λ (t : List ℕ). t ++ spaced words) (sym (append-nil (32 ∷ word)))

pub one_way_by_calls : (text : List ℕ) (signals : List Signal) (states : List (List ℕ)) (a : Edge) (es : List Event)
    (one other first second third fourth fifth : List ℕ) → one ≡ state_at states a.from → other ≡ state_at states a.to
    → first ≡ text ++ codes "oneway" → second ≡ first ++ 32 ∷ one
    → third ≡ second ++ spaced (events_words signals (a.event ∷ [])) → fourth ≡ third ++ 32 ∷ other
    → fifth ≡ fourth ++ spaced (events_words signals es)
    → fifth ++ 10 ∷ [] ≡ text ++ line (one_way_line signals states (λ s. es) a)
one_way_by_calls text signals states a es one other first second third fourth fifth d0 d1 e1 e2 e3 e4 e5 =
    rw (e5, e4, e3, e2, e1, d0, d1) (grouped text (codes "oneway") (32 ∷ state_at states a.from)
    (spaced (event_word signals a.event ∷ [])) (32 ∷ state_at states a.to) (spaced (events_words signals es)) (10 ∷ [])
    ∙ ap (λ (l : List ℕ). ((text ++ codes "oneway") ++ ((32 ∷ state_at states a.from) ++ l)) ++ 10 ∷ [])
    (sym (spaced_one (event_word signals a.event) (state_at states a.to ∷ events_words signals es)))
    ∙ whole_line text (codes "oneway")
    (state_at states a.from ∷ event_word signals a.event ∷ state_at states a.to ∷ events_words signals es))

-- ---- what is printed is within the graph
pub pair_at : (n : ℕ) (found first : List Pair) (k : ℕ) (x : Pair) → All (PairIsWithin n) (pairs_of found)
    → first ≡ take max_told found → k < length first → x ≡ get_or first k x → PairIsWithin n (x.p, x.q)
pair_at n found first k x all is within at =
    printed_at (λ (y : Pair). PairIsWithin n (y.p, y.q)) found first k x each is within at
  where
    each : All (λ (y : Pair). PairIsWithin n (y.p, y.q)) found
    each i d small =
        let y : Pair = get_or found i d in
        All-contains (PairIsWithin n) (pairs_of found) (y.p, y.q) all
        (Contains-map (λ (z : Pair). (z.p, z.q)) found y (i, small, get_or_default found i y d small))

-- the same line by other words for the signals and the events
pub one_way_as : (known signals : List Signal) (states : List (List ℕ)) (a : Edge) (es fs : List Event)
    (old new : List ℕ) → known ≡ signals → es ≡ fs → new ≡ old ++ line (one_way_line known states (λ s. es) a)
    → new ≡ old ++ line (one_way_line signals states (λ s. fs) a)
one_way_as known signals states a es fs old new one other is =
    is ∙ ap₂ (λ (l : List Signal) (xs : List Event). old ++ line (one_way_line l states (λ s. xs) a)) one other

pub loss_as : (word : List ℕ) (known signals : List Signal) (states : List (List ℕ)) (a b : Loss) (old new : List ℕ)
    → known ≡ signals → a ≡ b → new ≡ old ++ line (loss_line word known states a)
    → new ≡ old ++ line (loss_line word signals states b)
loss_as word known signals states a b old new one other is =
    is ∙ ap₂ (λ (l : List Signal) (x : Loss). old ++ line (loss_line word l states x)) one other
