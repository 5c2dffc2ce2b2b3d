-- What the writers of listings have still to add, a step at a time.
use Rattle.std.proofs.Common.{◌≡◌, ℕ, suc, ◌+◌, ◌<◌, ◌≤◌, List, [], ◌∷◌, ◌++◌, map, take, drop, length, get_or, All}
use Rattle.std.proofs.Common.{Contains, refl, sym, ap, ap₂, ◌∙◌, add-one, append_assoc, codes, decimal, arith}
use Rattle.std.proofs.Math.Seq.{drop-cons}
use Rattle.std.proofs.lemmas.Grind.{flat_map-append}
use Rattle.std.proofs.lemmas.List.{append-nil, drop_all, get_or-map, length-map, take_more}
use Rattle.si_base.specs.declared.graph.Signal.{Signal}
use Rattle.si_base.specs.declared.ids.Event.{Event}
use Rattle.si_base.specs.Codes.{CodedGraph}
use Rattle.si_base.specs.Words.{line, text_of}
use Rattle.si_words.specs.Loops.Writing.{spaced}
use Rattle.si_words.proofs.WritingLemmas.{whole_line, grouped_two}
use Rattle.si_regions.specs.declared.regions.Region.{Region}
use Rattle.si_regions.proofs.UniqueRegions as unique
use Rattle.si_conflicts.specs.declared.conflicts.Pair.{Pair}
use Rattle.si_conflicts.specs.Conflicts.{AreFirstConflicts, pairs_of}
use Rattle.si_conflicts.proofs.OneConflictList.{one_count, first_unique}
use Rattle.si_sg.specs.CanonicalText.{state_at, event_word}
use Rattle.si_listings.specs.RegionText.{set_line, region_lines, number_after, lines_after, regions_text, IsRegionText}
use Rattle.si_listings.specs.ConflictText.{max_printed, pair_line, conflicts_text, IsConflictText}

-- ---- one text
pub one_region_text : (c : CodedGraph) (states : List (List ℕ)) (x y : List ℕ) → IsRegionText c states x
    → IsRegionText c states y → x ≡ y
one_region_text c states x y a b =
    a.text_is ∙ ap (regions_text c.graph.signals states) (unique.one_list c a.regions b.regions a.are b.are) ∙ sym
    b.text_is

pub one_conflict_text : (c : CodedGraph) (states : List (List ℕ)) (x y : List ℕ) → IsConflictText c states x
    → IsConflictText c states y → x ≡ y
one_conflict_text c states x y a b =
    a.text_is ∙ ap₂ (conflicts_text states) (one_count c a.count b.count a.counted b.counted)
    (first_unique c max_printed a.pairs b.pairs a.first b.first) ∙ sym b.text_is

-- ---- the names of states, from the i-th on
abbrev pub states_from : List (List ℕ) → List ℕ → ℕ → List ℕ
states_from names states i = spaced (map (state_at names) (drop i states))

pub state_more : (names : List (List ℕ)) (states : List ℕ) (i s : ℕ) (name old text new : List ℕ) → i < length states
    → s ≡ get_or states i s → text ++ states_from names states i ≡ old → name ≡ state_at names s
    → new ≡ text ++ 32 ∷ name
    → new ++ states_from names states (i + 1) ≡ old
state_more names states i s name old text new within at so_far named is =
    let left : states_from names states i ≡ (32 ∷ name) ++ states_from names states (i + 1) =
    ap (λ (l : List ℕ). spaced (map (state_at names) l)) (drop-cons states i s within)
    ∙ ap (λ (n : List ℕ). (32 ∷ n) ++ states_from names states (suc i)) (ap (state_at names) (sym at) ∙ sym named) ∙
    rw add-one refl in
    ap (λ (t : List ℕ). t ++ states_from names states (i + 1)) is
    ∙ append_assoc text (32 ∷ name) (states_from names states (i + 1))
    ∙ ap (λ (t : List ℕ). text ++ t) (sym left) ∙ so_far

-- ---- the lines of pairs, from the i-th on
abbrev pub pairs_from : List (List ℕ) → List Pair → ℕ → List ℕ
pairs_from states pairs i = text_of (map (pair_line states) (pairs_of (drop i pairs)))

pub pair_more : (states : List (List ℕ)) (pairs : List Pair) (i : ℕ) (x : Pair) (p q old text new : List ℕ)
    → i < length pairs → x ≡ get_or pairs i x → text ++ pairs_from states pairs i ≡ old → p ≡ state_at states x.p
    → q ≡ state_at states x.q → new ≡ text ++ line (p ∷ q ∷ [])
    → new ++ pairs_from states pairs (i + 1) ≡ old
pair_more states pairs i x p q old text new within at so_far first second is =
    let line_of : Pair → List ℕ = λ y. line (pair_line states (y.p, y.q)) in
    let here : line (p ∷ q ∷ []) ≡ line_of (get_or pairs i x) =
    ap₂ (λ (a b : List ℕ). line (a ∷ b ∷ [])) first second ∙ ap line_of at in
    let left : pairs_from states pairs i ≡ line (p ∷ q ∷ []) ++ pairs_from states pairs (i + 1) =
    ap (λ (l : List Pair). text_of (map (pair_line states) (pairs_of l))) (drop-cons pairs i x within)
    ∙ ap (λ (t : List ℕ). t ++ pairs_from states pairs (suc i)) (sym here) ∙ rw add-one refl in
    ap (λ (t : List ℕ). t ++ pairs_from states pairs (i + 1)) is
    ∙ append_assoc text (line (p ∷ q ∷ [])) (pairs_from states pairs (i + 1))
    ∙ ap (λ (t : List ℕ). text ++ t) (sym left) ∙ so_far

pub conflicts_by_calls : (states : List (List ℕ)) (count : ℕ) (pairs : List Pair) (number empty first all : List ℕ)
    → number ≡ decimal count → empty ≡ codes "" → first ≡ empty ++ line (codes "conflicts" ∷ number ∷ [])
    → all ≡ first ++ pairs_from states pairs 0 → all ≡ conflicts_text states count (pairs_of pairs)
unfolding conflicts_text
conflicts_by_calls states count pairs number empty first all e1 e2 e3 e4 = rw (e4, e3, e2, e1) refl

-- ---- the line of a set
pub set_by_calls : (text kind : List ℕ) (signals : List Signal) (states : List (List ℕ)) (e : Event) (number : List ℕ)
    (set : List ℕ) (first second third fourth : List ℕ) → first ≡ text ++ kind
    → second ≡ first ++ 32 ∷ event_word signals e → third ≡ second ++ 32 ∷ number
    → fourth ≡ third ++ spaced (map (state_at states) set)
    → fourth ++ 10 ∷ [] ≡ text ++ line (set_line kind signals states e number set)
set_by_calls text kind signals states e number set first second third fourth e1 e2 e3 e4 =
    rw (e4, e3, e2, e1) (grouped_two text kind (event_word signals e) number (spaced (map (state_at states) set))
    ∙ whole_line text kind (event_word signals e ∷ number ∷ map (state_at states) set))

-- ---- the lines of regions, from the k-th on
abbrev pub regions_from : List Signal → List (List ℕ) → List Region → ℕ → List ℕ
regions_from signals states regions k = text_of (lines_after signals states (take k regions) (drop k regions))

pub region_more : (signals : List Signal) (states : List (List ℕ)) (regions : List Region) (k number : ℕ) (r : Region)
    (old text new : List ℕ) → k < length regions → text ++ regions_from signals states regions k ≡ old
    → r ≡ get_or regions k r → number ≡ number_after (take k regions) r
    → new ≡ text ++ text_of (region_lines signals states number r)
    → new ++ regions_from signals states regions (k + 1) ≡ old
region_more signals states regions k number r old text new within so_far at number_is is =
    let rest : List Region → List ℕ = λ earlier. text_of (lines_after signals states earlier (drop (k + 1) regions)) in
    let lines : ℕ → List ℕ = λ n. text_of (region_lines signals states n r) in
    let one : drop k regions ≡ r ∷ drop (k + 1) regions =
    drop-cons regions k r within ∙ ap (λ x. x ∷ drop (suc k) regions) (sym at) ∙ rw add-one refl in
    let more : take (k + 1) regions ≡ take k regions ++ r ∷ [] =
    take_more regions k r within ∙ ap (λ x. take k regions ++ x ∷ []) (sym at) in
    let left : regions_from signals states regions k ≡ lines number ++ regions_from signals states regions (k + 1) =
    ap (λ (l : List Region). text_of (lines_after signals states (take k regions) l)) one
    ∙ flat_map-append line (region_lines signals states (number_after (take k regions) r) r)
    (lines_after signals states (take k regions ++ r ∷ []) (drop (k + 1) regions))
    ∙ ap₂ (λ (x y : List ℕ). x ++ y) (ap lines (sym number_is)) (ap rest (sym more)) in
    ap (λ (t : List ℕ). t ++ regions_from signals states regions (k + 1)) is
    ∙ append_assoc text (lines number) (regions_from signals states regions (k + 1))
    ∙ ap (λ (t : List ℕ). text ++ t) (sym left) ∙ so_far

pub regions_written : (signals : List Signal) (states : List (List ℕ)) (regions : List Region) (k : ℕ) (text : List ℕ)
    → length regions ≤ k → text ++ regions_from signals states regions k ≡ regions_from signals states regions 0
    → text ≡ regions_text signals states regions
unfolding regions_text
regions_written signals states regions k text all so_far =
    let rest : List Region → List ℕ = λ l. text_of (lines_after signals states (take k regions) l) in
    sym (append-nil text) ∙ ap (λ (t : List ℕ). text ++ t) (ap rest (sym (drop_all k regions all))) ∙ so_far

-- the states of conflicts have names
abbrev pair_of : Pair → ℕ × ℕ
pair_of y = (y.p, y.q)

pub pairs_within : (c : CodedGraph) (limit : ℕ) (states : List (List ℕ)) (pairs : List Pair)
    → length states ≡ c.graph.states
    → AreFirstConflicts c limit (pairs_of pairs) → All (λ x. (x.p < length states) × (x.q < length states)) pairs
pairs_within c limit states pairs size are k d inside =
    let x = get_or pairs k d in
    let there : Contains (pairs_of pairs) (x.p, x.q) = (
      k,
      omega (arith, inside, length-map pairs pair_of),
      get_or-map pair_of pairs k d (x.p, x.q) inside,
    ) in
    let is = are.each (x.p, x.q) there in
    (omega (arith, is.order, is.within, size), omega (arith, is.within, size))
