-- The text of covers is one, and there is one; and what its writers have still to add, a step at a time.
use Rattle.std.proofs.Common.{◌≡◌, ℕ, suc, ◌+◌, ◌<◌, ◌≤◌, false, List, [], ◌∷◌, ◌++◌, take, drop, length, get_or}
use Rattle.std.proofs.Common.{slice_get, Some, Contains, AllPairs, IsTrue, refl, sym, ap}
use Rattle.std.proofs.Common.{ap₂, subst, ◌∙◌, add-one, append_assoc, codes, decimal, arith, inl, inr, if◌then◌else◌}
use Rattle.std.proofs.Math.Seq.{drop-cons}
use Rattle.std.proofs.lemmas.Bool.{false_from_ne_true, false≢true}
use Rattle.std.proofs.lemmas.Grind.{flat_map-append}
use Rattle.std.proofs.lemmas.Option.{get_or_from_slice_get, slice_get_cases}
use Rattle.std.proofs.lemmas.List.{append-nil, drop_all, get_or-map, get_or_default, length-map, take_more, take-map}
use Rattle.std.proofs.lemmas.List.Elements.{Contains-get_or}
use Rattle.si_base.specs.declared.graph.Signal.{Signal}
use Rattle.si_base.specs.declared.ids.Literal.{Literal}
use Rattle.si_base.specs.Codes.{CodedGraph, IsCoded}
use Rattle.si_base.specs.Graph.{IsNonInput, is_driven}
use Rattle.si_base.specs.Netlist.{Sum}
use Rattle.si_base.specs.NetlistText.{name_of, sum_words}
use Rattle.si_base.specs.Order.{Before}
use Rattle.si_base.specs.Words.{line, text_of}
use Rattle.si_base.proofs.OrderLemmas.{same_in_order}
use Rattle.si_checks.proofs.ConflictsDecided.{conflict_or_none}
use Rattle.si_checks.proofs.UniqueBreaches.{one_conflict}
use Rattle.si_cover.proofs.MonoLemmas.{least_monos_have_same_literals, outside_is_none, no_mono_is_unique}
use Rattle.si_cover.proofs.MonosExist.{mono_or_none}
use Rattle.si_cube.specs.Literals.{InSignalOrder}
use Rattle.si_graph.proofs.ListMembers.{Contains-cons_cases, Contains-here, Contains-there, Contains-nil}
use Rattle.si_regions.specs.declared.regions.Region.{Region}
use Rattle.si_regions.specs.Regions.{IsRegion, AreRegions}
use Rattle.si_regions.proofs.RegionsExist.{some_regions}
use Rattle.si_regions.proofs.UniqueRegions.{one_list}
use Rattle.si_words.specs.Loops.Writing.{spaced}
use Rattle.si_words.proofs.WritingLemmas.{whole_line, grouped, grouped_two}
use Rattle.si_listings.specs.CoverText.{RegionCube, LeastCube, NoCube, IsRegionCube, Component, AreComponents}
use Rattle.si_listings.specs.CoverText.{regions_of, sum_line}
use Rattle.si_listings.specs.CoverText.{region_cube_words, mono_line, mono_lines, monos_after, signal_lines, lines_from}
use Rattle.si_listings.specs.CoverText.{covers_text, conflict_text, IsCoverText}
use Rattle.si_listings.specs.RegionText.{number_after}
use Rattle.si_sg.specs.CanonicalText.{event_word}

-- ---- what is told of a region is one
literal_place : Literal → List ℕ
literal_place l = l.sig ∷ []

in_places : (cube : List Literal) → InSignalOrder cube
    → AllPairs (λ k l. Before (literal_place k) (literal_place l)) cube
unfolding literal_place
in_places cube order = λ i j d before within. inl (order i j d before within)

one_told : (c : CodedGraph) (r : Region) (t u : RegionCube) → IsRegion c r → IsRegionCube c r t → IsRegionCube c r u → t
    ≡ u
one_told c r (LeastCube x) (LeastCube y) is a b =
    let (s, there) = is.excited.some in
    let same = least_monos_have_same_literals c r.er r.qr x y s there a.0 b.0 in
    ap (λ (cube : List Literal). LeastCube cube) (same_in_order literal_place x y (in_places x a.1) (in_places y b.1)
    (λ l. (same l).0) (λ l. (same l).1))
one_told c r (LeastCube x) (NoCube t) is a b = absurd (outside_is_none c r.er r.qr t x b a.0.meets)
one_told c r (NoCube s) (LeastCube y) is a b = absurd (outside_is_none c r.er r.qr s y a b.0.meets)
one_told c r (NoCube s) (NoCube t) is a b =
    ap (λ (state : ℕ). NoCube state) (no_mono_is_unique c r.er r.qr s t a b)

AreTold : CodedGraph → List Component → Type 0
AreTold c xs = (x : Component) → Contains xs x → IsRegionCube c x.region x.told

same_told : (c : CodedGraph) (xs ys : List Component) → ((r : Region) → Contains (regions_of xs) r → IsRegion c r)
    → regions_of xs ≡ regions_of ys → AreTold c xs → AreTold c ys → xs ≡ ys
unfolding AreTold
same_told c [] [] are same a b = refl
same_told c [] (y ∷ ys) are same a b = cc
same_told c (x ∷ xs) [] are same a b = cc
same_told c (x ∷ xs) (y ∷ ys) are same a b =
    let regions : x.region ≡ y.region = cc in
    let rest : regions_of xs ≡ regions_of ys = cc in
    let is = are x.region (Contains-here x.region (regions_of xs)) in
    let here : IsRegionCube c x.region y.told =
    subst (λ r. IsRegionCube c r y.told) (sym regions) (b y (Contains-here y ys)) in
    let told : x.told ≡ y.told = one_told c x.region x.told y.told is (a x (Contains-here x xs)) here in
    let heads : x ≡ y = λ i. record { region = regions i; told = told i } in
    ap₂ (λ (z : Component) (zs : List Component). z ∷ zs) heads
    (same_told c xs ys (λ r there. are r (Contains-there x.region (regions_of xs) r there)) rest
    (λ z there. a z (Contains-there x xs z there)) (λ z there. b z (Contains-there y ys z there)))

one_components : (c : CodedGraph) (xs ys : List Component) → AreComponents c xs → AreComponents c ys → xs ≡ ys
unfolding AreTold
one_components c xs ys a b =
    same_told c xs ys a.regions.each (one_list c (regions_of xs) (regions_of ys) a.regions b.regions) a.told b.told

pub one_cover_text : (c : CodedGraph) (states : List (List ℕ)) (x y : List ℕ) → IsCoverText c states x
    → IsCoverText c states y → x ≡ y
one_cover_text c states x y (inl a) (inl b) =
    a.text_is ∙ ap (conflict_text states) (one_conflict c a.pair b.pair a.first b.first) ∙ sym b.text_is
one_cover_text c states x y (inl a) (inr b) = absurd (b.distinct a.pair a.first.holds)
one_cover_text c states x y (inr a) (inl b) = absurd (a.distinct b.pair b.first.holds)
one_cover_text c states x y (inr a) (inr b) =
    a.text_is ∙ ap (covers_text c states) (one_components c a.components b.components a.are b.are) ∙ sym b.text_is

-- ---- and there is one
some_told : (c : CodedGraph) (r : Region) → IsRegion c r → (t : RegionCube) × IsRegionCube c r t
some_told c r is =
    let (s, there) = is.excited.some in
    elim (mono_or_none c r.er r.qr s there) [
      | inl (cube, least, order) ↦ (LeastCube cube, (least, order))
      | inr (state, shows) ↦ (NoCube state, shows)
    ]

-- these regions, each with what is told of it
With : CodedGraph → List Region → Type 0
With c rs = (xs : List Component) × (regions_of xs ≡ rs)
    × ((x : Component) → Contains xs x → IsRegionCube c x.region x.told)

told_each : (c : CodedGraph) (rs : List Region) → ((r : Region) → Contains rs r → IsRegion c r) → With c rs
unfolding With
told_each c [] are = ([], refl, λ x there. absurd (Contains-nil x there))
told_each c (r ∷ rs) are =
    let (told, is) = some_told c r (are r (Contains-here r rs)) in
    let (xs, same, each) = told_each c rs (λ x there. are x (Contains-there r rs x there)) in
    let first : Component = record { region = r; told = told } in (
      first ∷ xs,
      ap (λ (l : List Region). r ∷ l) same,
      λ x there. elim (Contains-cons_cases first xs x there) [
        | inl at ↦ subst (λ (y : Component). IsRegionCube c y.region y.told) at is
        | inr later ↦ each x later
      ],
    )

pub some_components : (c : CodedGraph) → IsCoded c → (xs : List Component) × AreComponents c xs
unfolding With
some_components c coded =
    let (rs, are) = some_regions c coded in
    let (xs, same, each) = told_each c rs are.each in
    (xs, record { regions = subst (AreRegions c) (sym same) are; told = each })

pub some_cover_text : (c : CodedGraph) (states : List (List ℕ)) → IsCoded c
    → (text : List ℕ) × IsCoverText c states text
some_cover_text c states coded = elim (conflict_or_none c) [
  | inr (pair, first) ↦ (
    conflict_text states pair,
    inl (record { pair = pair; first = first; text_is = refl }),
  )
  | inl distinct ↦ (
      let (xs, are) = some_components c coded in (
        covers_text c states xs,
        inr (record { distinct = distinct; components = xs; are = are; text_is = refl }),
      ))
]

-- ---- calls
pub sum_by_calls : (text word : List ℕ) (signals : List Signal) (z : ℕ) (sum : Sum) (name first second third : List ℕ)
    → name ≡ name_of signals z → first ≡ text ++ word → second ≡ first ++ 32 ∷ name
    → third ≡ second ++ spaced (sum_words signals sum)
    → third ++ 10 ∷ [] ≡ text ++ line (sum_line signals word z sum)
sum_by_calls text word signals z sum name first second third e0 e1 e2 e3 =
    rw (e3, e2, e1, e0) (grouped text word (name_of signals z) (spaced (sum_words signals sum))
    ∙ whole_line text word (name_of signals z ∷ sum_words signals sum))

-- what is told in other words
pub told_by_call : (c : CodedGraph) (r : Region) (states : List (List ℕ)) (signals : List Signal)
    (here told : RegionCube)
    (text new : List ℕ) → IsRegion c r → signals ≡ c.graph.signals → IsRegionCube c r here → IsRegionCube c r told
    → new ≡ text ++ spaced (region_cube_words signals states here)
    → new ≡ text ++ spaced (region_cube_words c.graph.signals states told)
told_by_call c r states signals here told text new is same one other left =
    left ∙ ap₂ (λ (l : List Signal) (t : RegionCube). text ++ spaced (region_cube_words l states t)) same
    (one_told c r here told is one other)

pub mono_by_calls : (text : List ℕ) (signals : List Signal) (states : List (List ℕ)) (number : ℕ) (r : Region)
    (told : RegionCube) (word first second third fourth fifth : List ℕ) → word ≡ decimal number
    → first ≡ text ++ codes "mono"
    → second ≡ first ++ 32 ∷ event_word signals r.event → third ≡ second ++ 32 ∷ word
    → fourth ≡ third ++ spaced (region_cube_words signals states told) → fifth ≡ fourth ++ 10 ∷ []
    → fifth ≡ text ++ line (mono_line signals states number r told)
mono_by_calls text signals states number r told word first second third fourth fifth e0 e1 e2 e3 e4 e5 =
    let words = region_cube_words signals states told in
    let event = event_word signals r.event in
    rw (e5, e4, e3, e2, e1) (grouped_two text (codes "mono") event word (spaced words)
    ∙ whole_line text (codes "mono") (event ∷ word ∷ words)
    ∙ ap (λ (w : List ℕ). text ++ line (codes "mono" ∷ event ∷ w ∷ words)) e0)

-- ---- the lines of the regions of a signal, from the k-th region on
abbrev pub monos_from : List Signal → List (List ℕ) → ℕ → List Component → ℕ → List ℕ
monos_from signals states z xs k = text_of (monos_after signals states z (take k xs) (drop k xs))

mono_more : (signals : List Signal) (states : List (List ℕ)) (z : ℕ) (xs : List Component) (k number : ℕ)
    (x : Component) (old text new : List ℕ) → k < length xs → x ≡ get_or xs k x
    → text ++ monos_from signals states z xs k ≡ old → number ≡ number_after (regions_of (take k xs)) x.region
    → new ≡ text ++ text_of (mono_lines signals states z number x.region x.told)
    → new ++ monos_from signals states z xs (k + 1) ≡ old
mono_more signals states z xs k number x old text new within at so_far number_is is =
    let rest : List Component → List ℕ = λ earlier. text_of (monos_after signals states z earlier (drop (k + 1) xs)) in
    let lines : ℕ → List ℕ = λ n. text_of (mono_lines signals states z n x.region x.told) in
    let one : drop k xs ≡ x ∷ drop (k + 1) xs =
    drop-cons xs k x within ∙ ap (λ y. y ∷ drop (suc k) xs) (sym at) ∙ rw add-one refl in
    let more : take (k + 1) xs ≡ take k xs ++ x ∷ [] =
    take_more xs k x within ∙ ap (λ y. take k xs ++ y ∷ []) (sym at) in
    let left : monos_from signals states z xs k ≡ lines number ++ monos_from signals states z xs (k + 1) =
    ap (λ (l : List Component). text_of (monos_after signals states z (take k xs) l)) one
    ∙ flat_map-append line (mono_lines signals states z (number_after (regions_of (take k xs)) x.region) x.region
    x.told)
    (monos_after signals states z (take k xs ++ x ∷ []) (drop (k + 1) xs))
    ∙ ap₂ (λ (a b : List ℕ). a ++ b) (ap lines (sym number_is)) (ap rest (sym more)) in
    ap (λ (t : List ℕ). t ++ monos_from signals states z xs (k + 1)) is
    ∙ append_assoc text (lines number) (monos_from signals states z xs (k + 1))
    ∙ ap (λ (t : List ℕ). text ++ t) (sym left) ∙ so_far

region_of : Component → Region
region_of x = x.region

pub mono_step : (c : CodedGraph) (states : List (List ℕ)) (z : ℕ) (xs : List Component) (regions : List Region)
    (k number : ℕ) (r : Region) (old text new : List ℕ) → AreComponents c xs → AreRegions c regions
    → k < length regions → r ≡ get_or regions k r → number ≡ number_after (take k regions) r
    → text ++ monos_from c.graph.signals states z xs k ≡ old
    → ((t : RegionCube) → IsRegionCube c r t → new ≡ text ++ text_of (mono_lines c.graph.signals states z number r t))
    → new ++ monos_from c.graph.signals states z xs (k + 1) ≡ old
unfolding region_of
mono_step c states z xs regions k number r old text new are all inside at number_is so_far added =
    let signals = c.graph.signals in
    let same : regions_of xs ≡ regions = one_list c (regions_of xs) regions are.regions all in
    let none : Component = record { region = r; told = NoCube 0 } in
    let x = get_or xs k none in
    let size = length-map xs region_of in
    let sizes : length (regions_of xs) ≡ length regions = ap (λ (l : List Region). length l) same in
    let within : k < length xs = omega (arith, inside, size, sizes) in
    let region_is : x.region ≡ r =
    sym (get_or-map region_of xs k none r within) ∙ ap (λ (l : List Region). get_or l k r) same ∙ sym at in
    let told : IsRegionCube c r x.told =
    subst (λ q. IsRegionCube c q x.told) region_is (are.told x (Contains-get_or xs k none within)) in
    let new_is = subst (λ (q : Region). new ≡ text ++ text_of (mono_lines signals states z number q x.told))
    (sym region_is) (added x.told told) in
    let earlier : regions_of (take k xs) ≡ take k regions =
    sym (take-map region_of k xs) ∙ ap (λ (l : List Region). take k l) same in
    let numbered : number ≡ number_after (regions_of (take k xs)) x.region =
    number_is ∙ ap₂ (λ (l : List Region) (q : Region). number_after l q) (sym earlier) (sym region_is) in
    mono_more signals states z xs k number x old text new within (get_or_default xs k none x within) so_far numbered
    new_is

pub monos_written : (signals : List Signal) (states : List (List ℕ)) (z : ℕ) (xs : List Component) (k : ℕ)
    (text old : List ℕ) → length xs ≤ k
    → text ++ monos_from signals states z xs k ≡ old ++ monos_from signals states z xs 0
    → text ≡ old ++ text_of (monos_after signals states z [] xs)
monos_written signals states z xs k text old all so_far =
    let rest : List Component → List ℕ = λ l. text_of (monos_after signals states z (take k xs) l) in
    sym (append-nil text) ∙ ap (λ (t : List ℕ). text ++ t) (ap rest (sym (drop_all k xs all))) ∙ so_far

pub component_count : (c : CodedGraph) (xs : List Component) (regions : List Region) → AreComponents c xs
    → AreRegions c regions → length xs ≡ length regions
unfolding region_of
component_count c xs regions are all =
    let size = length-map xs region_of in
    let sizes : length (regions_of xs) ≡ length regions =
    ap (λ (l : List Region). length l) (one_list c (regions_of xs) regions are.regions all) in
    omega (arith, size, sizes)

-- ---- the lines of the signals, from the i-th on
abbrev pub signals_from : CodedGraph → List (List ℕ) → List Component → ℕ → List ℕ
signals_from c states xs i = text_of (lines_from c states xs i (drop i c.graph.signals))

signals_at : (c : CodedGraph) (states : List (List ℕ)) (xs : List Component) (i : ℕ) (x : Signal)
    → i < length c.graph.signals → slice_get c.graph.signals i ≡ Some x
    → signals_from c states xs i ≡ text_of (if is_driven x.kind then signal_lines c states xs i else [])
    ++ signals_from c states xs (i + 1)
signals_at c states xs i x within at =
    let signals = c.graph.signals in
    let is : get_or signals i x ≡ x = get_or_from_slice_get signals i x x at in
    let here : List (List (List ℕ)) = if is_driven x.kind then signal_lines c states xs i else [] in
    let one : drop i signals ≡ x ∷ drop (i + 1) signals =
    drop-cons signals i x within ∙ ap (λ y. y ∷ drop (suc i) signals) is ∙ rw add-one refl in
    ap (λ (l : List Signal). text_of (lines_from c states xs i l)) one
    ∙ flat_map-append line here (lines_from c states xs (i + 1) (drop (i + 1) signals))

pub signal_skip : (c : CodedGraph) (states : List (List ℕ)) (xs : List Component) (i : ℕ)
    → i < length c.graph.signals → (IsNonInput c.graph.signals i → IsTrue false)
    → signals_from c states xs (i + 1) ≡ signals_from c states xs i
signal_skip c states xs i within input = elim (slice_get_cases c.graph.signals i).1 [
  | inl there ↦ (
      let none = false_from_ne_true (is_driven there.0.kind)
      (λ driven. false≢true (input (there.0, there.2, driven))) in
      sym (signals_at c states xs i there.0 within there.2 ∙ rw none refl))
  | inr past ↦ absurd (omega (arith, past.0))
]

pub signal_more : (c : CodedGraph) (states : List (List ℕ)) (xs : List Component) (i : ℕ) (old text new : List ℕ)
    → i < length c.graph.signals → IsNonInput c.graph.signals i → text ++ signals_from c states xs i ≡ old
    → new ≡ text ++ text_of (signal_lines c states xs i) → new ++ signals_from c states xs (i + 1) ≡ old
signal_more c states xs i old text new within driven so_far is =
    let here = text_of (signal_lines c states xs i) in
    let rest = signals_from c states xs (i + 1) in
    let left : signals_from c states xs i ≡ here ++ rest =
    signals_at c states xs i driven.0 within driven.1 ∙ rw driven.2 refl in
    ap (λ (t : List ℕ). t ++ rest) is ∙ append_assoc text here rest
    ∙ ap (λ (t : List ℕ). text ++ t) (sym left) ∙ so_far

pub signals_written : (c : CodedGraph) (states : List (List ℕ)) (xs : List Component) (i : ℕ) (text : List ℕ)
    → length c.graph.signals ≤ i → text ++ signals_from c states xs i ≡ signals_from c states xs 0
    → text ≡ covers_text c states xs
unfolding covers_text
signals_written c states xs i text all so_far =
    let rest : List Signal → List ℕ = λ l. text_of (lines_from c states xs i l) in
    sym (append-nil text) ∙ ap (λ (t : List ℕ). text ++ t) (ap rest (sym (drop_all i c.graph.signals all))) ∙ so_far
