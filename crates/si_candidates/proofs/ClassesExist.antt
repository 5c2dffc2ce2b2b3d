-- Two disjoint blocks of a connected graph have classes, or some part between them has both levels.
use Rattle.std.proofs.Common.{◌≡◌, ℕ, ◌<◌, ◌↔◌, ◌⊎◌, Bool, true, false, if◌then◌else◌, List, [], ◌∷◌, length, map}
use Rattle.std.proofs.Common.{get_or, Contains, refl, sym, subst, ◌∙◌, arith, inl, inr}
use Rattle.std.specs.List.{range_with_len}
use Rattle.std.proofs.lemmas.Bool.{cases_eq, true≢false}
use Rattle.std.proofs.lemmas.List.FromFn.{length-map-range_with_len, get_or-map-range_with_len}
use Rattle.si_base.specs.declared.graph.Edge.{Edge}
use Rattle.si_base.specs.Graph.{StateGraph, IsGraph, arc}
use Rattle.si_base.specs.Codes.{IsConnected}
use Rattle.si_base.specs.Sets.{IsIn, IsDisjoint}
use Rattle.si_graph.specs.declared.closure.Along.TheVariants.{Both}
use Rattle.si_graph.specs.Closure.{IsNext, Path}
use Rattle.si_graph.proofs.SearchLemmas.{in_below}
use Rattle.si_graph.proofs.ListMembers.{Contains-here, Contains-nil}
use Rattle.si_regions.specs.Connected.{PathOf}
use Rattle.si_regions.specs.Regions.{IsSetOf}
use Rattle.si_regions.specs.Loops.Searching.{AreMarksOf, IsReachedIn, IsSeed}
use Rattle.si_graph.proofs.ClosureLemmas.{reached_on, reached_seed}
use Rattle.si_regions.proofs.SetsExist.{listed, some_set, some_marks, some_reached}
use Rattle.si_checks.proofs.SearchDecisions as decide
use Rattle.si_checks.proofs.SearchDecisions.{Decided, both, some_of, less}
use Rattle.si_insert.specs.declared.partition.Class.{Class}
use Rattle.si_insert.specs.declared.partition.Class.TheVariants.{Low, Rising, High, Falling}
use Rattle.si_insert.specs.Partition.{class_of}
use Rattle.si_regions.proofs.ComponentLemmas.{adjoins_back}
use Rattle.si_candidates.specs.Parts.{IsOther, ComesFrom, GoesInto, PartMeets, IsHigh, IsLow, AreClasses, HasBothLevels}
use Rattle.si_candidates.proofs.BlockDecisions.{either, member}
use Rattle.si_candidates.proofs.PartLaws.{drawn_on}
use Rattle.si_candidates.proofs.LawfulParts.{each_is_drawn}

-- a set of states has a state, or none
pub first_of : (P : ℕ → Type 0) (states : List ℕ) → IsSetOf P states → Decided ((s : ℕ) × P s)
first_of P [] are = inr (λ (s, is). Contains-nil s ((are.exactly s).1 is))
first_of P (s ∷ states) are = inl (s, (are.exactly s).0 (Contains-here s states))

-- ---- which parts meet the blocks
module _ (g : StateGraph) (plus minus : List Bool) where
  other_or_not : (s : ℕ) → Decided (IsOther g plus minus s)
  other_or_not s =
      elim (both (less s g.states) (both (decide.not (member plus s)) (decide.not (member minus s)))) [
        | inl is ↦ inl (record { within = is.0; not_plus = is.1.0; not_minus = is.1.1 })
        | inr none ↦ inr (λ is. none (is.within, (is.not_plus, is.not_minus)))
      ]

  others : (marks : List Bool) × AreMarksOf g (IsOther g plus minus) marks
  others = some_marks g (IsOther g plus minus) other_or_not (λ s is. is.within)

  comes_or_not : (set : List Bool) (t : ℕ) → Decided (ComesFrom g set t)
  comes_or_not set t =
      let P : Edge → Type 0 = λ a. IsIn set a.from × (a.to ≡ t) in
      elim (some_of P (λ a. both (member set a.from) (cases_eq a.to t)) g.edges) [
        | inl (a, there, is) ↦ inl
            (a.from, a.event, is.0, subst (λ u. Contains g.edges (arc a.from a.event u)) is.1 there)
        | inr none ↦ inr (λ (s, e, here, step). none (arc s e t, step, (here, refl)))
      ]

  goes_or_not : (set : List Bool) (t : ℕ) → Decided (GoesInto g set t)
  goes_or_not set t =
      let P : Edge → Type 0 = λ a. IsIn set a.to × (a.from ≡ t) in
      elim (some_of P (λ a. both (member set a.to) (cases_eq a.from t)) g.edges) [
        | inl (a, there, is) ↦ inl
            (a.to, a.event, is.0, subst (λ u. Contains g.edges (arc u a.event a.to)) is.1 there)
        | inr none ↦ inr (λ (s, e, here, step). none (arc t e s, step, (here, refl)))
      ]

  module _ (from into : List Bool) where
    -- another state that an arc draws
    abbrev Seed : ℕ → Type 0
    Seed t = IsOther g plus minus t × (ComesFrom g from t ⊎ GoesInto g into t)

    seeds : (states : List ℕ) × IsSetOf Seed states
    seeds =
        some_set g Seed (λ t. both (other_or_not t) (either (comes_or_not from t) (goes_or_not into t)))
        (λ t is. is.0.within)

    abbrev Reached : ℕ → Type 0
    Reached s = IsReachedIn g Both others.0 seeds.0 s

    reached : (states : List ℕ) × IsSetOf Reached states
    reached = some_reached g Both others.0 seeds.0 others.1.size

    -- what is reached from a seed meets them
    drawn_along : (s : ℕ) (path : List ℕ) (t : ℕ) → PartMeets g plus minus from into s → Path g Both others.0 s path t
        → PartMeets g plus minus from into t
    drawn_along s [] t drawn leads = subst (PartMeets g plus minus from into) leads drawn
    drawn_along s (u ∷ us) t drawn leads =
        let other = (others.1.exactly u).0 leads.0.1 in
        drawn_along u us t
        (drawn_on g plus minus from into u s other (adjoins_back g s u leads.0.0) drawn) leads.1

    reached_drawn : (s : ℕ) → Reached s → PartMeets g plus minus from into s
    reached_drawn s r =
        let seed = (seeds.1.exactly r.seed).0 r.there.0 in
        let alone : PartMeets g plus minus from into r.seed =
        record { at = r.seed; part = record { begins = seed.0; path = []; leads = refl }; by = seed.1 } in
        drawn_along r.seed r.path s alone r.leads

    -- and what meets them is reached from a seed
    end_other : (s : ℕ) (path : List ℕ) (t : ℕ) → IsOther g plus minus s → PathOf g (IsOther g plus minus) s path t
        → IsOther g plus minus t
    end_other s [] t here leads = subst (IsOther g plus minus) leads here
    end_other s (u ∷ us) t here leads = end_other u us t leads.1 leads.2

    reached_back : (s : ℕ) (path : List ℕ) (t : ℕ) → IsOther g plus minus s → PathOf g (IsOther g plus minus) s path t
        → Reached t → Reached s
    reached_back s [] t here leads end = subst Reached (sym leads) end
    reached_back s (u ∷ us) t here leads end =
        reached_on (IsNext g Both others.0) (IsSeed others.0 seeds.0) u s (reached_back u us t leads.1 leads.2 end)
        (adjoins_back g s u leads.0, (others.1.exactly s).1 here)

    drawn_reached : (s : ℕ) → PartMeets g plus minus from into s → Reached s
    drawn_reached s d =
        let other = end_other s d.part.path d.at d.part.begins d.part.leads in
        let seed = (seeds.1.exactly d.at).1 (other, d.by) in
        let end = reached_seed (IsNext g Both others.0) (IsSeed others.0 seeds.0) d.at
        (seed, (others.1.exactly d.at).1 other) in
        reached_back s d.part.path d.at d.part.begins d.part.leads end

    pub drawn_or_not : (s : ℕ) → Decided (PartMeets g plus minus from into s)
    drawn_or_not s = elim (listed reached.0 s) [
      | inl there ↦ inl (reached_drawn s ((reached.1.exactly s).0 there))
      | inr absent ↦ inr (λ drawn. absent ((reached.1.exactly s).1 (drawn_reached s drawn)))
    ]

  pub torn_or_not : Decided ((s : ℕ) × HasBothLevels g plus minus s)
  torn_or_not =
      let torn = some_set g (HasBothLevels g plus minus) one (λ s is. is.high.part.begins.within) in
      first_of (HasBothLevels g plus minus) torn.0 torn.1
    where
      one : (s : ℕ) → Decided (HasBothLevels g plus minus s)
      one s = elim (both (drawn_or_not plus minus s) (drawn_or_not minus plus s)) [
        | inl is ↦ inl (record { high = is.0; low = is.1 })
        | inr none ↦ inr (λ is. none (is.high, is.low))
      ]

-- ---- the class of a state, by the sets that have it
abbrev class_for : Bool → Bool → Bool → Class
class_for plus minus high = if plus then Rising else (if minus then Falling else (if high then High else Low))

rising_is : (p m h : Bool) → (class_for p m h ≡ Rising) ↔ (p ≡ true)
rising_is true m h = ((λ e. refl), (λ e. refl))
rising_is false true h = ((λ (e : Falling ≡ Rising). absurd cc), (λ e. absurd (true≢false (sym e))))
rising_is false false true = ((λ (e : High ≡ Rising). absurd cc), (λ e. absurd (true≢false (sym e))))
rising_is false false false = ((λ (e : Low ≡ Rising). absurd cc), (λ e. absurd (true≢false (sym e))))

falling_is : (p m h : Bool) → (p ≡ true → m ≡ true → ⊥) → (class_for p m h ≡ Falling) ↔ (m ≡ true)
falling_is true true h apart = absurd (apart refl refl)
falling_is true false h apart = ((λ (e : Rising ≡ Falling). absurd cc), (λ e. absurd (true≢false (sym e))))
falling_is false true h apart = ((λ e. refl), (λ e. refl))
falling_is false false true apart = ((λ (e : High ≡ Falling). absurd cc), (λ e. absurd (true≢false (sym e))))
falling_is false false false apart = ((λ (e : Low ≡ Falling). absurd cc), (λ e. absurd (true≢false (sym e))))

no_bit : false ≡ true → ⊥
no_bit e = true≢false (sym e)

high_is : (p m h : Bool) → (class_for p m h ≡ High) ↔ ((p ≡ true → ⊥) × (m ≡ true → ⊥) × (h ≡ true))
high_is true m h = ((λ (e : Rising ≡ High). absurd cc), (λ k. absurd (k.0 refl)))
high_is false true h = ((λ (e : Falling ≡ High). absurd cc), (λ k. absurd (k.1 refl)))
high_is false false true = ((λ e. (no_bit, no_bit, refl)), (λ k. refl))
high_is false false false = ((λ (e : Low ≡ High). absurd cc), (λ k. absurd (no_bit k.2)))

low_is : (p m h : Bool) → (class_for p m h ≡ Low) ↔ ((p ≡ true → ⊥) × (m ≡ true → ⊥) × (h ≡ true → ⊥))
low_is true m h = ((λ (e : Rising ≡ Low). absurd cc), (λ k. absurd (k.0 refl)))
low_is false true h = ((λ (e : Falling ≡ Low). absurd cc), (λ k. absurd (k.1 refl)))
low_is false false true = ((λ (e : High ≡ Low). absurd cc), (λ k. absurd (k.2 refl)))
low_is false false false = ((λ e. (no_bit, no_bit, no_bit)), (λ k. refl))

-- ---- the classes of two blocks
module _ (g : StateGraph) (plus minus : List Bool) (r : ℕ) (graph : IsGraph g) (connected : IsConnected g)
    (disjoint : IsDisjoint plus minus) (in_plus : IsIn plus r) (r_in : r < g.states) where
  highs : (marks : List Bool) × AreMarksOf g (IsHigh g plus minus) marks
  highs = some_marks g (IsHigh g plus minus) (drawn_or_not g plus minus plus minus) (λ s is. is.part.begins.within)

  class_at : ℕ → Class
  class_at s = class_for (get_or plus s false) (get_or minus s false) (get_or highs.0 s false)

  listed_classes : List Class
  listed_classes = map class_at (range_with_len 0 g.states)

  class_is : (s : ℕ) → s < g.states → class_of listed_classes s ≡ class_at s
  unfolding listed_classes
  class_is s within = get_or-map-range_with_len class_at 0 g.states s s Low within (omega arith)

  has_class : (s : ℕ) → s < g.states → (k : Class) {P : Type 0} → (class_at s ≡ k) ↔ P
      → (class_of listed_classes s ≡ k) ↔ P
  has_class s within k is = ((λ e. is.0 (sym (class_is s within) ∙ e)), (λ p. class_is s within ∙ is.1 p))

  module _ (none_torn : (s : ℕ) → HasBothLevels g plus minus s → ⊥) where
    high_class : (s : ℕ) → (class_at s ≡ High) ↔ IsHigh g plus minus s
    unfolding class_at
    high_class s =
        let is = high_is (get_or plus s false) (get_or minus s false) (get_or highs.0 s false) in (
          (λ e. (highs.1.exactly s).0 (is.0 e).2),
          (λ high. (
              let other = high.part.begins in
              is.1 (other.not_plus, other.not_minus, (highs.1.exactly s).1 high))),
        )

    not_high : (s : ℕ) → (IsIn highs.0 s → ⊥) → IsHigh g plus minus s ⊎ IsLow g plus minus s → IsLow g plus minus s
    not_high s none (inl high) = absurd (none ((highs.1.exactly s).1 high))
    not_high s none (inr low) = low

    low_class : (s : ℕ) → s < g.states → (class_at s ≡ Low) ↔ IsLow g plus minus s
    unfolding class_at
    low_class s within =
        let is = low_is (get_or plus s false) (get_or minus s false) (get_or highs.0 s false) in (
          (λ e. (
              let k = is.0 e in
              let other : IsOther g plus minus s = record { within = within; not_plus = k.0; not_minus = k.1 } in
              not_high s k.2 (each_is_drawn g plus minus r s graph connected in_plus r_in within other))),
          (λ low. (
              let other = low.part.begins in
              let no_high : IsIn highs.0 s → ⊥ =
              λ there. none_torn s (record { high = (highs.1.exactly s).0 there; low = low }) in
              is.1 (other.not_plus, other.not_minus, no_high))),
        )

    are_classes : AreClasses g plus minus listed_classes
    unfolding listed_classes class_at
    are_classes = record {
      count = length-map-range_with_len class_at 0 g.states;
      rising = λ s within. has_class s within Rising
          (rising_is (get_or plus s false) (get_or minus s false) (get_or highs.0 s false));
      falling = λ s within. has_class s within Falling
          (falling_is (get_or plus s false) (get_or minus s false) (get_or highs.0 s false) (disjoint s));
      high = λ s within. has_class s within High (high_class s);
      low = λ s within. has_class s within Low (low_class s within);
    }

  pub classes_or_torn_within : ((classes : List Class) × AreClasses g plus minus classes)
      ⊎ ((s : ℕ) × HasBothLevels g plus minus s)
  classes_or_torn_within = elim (torn_or_not g plus minus) [
    | inl torn ↦ inr torn
    | inr none ↦ inl (listed_classes, are_classes (λ s torn. none (s, torn)))
  ]

pub classes_or_torn : (g : StateGraph) (plus minus : List Bool) (r f : ℕ) → IsGraph g → IsConnected g
    → length plus ≡ g.states → length minus ≡ g.states → IsDisjoint plus minus → IsIn plus r → IsIn minus f
    → ((classes : List Class) × AreClasses g plus minus classes) ⊎ ((s : ℕ) × HasBothLevels g plus minus s)
classes_or_torn g plus minus r f graph connected plus_size minus_size disjoint in_plus in_minus =
    let r_in : r < g.states = omega (arith, in_below plus r in_plus, plus_size) in
    classes_or_torn_within g plus minus r graph connected disjoint in_plus r_in
