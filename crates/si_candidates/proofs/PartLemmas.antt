-- A search finds the states of the High parts, and these tell the classes, or that a part has both levels.
use Rattle.std.proofs.Common.{◌≡◌, ℕ, ◌+◌, ◌<◌, ◌≤◌, ◌↔◌, ◌⊎◌, Bool, false, List, [], ◌∷◌, ◌++◌, length, replicate}
use Rattle.std.proofs.Common.{sym, subst, ◌∙◌, arith, inl, inr}
use Rattle.std.proofs.lemmas.Bool.{cases_Bool, cases_eq, true≢false}
use Rattle.std.proofs.lemmas.List.FromFn.{get_or-map-range_with_len, length-map-range_with_len}
use Rattle.si_base.specs.Graph.{StateGraph, IsGraph}
use Rattle.si_base.specs.Codes.{IsConnected}
use Rattle.si_base.specs.Order.{IsFirst}
use Rattle.si_base.specs.Sets.{IsIn, IsDisjoint, is_in}
use Rattle.si_graph.specs.declared.closure.Along.TheVariants.{Out, In, Both}
use Rattle.si_graph.specs.Closure.{IsNext}
use Rattle.si_graph.specs.Loops.Reach.{Marks, MarksAll}
use Rattle.si_graph.proofs.SearchLemmas.{Explores, explores_more, in_below, in_none, marks_all_as, marks_both}
use Rattle.si_graph.proofs.SearchLemmas.{marks_same}
use Rattle.si_graph.proofs.ListMembers.{Contains-nil}
use Rattle.si_regions.specs.Connected.{PathOf}
use Rattle.si_regions.specs.Loops.Searching.{AreMarksOf}
use Rattle.si_regions.proofs.RegionLemmas.{IsStateOf, MadeTo, states_all}
use Rattle.si_insert.specs.declared.partition.Class.{Class}
use Rattle.si_insert.specs.declared.partition.Class.TheVariants.{Low, Rising, High, Falling}
use Rattle.si_insert.specs.Partition.{class_of, IsLawful}
use Rattle.si_regions.proofs.ComponentLemmas.{adjoins_back}
use Rattle.si_candidates.specs.Parts.{IsOther, ComesFrom, GoesInto, PartMeets, IsHigh, IsLow, AreClasses, HasBothLevels}
use Rattle.si_candidates.specs.Parts.{IsFirstWithBothLevels}
use Rattle.si_candidates.specs.Loops.Sides.{class_by, classes_by}
use Rattle.si_candidates.proofs.LawfulParts.{each_is_drawn}
use Rattle.si_candidates.proofs.PartLaws.{alone, classes_lawful, drawn_on}
use Rattle.si_candidates.proofs.SideLemmas.{falling_is, high_is, low_is, rising_is}

-- ---- the states in neither block
pub outside_all : (g : StateGraph) (plus minus : List Bool) (k : ℕ) (set : List Bool) → g.states ≤ k
    → MadeTo (IsStateOf (IsOther g plus minus)) g.states k set → k ≤ g.states → AreMarksOf g (IsOther g plus minus) set
outside_all g plus minus k set all made most =
    let x = states_all g (IsOther g plus minus) k set all made most in
    record {
      size = x.size;
      exactly = λ t. (λ there. ((x.exactly t).0 there).1, λ other. (x.exactly t).1 (other.within, other));
    }

-- ---- beside the states of a set
-- t is next to one of the first n states of the set
abbrev pub IsNextBefore : (ℕ → ℕ → Type 0) → List Bool → ℕ → ℕ → Type 0
IsNextBefore N set n t = (s : ℕ) × (s < n) × IsIn set s × N s t

module _ (N : ℕ → ℕ → Type 0) (set : List Bool) where
  pub next_none : (A : List Bool) (w : List ℕ) → MarksAll (IsNextBefore N set 0) A w A w
  next_none A w = record {
    marks_are = marks_same (IsNextBefore N set 0) A w;
    all = λ t next. absurd (let before = next.1 in omega arith);
  }

  pub next_more : (n : ℕ) (A : List Bool) (w : List ℕ) (B : List Bool) (v : List ℕ) (D : List Bool) (u : List ℕ)
      → IsIn set n → MarksAll (IsNextBefore N set n) A w B v → MarksAll (N n) B v D u
      → MarksAll (IsNextBefore N set (n + 1)) A w D u
  next_more n A w B v D u here before one = record {
    marks_are = marks_both (IsNextBefore N set n) (N n) (IsNextBefore N set (n + 1)) A w B v D u
        (λ t k. (k.0, (let less = k.1 in omega arith), k.2, k.3)) (λ t next. (n, omega arith, here, next))
        before.marks_are one.marks_are;
    all = λ t k. elim (cases_eq k.0 n) [
      | inl same ↦ one.all t (subst (λ (s : ℕ). N s t) same k.3)
      | inr other ↦ one.marks_are.grows t
          (before.all t (k.0, (let less = k.1 in omega (arith, less, other)), k.2, k.3))
    ];
  }

  pub next_pass : (n : ℕ) (A : List Bool) (w : List ℕ) (B : List Bool) (v : List ℕ) → (IsIn set n → ⊥)
      → MarksAll (IsNextBefore N set n) A w B v → MarksAll (IsNextBefore N set (n + 1)) A w B v
  next_pass n A w B v out before = marks_all_as (IsNextBefore N set n) (IsNextBefore N set (n + 1)) A w B v
      (λ t k. (k.0, (let less = k.1 in omega arith), k.2, k.3))
      (λ t k. elim (cases_eq k.0 n) [
        | inl same ↦ absurd (out (subst (IsIn set) same k.2))
        | inr other ↦ (k.0, (let less = k.1 in omega (arith, less, other)), k.2, k.3)
      ])
      before

  pub next_all : (n : ℕ) (A : List Bool) (w : List ℕ) (B : List Bool) (v : List ℕ)
      → ((s : ℕ) → IsIn set s → s < n) → MarksAll (IsNextBefore N set n) A w B v
      → MarksAll (λ t. (s : ℕ) × IsIn set s × N s t) A w B v
  next_all n A w B v below before = marks_all_as (IsNextBefore N set n) (λ t. (s : ℕ) × IsIn set s × N s t) A w B v
      (λ t k. (k.0, k.2, k.3)) (λ t k. (k.0, below k.0 k.1, k.1, k.2)) before

-- ---- the search for the High states
-- a state in neither block that a Rising state enters or that leads into a Falling one
abbrev pub IsSeed : StateGraph → List Bool → List Bool → ℕ → Type 0
IsSeed g plus minus t = (ComesFrom g plus t ⊎ GoesInto g minus t) × IsOther g plus minus t

abbrev pub Spreads : StateGraph → List Bool → List Bool → List Bool → List Bool → List ℕ → Type 0
Spreads g plus minus others marks work =
    Explores (IsNext g Both others) (IsSeed g plus minus) (IsHigh g plus minus) marks work

module _ (g : StateGraph) (plus minus others : List Bool) (are : AreMarksOf g (IsOther g plus minus) others) where
  pub spreads_from : (n : ℕ) (A : List Bool) (w : List ℕ) (B : List Bool) (v : List ℕ)
      → MarksAll (λ t. (s : ℕ) × IsIn plus s × IsNext g Out others s t) (replicate n false) [] A w
      → MarksAll (λ t. (s : ℕ) × IsIn minus s × IsNext g In others s t) A w B v → Spreads g plus minus others B v
  spreads_from n A w B v entered leading = record {
    begun = λ t seed. elim seed.0 [
      | inl k ↦ leading.marks_are.grows t (entered.all t (k.0, k.2, ((k.1, k.3), (are.exactly t).1 seed.1)))
      | inr k ↦ leading.all t (k.0, k.2, ((k.1, k.3), (are.exactly t).1 seed.1))
    ];
    sound = λ t there. elim (both.sound t there) [
      | inl old ↦ absurd (in_none n t old)
      | inr seed ↦ alone g t plus minus plus minus seed.1 seed.0
    ];
    closed = λ s there. elim (both.queued s there) [ inl old ↦ absurd (in_none n s old) | inr waits ↦ inl waits ];
    queued = λ t waits. elim (both.marked t waits) [ inl old ↦ absurd (Contains-nil t old) | inr marked ↦ marked ];
  }
    where
      both : Marks (IsSeed g plus minus) (replicate n false) [] B v
      both = marks_both _ _ (IsSeed g plus minus) (replicate n false) [] A w B v
          (λ t k. (inl (k.0, k.2.0.0, k.1, k.2.0.1), (are.exactly t).0 k.2.1))
          (λ t k. (inr (k.0, k.2.0.0, k.1, k.2.0.1), (are.exactly t).0 k.2.1))
          entered.marks_are leading.marks_are

  pub spreads_more : (s : ℕ) (A : List Bool) (rest : List ℕ) (B : List Bool) (v : List ℕ)
      → Spreads g plus minus others A (rest ++ s ∷ []) → MarksAll (IsNext g Both others s) A rest B v
      → Spreads g plus minus others B v
  spreads_more s A rest B v x one =
      explores_more (IsNext g Both others) (IsSeed g plus minus) (IsHigh g plus minus) s A rest B v
      (λ t here next. drawn_on g plus minus plus minus t s ((are.exactly t).0 next.1)
      (adjoins_back g s t next.0) here) x one

  -- the end of a path that begins beside a block is reached
  back_path : (marks : List Bool) → Spreads g plus minus others marks [] → (s : ℕ) (path : List ℕ) (t : ℕ)
      → IsOther g plus minus s → PathOf g (IsOther g plus minus) s path t
      → (ComesFrom g plus t ⊎ GoesInto g minus t) → IsIn marks s
  back_path marks x s [] t other path by =
      x.begun s (subst (λ (u : ℕ). ComesFrom g plus u ⊎ GoesInto g minus u) (sym path) by, other)
  back_path marks x s (u ∷ us) t other path by = elim (x.closed u (back_path marks x u us t path.1 path.2 by)) [
    | inl none ↦ absurd (Contains-nil u none)
    | inr done ↦ done s (adjoins_back g s u path.0, (are.exactly s).1 other)
  ]

  pub spreads_end : (marks : List Bool) → length marks ≡ g.states → Spreads g plus minus others marks []
      → AreMarksOf g (IsHigh g plus minus) marks
  spreads_end marks size x = record {
    size = size;
    exactly = λ s. (
      x.sound s,
      λ high. back_path marks x s high.part.path high.at high.part.begins high.part.leads high.by,
    );
  }

-- ---- both ways
swap_other : (g : StateGraph) (plus minus : List Bool) (s : ℕ) → IsOther g minus plus s → IsOther g plus minus s
swap_other g plus minus s other =
    record { within = other.within; not_plus = other.not_minus; not_minus = other.not_plus }

swap_path : (g : StateGraph) (plus minus : List Bool) (s : ℕ) (path : List ℕ) (t : ℕ)
    → PathOf g (IsOther g minus plus) s path t → PathOf g (IsOther g plus minus) s path t
swap_path g plus minus s [] t path = path
swap_path g plus minus s (u ∷ us) t path =
    (path.0, swap_other g plus minus u path.1, swap_path g plus minus u us t path.2)

-- the same parts where the blocks are swapped
swap_drawn : (g : StateGraph) (plus minus from into : List Bool) (s : ℕ) → PartMeets g minus plus from into s
    → PartMeets g plus minus from into s
swap_drawn g plus minus from into s d = record {
  at = d.at;
  part = record {
    begins = swap_other g plus minus s d.part.begins;
    path = d.part.path;
    leads = swap_path g plus minus s d.part.path d.at d.part.leads;
  };
  by = d.by;
}

-- ---- the classes by the High states, and by those of the swapped blocks
module _ (g : StateGraph) (plus minus high low : List Bool) (highs : AreMarksOf g (IsHigh g plus minus) high)
    (lows : AreMarksOf g (IsHigh g minus plus) low) where
  in_both : (s : ℕ) → (IsIn high s × IsIn low s) ↔ HasBothLevels g plus minus s
  in_both s = (
    λ both. record {
      high = (highs.exactly s).0 both.0;
      low = swap_drawn g plus minus minus plus s ((lows.exactly s).0 both.1);
    },
    λ torn. (
      (highs.exactly s).1 torn.high,
      (lows.exactly s).1 (swap_drawn g minus plus minus plus s torn.low),
    ),
  )

  pub first_torn : (s : ℕ) → IsFirst (λ t. t ∷ []) (λ t. IsIn high t × IsIn low t) s
      → IsFirstWithBothLevels g plus minus s
  first_torn s first = record {
    holds = (in_both s).0 first.holds;
    none_before = λ t torn before. first.none_before t ((in_both t).1 torn) before;
  }

  module _ (graph : IsGraph g) (connected : IsConnected g) (size : length plus ≡ g.states)
      (apart : IsDisjoint plus minus) (r : ℕ) (r_in : r < g.states) (rises : IsIn plus r)
      (none : IsDisjoint high low) where
    abbrev told : ℕ → Class
    told s = class_by (is_in plus s) (is_in minus s) (is_in high s)

    class_at : (s : ℕ) → s < g.states → class_of (classes_by plus minus high) s ≡ told s
    class_at s within = get_or-map-range_with_len told 0 (length plus) s s Low (omega (arith, size)) (omega arith)

    out : (set : List Bool) (s : ℕ) → (IsIn set s → ⊥) → is_in set s ≡ false
    out set s not = elim (cases_Bool (is_in set s)) [ inl there ↦ absurd (not there) | inr is ↦ is ]

    not_in : (set : List Bool) (s : ℕ) → is_in set s ≡ false → IsIn set s → ⊥
    not_in set s is there = true≢false (sym there ∙ is)

    is_high : (s : ℕ) → s < g.states → (told s ≡ High) ↔ IsHigh g plus minus s
    is_high s within = (
      λ is. (highs.exactly s).0 ((high_is _ _ _).0 is).2,
      λ is. (high_is _ _ _).1 (
        out plus s is.part.begins.not_plus,
        out minus s is.part.begins.not_minus,
        (highs.exactly s).1 is,
      ),
    )

    is_low : (s : ℕ) → s < g.states → (told s ≡ Low) ↔ IsLow g plus minus s
    is_low s within = (
      λ is. low_from ((low_is _ _ _).0 is),
      λ is. (low_is _ _ _).1 (
        out plus s is.part.begins.not_plus,
        out minus s is.part.begins.not_minus,
        out high s (λ there. none s there ((lows.exactly s).1 (swap_drawn g minus plus minus plus s is))),
      ),
    )
      where
        low_from : (is_in plus s ≡ false) × (is_in minus s ≡ false) × (is_in high s ≡ false) → IsLow g plus minus s
        low_from is = elim (each_is_drawn g plus minus r s graph connected rises r_in within (record {
          within = within;
          not_plus = not_in plus s is.0;
          not_minus = not_in minus s is.1;
        })) [
          | inl drawn ↦ absurd (not_in high s is.2 ((highs.exactly s).1 drawn))
          | inr drawn ↦ drawn
        ]

    are_classes : AreClasses g plus minus (classes_by plus minus high)
    are_classes = record {
      count = length-map-range_with_len told 0 (length plus) ∙ size;
      rising = λ s within. at s within Rising (IsIn plus s) (rising_is _ _ _);
      falling = λ s within. at s within Falling (IsIn minus s) (falling_is _ _ _ (apart s));
      high = λ s within. at s within High (IsHigh g plus minus s) (is_high s within);
      low = λ s within. at s within Low (IsLow g plus minus s) (is_low s within);
    }
      where
        at : (s : ℕ) → s < g.states → (c : Class) (P : Type 0) → (told s ≡ c) ↔ P
            → (class_of (classes_by plus minus high) s ≡ c) ↔ P
        at s within c P tells =
            (λ is. tells.0 (sym (class_at s within) ∙ is), λ p. class_at s within ∙ tells.1 p)

  pub told_classes : IsGraph g → IsConnected g → length plus ≡ g.states → length minus ≡ g.states
      → IsDisjoint plus minus → ((s : ℕ) × IsIn plus s) → ((s : ℕ) × IsIn minus s) → IsDisjoint high low
      → AreClasses g plus minus (classes_by plus minus high) × IsLawful g (classes_by plus minus high)
  told_classes graph connected plus_size minus_size apart r f none =
      let r_in : r.0 < g.states = omega (arith, in_below plus r.0 r.1, plus_size) in
      let f_in : f.0 < g.states = omega (arith, in_below minus f.0 f.1, minus_size) in
      let are = are_classes graph connected plus_size apart r.0 r_in r.1 none in
      (are, classes_lawful g plus minus (classes_by plus minus high) r.0 f.0 graph are r.1 r_in f.1 f_in)
