-- Sides of blocks along a tree of arcs, and the classes that they tell.
use Rattle.std.proofs.Common.{◌≡◌, ◌≢◌, ℕ, zero, suc, ◌+◌, ◌<◌, ◌≤◌, ◌&&◌, ◌↔◌, ◌∙◌, not, Bool, true, false}
use Rattle.std.proofs.Common.{List, length, get_or, set, refl, sym, ap, ap₂, subst, arith, inl, inr}
use Rattle.std.proofs.Common.{get_or-set_same, get_or-set_other, length-set}
use Rattle.std.proofs.lemmas.Bool.{cases_eq, cases_Bool, true≢false}
use Rattle.std.proofs.lemmas.List.{get_or_default, ext_get_or}
use Rattle.si_base.specs.declared.ids.Event.{Event}
use Rattle.si_base.specs.Graph.{StateGraph, Step, IsGraph}
use Rattle.si_base.proofs.StepCodes.{step_within}
use Rattle.si_insert.specs.declared.partition.Class.{Class}
use Rattle.si_insert.specs.declared.partition.Class.TheVariants.{Low, Rising, High, Falling}
use Rattle.si_insert.specs.Partition.{class_of, may_lead}
use Rattle.si_insert.specs.Insertion.{entry}
use Rattle.si_base.specs.Sets.{IsIn, is_in}
use Rattle.si_candidates.specs.declared.tree.Link.{Link}
use Rattle.si_candidates.specs.Loops.Tree.{IsLinkAt, IsMet, IsTree}
use Rattle.si_candidates.specs.Loops.Sides.{differ, leaves, between, class_by, side_after, AreSides}
use Rattle.si_candidates.specs.Loops.Sides.{IsPartitionOfBlocks}

-- ---- one of the two, and not both
differ_not : (a b : Bool) → differ (not a) b ≡ not (differ a b)
differ_not true true = refl
differ_not true false = refl
differ_not false b = refl

pub differ_group : (a b d : Bool) → differ (differ a b) d ≡ differ a (differ b d)
differ_group true b d = differ_not b d
differ_group false b d = refl

pub differ_swap : (a b d : Bool) → differ a (differ b d) ≡ differ b (differ a d)
differ_swap true true d = refl
differ_swap true false d = refl
differ_swap false true d = refl
differ_swap false false d = refl

differ_none : (a : Bool) → differ a (differ false false) ≡ a
differ_none true = refl
differ_none false = refl

-- two changes, one after another, each in two parts
differ_parts : (a x y p q : Bool)
    → differ (differ a (differ x y)) (differ p q) ≡ differ a (differ (differ x p) (differ y q))
differ_parts a x y p q =
    differ_group a (differ x y) (differ p q)
    ∙ ap (differ a) (differ_group x y (differ p q)
    ∙ ap (differ x) (differ_swap y p q)
    ∙ sym (differ_group x p (differ y q)))

no_difference : (a b : Bool) → differ a b ≡ false → a ≡ b
no_difference true true h = refl
no_difference true false h = absurd (true≢false h)
no_difference false true h = absurd (true≢false h)
no_difference false false h = refl

-- ---- the sides of a set, link after link
-- the sides of the states that the first n links meet; the others wait at the side of the start
pub record AreSidesTo (g : StateGraph) (tree : List Link) (block : List Bool) (n : ℕ) (sides : List Bool)
    : Type 0 where
  pub size : length sides ≡ g.states
  pub start : is_in sides g.start ≡ false
  pub along : (k : ℕ) (l : Link) → k < n → IsLinkAt tree k l → is_in sides l.to ≡ side_after block sides l
  pub waits : (t : ℕ) → (IsMet g.start tree n t → ⊥) → is_in sides t ≡ false

met_later : (g : StateGraph) (tree : List Link) (n m t : ℕ) → n ≤ m → IsMet g.start tree n t → IsMet g.start tree m t
met_later g tree n m t few (inl same) = inl same
met_later g tree n m t few (inr (k, l, early, there, leads)) = inr (k, l, omega (arith, early, few), there, leads)

module _ (g : StateGraph) (tree : List Link) (is : IsTree g tree) (block : List Bool) where
  abbrev To : ℕ → List Bool → Type 0
  To n sides = AreSidesTo g tree block n sides

  module _ (n : ℕ) (l : Link) (inside : n < length tree) (at : l ≡ get_or tree n l) (sides after : List Bool)
      (before : To n sides) (size : length after ≡ length sides)
      (here : is_in after l.to ≡ side_after block sides l)
      (others : (t : ℕ) → t ≢ l.to → is_in after t ≡ is_in sides t) where
    fresh : (t : ℕ) → IsMet g.start tree n t → t ≢ l.to
    fresh t met same = (is.each n l (inside, sym at)).new (subst (IsMet g.start tree n) same met)

    along_before : (k : ℕ) (m : Link) → k < n → IsLinkAt tree k m → is_in after m.to ≡ side_after block after m
    along_before k m early there =
        let from_met = met_later g tree k n m.from (omega (arith, early)) (is.each k m there).from_met in
        others m.to (fresh m.to (inr (k, m, early, there, refl)))
        ∙ before.along k m early there
        ∙ ap (λ b. differ b (leaves block m.from m.to)) (sym (others m.from (fresh m.from from_met)))

    along_last : (m : Link) → m ≡ l → is_in after m.to ≡ side_after block after m
    along_last m same = subst (λ (x : Link). is_in after x.to ≡ side_after block after x) (sym same)
        (here ∙ ap (λ b. differ b (leaves block l.from l.to))
        (sym (others l.from (fresh l.from (is.each n l (inside, sym at)).from_met))))

    pub sides_more : To (n + 1) after
    sides_more = record {
      size = size ∙ before.size;
      start = others g.start (fresh g.start (inl refl)) ∙ before.start;
      along = λ k m early there. elim (cases_eq k n) [
        | inl last ↦ along_last m (sym there.1 ∙ ap (λ (j : ℕ). get_or tree j m) last
            ∙ get_or_default tree n m l inside ∙ sym at)
        | inr apart ↦ along_before k m (omega (arith, early, apart)) there
      ];
      waits = λ t none. others t (λ same. none (inr (n, l, omega arith, (inside, sym at), sym same)))
          ∙ before.waits t (λ met. none (met_later g tree n (n + 1) t (omega arith) met));
    }

  module _ (n : ℕ) (l : Link) (inside : n < length tree) (at : l ≡ get_or tree n l) (sides : List Bool)
      (before : To n sides) where
    -- the target is on the other side than the start
    pub sides_other : l.to < g.states → side_after block sides l ≡ true → To (n + 1) (set sides l.to true)
    sides_other within odd = sides_more n l inside at sides (set sides l.to true) before
        (length-set sides l.to true)
        (get_or-set_same sides l.to true false (omega (arith, within, before.size)) ∙ sym odd)
        (λ t apart. get_or-set_other sides l.to t true false apart)

    -- it is on the same side
    pub sides_same : side_after block sides l ≡ false → To (n + 1) sides
    sides_same even = sides_more n l inside at sides sides before refl
        (before.waits l.to (is.each n l (inside, sym at)).new ∙ sym even) (λ t apart. refl)

  pub link_within : IsGraph g → (n : ℕ) (l : Link) → n < length tree → l ≡ get_or tree n l
      → (l.from < g.states) × (l.to < g.states)
  link_within graph n l inside at =
      let step = (is.each n l (inside, sym at)).along in
      let within = step_within g l.from step.0 l.to graph step.1 in (within.0, within.2)

-- ---- one arc
abbrev is_rising : Class → Bool
is_rising Rising = true
is_rising c = false

abbrev is_falling : Class → Bool
is_falling Falling = true
is_falling c = false

abbrev goes_out : Bool → Bool → Bool
goes_out a b = a && not b

-- an arc changes the value where it leaves the Rising states, or the Falling ones
arc_turns : (c d : Class) → may_lead c d ≡ true → entry d
    ≡ differ (entry c) (differ (goes_out (is_rising c) (is_rising d)) (goes_out (is_falling c) (is_falling d)))
arc_turns Low Low h = refl
arc_turns Low Rising h = refl
arc_turns Low High h = absurd (true≢false (sym h))
arc_turns Low Falling h = absurd (true≢false (sym h))
arc_turns Rising Low h = absurd (true≢false (sym h))
arc_turns Rising Rising h = refl
arc_turns Rising High h = refl
arc_turns Rising Falling h = refl
arc_turns High Low h = absurd (true≢false (sym h))
arc_turns High Rising h = absurd (true≢false (sym h))
arc_turns High High h = refl
arc_turns High Falling h = refl
arc_turns Falling Low h = refl
arc_turns Falling Rising h = refl
arc_turns Falling High h = absurd (true≢false (sym h))
arc_turns Falling Falling h = refl

-- a test that holds just for one class
by_test : (test : Class → Bool) (one : Class) (b : Bool) (c : Class) → ((d : Class) → test d ≡ true → d ≡ one)
    → test one ≡ true → (c ≡ one) ↔ (b ≡ true) → b ≡ test c
by_test test one b c only holds iff = elim (cases_Bool b) [
  | inl there ↦ there ∙ sym holds ∙ ap test (sym (iff.1 there))
  | inr out ↦ elim (cases_Bool (test c)) [
    | inl yes_c ↦ absurd (true≢false (sym (iff.0 (only c yes_c)) ∙ out))
    | inr no_c ↦ out ∙ sym no_c
  ]
]

only_rising : (c : Class) → is_rising c ≡ true → c ≡ Rising
only_rising Low h = absurd (true≢false (sym h))
only_rising Rising h = refl
only_rising High h = absurd (true≢false (sym h))
only_rising Falling h = absurd (true≢false (sym h))

only_falling : (c : Class) → is_falling c ≡ true → c ≡ Falling
only_falling Low h = absurd (true≢false (sym h))
only_falling Rising h = absurd (true≢false (sym h))
only_falling High h = absurd (true≢false (sym h))
only_falling Falling h = refl

class_told : (c : Class) → c ≡ class_by (is_rising c) (is_falling c) (entry c)
class_told Low = refl
class_told Rising = refl
class_told High = refl
class_told Falling = refl

-- ---- which classes tests tell
pub rising_is : (a b v : Bool) → (class_by a b v ≡ Rising) ↔ (a ≡ true)
rising_is true b v = (λ h. refl, λ h. refl)
rising_is false true v = (λ (h : Falling ≡ Rising). cc, λ h. absurd (true≢false (sym h)))
rising_is false false true = (λ (h : High ≡ Rising). cc, λ h. absurd (true≢false (sym h)))
rising_is false false false = (λ (h : Low ≡ Rising). cc, λ h. absurd (true≢false (sym h)))

pub falling_is : (a b v : Bool) → (a ≡ true → b ≡ true → ⊥) → (class_by a b v ≡ Falling) ↔ (b ≡ true)
falling_is true b v apart = (λ (h : Rising ≡ Falling). cc, λ h. absurd (apart refl h))
falling_is false true v apart = (λ h. refl, λ h. refl)
falling_is false false true apart = (λ (h : High ≡ Falling). cc, λ h. absurd (true≢false (sym h)))
falling_is false false false apart = (λ (h : Low ≡ Falling). cc, λ h. absurd (true≢false (sym h)))

pub high_is : (a b v : Bool) → (class_by a b v ≡ High) ↔ ((a ≡ false) × (b ≡ false) × (v ≡ true))
high_is true b v = (λ (h : Rising ≡ High). cc, λ h. absurd (true≢false h.0))
high_is false true v = (λ (h : Falling ≡ High). cc, λ h. absurd (true≢false h.1))
high_is false false true = (λ h. (refl, refl, refl), λ h. refl)
high_is false false false = (λ (h : Low ≡ High). cc, λ h. absurd (true≢false (sym h.2)))

pub low_is : (a b v : Bool) → (class_by a b v ≡ Low) ↔ ((a ≡ false) × (b ≡ false) × (v ≡ false))
low_is true b v = (λ (h : Rising ≡ Low). cc, λ h. absurd (true≢false h.0))
low_is false true v = (λ (h : Falling ≡ Low). cc, λ h. absurd (true≢false h.1))
low_is false false true = (λ (h : High ≡ Low). cc, λ h. absurd (true≢false h.2))
low_is false false false = (λ h. (refl, refl, refl), λ h. refl)

-- ---- two blocks
module _ (g : StateGraph) (graph : IsGraph g) (plus minus : List Bool) (others : List Class)
    (from : IsPartitionOfBlocks g plus minus others) where
  rises : (s : ℕ) → s < g.states → is_in plus s ≡ is_rising (class_of others s)
  rises s within = by_test is_rising Rising (is_in plus s) (class_of others s) only_rising refl (from.rising s within)

  falls : (s : ℕ) → s < g.states → is_in minus s ≡ is_falling (class_of others s)
  falls s within =
      by_test is_falling Falling (is_in minus s) (class_of others s) only_falling refl (from.falling s within)

  abbrev value : ℕ → Bool
  value s = entry (class_of others s)

  one_step : (s : ℕ) (e : Event) (t : ℕ) → Step g s e t
      → value t ≡ differ (value s) (differ (leaves plus s t) (leaves minus s t))
  one_step s e t step =
      let within = step_within g s e t graph step in
      let out_of_plus = ap₂ goes_out (rises s within.0) (rises t within.2) in
      let out_of_minus = ap₂ goes_out (falls s within.0) (falls t within.2) in
      arc_turns (class_of others s) (class_of others t) (from.lawful.arcs s e t step)
      ∙ ap₂ (λ a b. differ (value s) (differ a b)) (sym out_of_plus) (sym out_of_minus)

  module _ (tree : List Link) (is : IsTree g tree) (plus_sides minus_sides : List Bool)
      (one : AreSides g tree plus plus_sides) (two : AreSides g tree minus minus_sides) where
    abbrev turned : ℕ → Bool
    turned s = between plus_sides minus_sides s

    value_start : value g.start ≡ differ (value g.start) (turned g.start)
    value_start = sym (differ_none (value g.start))
        ∙ ap₂ (λ a b. differ (value g.start) (differ a b)) (sym one.start) (sym two.start)

    value_met : (n t : ℕ) → IsMet g.start tree n t → value t ≡ differ (value g.start) (turned t)
    value_met n t (inl same) =
        subst (λ (s : ℕ). value s ≡ differ (value g.start) (turned s)) (sym same) value_start
    value_met zero t (inr (k, l, early, there, leads)) = absurd (omega (arith, early))
    value_met (suc n) t (inr (k, l, early, there, leads)) =
        let grows = is.each k l there in
        let before : IsMet g.start tree n l.from = met_later g tree k n l.from (omega (arith, early)) grows.from_met in
        subst (λ (s : ℕ). value s ≡ differ (value g.start) (turned s)) leads (
        one_step l.from grows.along.0 l.to grows.along.1
        ∙ ap (λ b. differ b (differ (leaves plus l.from l.to) (leaves minus l.from l.to))) (value_met n l.from before)
        ∙ differ_parts (value g.start) (is_in plus_sides l.from) (is_in minus_sides l.from) _ _
        ∙ ap₂ (λ a b. differ (value g.start) (differ a b)) (sym (one.along k l there)) (sym (two.along k l there)))

    value_told : (r : ℕ) → r < g.states → IsIn plus r → (s : ℕ) → s < g.states
        → value s ≡ differ (turned r) (turned s)
    value_told r r_in rising s s_in =
        let at_r : value r ≡ false = ap entry ((from.rising r r_in).1 rising) in
        let start = no_difference (value g.start) (turned r)
        (sym (value_met (length tree) r (is.all r r_in)) ∙ at_r) in
        value_met (length tree) s (is.all s s_in) ∙ ap (λ b. differ b (turned s)) start

    pub class_is : (r : ℕ) → r < g.states → IsIn plus r → (s : ℕ) → s < g.states
        → class_of others s ≡ class_by (is_in plus s) (is_in minus s) (differ (turned r) (turned s))
    class_is r r_in rising s s_in =
        class_told (class_of others s)
        ∙ ap₂ (λ a b. class_by a b (value s)) (sym (rises s s_in)) (sym (falls s s_in))
        ∙ ap (class_by (is_in plus s) (is_in minus s)) (value_told r r_in rising s s_in)

    pub classes_told : (r : ℕ) → r < g.states → IsIn plus r → (classes : List Class)
        → length classes ≡ g.states
        → ((s : ℕ) → s < g.states
        → class_of classes s ≡ class_by (is_in plus s) (is_in minus s) (differ (turned r) (turned s)))
        → others ≡ classes
    classes_told r r_in rising classes size each =
        ext_get_or Low others classes (from.lawful.count ∙ sym size)
        (λ s inside. (let s_in : s < g.states = omega (arith, inside, from.lawful.count) in
        class_is r r_in rising s s_in ∙ sym (each s s_in)))
