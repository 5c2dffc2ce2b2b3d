-- There is a composed graph: all tuples of states, with the arcs by which all parts move.
use Rattle.std.proofs.Common.{◌≡◌, ℕ, ◌⊎◌, ◌<◌, ◌==◌, ◌+◌, ◌*◌, ◌/◌, ◌%◌, ◌&&◌, Bool, true, false, List, [], ◌∷◌, ◌++◌}
use Rattle.std.proofs.Common.{zero, suc, refl, sym, ap, ap₂, subst, ◌∙◌, arith, inl, inr, length, Contains}
use Rattle.std.proofs.Common.{eqb-true, eq-eqb, if◌then◌else◌}
use Rattle.std.proofs.lemmas.Bool.{true≢false, cases_Bool, cases_eq, and_parts, and_from}
use Rattle.std.proofs.lemmas.List.Folds.{list_any_at, Any-from_list_any}
use Rattle.std.proofs.lemmas.List.Elements.{Contains-append_left, Contains-append_right, Contains-append_cases}
use Rattle.std.specs.List.{list_any}
use Rattle.si_base.specs.declared.ids.Event.{Event}
use Rattle.si_base.specs.declared.graph.Edge.{Edge}
use Rattle.si_base.specs.declared.graph.Signal.{Signal}
use Rattle.si_base.specs.Graph.{StateGraph, Step, Walk, IsReachable, IsGraph, arc, same_event}
use Rattle.si_base.proofs.StepCodes.{step_within}
use Rattle.si_base.proofs.GraphSteps.{same_event-refl, same_event-true}
use Rattle.si_compose.specs.Joined.{IsSame, AreJoined}
use Rattle.si_compose.specs.Composed.{Moves, own_event, IsComposed}
use Rattle.si_compose.proofs.SameSignals.{has_or_not, one_own}

-- ---- lists of what has a property
front : {A : Type 0} (x : A) (xs : List A) → Contains (x ∷ xs) x
front x xs = (0, omega arith, refl)

behind : {A : Type 0} (x y : A) (xs : List A) → Contains xs x → Contains (y ∷ xs) x
behind x y xs there = (suc there.0, omega (arith, there.1), there.2)

first_or_later : {A : Type 0} (x y : A) (xs : List A) → Contains (y ∷ xs) x → (y ≡ x) ⊎ Contains xs x
first_or_later x y xs (zero, within, is) = inl is
first_or_later x y xs (suc k, within, is) = inr (k, omega (arith, within), is)

-- the elements f k for the k below n that have the property
pub record Collected (A : Type 0) (n : ℕ) (P : ℕ → Type 0) (f : ℕ → A) : Type 0 where
  pub list : List A
  pub all : (k : ℕ) → k < n → P k → Contains list (f k)
  pub only : (x : A) → Contains list x → (k : ℕ) × (k < n) × P k × (f k ≡ x)

pub collected : (A : Type 0) (n : ℕ) (P : ℕ → Type 0) (f : ℕ → A) → ((k : ℕ) → P k ⊎ (P k → ⊥)) → Collected A n P f
collected A zero P f decided = record {
  list = [];
  all = λ k small holds. absurd (omega (arith, small));
  only = λ x there. absurd (omega (arith, there.1));
}
collected A (suc n) P f decided =
    let rest = collected A n P f decided in
    elim (decided n) [
      | inl holds ↦ record {
        list = f n ∷ rest.list;
        all = λ k small has. elim (cases_eq k n) [
          | inl same ↦ subst (λ j. Contains (f n ∷ rest.list) (f j)) (sym same) (front (f n) rest.list)
          | inr apart ↦ behind (f k) (f n) rest.list (rest.all k (omega (arith, small, apart)) has)
        ];
        only = λ x there. elim (first_or_later x (f n) rest.list there) [
          | inl is ↦ (n, omega arith, holds, is)
          | inr later ↦ (
              let found = rest.only x later in (found.0, omega (arith, found.1), found.2, found.3))
        ];
      }
      | inr fails ↦ record {
        list = rest.list;
        all = λ k small has. elim (cases_eq k n) [
          | inl same ↦ absurd (fails (subst P same has))
          | inr apart ↦ rest.all k (omega (arith, small, apart)) has
        ];
        only = λ x there. (let found = rest.only x there in (found.0, omega (arith, found.1), found.2, found.3));
      }
    ]

-- ---- tuples as numbers, digit by digit

digit : ℕ → ℕ → ℕ
digit zero s = s % 262144
digit (suc i) s = digit i (s / 262144)

size : ℕ → ℕ
size zero = 1
size (suc n) = 262144 * size n

number : ℕ → (ℕ → ℕ) → ℕ
number zero to = 0
number (suc n) to = to 0 + 262144 * number n (λ i. to (suc i))

small_digit : (i s : ℕ) → digit i s < 262144
unfolding digit
small_digit zero s = omega arith
small_digit (suc i) s = small_digit i (s / 262144)

number_within : (n : ℕ) (to : ℕ → ℕ) → ((i : ℕ) → i < n → to i < 262144) → number n to < size n
unfolding number size
number_within zero to small = omega arith
number_within (suc n) to small =
    let rest = number_within n (λ i. to (suc i)) (λ i less. small (suc i) (omega (arith, less))) in
    let first = small 0 (omega arith) in
    omega (arith, rest, first)

digit_of : (n : ℕ) (to : ℕ → ℕ) → ((i : ℕ) → i < n → to i < 262144) → (i : ℕ) → i < n → digit i (number n to) ≡ to i
unfolding digit number
digit_of zero to small i less = absurd (omega (arith, less))
digit_of (suc n) to small zero less = (let first = small 0 (omega arith) in omega (arith, first))
digit_of (suc n) to small (suc i) less =
    let first = small 0 (omega arith) in
    let tail = number n (λ j. to (suc j)) in
    let over : (to 0 + 262144 * tail) / 262144 ≡ tail = omega (arith, first) in
    ap (digit i) over
    ∙ digit_of n (λ j. to (suc j)) (λ j below. small (suc j) (omega (arith, below))) i (omega (arith, less))

same_digits : (n s t : ℕ) → s < size n → t < size n → ((i : ℕ) → i < n → digit i s ≡ digit i t) → s ≡ t
unfolding digit size
same_digits zero s t s_in t_in same = omega (arith, s_in, t_in)
same_digits (suc n) s t s_in t_in same =
    let first : s % 262144 ≡ t % 262144 = same 0 (omega arith) in
    let rest : s / 262144 ≡ t / 262144 = same_digits n (s / 262144) (t / 262144) (omega (arith, s_in))
    (omega (arith, t_in)) (λ i less. same (suc i) (omega (arith, less))) in
    omega (arith, first, rest)

-- ---- what can be decided
step_or_not : (g : StateGraph) (s : ℕ) (e : Event) (t : ℕ) → Step g s e t ⊎ (Step g s e t → ⊥)
step_or_not g s e t =
    elim (cases_Bool (list_any (λ x. (x.from == s) && (same_event x.event e && (x.to == t))) g.edges)) [
      | inl found ↦ (
          let any = Any-from_list_any
          (λ (x : Edge). (x.from == s) && (same_event x.event e && (x.to == t))) g.edges found in
          let x : Edge = any.1 in
          let one = and_parts (x.from == s) (same_event x.event e && (x.to == t)) any.4 in
          let two = and_parts (same_event x.event e) (x.to == t) one.1 in
          let there : Step g x.from x.event x.to = (any.0, any.2, any.3) in
          let from : Step g s x.event x.to = subst (λ v. Step g v x.event x.to) (eqb-true x.from s one.0) there in
          let by : Step g s e x.to = subst (λ d. Step g s d x.to) (same_event-true x.event e two.0) from in
          inl (subst (λ v. Step g s e v) (eqb-true x.to t two.1) by))
      | inr none ↦ inr (λ step. true≢false
          (sym (list_any_at (λ (x : Edge). (x.from == s) && (same_event x.event e && (x.to == t))) g.edges step.0
          (arc s e t) step.1
          (ap (λ (x : Edge). (x.from == s) && (same_event x.event e && (x.to == t))) step.2
          ∙ and_from _ _ (eq-eqb s s refl) (and_from _ _ (same_event-refl e) (eq-eqb t t refl)))) ∙ none))
    ]

moves_or_not : (h g : StateGraph) (s : ℕ) (e : Event) (t : ℕ)
    → ((y z : ℕ) → IsSame h.signals e.sig g.signals y → IsSame h.signals e.sig g.signals z → y ≡ z)
    → Moves h g s e t ⊎ (Moves h g s e t → ⊥)
moves_or_not h g s e t one = elim (has_or_not h.signals e.sig g.signals) [
  | inl found ↦ elim (step_or_not g s (own_event e found.0) t) [
    | inl step ↦ inl (record {
      steps = λ y same. subst (λ q. Step g s (own_event e q) t) (one found.0 y found.1 same) step;
      stays = λ none. absurd (none found.0 found.1);
    })
    | inr no_step ↦ inr (λ moves. no_step (moves.steps found.0 found.1))
  ]
  | inr none ↦ elim (cases_eq t s) [
    | inl same ↦ inl (record { steps = λ y there. absurd (none y there); stays = λ again. same })
    | inr other ↦ inr (λ moves. other (moves.stays none))
  ]
]

all_or_not : (n : ℕ) (P : ℕ → Type 0) → ((i : ℕ) → i < n → P i ⊎ (P i → ⊥))
    → ((i : ℕ) → i < n → P i) ⊎ (((i : ℕ) → i < n → P i) → ⊥)
all_or_not zero P decided = inl (λ i less. absurd (omega (arith, less)))
all_or_not (suc n) P decided = elim (decided n (omega arith)) [
  | inr fails ↦ inr (λ all. fails (all n (omega arith)))
  | inl holds ↦ elim (all_or_not n P (λ i less. decided i (omega (arith, less)))) [
    | inr fails ↦ inr (λ all. fails (λ i less. all i (omega (arith, less))))
    | inl each ↦ inl (λ i less. elim (cases_eq i n) [
      | inl last ↦ subst P (sym last) holds
      | inr apart ↦ each i (omega (arith, less, apart))
    ])
  ]
]

-- ---- lists of lists
united : {A : Type 0} (n : ℕ) (lists : ℕ → List A) → List A
united zero lists = []
united (suc n) lists = lists n ++ united n lists

in_united : {A : Type 0} (n : ℕ) (lists : ℕ → List A) (k : ℕ) (x : A) → k < n → Contains (lists k) x
    → Contains (united n lists) x
unfolding united
in_united zero lists k x less there = absurd (omega (arith, less))
in_united (suc n) lists k x less there = elim (cases_eq k n) [
  | inl last ↦ Contains-append_left (lists n) (united n lists) x (subst (λ j. Contains (lists j) x) last there)
  | inr apart ↦ Contains-append_right (lists n) (united n lists) x
      (in_united n lists k x (omega (arith, less, apart)) there)
]

of_united : {A : Type 0} (n : ℕ) (lists : ℕ → List A) (x : A) → Contains (united n lists) x
    → (k : ℕ) × (k < n) × Contains (lists k) x
unfolding united
of_united zero lists x there = absurd (omega (arith, there.1))
of_united (suc n) lists x there = elim (Contains-append_cases (lists n) (united n lists) x there) [
  | inl here ↦ (n, omega arith, here)
  | inr later ↦ (let found = of_united n lists x later in (found.0, omega (arith, found.1), found.2))
]

-- ---- events as numbers
is_even : ℕ → Bool
is_even c = (c % 2) == 0

event_of : ℕ → Event
event_of c = record { sig = c / 2; up = is_even c }

code_of : Event → ℕ
code_of e = 2 * e.sig + (if e.up then 0 else 1)

event_back : (sig : ℕ) (up : Bool) → event_of (code_of (record { sig = sig; up = up })) ≡ record { sig = sig; up = up }
unfolding event_of code_of is_even
event_back sig true =
    let make : ℕ → Bool → Event = λ x y. record { sig = x; up = y } in
    let half : (2 * sig + 0) / 2 ≡ sig = omega arith in
    let rest : (2 * sig + 0) % 2 ≡ 0 = omega arith in
    ap₂ make half (eq-eqb ((2 * sig + 0) % 2) 0 rest)
event_back sig false =
    let make : ℕ → Bool → Event = λ x y. record { sig = x; up = y } in
    let half : (2 * sig + 1) / 2 ≡ sig = omega arith in
    let rest : (2 * sig + 1) % 2 ≡ 1 = omega arith in
    ap₂ make half (ap (λ (c : ℕ). c == 0) rest)

code_within : (n : ℕ) (e : Event) → e.sig < n → code_of e < 2 * n
unfolding code_of
code_within n e less = small n e.sig e.up less
  where
    small : (n sig : ℕ) (up : Bool) → sig < n → 2 * sig + (if up then 0 else 1) < 2 * n
    small n sig true less = omega (arith, less)
    small n sig false less = omega (arith, less)

event_within : (n c : ℕ) → c < 2 * n → (event_of c).sig < n
unfolding event_of
event_within n c less = omega (arith, less)

-- ---- the graph of all tuples
module _ (count : ℕ) (parts : ℕ → StateGraph) (whole : List Signal) (are : (i : ℕ) → i < count → IsGraph (parts i))
    (signals : AreJoined count (λ i. (parts i).signals) whole) where
  -- a graph with the signals alone
  abbrev bare : StateGraph
  bare = record { signals = whole; states = 0; edges = []; start = 0 }

  abbrev AllMove : ℕ → Event → ℕ → Type 0
  AllMove s e t = (i : ℕ) → i < count → Moves bare (parts i) (digit i s) e (digit i t)

  all_move_or_not : (s : ℕ) (e : Event) (t : ℕ) → AllMove s e t ⊎ (AllMove s e t → ⊥)
  all_move_or_not s e t = all_or_not count (λ i. Moves bare (parts i) (digit i s) e (digit i t))
      (λ i inside. moves_or_not bare (parts i) (digit i s) e (digit i t)
      (λ y z a b. one_own whole (parts i).signals e.sig y z (signals.part_distinct i inside) a b))

  arcs_by : (s : ℕ) (e : Event) → Collected Edge (size count) (λ t. AllMove s e t) (λ t. arc s e t)
  arcs_by s e = collected Edge (size count) (λ t. AllMove s e t) (λ t. arc s e t) (λ t. all_move_or_not s e t)

  abbrev all_arcs : List Edge
  all_arcs = united (size count)
      (λ s. united (2 * length whole) (λ c. (arcs_by s (event_of c)).list))

  abbrev tuples : StateGraph
  tuples = record {
    signals = whole;
    states = size count;
    edges = all_arcs;
    start = number count (λ i. (parts i).start);
  }

  record IsArc (s : ℕ) (e : Event) (t : ℕ) : Type 0 where
    from : s < size count
    known : e.sig < length whole
    to : t < size count
    moves : AllMove s e t

  same_arc : (s s2 : ℕ) (e e2 : Event) (t t2 : ℕ) → s ≡ s2 → e ≡ e2 → t ≡ t2 → IsArc s e t → IsArc s2 e2 t2
  same_arc s s2 e e2 t t2 from by to a =
      let one : IsArc s2 e t = subst (λ v. IsArc v e t) from a in
      let two : IsArc s2 e2 t = subst (λ d. IsArc s2 d t) by one in
      subst (λ v. IsArc s2 e2 v) to two

  arc_is : (s : ℕ) (e : Event) (t : ℕ) → Contains all_arcs (arc s e t) → IsArc s e t
  arc_is s e t there =
      let outer = of_united (size count) (λ v. united (2 * length whole) (λ c. (arcs_by v (event_of c)).list))
      (arc s e t) there in
      let inner = of_united (2 * length whole) (λ c. (arcs_by outer.0 (event_of c)).list) (arc s e t) outer.2 in
      let found = (arcs_by outer.0 (event_of inner.0)).only (arc s e t) inner.2 in
      same_arc outer.0 s (event_of inner.0) e found.0 t (ap (λ (x : Edge). x.from) found.3)
      (ap (λ (x : Edge). x.event) found.3) (ap (λ (x : Edge). x.to) found.3) (record {
        from = outer.1;
        known = event_within (length whole) inner.0 inner.1;
        to = found.1;
        moves = found.2;
      })

  is_arc : (s : ℕ) (e : Event) (t : ℕ) → IsArc s e t → Contains all_arcs (arc s e t)
  is_arc s e t a =
      let back : event_of (code_of e) ≡ e = event_back e.sig e.up in
      let moves : AllMove s (event_of (code_of e)) t = subst (λ d. AllMove s d t) (sym back) a.moves in
      let listed : Contains (arcs_by s (event_of (code_of e))).list (arc s (event_of (code_of e)) t) =
      (arcs_by s (event_of (code_of e))).all t a.to moves in
      let named : Contains (arcs_by s (event_of (code_of e))).list (arc s e t) =
      subst (λ d. Contains (arcs_by s (event_of (code_of e))).list (arc s d t)) back listed in
      in_united (size count) (λ v. united (2 * length whole) (λ c. (arcs_by v (event_of c)).list)) s (arc s e t) a.from
      (in_united (2 * length whole) (λ c. (arcs_by s (event_of c)).list) (code_of e) (arc s e t)
      (code_within (length whole) e a.known) named)

  start_small : (i : ℕ) → i < count → (parts i).start < 262144
  start_small i inside =
      let below = (are i inside).starts in let few = (are i inside).few_states in omega (arith, below, few)

  walk_in : (es : List Event) (s t : ℕ) → s < size count → Walk tuples s es t → t < size count
  walk_in [] s t within walk = subst (λ v. v < size count) walk within
  walk_in (e ∷ es) s t within walk = walk_in es walk.0 t (arc_is s e walk.0 walk.1).to walk.2

  reached_in : (s : ℕ) → IsReachable tuples s → s < size count
  reached_in s reachable = walk_in reachable.0 (number count (λ i. (parts i).start)) s
      (number_within count (λ i. (parts i).start) start_small) reachable.1

  to_small : (s : ℕ) (e : Event) (to : ℕ → ℕ) (i : ℕ) → i < count → Moves tuples (parts i) (digit i s) e (to i)
      → to i < 262144
  to_small s e to i inside moves = elim (has_or_not whole e.sig (parts i).signals) [
    | inl found ↦ (
        let below = (step_within (parts i) (digit i s) (own_event e found.0) (to i) (are i inside)
        (moves.steps found.0 found.1)).2 in
        let few = (are i inside).few_states in
        omega (arith, below, few))
    | inr none ↦ subst (λ v. v < 262144) (sym (moves.stays none)) (small_digit i s)
  ]

  follows_all : (s : ℕ) (e : Event) (to : ℕ → ℕ) → IsReachable tuples s → e.sig < length whole
      → ((i : ℕ) → i < count → Moves tuples (parts i) (digit i s) e (to i))
      → (t : ℕ) × Step tuples s e t × ((i : ℕ) → i < count → digit i t ≡ to i)
  follows_all s e to reachable known all =
      let small : (i : ℕ) → i < count → to i < 262144 = λ i inside. to_small s e to i inside (all i inside) in
      let digits : (i : ℕ) → i < count → digit i (number count to) ≡ to i = digit_of count to small in (
        number count to,
        is_arc s e (number count to) (record {
          from = reached_in s reachable;
          known = known;
          to = number_within count to small;
          moves = λ i inside. subst (λ v. Moves bare (parts i) (digit i s) e v) (sym (digits i inside))
              (record { steps = (all i inside).steps; stays = (all i inside).stays });
        }),
        digits,
      )

  tuples_composed : IsComposed count parts digit tuples
  tuples_composed = record {
    signals = signals;
    start = λ i inside. digit_of count (λ j. (parts j).start) start_small i inside;
    known = λ s e t step. (arc_is s e t step).known;
    moves = λ s e t step i inside. (
        let m = (arc_is s e t step).moves i inside in record { steps = m.steps; stays = m.stays });
    follows = follows_all;
    apart = λ s t s_in t_in same. same_digits count s t (reached_in s s_in) (reached_in t t_in) same;
  }

pub composed_exist : (count : ℕ) (parts : ℕ → StateGraph) (whole : List Signal)
    → ((i : ℕ) → i < count → IsGraph (parts i)) → AreJoined count (λ i. (parts i).signals) whole
    → (at : ℕ → ℕ → ℕ) × (h : StateGraph) × IsComposed count parts at h × (h.signals ≡ whole)
composed_exist count parts whole are signals = (
  digit,
  tuples count parts whole are signals,
  tuples_composed count parts whole are signals,
  refl,
)
