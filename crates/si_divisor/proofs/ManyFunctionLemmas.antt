-- Sets of states for many functions at once: what the bits of words say, one function beside another.
use Rattle.std.proofs.Common.{◌≡◌, ℕ, ◌+◌, ◌-◌, ◌*◌, ◌^◌, ◌<◌, ◌≤◌, ◌&&◌, ◌||◌, not}
use Rattle.std.proofs.Common.{Bool, true, false, List, [], ◌∷◌, ◌++◌, length, get_or}
use Rattle.std.proofs.Common.{refl, sym, ap, ap₂, subst, ◌∙◌, arith, inl, inr, ◌↔◌, bit_and, bit_or, bit_xor}
use Rattle.std.proofs.lemmas.Bool.{cases_eq, cases_Bool, true≢false, and_parts, and_from}
use Rattle.std.proofs.lemmas.List.{get_or_push, get_or_append_left, length-map, length_push}
use Rattle.std.proofs.lemmas.Nat.{or_lt}
use mathlib.Core.Bool.{beq}
use Rattle.si_base.specs.declared.ids.Event.{Event}
use Rattle.si_base.specs.Bits.{bit}
use Rattle.si_base.specs.Codes.{CodedGraph, IsCoded, code}
use Rattle.si_base.specs.Graph.{StateGraph, IsGraph, event_place}
use Rattle.si_base.proofs.StepCodes.{step_within}
use Rattle.si_base.proofs.BitFacts.{bit-zero, bit-or, bit-and}
use Rattle.si_graph.specs.Closure.{IsNext, IsClosure, PathBy}
use Rattle.si_graph.specs.declared.closure.Along.TheVariants.{Out}
use Rattle.si_graph.proofs.SearchLemmas.{in_below}
use Rattle.si_closures.specs.Loops.WordSearch.{column, HasBit, Passes, IsNextBy, IsClosureBy}
use Rattle.si_closures.specs.Loops.Words.{HasAll}
use Rattle.si_closures.proofs.WordLemmas.{full_bit, place_below}
use Rattle.si_closures.proofs.WordBits.{not_is, xor_is, in_and, in_or}
use Rattle.si_closures.proofs.WordSearchLemmas.{column-at, in_column}
use Rattle.si_insert.specs.declared.partition.Class.{Class}
use Rattle.si_insert.specs.declared.partition.Class.TheVariants.{Low}
use Rattle.si_insert.specs.Partition.{class_of}
use Rattle.si_divisor.specs.declared.function.Function.{Function}
use Rattle.si_divisor.specs.declared.function_sets.FunctionSets.{FunctionSets}
use Rattle.si_divisor.specs.declared.function_sets.SettledWords.{SettledWords}
use Rattle.si_divisor.specs.Functions.{Computes, function_value}
use Rattle.si_divisor.specs.Loops.ManyFunctions.{AreForcedWords, AreHeldWords, AreOpposed, AreClassesAt, AreSetsOf}
use Rattle.si_divisor.specs.Loops.ManyFunctions.{AreFunctionSets, AreSettledWords}
use Rattle.si_divisor.specs.Loops.ManySwitching.{AreSwitched}
use Rattle.si_divisor.specs.PartitionFor.{AreSets, IsPartitionFor, HasNone, HasSome, class_for}
use Rattle.si_divisor.specs.Targets.{IsLeast, Settles, AreForced, AreSettled, HaveTargets, IsUnforced}
use Rattle.si_divisor.specs.Targets.{SettlesAtBoth, forced_by, forced_in, holds, target}
use Rattle.si_divisor.specs.Switching.{Switches}
use Rattle.si_divisor.proofs.PartitionForAnswers.{are_sets, is_partition, none_carried}
use Rattle.si_divisor.proofs.PartitionForAnswers.{partition_carried, sets_of}
use Rattle.si_divisor.proofs.SwitchRuleLemmas.{least_falls}
use Rattle.si_divisor.proofs.SwitchingOutside.{none_without_targets, none_if_strays_up, none_if_strays_down}
use Rattle.si_divisor.proofs.SwitchingOutside.{none_if_never_up, none_if_never_down, stays_within}
use Rattle.si_divisor.proofs.SettlingLemmas.{closure_settles}

-- ---- bits
neither : (a b : Bool) → not (a || b) ≡ (not a && not b)
neither true b = refl
neither false b = refl

-- ---- the functions for which a state holds, and those for which it settles at one value
held_bit : (x y k : ℕ) → bit_or x y < 2 ^ 128 → k < 128
    → bit (2 ^ 128 - 1 - bit_or x y) k ≡ (not (bit x k) && not (bit y k))
held_bit x y k fits few = not_is (bit_or x y) k fits few ∙ ap not (bit-or x y k) ∙ neither (bit x k) (bit y k)

-- there is a word for each of the first n states
pub record AreHeldTo (up down : List ℕ) (n : ℕ) (held : List ℕ) : Type 0 where
  pub size : length held ≡ n
  pub each : (k s : ℕ) → k < 128 → s < n → bit (get_or held s 0) k
      ≡ (not (bit (get_or up s 0) k) && not (bit (get_or down s 0) k))

pub one_held : (up down : List ℕ) (n : ℕ) (held : List ℕ) (word : ℕ)
    → word ≡ 2 ^ 128 - 1 - bit_or (get_or up n 0) (get_or down n 0) → get_or up n 0 < 2 ^ 128
    → get_or down n 0 < 2 ^ 128 → AreHeldTo up down n held → AreHeldTo up down (n + 1) (held ++ word ∷ [])
one_held up down n held word is up_fits down_fits before = record {
  size = omega (arith, length_push held word, before.size);
  each = λ k s few early. elim (cases_eq s n) [
    | inl same ↦ subst (At k) (sym same) (ap (λ w. bit w k) (get_or_push held word 0 n before.size ∙ is)
        ∙ held_bit (get_or up n 0) (get_or down n 0) k
        (or_lt 128 (get_or up n 0) (get_or down n 0) up_fits down_fits) few)
    | inr other ↦ (
        let sooner : s < n = omega (arith, early, other) in
        ap (λ w. bit w k) (get_or_append_left held (word ∷ []) 0 s (omega (arith, sooner, before.size)))
        ∙ before.each k s few sooner)
  ];
}
  where
    At : ℕ → ℕ → Type 0
    At k s = bit (get_or (held ++ word ∷ []) s 0) k ≡ (not (bit (get_or up s 0) k) && not (bit (get_or down s 0) k))

-- the bits say so of the first n states
abbrev pub AreOpposedTo : List ℕ → List ℕ → ℕ → ℕ → Type 0
AreOpposedTo ones zeros n all =
    (k : ℕ) → k < 128 → (bit all k ≡ true) ↔ AreOpposed n (column k ones) (column k zeros)

pub none_opposed : (ones zeros : List ℕ) → AreOpposedTo ones zeros 0 (2 ^ 128 - 1)
none_opposed ones zeros k few = (λ h s early. absurd (omega arith), λ opposed. full_bit k few)

pub one_opposed : (ones zeros : List ℕ) (n all x y : ℕ) → x ≡ get_or ones n 0 → y ≡ get_or zeros n 0
    → AreOpposedTo ones zeros n all → AreOpposedTo ones zeros (n + 1) (bit_and all (bit_xor x y))
one_opposed ones zeros n all x y x_is y_is before k few = (
  λ h s early. (
      let parts = and_parts (bit all k) (bit (bit_xor x y) k) (sym (bit-and all (bit_xor x y) k) ∙ h) in
      elim (cases_eq s n) [
        | inl same ↦ subst At (sym same) (zero_at ∙ (xor_is x y k).0 parts.1 ∙ ap not (sym one_at))
        | inr other ↦ (before k few).0 parts.0 s (omega (arith, early, other))
      ]),
  λ opposed. bit-and all (bit_xor x y) k ∙ and_from (bit all k) (bit (bit_xor x y) k)
      ((before k few).1 (λ s early. opposed s (omega (arith, early))))
      ((xor_is x y k).1 (sym zero_at ∙ opposed n (omega arith) ∙ ap not one_at)),
)
  where
    At : ℕ → Type 0
    At s = get_or (column k zeros) s false ≡ not (get_or (column k ones) s false)

    one_at : get_or (column k ones) n false ≡ bit x k
    one_at = column-at k ones n ∙ ap (λ w. bit w k) (sym x_is)

    zero_at : get_or (column k zeros) n false ≡ bit y k
    zero_at = column-at k zeros n ∙ ap (λ w. bit w k) (sym y_is)

-- ---- the sets that have some state
-- the bits say so of the first n states
abbrev pub AreSomeTo : List ℕ → ℕ → ℕ → Type 0
AreSomeTo words n found = (k : ℕ) → (bit found k ≡ true) ↔ ((s : ℕ) × (s < n) × HasBit words k s)

pub none_found : (words : List ℕ) → AreSomeTo words 0 0
none_found words k = (
  λ h. absurd (true≢false (sym h ∙ bit-zero k)),
  λ (s, early, has). absurd (omega (arith, early)),
)

pub one_found : (words : List ℕ) (n found w : ℕ) → w ≡ get_or words n 0 → AreSomeTo words n found
    → AreSomeTo words (n + 1) (bit_or found w)
one_found words n found w is before k = (
  λ h. elim ((in_or found w k).0 h) [
    | inl old ↦ (let x = (before k).0 old in (x.0, omega (arith, x.1), x.2))
    | inr new ↦ (n, omega arith, ap (λ v. bit v k) (sym is) ∙ new)
  ],
  λ (s, early, has). (in_or found w k).1 (elim (cases_eq s n) [
    | inl same ↦ inr (ap (λ v. bit v k) is ∙ subst (HasBit words k) same has)
    | inr other ↦ inl ((before k).1 (s, omega (arith, early, other), has))
  ]),
)

pub all_found : (words : List ℕ) (n found : ℕ) → length words ≤ n → AreSomeTo words n found → (k : ℕ)
    → (bit found k ≡ true) ↔ HasSome (column k words)
all_found words n found all are k = (
  λ h. (let x = (are k).0 h in (x.0, (in_column k words x.0).1 x.2)),
  λ (s, there). (
      let below = in_below (column k words) s there in
      (are k).1 (s, omega (arith, below, length-map words (λ (w : ℕ). bit w k), all), (in_column k words s).0 there)),
)

-- ---- targets
pub opposed_targets : (g : StateGraph) (ones zeros : List Bool) → length ones ≡ g.states
    → AreOpposed (length ones) ones zeros ↔ HaveTargets g ones zeros
opposed_targets g ones zeros size = (
  λ opposed. record {
    some = λ s u. elim (cases_Bool (get_or ones s false)) [
      | inl one ↦ u.not_one one
      | inr none ↦ u.not_zero (opposed s (let within = u.within in omega (arith, within, size)) ∙ ap not none)
    ];
    one = λ s torn. true≢false
        (sym torn.zero ∙ opposed s (in_below ones s torn.one) ∙ ap not torn.one);
  },
  λ have s inside. elim (cases_Bool (get_or ones s false)) [
    | inl one ↦ elim (cases_Bool (get_or zeros s false)) [
      | inl zero ↦ absurd (have.one s (record { one = one; zero = zero }))
      | inr out ↦ out ∙ sym (ap not one)
    ]
    | inr none ↦ elim (cases_Bool (get_or zeros s false)) [
      | inl zero ↦ zero ∙ sym (ap not none)
      | inr out ↦ absurd (have.some s (record {
        within = omega (arith, inside, size);
        not_one = λ one. true≢false (sym one ∙ none);
        not_zero = λ zero. true≢false (sym zero ∙ out);
      }))
    ]
  ],
)

-- where each state settles at just one value, it falls to where it would rise to the other value
pub falls_alone : (g : StateGraph) (ones zeros minus : List Bool) → IsGraph g → length ones ≡ g.states
    → ((s : ℕ) → IsUnforced g ones zeros s → ⊥) → ((s : ℕ) → SettlesAtBoth ones zeros s → ⊥)
    → IsLeast g.states (Switches g (target zeros) true) minus
    → IsLeast g.states (Switches g (target ones) false) minus
falls_alone g ones zeros minus graph size some one is =
    let opposed = (opposed_targets g ones zeros size).1 (record { some = some; one = one }) in
    least_falls g ones zeros graph (λ s below. opposed s (omega (arith, below, size))) minus is

-- the sets of one function alone, by its column of the words
pub settled_alone : (g : StateGraph) (words : SettledWords) (ones zeros : List Bool) → AreSettledWords g words
    → ones ≡ column 0 words.ones.items → zeros ≡ column 0 words.zeros.items
    → AreSettled g (forced_in (column 0 words.up.items) (column 0 words.down.items)) ones zeros
settled_alone g words ones zeros are ones_is zeros_is = rw (ones_is, zeros_is) (are.each 0 (omega arith))

pub are_sets_alone : (g : StateGraph) (words : SettledWords) (ones zeros plus minus : List Bool) → IsGraph g
    → AreSettledWords g words → ones ≡ column 0 words.ones.items → zeros ≡ column 0 words.zeros.items
    → ((s : ℕ) → IsUnforced g ones zeros s → ⊥) → ((s : ℕ) → SettlesAtBoth ones zeros s → ⊥)
    → IsLeast g.states (Switches g (target (column 0 words.ones.items)) true) plus
    → IsLeast g.states (Switches g (target (column 0 words.zeros.items)) true) minus
    → AreSets g (forced_in (column 0 words.up.items) (column 0 words.down.items)) (sets_of ones zeros plus minus)
are_sets_alone g words ones zeros plus minus graph are ones_is zeros_is some one rise fall =
    let settled = settled_alone g words ones zeros are ones_is zeros_is in
    are_sets g (forced_in (column 0 words.up.items) (column 0 words.down.items)) ones zeros plus minus settled some one
    (rw ones_is rise) (falls_alone g ones zeros minus graph settled.at_one.size some one (rw zeros_is fall))

-- ---- states settle in closures along all arcs
module _ (g : StateGraph) (P : Event → Type 0) (all : (e : Event) → e.sig < length g.signals → P e) (is : IsGraph g)
    (within : List Bool) where
  path_out : (s : ℕ) (path : List ℕ) (t : ℕ) → PathBy (IsNextBy g P within) s path t
      → PathBy (IsNext g Out within) s path t
  path_out s [] t same = same
  path_out s (u ∷ us) t (((e, passes, step), there), rest) = (((e, step), there), path_out u us t rest)

  pub closure_out : (seeds set : List Bool) → IsClosureBy g P within seeds set → IsClosure g Out within seeds set
  closure_out seeds set closure = record {
    size = closure.size;
    seeds_in = closure.seeds_in;
    closed = λ s t here next. closure.closed s t here (
      (next.0.0, all next.0.0 (step_within g s next.0.0 t is next.0.1).1, next.0.1),
      next.1,
    );
    reached = λ t there. (
        let r = closure.reached t there in
        record { seed = r.seed; there = r.there; path = r.path; leads = path_out r.seed r.path t r.leads });
  }

pub sized : (k : ℕ) (words : List ℕ) → length (column k words) ≡ length words
sized k words = length-map words (λ (w : ℕ). bit w k)

module _ (c : CodedGraph) (words : SettledWords) (held passes : List ℕ) (is : IsCoded c)
    (up_size : length words.up.items ≡ c.graph.states) (down_size : length words.down.items ≡ c.graph.states)
    (held_are : AreHeldWords words.up.items words.down.items held)
    (all : HasAll (2 * length c.graph.signals) passes)
    (at_one : (k : ℕ) → IsClosureBy c.graph (Passes passes k) (column k held) (column k words.up.items)
    (column k words.ones.items))
    (at_zero : (k : ℕ) → IsClosureBy c.graph (Passes passes k) (column k held) (column k words.down.items)
    (column k words.zeros.items)) where
  abbrev Forces : ℕ → Bool → ℕ → Bool
  Forces k = forced_in (column k words.up.items) (column k words.down.items)

  holding : (k : ℕ) → k < 128 → (s : ℕ) → s < c.graph.states
      → get_or (column k held) s false ≡ holds (Forces k) s
  holding k few s within = column-at k held s ∙ held_are.each k s few (omega (arith, within, up_size))
      ∙ ap₂ (λ x y. not x && not y) (sym (column-at k words.up.items s)) (sym (column-at k words.down.items s))

  settling : (k : ℕ) → k < 128 → (b : Bool) (seeds found : List Bool) → length seeds ≡ c.graph.states
      → ((s : ℕ) → s < c.graph.states → get_or seeds s false ≡ Forces k b s)
      → IsClosureBy c.graph (Passes passes k) (column k held) seeds found
      → IsLeast c.graph.states (Settles c.graph (Forces k) b) found
  settling k few b seeds found size seeds_are closure =
      closure_settles c.graph (Forces k) b (column k held) seeds found is.graph_is size
      (holding k few) seeds_are (closure_out c.graph (Passes passes k)
      (λ e below. (in_column k passes (event_place e)).1
      (all.each k (event_place e) few (place_below e (length c.graph.signals) below)))
      is.graph_is (column k held) seeds found closure)

  pub are_settled_words : AreSettledWords c.graph words
  are_settled_words = record {
    up_size = up_size;
    down_size = down_size;
    ones_size = sym (sized 0 words.ones.items) ∙ (at_one 0).size;
    zeros_size = sym (sized 0 words.zeros.items) ∙ (at_zero 0).size;
    each = λ k few. record {
      at_one = settling k few true (column k words.up.items) (column k words.ones.items)
          (sized k words.up.items ∙ up_size) (λ s within. refl) (at_one k);
      at_zero = settling k few false (column k words.down.items) (column k words.zeros.items)
          (sized k words.down.items ∙ down_size) (λ s within. refl) (at_zero k);
    };
  }

-- what a function forces, by the words
forced_at : (c : CodedGraph) (functions : List Function) (up down : List ℕ) → AreForcedWords c functions true up
    → AreForcedWords c functions false down → (k : ℕ) (d : Function) → k < length functions
    → (value : ℕ → Bool → Bool) → Computes (get_or functions k d) value
    → AreForced (forced_by value c) c.graph.states (column k up) (column k down)
forced_at c functions up down up_are down_are k d inside value same = record {
  up_size = sized k up ∙ up_are.size;
  down_size = sized k down ∙ down_are.size;
  up_is = λ s within. column-at k up s ∙ up_are.each s within k d inside
      ∙ ap (λ v. beq v true) (same (code c s) false);
  down_is = λ s within. column-at k down s ∙ down_are.each s within k d inside
      ∙ ap (λ v. beq v false) (same (code c s) true);
}

module _ (c : CodedGraph) (made : FunctionSets) (words : SettledWords) (is : IsCoded c)
    (up_are : AreForcedWords c made.functions.items true words.up.items)
    (down_are : AreForcedWords c made.functions.items false words.down.items)
    (settled_are : AreSettledWords c.graph words) where
  abbrev sets : FunctionSets
  sets = record made { ones = words.ones }

  abbrev up : List ℕ
  up = words.up.items

  abbrev down : List ℕ
  down = words.down.items

  abbrev zeros : List ℕ
  zeros = words.zeros.items

  abbrev ones : List ℕ
  ones = words.ones.items

  abbrev plus : List ℕ
  plus = made.plus.items

  abbrev minus : List ℕ
  minus = made.minus.items

  settled : (k : ℕ) → k < 128
      → AreSettled c.graph (forced_in (column k up) (column k down)) (column k ones) (column k zeros)
  settled k few = settled_are.each k few

  forced : (k : ℕ) (d : Function) → k < length sets.functions.items
      → AreForced (forced_by (function_value (get_or sets.functions.items k d)) c) c.graph.states
      (column k up) (column k down)
  forced k d inside =
      forced_at c sets.functions.items up down up_are down_are k d inside _ (λ code q. refl)

  ones_states : length ones ≡ c.graph.states
  ones_states = settled_are.ones_size

  module _ (targets rising falling with_plus with_minus : ℕ)
      (parts : sets.partitions ≡ bit_and (bit_and falling with_plus) with_minus)
      (opposed : (k : ℕ) → k < 128 → (bit targets k ≡ true)
      ↔ AreOpposed (length ones) (column k ones) (column k zeros))
      (rise : AreSwitched c.graph ones targets up (record { words = sets.plus; kept = rising }))
      (fall : AreSwitched c.graph zeros rising down (record { words = sets.minus; kept = falling }))
      (plus_some : (k : ℕ) → (bit with_plus k ≡ true) ↔ HasSome (column k plus))
      (minus_some : (k : ℕ) → (bit with_minus k ≡ true) ↔ HasSome (column k minus)) where
    in_partitions : (k : ℕ) → (bit sets.partitions k ≡ true)
        ↔ ((bit falling k ≡ true) × (bit with_plus k ≡ true) × (bit with_minus k ≡ true))
    in_partitions k = (
      λ h. (
          let outer = (in_and (bit_and falling with_plus) with_minus k).0 (ap (λ w. bit w k) (sym parts) ∙ h) in
          let inner = (in_and falling with_plus k).0 outer.0 in
          (inner.0, inner.1, outer.1)),
      λ (falls, up_some, down_some). ap (λ w. bit w k) parts ∙ (in_and (bit_and falling with_plus) with_minus k).1
          ((in_and falling with_plus k).1 (falls, up_some), down_some),
    )

    turned : (k : ℕ) → k < 128 → bit targets k ≡ true → (s : ℕ) → s < c.graph.states
        → target (column k zeros) s ≡ not (target (column k ones) s)
    turned k few has s within = (opposed k few).0 has s (omega (arith, within, ones_states))

    have_targets : (k : ℕ) → k < 128 → (bit targets k ≡ true) ↔ HaveTargets c.graph (column k ones) (column k zeros)
    have_targets k few = (
      λ h. both.0 (subst Opposed (sym (sized k ones)) ((opposed k few).0 h)),
      λ have. (opposed k few).1 (subst Opposed (sized k ones) (both.1 have)),
    )
      where
        Opposed : ℕ → Type 0
        Opposed n = AreOpposed n (column k ones) (column k zeros)

        both : AreOpposed (length (column k ones)) (column k ones) (column k zeros)
            ↔ HaveTargets c.graph (column k ones) (column k zeros)
        both = opposed_targets c.graph (column k ones) (column k zeros) (sized k ones ∙ ones_states)

    -- ---- the function at k has a partition, or one of the bits is missing
    module _ (k : ℕ) (few : k < 128) where
      abbrev Forced : Bool → ℕ → Bool
      Forced = forced_in (column k up) (column k down)

      no_partition : bit sets.partitions k ≡ false → HasNone c.graph Forced
      no_partition out = elim (cases_Bool (bit targets k)) [
        | inr none ↦ none_without_targets c.graph (column k up) (column k down) (column k ones) (column k zeros)
            (settled k few) (λ have. true≢false (sym ((have_targets k few).1 have) ∙ none))
        | inl has ↦ elim (cases_Bool (bit rising k)) [
          | inr none ↦ none_if_strays_up c.graph (column k up) (column k down) (column k ones) (column k zeros)
              (settled k few) (rise.dropped k few has none)
          | inl rises ↦ elim (cases_Bool (bit falling k)) [
            | inr none ↦ none_if_strays_down c.graph (column k up) (column k down) (column k ones) (column k zeros)
                (settled k few) is.graph_is (turned k few has) (fall.dropped k few rises none)
            | inl falls ↦ without_some has rises falls
          ]
        ]
      ]
        where
          without_some : bit targets k ≡ true → bit rising k ≡ true → bit falling k ≡ true → HasNone c.graph Forced
          without_some has rises falls = elim (cases_Bool (bit with_plus k)) [
            | inr none ↦ none_if_never_up c.graph (column k up) (column k down) (column k ones) (column k zeros)
                (settled k few) (column k plus) (rise.least k rises)
                (λ some. true≢false (sym ((plus_some k).1 some) ∙ none))
            | inl up_some ↦ none_if_never_down c.graph (column k up) (column k down) (column k ones)
                (column k zeros) (settled k few) (column k minus)
                (least_falls c.graph (column k ones) (column k zeros) is.graph_is (turned k few has)
                (column k minus) (fall.least k falls))
                (λ some. true≢false (sym ((in_partitions k).1 (falls, up_some, (minus_some k).1 some)) ∙ out))
          ]

      partition_at : bit sets.partitions k ≡ true → (classes : List Class) → length classes ≡ c.graph.states
          → ((s : ℕ) → s < c.graph.states → class_of classes s ≡ class_for (get_or (column k plus) s false)
          (get_or (column k minus) s false) (get_or (column k ones) s false))
          → IsPartitionFor c.graph Forced classes
      partition_at there classes count each =
          let bits = (in_partitions k).0 there in
          let rises = fall.given_too k bits.0 in
          let has = rise.given_too k rises in
          let targets_are = (have_targets k few).0 has in
          let plus_is = rise.least k rises in
          let minus_is =
          least_falls c.graph (column k ones) (column k zeros) is.graph_is (turned k few has) (column k minus)
          (fall.least k bits.0) in
          let sets = are_sets c.graph Forced (column k ones) (column k zeros) (column k plus)
          (column k minus) (settled k few) targets_are.some targets_are.one plus_is minus_is in
          let stays = stays_within (column k up) (column k down) (column k plus) (column k minus)
          (rise.inside k rises) (fall.inside k bits.0) in
          is_partition c.graph Forced (column k ones) (column k zeros) (column k plus) (column k minus)
          classes sets stays ((plus_some k).0 bits.1) ((minus_some k).0 bits.2) (count ∙ sym plus_is.size)
          (λ s within. each s (omega (arith, within, plus_is.size)))

    are_sets_of : (k : ℕ) (d : Function) → k < 128 → k < length sets.functions.items
        → AreSetsOf c (function_value (get_or sets.functions.items k d)) k sets
    are_sets_of k d few inside = record {
      plus_size = rise.size;
      minus_size = fall.size;
      ones_size = ones_states;
      some = λ has classes are. partition_carried value c c.graph (column k up) (column k down) refl is
          (forced k d inside) classes (partition_at k few has classes are.count are.each);
      none = λ out. none_carried value c c.graph (column k up) (column k down) refl is (forced k d inside)
          (no_partition k few out);
    }
      where
        value : ℕ → Bool → Bool
        value = function_value (get_or sets.functions.items k d)

    pub are_function_sets : length sets.functions.items ≤ 128 → AreFunctionSets c sets
    are_function_sets few = record {
      few = few;
      each = λ k d inside. are_sets_of k d (omega (arith, inside, few)) inside;
    }

-- one class more, by the bits k of the words of its state
pub one_class : (sets : FunctionSets) (k n : ℕ) (classes : List Class) (x : Class)
    → x ≡ class_for (bit (get_or sets.plus.items n 0) k) (bit (get_or sets.minus.items n 0) k)
    (bit (get_or sets.ones.items n 0) k)
    → AreClassesAt n k sets classes → AreClassesAt (n + 1) k sets (classes ++ x ∷ [])
one_class sets k n classes x is before = record {
  count = length_push classes x ∙ ap (λ (m : ℕ). m + 1) before.count;
  each = λ s early. elim (cases_eq s n) [
    | inl same ↦ subst At (sym same) (get_or_push classes x Low n before.count ∙ is ∙ sym by_columns)
    | inr other ↦ (
        let sooner : s < n = omega (arith, early, other) in
        get_or_append_left classes (x ∷ []) Low s (omega (arith, sooner, before.count)) ∙ before.each s sooner)
  ];
}
  where
    At : ℕ → Type 0
    At s = class_of (classes ++ x ∷ []) s ≡ class_for (get_or (column k sets.plus.items) s false)
        (get_or (column k sets.minus.items) s false) (get_or (column k sets.ones.items) s false)

    by_columns : class_for (get_or (column k sets.plus.items) n false) (get_or (column k sets.minus.items) n false)
        (get_or (column k sets.ones.items) n false) ≡ class_for (bit (get_or sets.plus.items n 0) k)
        (bit (get_or sets.minus.items n 0) k) (bit (get_or sets.ones.items n 0) k)
    by_columns = rw (
      column-at k sets.plus.items n,
      column-at k sets.minus.items n,
      column-at k sets.ones.items n,
    ) refl

-- for where any function serves
abbrev pub no_function : Function
no_function = record { signals = record { items = [] }; table = 0 }
