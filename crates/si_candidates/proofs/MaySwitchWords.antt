-- Where a new signal may switch, for many sets at once: what the bits of words say.
use Rattle.std.proofs.Common.{◌≡◌, ◌≢◌, ℕ, ◌+◌, ◌-◌, ◌*◌, ◌/◌, ◌%◌, ◌^◌, ◌<◌, ◌≤◌, ◌==◌}
use Rattle.std.proofs.Common.{Bool, true, false, List, [], ◌∷◌, ◌++◌, length, get_or, set, replicate, Contains}
use Rattle.std.proofs.Common.{refl, sym, ap, subst, ◌∙◌, arith, inl, inr, ◌⊎◌, ◌↔◌, bit_and, bit_or}
use Rattle.std.proofs.Common.{get_or-set_same, get_or-set_other, eqb-true, eq-eqb}
use Rattle.std.proofs.lemmas.Bool.{cases_eq, cases_lt, true≢false, false_from_ne_true}
use Rattle.std.proofs.lemmas.List.{get_or_default, get_or-replicate, length-map, length-replicate, length-set}
use Rattle.std.proofs.lemmas.List.{get_or_push, get_or_append_left, length_push}
use Rattle.std.proofs.lemmas.Nat.Bits.{bit_at_set_same, bit_at_set_other}
use Rattle.std.proofs.lemmas.Nat.Bits.{bit_at-lt, same_from_bits_below}
use Rattle.std.specs.Int.{w128, bit_at}
use Rattle.si_base.specs.declared.graph.Edge.{Edge}
use Rattle.si_base.specs.Bits.{bit}
use Rattle.si_base.specs.Graph.{StateGraph, IsGraph, IsNonInput, Step, arc}
use Rattle.si_base.specs.Sets.{IsIn, IsFirstFrom}
use Rattle.si_graph.specs.Loops.Arcs.{edge_at, no_edge}
use Rattle.si_closures.specs.Loops.WordSearch.{column, HasBit}
use Rattle.si_closures.proofs.WordBits.{in_and, in_or, in_not}
use Rattle.si_closures.proofs.WordSearchLemmas.{in_column}
use Rattle.si_closures.proofs.WordLemmas.{full_bit}
use Rattle.si_candidates.specs.Blocks.{block_at}
use Rattle.si_candidates.specs.declared.earlier.EarlierStep.{EarlierStep}
use Rattle.si_candidates.specs.Blocking.{MaySwitch, MayPass, MayLeave}
use Rattle.si_candidates.specs.Loops.Earlier.{AreEarlier}
use Rattle.si_candidates.specs.Loops.ManySets.{AreToldBelow, ArePacked, Tells, TellsOf}
use Rattle.si_candidates.specs.Loops.ManySets.{AreAllPacked, EachTells, EachTellsOf, words_at}
use Rattle.si_candidates.proofs.BlockStates.{same_sets}
use Rattle.si_candidates.proofs.MaySwitchArcs.{in_or_out, switch_passes, passes_switch}

-- ---- bits
pub not_is : (x k : ℕ) → x < 2 ^ 128 → k < 128
    → (bit (2 ^ 128 - 1 - x) k ≡ true) ↔ (bit x k ≡ true → ⊥)
not_is x k fits few = (
  λ h is. true≢false (sym is ∙ (in_not x k fits few).0 h),
  λ none. (in_not x k fits few).1 (false_from_ne_true (bit x k) none),
)

both_one : (m n : ℕ) → m < 2 → n < 2 → (m ≡ 1 → n ≡ 1) → (n ≡ 1 → m ≡ 1) → m ≡ n
both_one m n m_bit n_bit there back = elim (cases_eq m 1) [
  | inl one ↦ one ∙ sym (there one)
  | inr not_m ↦ elim (cases_eq n 1) [
    | inl one ↦ absurd (not_m (back one))
    | inr not_n ↦ omega (arith, m_bit, n_bit, not_m, not_n)
  ]
]

-- just one word tells of a property of sets
pub one_word_tells : (given : ℕ) (words : List ℕ) (P : List Bool → Type 0) (x y : ℕ) → x < 2 ^ 128 → y < 2 ^ 128
    → TellsOf given words P x → TellsOf given words P y → x ≡ y
one_word_tells given words P x y x_fits y_fits first second = same_from_bits_below 128 x y x_fits y_fits (λ k few.
    both_one (bit_at x k) (bit_at y k) (bit_at-lt x k) (bit_at-lt y k)
    (λ one. eqb-true (bit_at y k) 1 ((second k few).1 ((first k few).0 (eq-eqb (bit_at x k) 1 one))))
    (λ one. eqb-true (bit_at x k) 1 ((first k few).1 ((second k few).0 (eq-eqb (bit_at y k) 1 one)))))

-- ---- one arc
module _ (words : List ℕ) (a : Edge) (given x y : ℕ) (x_fits : x < 2 ^ 128)
    (x_is : x ≡ get_or words a.from 0) (y_is : y ≡ get_or words a.to 0) where
  pub stay_by_bits : TellsOf given words (λ set. IsIn set a.from → IsIn set a.to)
      (bit_and given (bit_or (2 ^ 128 - 1 - x) y))
  stay_by_bits k few = (
    λ h. (
        let parts = (in_and given (bit_or (2 ^ 128 - 1 - x) y) k).0 h in (
          parts.0,
          λ here. elim ((in_or (2 ^ 128 - 1 - x) y k).0 parts.1) [
            | inl elsewhere ↦ absurd ((not_is x k x_fits few).0 elsewhere (ap (λ w. bit w k) x_is
                ∙ (in_column k words a.from).0 here))
            | inr there ↦ (in_column k words a.to).1 (ap (λ w. bit w k) (sym y_is) ∙ there)
          ],
        )),
    λ (has, stays). (in_and given (bit_or (2 ^ 128 - 1 - x) y) k).1 (
      has,
      (in_or (2 ^ 128 - 1 - x) y k).1 (elim (in_or_out (column k words) a.from) [
        | inl here ↦ inr (ap (λ w. bit w k) y_is ∙ (in_column k words a.to).0 (stays here))
        | inr elsewhere ↦ inl ((not_is x k x_fits few).1 (λ has. elsewhere ((in_column k words a.from).1
            (ap (λ w. bit w k) (sym x_is) ∙ has))))
      ]),
    ),
  )

module _ (g : StateGraph) (words : List ℕ) (a : Edge) (given : ℕ) where
  abbrev pub Passes : List Bool → Type 0
  Passes set = IsIn set a.from → MayPass g (IsIn set) a

  pub all_stay : TellsOf given words (λ set. IsIn set a.from → IsIn set a.to) given
      → TellsOf given words Passes given
  all_stay stay k few =
      (λ h. (h, λ here out. absurd (out (((stay k few).0 h).1 here))), λ (has, passes). has)

  pub stay_or_leave : (stays leave : ℕ) → TellsOf given words (λ set. IsIn set a.from → IsIn set a.to) stays
      → Tells words (λ set. MayLeave g (IsIn set) a) leave
      → TellsOf given words Passes (bit_or stays (bit_and given leave))
  stay_or_leave stays leave stay may k few = (
    λ h. elim ((in_or stays (bit_and given leave) k).0 h) [
      | inl inside ↦ (
          let both = (stay k few).0 inside in (both.0, λ here out. absurd (out (both.1 here))))
      | inr leaves ↦ (
          let both = (in_and given leave k).0 leaves in (both.0, λ here out. (may k few).0 both.1))
    ],
    λ (has, passes). (in_or stays (bit_and given leave) k).1 (elim (in_or_out set a.to) [
      | inl there ↦ inl ((stay k few).1 (has, λ here. there))
      | inr out ↦ elim (in_or_out set a.from) [
        | inl here ↦ inr ((in_and given leave k).1 (has, (may k few).1 (passes here out)))
        | inr elsewhere ↦ inl ((stay k few).1 (has, λ here. absurd (elsewhere here)))
      ]
    ]),
  )
    where
      set : List Bool
      set = column k words

-- ---- all arcs
-- the first n arcs pass
abbrev pub PassBelow : StateGraph → List Bool → ℕ → Type 0
PassBelow g set n = (j : ℕ) → j < n → j < length g.edges → IsIn set (edge_at g.edges j).from
    → MayPass g (IsIn set) (edge_at g.edges j)

module _ (g : StateGraph) (words : List ℕ) where
  pub no_arc_yet : Tells words (λ set. PassBelow g set 0) (2 ^ 128 - 1)
  no_arc_yet k few = (λ h j early. absurd (omega arith), λ passes. full_bit k few)

  pub one_arc_more : (n may next : ℕ) → n < length g.edges → Tells words (λ set. PassBelow g set n) may
      → TellsOf may words
      (λ set. IsIn set (edge_at g.edges n).from → MayPass g (IsIn set) (edge_at g.edges n)) next
      → Tells words (λ set. PassBelow g set (n + 1)) next
  one_arc_more n may next there before one k few = (
    λ h j early inside. elim (cases_eq j n) [
      | inl same ↦ subst At (sym same) ((one k few).0 h).1
      | inr other ↦ (before k few).0 ((one k few).0 h).0 j (omega arith) inside
    ],
    λ passes. (one k few).1 (
      (before k few).1 (λ j early inside. passes j (omega arith) inside),
      passes n (omega arith) there,
    ),
  )
    where
      At : ℕ → Type 0
      At i = IsIn (column k words) (edge_at g.edges i).from → MayPass g (IsIn (column k words)) (edge_at g.edges i)

  pub all_arcs : (n may : ℕ) → IsGraph g → length g.edges ≤ n → Tells words (λ set. PassBelow g set n) may
      → Tells words (λ set. MaySwitch g (IsIn set)) may
  all_arcs n may graph all tells k few = (
    λ h. passes_switch g (column k words) (λ a there from.
        subst (λ (b : Edge). MayPass g (IsIn (column k words)) b) (at a there)
        ((tells k few).0 h there.0 (omega (arith, there.1)) there.1
        (subst (λ (b : Edge). IsIn (column k words) b.from) (sym (at a there)) from))),
    λ may_switch. (tells k few).1 (λ j early inside from.
        switch_passes g (column k words) (edge_at g.edges j) graph may_switch (j, inside, same_at j inside) from),
  )
    where
      at : (a : Edge) → (there : Contains g.edges a) → edge_at g.edges there.0 ≡ a
      at a there = get_or_default g.edges there.0 no_edge a there.1 ∙ there.2

      same_at : (j : ℕ) → j < length g.edges → get_or g.edges j (edge_at g.edges j) ≡ edge_at g.edges j
      same_at j inside = get_or_default g.edges j (edge_at g.edges j) no_edge inside

-- ---- many lists of words
module _ (g : StateGraph) (lists : List (List ℕ)) where
  pub none_passed_yet : (may : List ℕ) → may ≡ replicate (length lists) (2 ^ 128 - 1)
      → EachTells (λ set. PassBelow g set 0) lists may
  none_passed_yet may is = record {
    count = ap length is ∙ length-replicate (length lists) (2 ^ 128 - 1);
    each = λ b inside. subst (Tells (words_at lists b) (λ set. PassBelow g set 0))
        (sym (ap (λ (xs : List ℕ). get_or xs b 0) is ∙ get_or-replicate (length lists) b (2 ^ 128 - 1) 0 inside))
        (no_arc_yet g (words_at lists b));
  }

  pub one_passed_more : (n : ℕ) (may next : List ℕ) → n < length g.edges
      → EachTells (λ set. PassBelow g set n) lists may
      → EachTellsOf may (λ set. IsIn set (edge_at g.edges n).from → MayPass g (IsIn set) (edge_at g.edges n))
      lists next
      → EachTells (λ set. PassBelow g set (n + 1)) lists next
  one_passed_more n may next there before one = record {
    count = one.count ∙ before.count;
    each = λ b inside. one_arc_more g (words_at lists b) n (get_or may b 0) (get_or next b 0) there
        (before.each b inside) (one.each b inside);
  }

  pub passed_by_staying : (n : ℕ) (may : List ℕ) → n < length g.edges → EachTells (λ set. PassBelow g set n) lists may
      → EachTellsOf may (λ set. IsIn set (edge_at g.edges n).from → IsIn set (edge_at g.edges n).to) lists may
      → EachTells (λ set. PassBelow g set (n + 1)) lists may
  passed_by_staying n may there before stay = one_passed_more n may may there before (record {
    count = refl;
    each = λ b inside. all_stay g (words_at lists b) (edge_at g.edges n) (get_or may b 0) (stay.each b inside);
  })

  pub all_passed : (n : ℕ) (may : List ℕ) → IsGraph g → length g.edges ≤ n
      → EachTells (λ set. PassBelow g set n) lists may → EachTells (λ set. MaySwitch g (IsIn set)) lists may
  all_passed n may graph all tells = record {
    count = tells.count;
    each = λ b inside. all_arcs g (words_at lists b) n (get_or may b 0) graph all (tells.each b inside);
  }

-- ---- list after list
pub list_is : (lists : List (List ℕ)) (b : ℕ) (words : List ℕ) → b < length lists → words ≡ get_or lists b words
    → words ≡ words_at lists b
list_is lists b words inside at = at ∙ get_or_default lists b words [] inside

-- at the lists before n the sets that pass are kept, and nothing else is changed
pub record ArePassed (g : StateGraph) (lists : List (List ℕ)) (a : Edge) (given : List ℕ) (n : ℕ) (may : List ℕ)
    : Type 0 where
  pub size : length may ≡ length given
  pub passed : (j : ℕ) → j < n → TellsOf (get_or given j 0) (words_at lists j)
      (λ set. IsIn set a.from → MayPass g (IsIn set) a) (get_or may j 0)
  pub rest : (j : ℕ) → n ≤ j → get_or may j 0 ≡ get_or given j 0

pub one_list_more : (g : StateGraph) (lists : List (List ℕ)) (a : Edge) (given may : List ℕ) (n next : ℕ)
    → n < length given → ArePassed g lists a given n may
    → TellsOf (get_or may n 0) (words_at lists n) (λ set. IsIn set a.from → MayPass g (IsIn set) a) next
    → ArePassed g lists a given (n + 1) (set may n next)
one_list_more g lists a given may n next inside before here = record {
  size = length-set may n next ∙ before.size;
  passed = λ j early. elim (cases_eq j n) [
    | inl same ↦ subst (λ (i : ℕ). Told i (get_or (set may n next) i 0)) (sym same) (subst (Told n) (sym last) told)
    | inr other ↦ subst (Told j) (sym (get_or-set_other may n j next 0 other))
        (before.passed j (omega (arith, early, other)))
  ];
  rest = λ j late. get_or-set_other may n j next 0 (λ same. absurd (omega (arith, late, same)))
      ∙ before.rest j (omega (arith, late));
}
  where
    Told : ℕ → ℕ → Type 0
    Told j answer = TellsOf (get_or given j 0) (words_at lists j) (λ set. IsIn set a.from → MayPass g (IsIn set) a)
        answer

    last : get_or (set may n next) n 0 ≡ next
    last = get_or-set_same may n next 0 (omega (arith, inside, before.size))

    told : Told n next
    told = subst
        (λ (w : ℕ). TellsOf w (words_at lists n) (λ set. IsIn set a.from → MayPass g (IsIn set) a) next)
        (before.rest n (omega arith)) here

-- ---- the earlier steps of an arc
-- the step leads out of the set
abbrev pub LeadsOut : List Bool → EarlierStep → Type 0
LeadsOut set step = IsIn set step.from × (IsIn set step.to → ⊥)

-- the first n steps do
abbrev pub LeadOutBelow : List EarlierStep → List Bool → ℕ → Type 0
LeadOutBelow steps set n = (step : EarlierStep) (j : ℕ) → j < n → j < length steps → get_or steps j step ≡ step
    → LeadsOut set step

module _ (words : List ℕ) (step : EarlierStep) (x y k : ℕ) (few : k < 128) (y_fits : y < 2 ^ 128)
    (x_is : x ≡ get_or words step.from 0) (y_is : y ≡ get_or words step.to 0) where
  out_by_bits : (bit (bit_and x (2 ^ 128 - 1 - y)) k ≡ true) ↔ LeadsOut (column k words) step
  out_by_bits = (
    λ h. (
        let parts = (in_and x (2 ^ 128 - 1 - y) k).0 h in (
          (in_column k words step.from).1 (ap (λ w. bit w k) (sym x_is) ∙ parts.0),
          λ there. (not_is y k y_fits few).0 parts.1 (ap (λ w. bit w k) y_is ∙ (in_column k words step.to).0 there),
        )),
    λ both. (in_and x (2 ^ 128 - 1 - y) k).1 (
      ap (λ w. bit w k) x_is ∙ (in_column k words step.from).0 both.0,
      (not_is y k y_fits few).1 (λ has. both.1 ((in_column k words step.to).1 (ap (λ w. bit w k) (sym y_is) ∙ has))),
    ),
  )

module _ (words : List ℕ) (steps : List EarlierStep) where
  pub none_out_yet : Tells words (λ set. LeadOutBelow steps set 0) (2 ^ 128 - 1)
  none_out_yet k few = (λ h step j early. absurd (omega arith), λ all. full_bit k few)

  pub one_out_more : (n kept x y : ℕ) (step : EarlierStep) → n < length steps → step ≡ get_or steps n step
      → y < 2 ^ 128 → x ≡ get_or words step.from 0 → y ≡ get_or words step.to 0
      → Tells words (λ set. LeadOutBelow steps set n) kept
      → Tells words (λ set. LeadOutBelow steps set (n + 1)) (bit_and kept (bit_and x (2 ^ 128 - 1 - y)))
  one_out_more n kept x y step there is y_fits x_is y_is before k few = (
    λ h other j early inside at. (
        let parts = (in_and kept out k).0 h in
        elim (cases_eq j n) [
          | inl last ↦ subst (LeadsOut (column k words)) (sym (step_is other j last at)) (by_bits.0 parts.1)
          | inr first ↦ (before k few).0 parts.0 other j (omega (arith, early, first)) inside at
        ]),
    λ all. (in_and kept out k).1 (
      (before k few).1 (λ other j early. all other j (omega (arith, early))),
      by_bits.1 (all step n (omega arith) there (sym is)),
    ),
  )
    where
      out : ℕ
      out = bit_and x (2 ^ 128 - 1 - y)

      by_bits : (bit out k ≡ true) ↔ LeadsOut (column k words) step
      by_bits = out_by_bits words step x y k few y_fits x_is y_is

      step_is : (other : EarlierStep) (j : ℕ) → j ≡ n → get_or steps j other ≡ other → other ≡ step
      step_is other j last at = sym at ∙ ap (λ (i : ℕ). get_or steps i other) last
          ∙ get_or_default steps n other step there ∙ sym is

-- an arc by an event of the circuit may lead out of the sets out of which its earlier steps lead
pub may_leave_by : (g : StateGraph) (words : List ℕ) (exit : Edge) (steps : List EarlierStep) (n kept : ℕ)
    → length steps ≤ n → IsNonInput g.signals exit.event.sig → Contains g.edges exit
    → AreEarlier g exit steps → Tells words (λ set. LeadOutBelow steps set n) kept
    → Tells words (λ set. MayLeave g (IsIn set) exit) kept
may_leave_by g words exit steps n kept all non_input there are tells k few = (
  λ h. record {
    non_input = non_input;
    keeps = λ before arc_in into apart t step. (
        let at = (are (record { from = before.from; to = t })).1 (
          before.event,
          record {
            non_input = non_input;
            apart = λ same. apart (sym same);
            first = step;
            other = subst (λ (s : ℕ). Step g before.from before.event s) into arc_in;
            next = there;
          },
        ) in
        (tells k few).0 h (record { from = before.from; to = t }) at.0 (omega (arith, at.1, all)) at.1 at.2);
  },
  λ may. (tells k few).1 (λ step j early inside at. (
      let is = (are step).0 (j, inside, at) in
      may.keeps (arc step.from is.0 exit.from) is.1.other refl (λ same. is.1.apart (sym same)) step.to is.1.first)),
)

-- ---- blocks as words
-- the first n states of the set have bit k, too
abbrev pub ArePut : List ℕ → ℕ → List Bool → ℕ → List ℕ → Type 0
ArePut old k set n words = (j s : ℕ) → HasBit words j s ↔ (HasBit old j s ⊎ ((j ≡ k) × (s < n) × IsIn set s))

module _ (words : List ℕ) (k n w : ℕ) (few : k < 128) (inside : n < length words) (is : w ≡ get_or words n 0) where
  abbrev put_word : ℕ
  put_word = bit_or w (1 * 2 ^ k % 2 ^ 128)

  abbrev put_words : List ℕ
  put_words = set words n put_word

  at_place : (j s : ℕ) → s ≡ n → bit (get_or put_words s 0) j ≡ bit put_word j
  at_place j s same = ap (λ t. bit (get_or put_words t 0) j) same
      ∙ ap (λ v. bit v j) (get_or-set_same words n put_word 0 inside)

  was_there : (j s : ℕ) → s ≡ n → bit w j ≡ bit (get_or words s 0) j
  was_there j s same = ap (λ v. bit v j) is ∙ ap (λ t. bit (get_or words t 0) j) (sym same)

  bit_there : (j s : ℕ) → s ≡ n → HasBit put_words j s ↔ (HasBit words j s ⊎ ((j ≡ k) × (s ≡ n)))
  bit_there j s same = elim (cases_eq j k) [
    | inl new ↦ (λ h. inr (new, same), λ h. at_place j s same ∙ ap (bit put_word) new ∙ put_there)
    | inr old ↦ (
      λ h. inl (sym (was_there j s same) ∙ sym (kept j old) ∙ sym (at_place j s same) ∙ h),
      λ h. elim h [
        | inl was ↦ at_place j s same ∙ kept j old ∙ was_there j s same ∙ was
        | inr (new, there) ↦ absurd (old new)
      ],
    )
  ]
    where
      put_there : bit put_word k ≡ true
      put_there = ap (λ b. b == 1) (bit_at_set_same w128 w k few)

      kept : (i : ℕ) → i ≢ k → bit put_word i ≡ bit w i
      kept i other = ap (λ b. b == 1) (bit_at_set_other w128 w k few i other)

  bit_elsewhere : (j s : ℕ) → s ≢ n → HasBit put_words j s ↔ (HasBit words j s ⊎ ((j ≡ k) × (s ≡ n)))
  bit_elsewhere j s other = (
    λ h. inl (sym same ∙ h),
    λ h. elim h [ inl was ↦ same ∙ was | inr (new, there) ↦ absurd (other there) ],
  )
    where
      same : bit (get_or put_words s 0) j ≡ bit (get_or words s 0) j
      same = ap (λ v. bit v j) (get_or-set_other words n s put_word 0 other)

  new_bit : (j s : ℕ) → HasBit put_words j s ↔ (HasBit words j s ⊎ ((j ≡ k) × (s ≡ n)))
  new_bit j s = elim (cases_eq s n) [ inl same ↦ bit_there j s same | inr other ↦ bit_elsewhere j s other ]

  -- where n is the next state of the set from `at` on, the states in between are none of the set's
  pub put_next : (old : List ℕ) (set_k : List Bool) (at : ℕ) → IsFirstFrom set_k at n → ArePut old k set_k at words
      → ArePut old k set_k (n + 1) put_words
  put_next old set_k at next before j s = (
    λ h. elim ((new_bit j s).0 h) [
      | inl was ↦ elim ((before j s).0 was) [
        | inl first ↦ inl first
        | inr (same, early, here) ↦ inr (same, omega (arith, early, next.from), here)
      ]
      | inr (same, there) ↦ inr (same, omega (arith, there), subst (λ t. IsIn set_k t) (sym there) next.inside)
    ],
    λ h. elim h [
      | inl first ↦ (new_bit j s).1 (inl ((before j s).1 (inl first)))
      | inr (same, early, here) ↦ (new_bit j s).1 (elim (cases_eq s n) [
        | inl there ↦ inr (same, there)
        | inr other ↦ inl ((before j s).1 (inr (same, skipped early other here, here)))
      ])
    ],
  )
    where
      skipped : s < n + 1 → s ≢ n → IsIn set_k s → s < at
      skipped early other here = elim (cases_lt s at) [
        | inl below ↦ below
        | inr past ↦ omega (arith, early, other, next.first s past here)
      ]

-- ---- block after block
module _ (states : ℕ) (blocks : List (List Bool)) (first : ℕ) where
  pub packed_column : (words : List ℕ) (k : ℕ) → k < 128 → first + k < length blocks
      → length (block_at blocks (first + k)) ≡ states → ArePacked states blocks first 128 words
      → column k words ≡ block_at blocks (first + k)
  packed_column words k few inside size are = same_sets (column k words) (block_at blocks (first + k))
      (length-map words (λ (w : ℕ). bit w k) ∙ are.size ∙ sym size) (λ s. (
        λ h. ((are.each k s few).0 ((in_column k words s).0 h)).2,
        λ here. (in_column k words s).1 ((are.each k s few).1 (few, inside, here)),
      ))

  pub told_of_block : (g : StateGraph) (words : List ℕ) (word k : ℕ) → k < 128 → first + k < length blocks
      → length (block_at blocks (first + k)) ≡ states → ArePacked states blocks first 128 words
      → Tells words (λ set. MaySwitch g (IsIn set)) word
      → (bit word k ≡ true) ↔ MaySwitch g (IsIn (block_at blocks (first + k)))
  told_of_block g words word k few inside size are tells =
      subst (λ (x : List Bool). (bit word k ≡ true) ↔ MaySwitch g (IsIn x))
      (packed_column words k few inside size are) (tells k few)

pub told_in_lists : (states : ℕ) (blocks : List (List Bool)) (g : StateGraph) (lists : List (List ℕ)) (sets : List ℕ)
    (k word : ℕ) → k < length blocks → length (block_at blocks k) ≡ states → AreAllPacked states blocks lists
    → EachTells (λ set. MaySwitch g (IsIn set)) lists sets → word ≡ get_or sets (k / 128) word
    → (bit word (k % 128) ≡ true) ↔ MaySwitch g (IsIn (block_at blocks k))
told_in_lists states blocks g lists sets k word inside size packed tells at =
    subst Says parts (told_of_block states blocks (k / 128 * 128) g words word (k % 128) (omega arith)
    (omega (arith, inside, parts)) (ap (λ (n : ℕ). length (block_at blocks n)) parts ∙ size)
    (packed.each (k / 128) there) told)
  where
    words : List ℕ
    words = words_at lists (k / 128)

    Says : ℕ → Type 0
    Says n = (bit word (k % 128) ≡ true) ↔ MaySwitch g (IsIn (block_at blocks n))

    parts : k / 128 * 128 + k % 128 ≡ k
    parts = omega arith

    there : k / 128 < length lists
    there = omega (arith, inside, packed.all)

    word_is : word ≡ get_or sets (k / 128) 0
    word_is = at ∙ get_or_default sets (k / 128) word 0 (omega (arith, there, tells.count))

    told : Tells words (λ set. MaySwitch g (IsIn set)) word
    told = subst (λ (w : ℕ). Tells words (λ set. MaySwitch g (IsIn set)) w) (sym word_is)
        (tells.each (k / 128) there)

-- ---- one flag more
pub told_more : (g : StateGraph) (blocks : List (List Bool)) (flags : List Bool) (flag : Bool) (m : ℕ)
    → length flags ≡ m → (flag ≡ true) ↔ MaySwitch g (IsIn (block_at blocks m)) → AreToldBelow g blocks flags
    → AreToldBelow g blocks (flags ++ flag ∷ [])
told_more g blocks flags flag m count told before k inside = elim (cases_eq k m) [
  | inl same ↦ subst At (sym same) (
    λ h. told.0 (sym last ∙ h),
    λ may. last ∙ told.1 may,
  )
  | inr other ↦ (
    λ h. (before k (below other)).0 (sym (kept other) ∙ h),
    λ may. kept other ∙ (before k (below other)).1 may,
  )
]
  where
    At : ℕ → Type 0
    At j = (get_or (flags ++ flag ∷ []) j false ≡ true) ↔ MaySwitch g (IsIn (block_at blocks j))

    last : get_or (flags ++ flag ∷ []) m false ≡ flag
    last = get_or_push flags flag false m count

    below : k ≢ m → k < length flags
    below other = omega (arith, inside, length_push flags flag, count, other)

    kept : k ≢ m → get_or (flags ++ flag ∷ []) k false ≡ get_or flags k false
    kept other = get_or_append_left flags (flag ∷ []) false k (below other)
