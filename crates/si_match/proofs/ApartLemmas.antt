-- An instance that fits reads a signal at which two states differ that it has to tell apart.
use Rattle.std.proofs.Common.{◌≡◌, ◌≢◌, ◌↔◌, ℕ, zero, suc, ◌⊎◌, ◌+◌, ◌<◌, ◌≤◌, Bool, true, false, not, List, [], ◌∷◌, ◌++◌}
use Rattle.std.proofs.Common.{length, map, take, get_or, All, Contains, bit_and, bit_xor, if◌then◌else◌}
use Rattle.std.proofs.Common.{arith, inl, inr, refl, sym, ap, subst, ◌∙◌, Option, Some, None, is_some, IfSome, IfNone}
use Rattle.std.proofs.lemmas.Bool.{cases_Bool, cases_eq, cases_lt, true≢false}
use Rattle.std.proofs.lemmas.List.{length-append, take_more}
use Rattle.std.proofs.lemmas.List.Elements.{All-nil, All-cons, All-head, All-tail, All-contains}
use Rattle.std.proofs.lemmas.List.Elements.{Contains-append_left, Contains-append_right, Contains-append_cases}
use Rattle.std.proofs.lemmas.List.Elements.{Contains-push, Contains-push_cases, All-contains_itself}
use Rattle.si_base.proofs.GivenGraphUnique.{contains_from_in, in_from_contains}
use Rattle.si_base.proofs.OrderAscending.{In}
use Rattle.si_base.specs.Bits.{bit, IsSet}
use Rattle.si_base.specs.Codes.{CodedGraph, code, next_value}
use Rattle.si_base.specs.Netlist.{literal_value, sum_value}
use Rattle.si_base.specs.declared.ids.Literal.{Literal}
use Rattle.si_base.proofs.BitFacts.{bit-zero, bit-and}
use Rattle.si_cell.specs.Library.{Library, Instance, cell_at, pin_values}
use Rattle.si_match.specs.Loops.Apart.{AreApart, AreAlike, AllAlikeAmong, NoneFitsWith}
use Rattle.si_match.specs.Loops.Apart.{AreCodesAmong, DifferAtRead, IsUnread, IsUnreadFromOne}
use Rattle.si_match.specs.Loops.Choices.{AreAmong, Ascends, NoneFitsOver}
use Rattle.si_match.specs.Fit.{Fits}
use Rattle.si_match.proofs.ChoiceLemmas.{with_one}
use Rattle.si_match.proofs.PlaceLemmas.{bit_of_xor, common_bit}

-- ---- two codes
pub equal_bits : (a b i : ℕ) → bit (bit_xor a b) i ≡ false → bit a i ≡ bit b i
equal_bits a b i none = by_bits (bit a i) (bit b i) (sym (bit_of_xor a b i) ∙ none)
  where
    by_bits : (x y : Bool) → (if x then not y else y) ≡ false → x ≡ y
    by_bits true true is = refl
    by_bits true false is = is
    by_bits false y is = sym is

pub not_read : (k read i : ℕ) → bit_and k read ≡ 0 → bit read i ≡ true → bit k i ≡ false
not_read k read i none there = elim (cases_Bool (bit k i)) [
  | inr clear ↦ clear
  | inl set ↦ absurd (
      let both : bit (bit_and k read) i ≡ true = bit-and k read i ∙ rw (set, there) refl in
      true≢false (sym both ∙ ap (λ (m : ℕ). bit m i) none ∙ bit-zero i))
]

pub unread_apart : (c : CodedGraph) (z read one other a b : ℕ) → a ≡ code c one → b ≡ code c other
    → one < c.graph.states → other < c.graph.states → next_value c one z ≢ next_value c other z
    → (differing : ℕ) → IsUnread read a b differing → AreApart c z read differing
unread_apart c z read one other a b a_is b_is one_in other_in changes differing (is, none) = record {
  one = one;
  other = other;
  one_there = one_in;
  other_there = other_in;
  changes = changes;
  same = λ y there. differ y (not_read (bit_xor a b) read y none there);
  others = λ y clear. differ y (sym (ap (λ (k : ℕ). bit k y) is) ∙ clear);
}
  where
    differ : (y : ℕ) → bit (bit_xor a b) y ≡ false → bit (code c one) y ≡ bit (code c other) y
    differ y clear = sym (ap (λ (k : ℕ). bit k y) a_is) ∙ equal_bits a b y clear ∙ ap (λ (k : ℕ). bit k y) b_is

-- where they differ at a signal that is read, it isn't so that they don't
pub differ_read : (a b read : ℕ) → (bit_and (bit_xor a b) read ≡ 0 → ⊥)
    → ((y : ℕ) → bit read y ≡ true → bit a y ≡ bit b y) → ⊥
differ_read a b read some same =
    let (m, differs, reads) = common_bit (bit_xor a b) read some in
    by_bits (bit a m) (bit b m) (same m reads) (sym (bit_of_xor a b m) ∙ differs)
  where
    by_bits : (x y : Bool) → x ≡ y → (if x then not y else y) ≡ true → ⊥
    by_bits true true equal is = true≢false (sym is)
    by_bits true false equal is = true≢false equal
    by_bits false true equal is = true≢false (sym equal)
    by_bits false false equal is = true≢false (sym is)

pub alike_states : (c : CodedGraph) (z read one other a b : ℕ) → a ≡ code c one → b ≡ code c other
    → (bit_and (bit_xor a b) read ≡ 0 → ⊥) → AreAlike c z read one other
alike_states c z read one other a b a_is b_is some same = absurd (differ_read a b read some
    (λ y reads. ap (λ (k : ℕ). bit k y) a_is ∙ same y reads ∙ ap (λ (k : ℕ). bit k y) (sym b_is)))

-- ---- pairs, one after another
pub if_none_then : {A : Type 0} (P Q R : Type 0) (r a : Option A) → IfNone r (a ≡ None) → IfNone r Q → IfNone a P
    → (P → Q → R) → IfNone r R
if_none_then P Q R None a is q p both = both (subst (λ o. IfNone o P) is p) q
if_none_then P Q R (Some x) a is q p both = tt

pub when_none : {A : Type 0} (P : Type 0) (o : Option A) → is_some o ≡ false → IfNone o P → P
when_none P None is p = p
when_none P (Some x) is p = absurd (true≢false is)

pub if_none_never : {A : Type 0} (P Q : Type 0) (o : Option A) → IfNone o P → (P → ⊥) → IfNone o Q
if_none_never P Q None p never = absurd (never p)
if_none_never P Q (Some x) p never = tt

-- the fewest before, or those of one of the others
pub of_one : (P Q : ℕ → Type 0) (r before : Option ℕ) → IfSome r (λ d. (before ≡ Some d) ⊎ Q d) → IfSome before P
    → ((d : ℕ) → Q d → P d) → IfSome r P
of_one P Q None before is p told = tt
of_one P Q (Some d) before (inl same) p told = subst (λ o. IfSome o P) same p
of_one P Q (Some d) before (inr one) p told = told d one

pub if_none_so : {A : Type 0} (P Q : Type 0) (r : Option A) → IfNone r P → (P → Q) → IfNone r Q
if_none_so P Q None p so = so p
if_none_so P Q (Some x) p so = tt

-- ---- the codes of states, by their next values
module _ (c : CodedGraph) (z : ℕ) (value : Bool) where
  no_codes : AreCodesAmong c z value [] []
  no_codes k = (λ there. absurd (in_none k there), λ (s, there, next, is). absurd (in_none s there))
    where
      in_none : (x : ℕ) → Contains [] x → ⊥
      in_none x (k, within, at) = omega (arith, within)

  code_skipped : (states codes : List ℕ) (s : ℕ) → AreCodesAmong c z value states codes
      → (next_value c s z ≡ value → ⊥) → AreCodesAmong c z value (states ++ s ∷ []) codes
  code_skipped states codes s are other k = (
    λ there. (let (t, in_states, next, is) = (are k).0 there in
        (t, Contains-append_left states (s ∷ []) t in_states, next, is)),
    λ (t, there, next, is). elim (Contains-push_cases states s t there) [
      | inl before ↦ (are k).1 (t, before, next, is)
      | inr last ↦ absurd (other (ap (λ u. next_value c u z) last ∙ next))
    ],
  )

  code_added : (states codes : List ℕ) (s : ℕ) → AreCodesAmong c z value states codes
      → next_value c s z ≡ value → AreCodesAmong c z value (states ++ s ∷ []) (codes ++ code c s ∷ [])
  code_added states codes s are own k = (
    λ there. elim (Contains-push_cases codes (code c s) k there) [
      | inl before ↦ (let (t, in_states, next, is) = (are k).0 before in
          (t, Contains-append_left states (s ∷ []) t in_states, next, is))
      | inr last ↦ (s, Contains-push states s, own, last)
    ],
    λ (t, there, next, is). elim (Contains-push_cases states s t there) [
      | inl before ↦ Contains-append_left codes (code c s ∷ []) k ((are k).1 (t, before, next, is))
      | inr last ↦ subst (Contains (codes ++ code c s ∷ [])) (ap (code c) last ∙ is) (Contains-push codes (code c s))
    ],
  )

-- the codes of the first states, so many, and no more codes than these
pub record AreSplit (c : CodedGraph) (z : ℕ) (states : List ℕ) (count : ℕ) (on off : List ℕ) : Type 0 where
  pub on_are : AreCodesAmong c z true (take count states) on
  pub off_are : AreCodesAmong c z false (take count states) off
  pub on_few : length on ≤ count
  pub off_few : length off ≤ count

pub none_split : (c : CodedGraph) (z : ℕ) (states : List ℕ) → AreSplit c z states 0 [] []
none_split c z states = record {
  on_are = no_codes c z true;
  off_are = no_codes c z false;
  on_few = omega arith;
  off_few = omega arith;
}

module _ (c : CodedGraph) (z : ℕ) (states : List ℕ) (count : ℕ) (on off : List ℕ)
    (split : AreSplit c z states count on off) (inside : count < length states) (k : ℕ)
    (k_is : k ≡ code c (get_or states count 0)) where
  abbrev next_state : ℕ
  next_state = get_or states count 0

  skipped : (value : Bool) (codes : List ℕ) → AreCodesAmong c z value (take count states) codes
      → (next_value c next_state z ≡ value → ⊥) → AreCodesAmong c z value (take (count + 1) states) codes
  skipped value codes are other = rw (take_more states count 0 inside)
      (code_skipped c z value (take count states) codes next_state are other)

  joined : (value : Bool) (codes : List ℕ) → AreCodesAmong c z value (take count states) codes
      → next_value c next_state z ≡ value → AreCodesAmong c z value (take (count + 1) states) (codes ++ k ∷ [])
  joined value codes are own = rw (take_more states count 0 inside, k_is)
      (code_added c z value (take count states) codes next_state are own)

  one_longer : (codes : List ℕ) → length codes ≤ count → length (codes ++ k ∷ []) ≤ count + 1
  one_longer codes few = omega (arith, length-append codes (k ∷ []), few)

  pub on_joined : next_value c next_state z ≡ true → AreSplit c z states (count + 1) (on ++ k ∷ []) off
  on_joined next = record {
    on_are = joined true on split.on_are next;
    off_are = skipped false off split.off_are (λ same. true≢false (sym next ∙ same));
    on_few = one_longer on split.on_few;
    off_few = omega (arith, split.off_few);
  }

  pub off_joined : next_value c next_state z ≡ false → AreSplit c z states (count + 1) on (off ++ k ∷ [])
  off_joined next = record {
    on_are = skipped true on split.on_are (λ same. true≢false (sym same ∙ next));
    off_are = joined false off split.off_are next;
    on_few = omega (arith, split.on_few);
    off_few = one_longer off split.off_few;
  }

module _ (c : CodedGraph) (z read : ℕ) (states on off : List ℕ)
    (on_are : AreCodesAmong c z true states on) (off_are : AreCodesAmong c z false states off) where
  pub codes_apart : All (λ s. s < c.graph.states) states → (a d : ℕ) → Contains on a → IsUnreadFromOne read a off d
      → AreApart c z read d
  codes_apart small a d in_on (b, in_off, unread) =
      let (s, in_s, s_next, s_code) = (on_are a).0 in_on in
      let (t, in_t, t_next, t_code) = (off_are b).0 in_off in
      let There : ℕ → Type 0 = λ u. u < c.graph.states in
      let s_there = All-contains There states s small in_s in
      let t_there = All-contains There states t small in_t in
      let changes : next_value c s z ≢ next_value c t z = λ same. true≢false (sym s_next ∙ same ∙ t_next) in
      unread_apart c z read s t a b (sym s_code) (sym t_code) s_there t_there changes d unread

  -- where each code of the one kind differs from each of the other at a signal that is read, no two
  -- states have to be told apart: they are of one kind, or of both, in this order or the other
  pub codes_alike : All (λ a. All (DifferAtRead read a) off) on → AllAlikeAmong c z read states
  codes_alike differ = λ i d i_in j e j_in. alike (get_or states i d) (get_or states j e)
      (All-contains_itself states i d i_in) (All-contains_itself states j e j_in)
    where
      Same : ℕ → ℕ → Type 0
      Same s t = (y : ℕ) → bit read y ≡ true → bit (code c s) y ≡ bit (code c t) y

      never : (s t : ℕ) → Contains states s → Contains states t → next_value c s z ≡ true
          → next_value c t z ≡ false → Same s t → ⊥
      never s t s_in t_in s_next t_next same =
          let in_on : Contains on (code c s) = (on_are (code c s)).1 (s, s_in, s_next, refl) in
          let in_off : Contains off (code c t) = (off_are (code c t)).1 (t, t_in, t_next, refl) in
          let all = All-contains (λ (a : ℕ). All (DifferAtRead read a) off) on (code c s) differ in_on in
          differ_read (code c s) (code c t) read
          (All-contains (DifferAtRead read (code c s)) off (code c t) all in_off) same

      by_next : (s t : ℕ) → Contains states s → Contains states t → Same s t → (v w : Bool)
          → next_value c s z ≡ v → next_value c t z ≡ w → next_value c s z ≡ next_value c t z
      by_next s t s_in t_in same true true s_is t_is = s_is ∙ sym t_is
      by_next s t s_in t_in same false false s_is t_is = s_is ∙ sym t_is
      by_next s t s_in t_in same true false s_is t_is = absurd (never s t s_in t_in s_is t_is same)
      by_next s t s_in t_in same false true s_is t_is =
          absurd (never t s t_in s_in t_is s_is (λ y reads. sym (same y reads)))

      alike : (s t : ℕ) → Contains states s → Contains states t → AreAlike c z read s t
      alike s t s_in t_in same =
          by_next s t s_in t_in same (next_value c s z) (next_value c t z) refl refl

-- ---- a signal at which they differ
-- one of the signals is in the set, with those before it and those behind it, or none is
some_among : (set : ℕ) (ys : List ℕ) → ((y : ℕ) × (bit set y ≡ true) × (before : List ℕ) × (behind : List ℕ)
    × (ys ≡ before ++ y ∷ behind)) ⊎ All (λ y. bit set y ≡ false) ys
some_among set [] = inr (All-nil (λ (y : ℕ). bit set y ≡ false))
some_among set (y ∷ ys) = elim (cases_Bool (bit set y)) [
  | inl there ↦ inl (y, there, [], ys, refl)
  | inr clear ↦ elim (some_among set ys) [
    | inl (x, there, before, behind, is) ↦ inl (x, there, y ∷ before, behind, ap (λ (xs : List ℕ). y ∷ xs) is)
    | inr none ↦ inr (All-cons (λ (x : ℕ). bit set x ≡ false) y ys clear none)
  ]
]

abbrev Same : ℕ → ℕ → Literal → Type 0
Same k m l = bit k l.sig ≡ bit m l.sig

same_pins : (k m : ℕ) (ls : List Literal) → All (Same k m) ls → map (literal_value k) ls ≡ map (literal_value m) ls
same_pins k m [] same = refl
same_pins k m (l ∷ ls) same =
    rw (All-head (Same k m) l ls same, same_pins k m ls (All-tail (Same k m) l ls same)) refl

-- nothing fits that reads one of them before y, and so many further signals
abbrev pub NoneByThen : CodedGraph → Library → ℕ → ℕ → List ℕ → ℕ → ℕ → Type 0
NoneByThen c library z differing chosen more y = (x : ℕ) → x < y → bit differing x ≡ true
    → NoneFitsWith c library z (chosen ++ x ∷ []) more

pub none_by_now : (c : CodedGraph) (library : Library) (z differing : ℕ) (chosen : List ℕ) (more y : ℕ)
    → NoneByThen c library z differing chosen more y
    → (bit differing y ≡ true → NoneFitsWith c library z (chosen ++ y ∷ []) more)
    → NoneByThen c library z differing chosen more (y + 1)
none_by_now c library z differing chosen more y before here x low set = elim (cases_lt x y) [
  | inl less ↦ before x less set
  | inr past ↦ (
      let same : x ≡ y = omega (arith, low, past) in
      subst (λ (v : ℕ). NoneFitsWith c library z (chosen ++ v ∷ []) more) (sym same)
      (here (sym (ap (bit differing) same) ∙ set)))
]

module _ (c : CodedGraph) (library : Library) (z read differing : ℕ) (chosen : List ℕ)
    (apart : AreApart c z read differing)
    (all_read : (y : ℕ) → Contains (z ∷ chosen) y → bit read y ≡ true) where
  -- an instance whose pins have the same values at both doesn't fit
  same_unfit : (i : Instance) → Fits c library z i → All (Same (code c apart.one) (code c apart.other)) i.literals → ⊥
  same_unfit i fit same =
      let k = code c apart.one in
      let m = code c apart.other in
      let own : bit k z ≡ bit m z = apart.same z (all_read z (0, omega arith, refl)) in
      let value : ℕ → Bool → Bool = λ n q. sum_value (pin_values i.literals n q) (cell_at library i.cell).sum in
      let equal : value k (bit k z) ≡ value m (bit m z) = rw (own, same_pins k m i.literals same) refl in
      apart.changes (sym (fit apart.one apart.one_there) ∙ equal ∙ fit apart.other apart.other_there)

  reads_differing : (i : Instance) → Fits c library z i → (rest : List ℕ) → AreAmong (z ∷ chosen ++ rest) i.literals
      → (y : ℕ) × (bit differing y ≡ true) × (before : List ℕ) × (behind : List ℕ) × (rest ≡ before ++ y ∷ behind)
  reads_differing i fit rest among = elim (some_among differing rest) [
    | inl found ↦ found
    | inr none ↦ absurd (same_unfit i fit (λ k d within. elim (Contains-append_cases (z ∷ chosen) rest
        (get_or i.literals k d).sig (among k d within)) [
          | inl there ↦ apart.same (get_or i.literals k d).sig (all_read (get_or i.literals k d).sig there)
          | inr there ↦ apart.others (get_or i.literals k d).sig
              (All-contains (λ (y : ℕ). bit differing y ≡ false) rest (get_or i.literals k d).sig none there)
        ]))
  ]

  -- ---- each of them in turn
  pub all_tried : (more n : ℕ) → length c.graph.signals ≤ n → NoneByThen c library z differing chosen more n
      → NoneFitsWith c library z chosen (more + 1)
  all_tried more n past none rest count small i over fit among =
      let (y, set, before, behind, is) = reads_differing i fit rest among in
      let Small : ℕ → Type 0 = λ x. x < length c.graph.signals in
      let split : All Small (before ++ y ∷ behind) = subst (All Small) is small in
      let there : Contains (before ++ y ∷ behind) y =
      Contains-append_right before (y ∷ behind) y (0, omega arith, refl) in
      let y_small : y < length c.graph.signals = All-contains Small (before ++ y ∷ behind) y split there in
      let longer = ap (λ (xs : List ℕ). length xs) is ∙ length-append before (y ∷ behind) in
      let fewer : length (before ++ behind) ≡ more = omega (arith, length-append before behind, longer, count) in
      none y (omega (arith, y_small, past)) set (before ++ behind) fewer (without y before behind split) i over fit
      (λ k d within. moved y before behind (get_or i.literals k d).sig
      (subst (λ (xs : List ℕ). Contains (z ∷ chosen ++ xs) (get_or i.literals k d).sig) is (among k d within)))
    where
      without : (y : ℕ) (before behind : List ℕ) → All (λ x. x < length c.graph.signals) (before ++ y ∷ behind)
          → All (λ x. x < length c.graph.signals) (before ++ behind)
      without y [] behind all = All-tail (λ (x : ℕ). x < length c.graph.signals) y behind all
      without y (x ∷ before) behind all = All-cons (λ (v : ℕ). v < length c.graph.signals) x (before ++ behind)
          (All-head (λ (v : ℕ). v < length c.graph.signals) x (before ++ y ∷ behind) all)
          (without y before behind (All-tail (λ (v : ℕ). v < length c.graph.signals) x (before ++ y ∷ behind) all))

      moved : (y : ℕ) (before behind : List ℕ) (v : ℕ) → Contains (z ∷ chosen ++ (before ++ y ∷ behind)) v
          → Contains (z ∷ (chosen ++ y ∷ []) ++ (before ++ behind)) v
      moved y before behind v there = elim (Contains-append_cases (z ∷ chosen) (before ++ y ∷ behind) v there) [
        | inl first ↦ Contains-append_left (z ∷ (chosen ++ y ∷ [])) (before ++ behind) v
            (Contains-append_left (z ∷ chosen) (y ∷ []) v first)
        | inr later ↦ elim (Contains-append_cases before (y ∷ behind) v later) [
          | inl early ↦ Contains-append_right (z ∷ (chosen ++ y ∷ [])) (before ++ behind) v
              (Contains-append_left before behind v early)
          | inr late ↦ elim (Contains-append_cases (y ∷ []) behind v late) [
            | inl own ↦ Contains-append_left (z ∷ (chosen ++ y ∷ [])) (before ++ behind) v
                (Contains-append_right (z ∷ chosen) (y ∷ []) v own)
            | inr last ↦ Contains-append_right (z ∷ (chosen ++ y ∷ [])) (before ++ behind) v
                (Contains-append_right before behind v last)
          ]
        ]
      ]

-- ---- the signals that are read
pub all_read_first : (z also : ℕ) (chosen : List ℕ) → chosen ≡ [] → IsSet 0 z true also → (y : ℕ)
    → Contains (z ∷ chosen) y ↔ (bit also y ≡ true)
all_read_first z also chosen none set y = (
  λ there. by_place (subst (λ (ys : List ℕ). Contains (z ∷ ys) y) none there),
  λ reads. elim (cases_eq y z) [
    | inl same ↦ (0, omega arith, sym same)
    | inr other ↦ absurd (true≢false (sym reads ∙ set.others y other ∙ bit-zero y))
  ],
)
  where
    by_place : Contains (z ∷ []) y → bit also y ≡ true
    by_place (zero, within, at) = ap (bit also) (sym at) ∙ set.there
    by_place (suc k, within, at) = absurd (omega (arith, within))

pub all_read_next : (z y read also : ℕ) (chosen : List ℕ) → IsSet read y true also
    → ((x : ℕ) → Contains (z ∷ chosen) x ↔ (bit read x ≡ true))
    → (x : ℕ) → Contains (z ∷ chosen ++ y ∷ []) x ↔ (bit also x ≡ true)
all_read_next z y read also chosen set all x = (
  λ there. elim (Contains-append_cases (z ∷ chosen) (y ∷ []) x there) [
    | inr own ↦ ap (bit also) (only own) ∙ set.there
    | inl before ↦ elim (cases_eq x y) [
      | inl same ↦ ap (bit also) same ∙ set.there
      | inr other ↦ set.others x other ∙ (all x).0 before
    ]
  ],
  λ reads. elim (cases_eq x y) [
    | inl same ↦ Contains-append_right (z ∷ chosen) (y ∷ []) x (0, omega arith, sym same)
    | inr other ↦ Contains-append_left (z ∷ chosen) (y ∷ []) x ((all x).1 (sym (set.others x other) ∙ reads))
  ],
)
  where
    only : Contains (y ∷ []) x → x ≡ y
    only (zero, within, at) = sym at
    only (suc k, within, at) = absurd (omega (arith, within))

-- ---- signals in any order
in_list : (ys : List ℕ) (y : ℕ) → Contains ys y → In y ys
in_list ys y (k, within, at) = in_from_contains ys y k within at

sorted_signals : (n : ℕ) (ys : List ℕ) → All (λ y. y < n) ys → (zs : List ℕ) × (length zs ≡ length ys)
    × Ascends n 0 zs × ((v : ℕ) → In v ys → In v zs)
sorted_signals n [] small = ([], refl, tt, λ v there. there)
sorted_signals n (y ∷ ys) small =
    let Small : ℕ → Type 0 = λ x. x < n in
    let (zs, count, up, kept) = sorted_signals n ys (All-tail Small y ys small) in
    let (xs, more, ascends, all) = with_one n y 0 zs (All-head Small y ys small) (omega arith) up in
    (xs, more ∙ ap suc count, ascends, with_first xs zs kept all)
  where
    with_first : (xs zs : List ℕ) → ((v : ℕ) → In v ys → In v zs) → ((v : ℕ) → In v (y ∷ zs) → In v xs) → (v : ℕ)
        → In v (y ∷ ys) → In v xs
    with_first xs zs kept all v (inl same) = all v (inl same)
    with_first xs zs kept all v (inr later) = all v (inr (kept v later))

pub any_order : (c : CodedGraph) (library : Library) (z more : ℕ) (chosen : List ℕ)
    → ((rest : List ℕ) → length rest ≡ more → Ascends (length c.graph.signals) 0 rest
    → NoneFitsOver c library z (chosen ++ rest))
    → NoneFitsWith c library z chosen more
any_order c library z more chosen none rest count small i over fit among =
    let (ys, same, up, kept) = sorted_signals (length c.graph.signals) rest small in
    none ys (same ∙ count) up i over fit (λ k d within. elim (Contains-append_cases (z ∷ chosen) rest
    (get_or i.literals k d).sig (among k d within)) [
      | inl first ↦ Contains-append_left (z ∷ chosen) ys (get_or i.literals k d).sig first
      | inr later ↦ Contains-append_right (z ∷ chosen) ys (get_or i.literals k d).sig
          (contains_from_in ys (get_or i.literals k d).sig
          (kept (get_or i.literals k d).sig (in_list rest (get_or i.literals k d).sig later)))
    ])
