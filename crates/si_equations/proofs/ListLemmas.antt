-- Two lists without fault, which may share names: the inputs and outputs that they tell.
use Rattle.std.proofs.Common.{◌≡◌, ℕ, ◌+◌, ◌<◌, ◌≤◌, ◌&&◌, not, Bool, true, false, List, [], ◌∷◌, ◌++◌}
use Rattle.std.proofs.Common.{length, bytes_eq, nat_le, Option, Some, None, refl, sym, ap, subst, ◌∙◌, arith, inl, inr}
use Rattle.std.proofs.Common.{append_assoc}
use Rattle.std.specs.List.{AllByRecursion}
use Rattle.std.proofs.lemmas.Bool.{cases_Bool, or_parts, lt-leb, leb-false, true≢false}
use Rattle.std.proofs.lemmas.List.{append-nil, length-append}
use Rattle.std.proofs.lemmas.Slice.Eq.{bytes_eq-Decides}
use Rattle.si_base.specs.Faults.{when, ◌otherwise◌, first_after}
use Rattle.si_base.specs.Limits.{max_signals}
use Rattle.si_base.specs.Words.{is_signal_name}
use Rattle.si_base.specs.declared.fault.TextKind.{TextKind}
use Rattle.si_base.specs.declared.fault.TextKind.TheVariants.{BadName, Repeated, TooManySignals}
use Rattle.si_words.specs.Names.{stands_in, name_fault}
use Rattle.si_equations.specs.Equations.{without, list_fault}
use Rattle.si_equations.proofs.NetlistLemmas.{other_bytes}
use Rattle.si_equations.proofs.NewLemmas.{stands_append, all_stand, bytes_turned, AreNew, AreGood, few_without}
use Rattle.si_equations.proofs.NewLemmas.{among_append, inner_head, all_kept, apart_none}

-- ---- faults one after another

pub no_fault : {F : Type 0} (a b : Option F) → (a otherwise b) ≡ None → (a ≡ None) × (b ≡ None)
no_fault None b none = (refl, none)
no_fault (Some x) b none = absurd cc

pub when_none : (c : Bool) (kind : TextKind) → when c kind ≡ None → c ≡ false
when_none true kind none = absurd cc
when_none false kind none = refl

-- names without a fault, and one more
pub good_push : (f : List (List ℕ) → List ℕ → Option TextKind) (old xs : List (List ℕ)) (w : List ℕ)
    → first_after f old xs ≡ None → f (old ++ xs) w ≡ None → first_after f old (xs ++ w ∷ []) ≡ None
good_push f old [] w good here = let at_old : f old w ≡ None = rw append-nil at here in rw at_old refl
good_push f old (x ∷ xs) w good here =
    let parts = no_fault (f old x) (first_after f (old ++ x ∷ []) xs) good in
    rw parts.0 (good_push f (old ++ x ∷ []) xs w parts.1 (rw append_assoc here))

-- a list without fault, behind another
abbrev pub IsGoodList : List (List ℕ) → List (List ℕ) → Type 0
IsGoodList others names = first_after (list_fault others) [] names ≡ None

-- the names of signals, without fault
abbrev pub AreGoodNames : List (List ℕ) → Type 0
AreGoodNames names = first_after (name_fault max_signals) [] names ≡ None

-- ---- those of some names that are none of others

pub not_kept : (others names : List (List ℕ)) (x : List ℕ) → stands_in names x ≡ false
    → stands_in (without others names) x ≡ false
not_kept others [] x none = refl
not_kept others (n ∷ names) x none =
    let parts = or_parts (bytes_eq x n) (stands_in names x) none in
    elim (cases_Bool (stands_in others n)) [
      | inl stands ↦ rw stands (not_kept others names x parts.1)
      | inr other ↦ rw (other, parts.0) (not_kept others names x parts.1)
    ]

one_gone : (others names : List (List ℕ)) (x : List ℕ) → stands_in others x ≡ true
    → stands_in (without others names) x ≡ false
one_gone others [] x stands = refl
one_gone others (n ∷ names) x stands = elim (cases_Bool (stands_in others n)) [
  | inl also ↦ rw also (one_gone others names x stands)
  | inr other ↦
      let apart : bytes_eq x n ≡ false =
      other_bytes x n (λ same. true≢false (sym stands ∙ ap (stands_in others) same ∙ other)) in
      rw (other, apart) (one_gone others names x stands)
]

all_gone : (others names xs : List (List ℕ)) → AllByRecursion (λ x. stands_in others x ≡ true) xs
    → AllByRecursion (λ x. stands_in (without others names) x ≡ false) xs
all_gone others names [] all = tt
all_gone others names (x ∷ xs) all = (one_gone others names x all.0, all_gone others names xs all.1)

pub without_same : (others names : List (List ℕ)) (x : List ℕ) → stands_in others x ≡ true
    → without others (names ++ x ∷ []) ≡ without others names
without_same others names x stands =
    among_append others names (x ∷ []) ∙ (rw stands (append-nil (without others names)))

pub without_more : (others names : List (List ℕ)) (x : List ℕ) → stands_in others x ≡ false
    → without others (names ++ x ∷ []) ≡ without others names ++ x ∷ []
without_more others names x other = among_append others names (x ∷ [])
    ∙ ap (λ (l : List (List ℕ)). without others names ++ l) (inner_head others x [] other)

-- ---- they are new, and good

kept_new : (others names xs : List (List ℕ)) → AreNew names xs → AreNew (without others names) (without others xs)
kept_new others names [] new = tt
kept_new others names (x ∷ xs) new = elim (cases_Bool (stands_in others x)) [
  | inl stands ↦
      rw stands (subst (λ (l : List (List ℕ)). AreNew l (without others xs)) (without_same others names x stands)
      (kept_new others (names ++ x ∷ []) xs new.1))
  | inr other ↦
      rw other (
        not_kept others names x new.0,
        subst (λ (l : List (List ℕ)). AreNew l (without others xs)) (without_more others names x other)
            (kept_new others (names ++ x ∷ []) xs new.1),
      )
]

pub new_joined : (names xs ys : List (List ℕ)) → AreNew names xs → AreNew (names ++ xs) ys → AreNew names (xs ++ ys)
new_joined names [] ys one two = subst (λ (l : List (List ℕ)). AreNew l ys) (append-nil names) two
new_joined names (x ∷ xs) ys one two = (
  one.0,
  new_joined (names ++ x ∷ []) xs ys one.1
      (subst (λ (l : List (List ℕ)). AreNew l ys) (sym (append_assoc names (x ∷ []) xs)) two),
)

new_behind : (a b xs : List (List ℕ)) → AllByRecursion (λ x. stands_in a x ≡ false) xs → AreNew b xs
    → AreNew (a ++ b) xs
new_behind a b [] apart new = tt
new_behind a b (x ∷ xs) apart new = (
  stands_append a b x ∙ (rw (apart.0, new.0) refl),
  subst (λ (l : List (List ℕ)). AreNew l xs) (sym (append_assoc a b (x ∷ [])))
      (new_behind a (b ++ x ∷ []) xs apart.1 new.1),
)

kept_good : (others names : List (List ℕ)) → AreGood names → AreGood (without others names)
kept_good others [] good = tt
kept_good others (x ∷ names) good = elim (cases_Bool (stands_in others x)) [
  | inl stands ↦ rw stands (kept_good others names good.1)
  | inr other ↦ rw other (good.0, kept_good others names good.1)
]

good_joined : (xs ys : List (List ℕ)) → AreGood xs → AreGood ys → AreGood (xs ++ ys)
good_joined [] ys one two = two
good_joined (x ∷ xs) ys one two = (one.0, good_joined xs ys one.1 two)

-- ---- how many they are

no_more : (names before : List (List ℕ)) (x : List ℕ)
    → length (without (before ++ x ∷ []) names) ≤ length (without before names)
no_more [] before x = omega arith
no_more (n ∷ names) before x = elim (cases_Bool (stands_in before n)) [
  | inl stands ↦
      let also : stands_in (before ++ x ∷ []) n ≡ true = stands_append before (x ∷ []) n ∙ (rw stands refl) in
      rw (stands, also) (no_more names before x)
  | inr other ↦ elim (cases_Bool (stands_in (before ++ x ∷ []) n)) [
    | inl now ↦ rw (other, now) (omega (arith, no_more names before x))
    | inr still ↦ rw (other, still) (omega (arith, no_more names before x))
  ]
]

one_less : (names before : List (List ℕ)) (x : List ℕ) → stands_in names x ≡ true → stands_in before x ≡ false
    → length (without (before ++ x ∷ []) names) < length (without before names)
one_less [] before x there new = absurd (true≢false (sym there))
one_less (n ∷ names) before x there new = elim (cases_Bool (bytes_eq x n)) [
  | inl same ↦
      let is : x ≡ n = (bytes_eq-Decides x n).0 same in
      let other : stands_in before n ≡ false = ap (stands_in before) (sym is) ∙ new in
      let now : stands_in (before ++ x ∷ []) n ≡ true =
      ap (stands_in (before ++ x ∷ [])) (sym is) ∙ (all_stand before (x ∷ [])).0 in
      rw (other, now) (omega (arith, no_more names before x))
  | inr apart ↦
      let later : stands_in names x ≡ true = rw apart at there in
      elim (cases_Bool (stands_in before n)) [
        | inl stands ↦
            let also : stands_in (before ++ x ∷ []) n ≡ true = stands_append before (x ∷ []) n ∙ (rw stands refl) in
            rw (stands, also) (one_less names before x later new)
        | inr other ↦
            let turned = bytes_turned x n false apart in
            let still : stands_in (before ++ x ∷ []) n ≡ false =
            stands_append before (x ∷ []) n ∙ (rw (other, turned) refl) in
            rw (other, still) (omega (arith, one_less names before x later new))
      ]
]

-- inputs and outputs are no more than the names of both lists
abbrev pub AreWithin : List (List ℕ) → List (List ℕ) → Type 0
AreWithin listed outputs =
    length (without outputs listed) + length outputs ≤ length (listed ++ without listed outputs)

within_next : (listed outputs : List (List ℕ)) (x : List ℕ) → stands_in outputs x ≡ false → AreWithin listed outputs
    → AreWithin listed (outputs ++ x ∷ [])
within_next listed outputs x new within = elim (cases_Bool (stands_in listed x)) [
  | inl stands ↦
      let same = ap (λ (l : List (List ℕ)). length (listed ++ l)) (without_same listed outputs x stands) in
      omega (arith, within, same, one_less listed outputs x stands new, length-append outputs (x ∷ []))
  | inr other ↦
      let more = ap (λ (l : List (List ℕ)). length (listed ++ l)) (without_more listed outputs x other) in
      omega (
        arith,
        within,
        more,
        no_more listed outputs x,
        length-append outputs (x ∷ []),
        length-append listed (without listed outputs ++ x ∷ []),
        length-append listed (without listed outputs),
        length-append (without listed outputs) (x ∷ []),
      )
]

within_all : (listed outputs xs : List (List ℕ)) → AreNew outputs xs → AreWithin listed outputs
    → AreWithin listed (outputs ++ xs)
within_all listed outputs [] new within = subst (AreWithin listed) (sym (append-nil outputs)) within
within_all listed outputs (x ∷ xs) new within = subst (AreWithin listed) (append_assoc outputs (x ∷ []) xs)
    (within_all listed (outputs ++ x ∷ []) xs new.1 (within_next listed outputs x new.0 within))

-- ---- what holds of a list without fault

not_false : (c : Bool) → not c ≡ false → c ≡ true
not_false true is = refl
not_false false is = absurd cc

-- the names of both lists find room
abbrev HaveRoom : List (List ℕ) → List (List ℕ) → Type 0
HaveRoom listed outputs = length (listed ++ without listed outputs) ≤ max_signals

record IsGood (listed outputs : List (List ℕ)) (x : List ℕ) : Type 0 where
  named : is_signal_name x ≡ true
  new : stands_in outputs x ≡ false
  room : HaveRoom listed outputs → HaveRoom listed (outputs ++ x ∷ [])

room_next : (listed outputs : List (List ℕ)) (x : List ℕ)
    → (not (stands_in listed x) && nat_le max_signals (length (listed ++ without listed outputs))) ≡ false
    → HaveRoom listed outputs → HaveRoom listed (outputs ++ x ∷ [])
room_next listed outputs x free room = elim (cases_Bool (stands_in listed x)) [
  | inl stands ↦
      let same = ap (λ (l : List (List ℕ)). length (listed ++ l)) (without_same listed outputs x stands) in
      omega (arith, room, same)
  | inr other ↦
      let more = ap (λ (l : List (List ℕ)). length (listed ++ l)) (without_more listed outputs x other) in
      let below = leb-false max_signals (length (listed ++ without listed outputs)) (rw other at free) in
      omega (
        arith,
        below,
        more,
        length-append listed (without listed outputs ++ x ∷ []),
        length-append listed (without listed outputs),
        length-append (without listed outputs) (x ∷ []),
      )
]

one_good : (listed outputs : List (List ℕ)) (x : List ℕ) → list_fault listed outputs x ≡ None
    → IsGood listed outputs x
one_good listed outputs x none =
    let full : Bool =
    not (stands_in listed x) && nat_le max_signals (length (listed ++ without listed outputs)) in
    let one = no_fault (when (not (is_signal_name x)) BadName)
    (when (stands_in outputs x) Repeated otherwise when full TooManySignals) none in
    let two = no_fault (when (stands_in outputs x) Repeated) (when full TooManySignals) one.1 in
    record {
      named = not_false (is_signal_name x) (when_none (not (is_signal_name x)) BadName one.0);
      new = when_none (stands_in outputs x) Repeated two.0;
      room = room_next listed outputs x (when_none full TooManySignals two.1);
    }

record AreAllGood (listed outputs xs : List (List ℕ)) : Type 0 where
  named : AreGood xs
  new : AreNew outputs xs
  room : HaveRoom listed outputs → HaveRoom listed (outputs ++ xs)

all_good : (listed outputs xs : List (List ℕ)) → first_after (list_fault listed) outputs xs ≡ None
    → AreAllGood listed outputs xs
all_good listed outputs [] none = record {
  named = tt;
  new = tt;
  room = λ room. subst (HaveRoom listed) (sym (append-nil outputs)) room;
}
all_good listed outputs (x ∷ xs) none =
    let parts = no_fault (list_fault listed outputs x) (first_after (list_fault listed) (outputs ++ x ∷ []) xs) none in
    let here = one_good listed outputs x parts.0 in
    let later = all_good listed (outputs ++ x ∷ []) xs parts.1 in
    record {
      named = (here.named, later.named);
      new = (here.new, later.new);
      room = λ room. subst (HaveRoom listed) (append_assoc outputs (x ∷ []) xs) (later.room (here.room room));
    }

-- ---- inputs and outputs are without fault

pub names_good : (names xs : List (List ℕ)) → AreGood xs → AreNew names xs → length names + length xs ≤ max_signals
    → first_after (name_fault max_signals) names xs ≡ None
names_good names [] good new few = refl
names_good names (x ∷ xs) good new few =
    let room : nat_le max_signals (length names) ≡ false =
    lt-leb max_signals (length names) (omega (arith, few)) in
    let named = good.0 in
    let fresh = new.0 in
    let here : name_fault max_signals names x ≡ None =
    λ i. when (not (named i)) BadName otherwise when (fresh i) Repeated otherwise when (room i) TooManySignals in
    ap (λ (o : Option TextKind). o otherwise first_after (name_fault max_signals) (names ++ x ∷ []) xs) here
    ∙ names_good (names ++ x ∷ []) xs good.1 new.1 (omega (arith, few, length-append names (x ∷ [])))

module _ (listed outputs : List (List ℕ)) (first : IsGoodList [] listed) (second : IsGoodList listed outputs) where
  ins : AreAllGood [] [] listed
  ins = all_good [] [] listed first

  outs : AreAllGood listed [] outputs
  outs = all_good listed [] outputs second

  few_listed : length listed ≤ max_signals
  few_listed =
      let same = ap (λ (l : List (List ℕ)). length l) (all_kept [] listed (apart_none listed)) in
      omega (arith, same, ins.room (omega arith))

  few : length (listed ++ without listed outputs) ≤ max_signals
  few = outs.room (omega (arith, few_listed, length-append listed []))

  within : AreWithin listed outputs
  within = within_all listed [] outputs outs.new
      (omega (arith, few_without [] listed, length-append listed []))

  pub good_lists : AreGoodNames (without outputs listed ++ outputs)
  good_lists = names_good [] (without outputs listed ++ outputs)
      (good_joined (without outputs listed) outputs (kept_good outputs listed ins.named) outs.named)
      (new_joined [] (without outputs listed) outputs (kept_new outputs [] listed ins.new)
      (subst (λ (l : List (List ℕ)). AreNew l outputs) (append-nil (without outputs listed))
      (new_behind (without outputs listed) [] outputs
      (all_gone outputs listed outputs (all_stand [] outputs)) outs.new)))
      (omega (arith, few, within, length-append (without outputs listed) outputs))

-- ---- room in a list

pub few_in_list : (others names : List (List ℕ)) → length others ≤ max_signals → IsGoodList others names
    → length names ≤ max_signals
few_in_list others names few good =
    let all = all_good others [] names good in
    let within = within_all others [] names all.new (omega (arith, few_without [] others, length-append others [])) in
    omega (arith, within, all.room (omega (arith, few, length-append others [])))

-- for a name without fault
pub room_in_list : (others names : List (List ℕ)) (x : List ℕ) → length others ≤ max_signals → IsGoodList others names
    → list_fault others names x ≡ None → length names < max_signals
room_in_list others names x few good here =
    let more = few_in_list others (names ++ x ∷ []) few (good_push (list_fault others) [] names x good here) in
    omega (arith, more, length-append names (x ∷ []))
