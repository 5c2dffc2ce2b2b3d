-- The names of a netlist have no fault, in the lists and before the equations.
use Rattle.std.proofs.Common.{◌≡◌, ◌≢◌, ℕ, ◌+◌, ◌≤◌, ◌&&◌, ◌||◌, not, Bool, true, false, List, [], ◌∷◌, ◌++◌}
use Rattle.std.proofs.Common.{length, bytes_eq, nat_le, None, refl, sym, ap, subst, ◌∙◌, arith, inl, inr}
use Rattle.std.proofs.Common.{append_assoc}
use Rattle.std.specs.List.{AllByRecursion, list_all}
use Rattle.std.proofs.lemmas.Bool.{cases_Bool, or_parts, lt-leb, true≢false}
use Rattle.std.proofs.lemmas.List.{append-nil, length-append}
use Rattle.std.proofs.lemmas.Slice.Eq.{bytes_eq-Decides}
use Rattle.si_base.specs.declared.graph.Signal.{Signal}
use Rattle.si_base.specs.declared.fault.TextKind.TheVariants.{BadName, Repeated, TooManySignals}
use Rattle.si_base.specs.Faults.{when, ◌otherwise◌}
use Rattle.si_base.specs.Graph.{names_in}
use Rattle.si_base.specs.Limits.{max_signals}
use Rattle.si_base.specs.Netlist.{Netlist}
use Rattle.si_base.specs.WellFormed.{IsNetlist}
use Rattle.si_base.specs.Words.{is_signal_name}
use Rattle.si_words.specs.Names.{stands_in}
use Rattle.si_words.proofs.NameWords.{same_bytes}
use Rattle.si_equations.specs.Equations.{without, internal_among, equation_fault}
use Rattle.si_equations.proofs.ChainLemmas.{NewNames}
use Rattle.si_equations.proofs.NameLemmas.{plain_token}
use Rattle.si_equations.proofs.NetlistLemmas.{AreApart, head_apart, tail_apart, other_bytes}

-- ---- where a name stands

or_step : (c d e f : Bool) → d ≡ (e || f) → (c || d) ≡ ((c || e) || f)
or_step true d e f same = refl
or_step false d e f same = same

pub stands_append : (a b : List (List ℕ)) (x : List ℕ) → stands_in (a ++ b) x ≡ (stands_in a x || stands_in b x)
stands_append [] b x = refl
stands_append (n ∷ a) b x =
    or_step (bytes_eq x n) (stands_in (a ++ b) x) (stands_in a x) (stands_in b x) (stands_append a b x)

or_true : (b c : Bool) → c ≡ true → (b || c) ≡ true
or_true true c is = refl
or_true false c is = is

-- each of these stands among them and those before
pub all_stand : (before xs : List (List ℕ)) → AllByRecursion (λ x. stands_in (before ++ xs) x ≡ true) xs
all_stand before [] = tt
all_stand before (x ∷ xs) = (
  stands_append before (x ∷ xs) x
      ∙ or_true (stands_in before x) (stands_in (x ∷ xs) x)
      (ap (λ (c : Bool). c || stands_in xs x) (same_bytes x)),
  subst (λ (l : List (List ℕ)). AllByRecursion (λ y. stands_in l y ≡ true) xs) (append_assoc before (x ∷ []) xs)
      (all_stand (before ++ x ∷ []) xs),
)

still_stand : (a b xs : List (List ℕ)) → AllByRecursion (λ x. stands_in a x ≡ true) xs
    → AllByRecursion (λ x. stands_in (a ++ b) x ≡ true) xs
still_stand a b [] all = tt
still_stand a b (x ∷ xs) all =
    (stands_append a b x ∙ ap (λ (c : Bool). c || stands_in b x) all.0, still_stand a b xs all.1)

all_listed : (names xs : List (List ℕ)) → AllByRecursion (λ x. stands_in names x ≡ true) xs
    → list_all (stands_in names) xs ≡ true
all_listed names [] all = refl
all_listed names (x ∷ xs) all = rw all.0 (all_listed names xs all.1)

-- all of the outputs stand among them and others
pub outputs_stand : (outputs others : List (List ℕ)) → list_all (stands_in (outputs ++ others)) outputs ≡ true
outputs_stand outputs others =
    all_listed (outputs ++ others) outputs (still_stand outputs others outputs (all_stand [] outputs))

-- ---- new names

abbrev pub AreNew : List (List ℕ) → List (List ℕ) → Type 0
AreNew before [] = Unit {0}
AreNew before (x ∷ xs) = (stands_in before x ≡ false) × AreNew (before ++ x ∷ []) xs

pushed : (before : List (List ℕ)) (name : List ℕ) (xs : List Signal) → AllByRecursion (λ y. name ≢ y.name) xs
    → AllByRecursion (λ y. stands_in before y.name ≡ false) xs
    → AllByRecursion (λ y. stands_in (before ++ name ∷ []) y.name ≡ false) xs
pushed before name [] apart all = tt
pushed before name (y ∷ xs) apart all =
    let other : bytes_eq y.name name ≡ false = other_bytes y.name name (λ same. apart.0 (sym same)) in (
      stands_append before (name ∷ []) y.name ∙ (rw (all.0, other) refl),
      pushed before name xs apart.1 all.1,
    )

are_new : (before : List (List ℕ)) (xs : List Signal) → AreApart xs
    → AllByRecursion (λ y. stands_in before y.name ≡ false) xs → AreNew before (names_in xs)
are_new before [] apart all = tt
are_new before (x ∷ xs) apart all = (
  all.0,
  are_new (before ++ x.name ∷ []) xs (tail_apart x xs apart)
      (pushed before x.name xs (head_apart x xs apart) all.1),
)

none_before : (xs : List Signal) → AllByRecursion (λ y. stands_in [] y.name ≡ false) xs
none_before [] = tt
none_before (x ∷ xs) = (refl, none_before xs)

pub netlist_new : (n : Netlist) → IsNetlist n → AreNew [] (names_in n.signals)
netlist_new n is = are_new [] n.signals is.distinct (none_before n.signals)

pub new_parts : (before xs ys : List (List ℕ)) → AreNew before (xs ++ ys) → AreNew before xs × AreNew (before ++ xs) ys
new_parts before [] ys new = (tt, subst (λ (b : List (List ℕ)). AreNew b ys) (sym (append-nil before)) new)
new_parts before (x ∷ xs) ys new =
    let rest = new_parts (before ++ x ∷ []) xs ys new.1 in (
      (new.0, rest.0),
      subst (λ (b : List (List ℕ)). AreNew b ys) (append_assoc before (x ∷ []) xs) rest.1,
    )

here_new : (a b : List (List ℕ)) (x : List ℕ) → stands_in (a ++ b) x ≡ false
    → (stands_in a x ≡ false) × (stands_in b x ≡ false)
here_new a b x new = or_parts (stands_in a x) (stands_in b x) (sym (stands_append a b x) ∙ new)

pub new_without : (a b xs : List (List ℕ)) → AreNew (a ++ b) xs → AreNew b xs
new_without a b [] new = tt
new_without a b (x ∷ xs) new = (
  (here_new a b x new.0).1,
  new_without a (b ++ x ∷ []) xs
      (subst (λ (l : List (List ℕ)). AreNew l xs) (append_assoc a b (x ∷ [])) new.1),
)

-- where there are none, none stands among them
pub apart_none : (xs : List (List ℕ)) → AllByRecursion (λ x. stands_in [] x ≡ false) xs
apart_none [] = tt
apart_none (x ∷ xs) = (refl, apart_none xs)

-- none of them stands among the first
pub new_apart : (a b xs : List (List ℕ)) → AreNew (a ++ b) xs → AllByRecursion (λ x. stands_in a x ≡ false) xs
new_apart a b [] new = tt
new_apart a b (x ∷ xs) new = (
  (here_new a b x new.0).0,
  new_apart a (b ++ x ∷ []) xs
      (subst (λ (l : List (List ℕ)). AreNew l xs) (append_assoc a b (x ∷ [])) new.1),
)

pub bytes_turned : (a b : List ℕ) (c : Bool) → bytes_eq a b ≡ c → bytes_eq b a ≡ c
bytes_turned a b true is = (bytes_eq-Decides b a).1 (sym ((bytes_eq-Decides a b).0 is))
bytes_turned a b false is = other_bytes b a (λ same. true≢false (sym ((bytes_eq-Decides a b).1 (sym same)) ∙ is))

not_one : (y : List ℕ) (a b : List (List ℕ)) → AllByRecursion (λ x. stands_in (y ∷ a) x ≡ false) b
    → (stands_in b y ≡ false) × AllByRecursion (λ x. stands_in a x ≡ false) b
not_one y a [] apart = (refl, tt)
not_one y a (x ∷ b) apart =
    let here = or_parts (bytes_eq x y) (stands_in a x) apart.0 in
    let later = not_one y a b apart.1 in
    (rw (bytes_turned x y false here.0) later.0, (here.1, later.1))

-- where none of these is one of those, none of those is one of these
pub apart_turned : (a b : List (List ℕ)) → AllByRecursion (λ x. stands_in a x ≡ false) b
    → AllByRecursion (λ x. stands_in b x ≡ false) a
apart_turned [] b apart = tt
apart_turned (y ∷ a) b apart =
    let parts = not_one y a b apart in (parts.0, apart_turned a b parts.1)

-- ---- the lists

abbrev pub AreGood : List (List ℕ) → Type 0
AreGood xs = AllByRecursion (λ x. is_signal_name x ≡ true) xs

pub few_without : (others names : List (List ℕ)) → length (without others names) ≤ length names
few_without others [] = omega arith
few_without others (x ∷ names) = elim (cases_Bool (stands_in others x)) [
  | inl stands ↦ rw stands (omega (arith, few_without others names))
  | inr other ↦ rw other (omega (arith, few_without others names))
]

-- names that the other list hasn't got
pub new_names : (others names xs : List (List ℕ)) → AreGood xs
    → AllByRecursion (λ x. stands_in others x ≡ false) xs → AreNew names xs
    → length others + (length names + length xs) ≤ max_signals → NewNames others names xs
new_names others names [] good apart new few = tt
new_names others names (x ∷ xs) good apart new few =
    let token = plain_token x good.0 in
    let count = length-append others (without others names) in
    let room : nat_le max_signals (length (others ++ without others names)) ≡ false =
    lt-leb max_signals (length (others ++ without others names))
    (omega (arith, few, count, few_without others names)) in
    let here = good.0 in
    let fresh = new.0 in
    let own = apart.0 in (
      λ i. when (not (here i)) BadName otherwise when (fresh i) Repeated
          otherwise when (not (own i) && room i) TooManySignals,
      token.bare_is,
      token.goes_on,
      new_names others (names ++ x ∷ []) xs good.1 apart.1 new.1 (omega (arith, few, length-append names (x ∷ []))),
    )

-- ---- internal signals

pub among_append : (outputs a b : List (List ℕ))
    → internal_among outputs (a ++ b) ≡ internal_among outputs a ++ internal_among outputs b
among_append outputs [] b = refl
among_append outputs (x ∷ a) b = elim (cases_Bool (stands_in outputs x)) [
  | inl stands ↦ rw stands (among_append outputs a b)
  | inr inner ↦ rw inner (ap (λ (l : List (List ℕ)). x ∷ l) (among_append outputs a b))
]

pub all_kept : (outputs xs : List (List ℕ)) → AllByRecursion (λ x. stands_in outputs x ≡ false) xs
    → internal_among outputs xs ≡ xs
all_kept outputs [] all = refl
all_kept outputs (x ∷ xs) all = rw all.0 (ap (λ (l : List (List ℕ)). x ∷ l) (all_kept outputs xs all.1))

none_kept : (outputs xs : List (List ℕ)) → AllByRecursion (λ x. stands_in outputs x ≡ true) xs
    → internal_among outputs xs ≡ []
none_kept outputs [] all = refl
none_kept outputs (x ∷ xs) all = rw all.0 (none_kept outputs xs all.1)

-- the internal ones among outputs and others, which are no outputs
pub inner_are : (outputs others : List (List ℕ)) → AllByRecursion (λ x. stands_in outputs x ≡ false) others
    → internal_among outputs (outputs ++ others) ≡ others
inner_are outputs others all = among_append outputs outputs others
    ∙ ap (λ (l : List (List ℕ)). l ++ internal_among outputs others) (none_kept outputs outputs (all_stand [] outputs))
    ∙ all_kept outputs others all

-- ---- the names of equations

abbrev pub NoFaults : List (List ℕ) → List (List ℕ) → List (List ℕ) → List (List ℕ) → Type 0
NoFaults inputs outputs before [] = Unit {0}
NoFaults inputs outputs before (x ∷ xs) = (equation_fault inputs outputs before x ≡ None)
    × NoFaults inputs outputs (before ++ x ∷ []) xs

abbrev HaveRoom : List (List ℕ) → List (List ℕ) → List (List ℕ) → Type 0
HaveRoom inputs outputs xs = length (inputs ++ outputs) + length (internal_among outputs xs) ≤ max_signals

pub inner_head : (outputs : List (List ℕ)) (x : List ℕ) (xs : List (List ℕ)) → stands_in outputs x ≡ false
    → internal_among outputs (x ∷ xs) ≡ x ∷ internal_among outputs xs
inner_head outputs x xs inner = rw inner refl

full : (inputs outputs before : List (List ℕ)) (x : List ℕ) (xs : List (List ℕ))
    → HaveRoom inputs outputs (before ++ x ∷ xs) → (c : Bool) → stands_in outputs x ≡ c
    → (not c && nat_le max_signals (length (inputs ++ outputs ++ internal_among outputs before))) ≡ false
full inputs outputs before x xs room true is = refl
full inputs outputs before x xs room false is =
    let all : internal_among outputs (before ++ x ∷ xs)
    ≡ internal_among outputs before ++ (x ∷ internal_among outputs xs) =
    among_append outputs before (x ∷ xs)
    ∙ ap (λ (l : List (List ℕ)). internal_among outputs before ++ l) (inner_head outputs x xs is) in
    let count = ap (λ (l : List (List ℕ)). length l) all in
    lt-leb max_signals (length (inputs ++ outputs ++ internal_among outputs before)) (omega (
      arith,
      room,
      count,
      length-append (internal_among outputs before) (x ∷ internal_among outputs xs),
      length-append (inputs ++ outputs) (internal_among outputs before),
    ))

pub no_faults : (inputs outputs before xs : List (List ℕ)) → AreGood xs
    → AllByRecursion (λ x. stands_in inputs x ≡ false) xs → AreNew before xs
    → HaveRoom inputs outputs (before ++ xs) → NoFaults inputs outputs before xs
no_faults inputs outputs before [] good apart new room = tt
no_faults inputs outputs before (x ∷ xs) good apart new room =
    let here = good.0 in
    let no_input = apart.0 in
    let fresh = new.0 in
    let small = full inputs outputs before x xs room (stands_in outputs x) refl in (
      λ i. when (not (here i)) BadName otherwise when (no_input i || fresh i) Repeated
          otherwise when (small i) TooManySignals,
      no_faults inputs outputs (before ++ x ∷ []) xs good.1 apart.1 new.1
          (subst (HaveRoom inputs outputs) (sym (append_assoc before (x ∷ []) xs)) room),
    )
