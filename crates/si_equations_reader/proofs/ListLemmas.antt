-- Names that are put one after another, and go on to be without fault.
use Rattle.std.proofs.Common.{◌≡◌, ℕ, ◌+◌, ◌<◌, ◌≤◌, not, true, false, List, [], ◌∷◌, ◌++◌, length, drop, nat_le}
use Rattle.std.proofs.Common.{slice_get, codes, Option, Some, None, Ok, refl, sym, ap, subst, ◌∙◌, append_assoc, arith}
use Rattle.std.proofs.lemmas.Bool.{leb-false}
use Rattle.std.proofs.lemmas.List.{append-nil, length-append}
use Rattle.si_base.specs.declared.fault.TextKind.{TextKind}
use Rattle.si_base.specs.declared.fault.TextKind.TheVariants.{BadName, Repeated, TooManySignals}
use Rattle.si_base.specs.Faults.{when, ◌otherwise◌, first_after}
use Rattle.si_base.specs.Limits.{max_signals}
use Rattle.si_base.specs.Words.{is_signal_name}
use Rattle.si_words.specs.Names.{stands_in, name_fault}
use Rattle.si_tokens.specs.Unread.{Unread}
use Rattle.si_equations.specs.Equations.{without, list_at}
use Rattle.si_equations.proofs.ListLemmas.{no_fault, when_none, without_same, without_more, IsGoodList, few_in_list}
use Rattle.si_equations.proofs.ListLemmas.{good_lists}
use Rattle.si_equations.proofs.WholeLemmas.{list_whole}
use Rattle.si_equations_reader.proofs.ProgressLemmas.{drop_at}

-- behind these names those that are left have no fault, and together they are all
pub record GoOn (names left all : List (List ℕ)) : Type 0 where
  pub good : first_after (name_fault max_signals) names left ≡ None
  pub whole : names ++ left ≡ all

-- the next name, behind these
pub record IsNext (names left all : List (List ℕ)) (x : List ℕ) : Type 0 where
  pub new : stands_in names x ≡ false
  pub room : length names < max_signals
  pub later : GoOn (names ++ x ∷ []) left all

next_of : (names left all : List (List ℕ)) (x : List ℕ) → GoOn names (x ∷ left) all → IsNext names left all x
next_of names left all x on =
    let parts = no_fault (name_fault max_signals names x) (first_after (name_fault max_signals) (names ++ x ∷ []) left)
    on.good in
    let named = when (not (is_signal_name x)) BadName in
    let full = nat_le max_signals (length names) in
    let one = no_fault named (when (stands_in names x) Repeated otherwise when full TooManySignals) parts.0 in
    let two = no_fault (when (stands_in names x) Repeated) (when full TooManySignals) one.1 in
    record {
      new = when_none (stands_in names x) Repeated two.0;
      room = leb-false max_signals (length names) (when_none full TooManySignals two.1);
      later = record { good = parts.1; whole = append_assoc names (x ∷ []) left ∙ on.whole };
    }

-- ---- all names of a list

module _ (names list all : List (List ℕ)) (k : ℕ) (x : List ℕ) (at : slice_get list k ≡ Some x)
    (on : GoOn names (drop k list) all) where
  pub name_next : IsNext names (drop (k + 1) list) all x
  name_next = next_of names (drop (k + 1) list) all x
      (subst (λ (l : List (List ℕ)). GoOn names l all) (drop_at list k x at) on)

-- ---- those that are none of others

module _ (others names list all : List (List ℕ)) (k : ℕ) (x : List ℕ) (at : slice_get list k ≡ Some x)
    (on : GoOn names (without others (drop k list)) all) where
  here : GoOn names (without others (x ∷ drop (k + 1) list)) all
  here = subst (λ (l : List (List ℕ)). GoOn names (without others l) all) (drop_at list k x at) on

  pub kept_next : stands_in others x ≡ false → IsNext names (without others (drop (k + 1) list)) all x
  kept_next other =
      let rest = without others (drop (k + 1) list) in
      let kept : without others (x ∷ drop (k + 1) list) ≡ x ∷ rest = rw other refl in
      next_of names rest all x (subst (λ (l : List (List ℕ)). GoOn names l all) kept here)

  pub skipped : stands_in others x ≡ true → GoOn names (without others (drop (k + 1) list)) all
  skipped stands =
      let gone : without others (x ∷ drop (k + 1) list) ≡ without others (drop (k + 1) list) = rw stands refl in
      subst (λ (l : List (List ℕ)). GoOn names l all) gone here

-- ---- one list behind another

pub good_both : (names xs ys : List (List ℕ)) → first_after (name_fault max_signals) names (xs ++ ys) ≡ None
    → (first_after (name_fault max_signals) names xs ≡ None)
    × (first_after (name_fault max_signals) (names ++ xs) ys ≡ None)
good_both names [] ys good = (
  refl,
  subst (λ (l : List (List ℕ)). first_after (name_fault max_signals) l ys ≡ None) (sym (append-nil names)) good,
)
good_both names (x ∷ xs) ys good =
    let parts = no_fault (name_fault max_signals names x)
    (first_after (name_fault max_signals) (names ++ x ∷ []) (xs ++ ys)) good in
    let later = good_both (names ++ x ∷ []) xs ys parts.1 in (
      ap (λ (o : Option TextKind). o otherwise first_after (name_fault max_signals) (names ++ x ∷ []) xs) parts.0
          ∙ later.0,
      subst (λ (l : List (List ℕ)). first_after (name_fault max_signals) l ys ≡ None) (append_assoc names (x ∷ []) xs)
          later.1,
    )

-- ---- the names of both lists, with one more

module _ (others names new : List (List ℕ)) (x : List ℕ) (is : new ≡ names ++ x ∷ []) where
  pub count_more : stands_in others x ≡ false
      → length (others ++ without others names) + 1 ≡ length (others ++ without others new)
  count_more other =
      let more = without_more others names x other in
      let whole = ap (λ (l : List (List ℕ)). length (others ++ without others l)) is in
      let longer = ap (λ (l : List (List ℕ)). length (others ++ l)) more in
      omega (
        arith,
        whole,
        longer,
        length-append others (without others names),
        length-append others (without others names ++ x ∷ []),
        length-append (without others names) (x ∷ []),
      )

  pub count_same : stands_in others x ≡ true
      → length (others ++ without others names) ≡ length (others ++ without others new)
  count_same stands = sym (ap (λ (l : List (List ℕ)). length (others ++ without others l)) is
      ∙ ap (λ (l : List (List ℕ)). length (others ++ l)) (without_same others names x stands))

-- ---- both lists of a text

module _ (none listed : List (List ℕ)) (u v : Unread) (is : none ≡ [])
    (first : list_at (codes "INORDER") none u ≡ Ok (listed, v)) where
  good_listed : IsGoodList [] listed
  good_listed = list_whole (codes "INORDER") [] u listed v
      (subst (λ (l : List (List ℕ)). list_at (codes "INORDER") l u ≡ Ok (listed, v)) is first)

  pub few_listed : length listed ≤ max_signals
  few_listed = few_in_list [] listed (omega arith) good_listed

  module _ (outputs : List (List ℕ)) (r : Unread)
      (second : list_at (codes "OUTORDER") listed v ≡ Ok (outputs, r)) where
    pub good_signals : first_after (name_fault max_signals) [] (without outputs listed ++ outputs) ≡ None
    good_signals = good_lists listed outputs good_listed (list_whole (codes "OUTORDER") listed v outputs r second)
