-- What stands at a place of a list, and behind it.
use Rattle.std.proofs.Common.{◌≡◌, ◌≢◌, ℕ, zero, suc, ◌+◌, ◌<◌, ◌≤◌, Bool, true, false, List, [], ◌∷◌, ◌++◌, length}
use Rattle.std.proofs.Common.{map, take, drop, filter, slice_get, get_or, Some, Contains, AllPairs, min, bytes_eq}
use Rattle.std.proofs.Common.{inl, inr, add-one, refl, sym, ap, ◌∙◌, arith, not, append_assoc}
use Rattle.std.specs.List.{list_all}
use Rattle.std.proofs.lemmas.Bool.{cases_Bool}
use Rattle.std.proofs.lemmas.List.{get_or-map, get_or-take, length-map, length-take, map_push, take_more}
use Rattle.si_base.specs.declared.graph.Signal.{Signal}
use Rattle.si_base.specs.declared.graph.SigKind.TheVariants.{Inserted}
use Rattle.si_base.specs.GivenGraph.{signals_of}
use Rattle.si_base.specs.Graph.{names_in}
use Rattle.si_words.specs.Names.{stands_in}
use Rattle.si_genlib.specs.Expression.{Tree, Constant}
use Rattle.si_equations.specs.Equations.{Equation}
use Rattle.si_from_equations.specs.Beside.{expression_of, has_name}

here_and_later : {A : Type 0} (xs : List A) (k : ℕ) (x : A) → slice_get xs k ≡ Some x
    → drop k xs ≡ x ∷ drop (suc k) xs
here_and_later [] k x at = absurd cc
here_and_later (y ∷ xs) zero x at = (let same : y ≡ x = cc in ap (λ z. z ∷ xs) same)
here_and_later (y ∷ xs) (suc k) x at = here_and_later xs k x at

pub here_and_behind : {A : Type 0} (xs : List A) (k : ℕ) (x : A) → slice_get xs k ≡ Some x
    → drop k xs ≡ x ∷ drop (k + 1) xs
here_and_behind xs k x at = rw add-one (here_and_later xs k x at)

to_next : {A : Type 0} (xs : List A) (k : ℕ) (x : A) → slice_get xs k ≡ Some x
    → take (suc k) xs ≡ take k xs ++ x ∷ []
to_next [] k x at = absurd cc
to_next (y ∷ xs) zero x at = (let same : y ≡ x = cc in ap (λ z. z ∷ []) same)
to_next (y ∷ xs) (suc k) x at = ap (λ zs. y ∷ zs) (to_next xs k x at)

pub up_to_here : {A : Type 0} (xs : List A) (k : ℕ) (x : A) → slice_get xs k ≡ Some x
    → take (k + 1) xs ≡ take k xs ++ x ∷ []
up_to_here xs k x at = rw add-one (to_next xs k x at)

pub nothing_behind : {A : Type 0} (xs : List A) (k : ℕ) → length xs ≤ k → drop k xs ≡ []
nothing_behind [] zero past = refl
nothing_behind [] (suc k) past = refl
nothing_behind (y ∷ xs) zero past = absurd (omega (arith, past))
nothing_behind (y ∷ xs) (suc k) past = nothing_behind xs k (omega (arith, past))

-- ---- names of signals
-- the name of a signal is none of those before it
fresh : (signals : List Signal) (i : ℕ) (d : Signal) → AllPairs (λ (x y : Signal). x.name ≢ y.name) signals
    → i < length signals → ¬ Contains (take i (names_in signals)) (get_or signals i d).name
fresh signals i d distinct within (k, inside, at) =
    let short : k < min i (length (names_in signals)) = rw (← length-take i (names_in signals)) inside in
    let before : k < i = omega arith in
    let here : get_or (take i (names_in signals)) k (get_or signals i d).name ≡ (get_or signals k d).name =
    get_or-take i (names_in signals) k (get_or signals i d).name before
    ∙ get_or-map (λ (x : Signal). x.name) signals k d (get_or signals i d).name (omega arith) in
    distinct k i d before within (sym here ∙ at)

one_more : (signals : List Signal) (i : ℕ) (d : Signal) → i < length signals
    → take (i + 1) (names_in signals) ≡ take i (names_in signals) ++ (get_or signals i d).name ∷ []
one_more signals i d within =
    take_more (names_in signals) i (get_or signals i d).name (rw length-map within)
    ∙ ap (λ (n : List ℕ). take i (names_in signals) ++ n ∷ [])
    (get_or-map (λ (x : Signal). x.name) signals i d (get_or signals i d).name within)

pub grows : (signals : List Signal) (i : ℕ) (d : Signal) (name : List ℕ) (old new : List (List ℕ))
    → AllPairs (λ (x y : Signal). x.name ≢ y.name) signals → i < length signals → old ≡ take i (names_in signals)
    → name ≡ (get_or signals i d).name → (¬ Contains old name → new ≡ old ++ name ∷ [])
    → new ≡ take (i + 1) (names_in signals)
grows signals i d name old new distinct within is named added =
    let new_name : ¬ Contains old name = rw (is, named) (fresh signals i d distinct within) in
    added new_name ∙ rw (is, named) (sym (one_more signals i d within))

-- ---- a name among those that are left
pub stands_here : (names : List (List ℕ)) (k : ℕ) (name n : List ℕ) (total : Bool) → slice_get names k ≡ Some n
    → bytes_eq name n ≡ true → stands_in (drop k names) name ≡ total → true ≡ total
stands_here names k name n total at same so_far =
    let here : stands_in (drop k names) name ≡ true = rw (here_and_behind names k n at, same) refl in sym here ∙ so_far

pub stands_behind : (names : List (List ℕ)) (k : ℕ) (name n : List ℕ) (total : Bool) → slice_get names k ≡ Some n
    → bytes_eq name n ≡ false → stands_in (drop k names) name ≡ total → stands_in (drop (k + 1) names) name ≡ total
stands_behind names k name n total at other so_far =
    let here : stands_in (drop k names) name ≡ stands_in (drop (k + 1) names) name =
    rw (here_and_behind names k n at, other) refl in sym here ∙ so_far

module _ {A : Type 0} (p : A → Bool) where
  pub all_stops : (xs : List A) (k : ℕ) (x : A) (total : Bool) → slice_get xs k ≡ Some x → p x ≡ false
      → list_all p (drop k xs) ≡ total → false ≡ total
  all_stops xs k x total at fails so_far =
      let here : list_all p (drop k xs) ≡ false = rw (here_and_behind xs k x at, fails) refl in sym here ∙ so_far

  pub all_behind : (xs : List A) (k : ℕ) (x : A) (total : Bool) → slice_get xs k ≡ Some x → p x ≡ true
      → list_all p (drop k xs) ≡ total → list_all p (drop (k + 1) xs) ≡ total
  all_behind xs k x total at passes so_far =
      let here : list_all p (drop k xs) ≡ list_all p (drop (k + 1) xs) =
      rw (here_and_behind xs k x at, passes) refl in sym here ∙ so_far

  -- a filter of one element more
  kept_last : (xs : List A) (x : A) → p x ≡ true → filter p (xs ++ x ∷ []) ≡ filter p xs ++ x ∷ []
  kept_last [] x passes = rw passes refl
  kept_last (y ∷ xs) x passes = elim (cases_Bool (p y)) [
    | inl stays ↦ rw stays (ap (λ zs. y ∷ zs) (kept_last xs x passes))
    | inr goes ↦ rw goes (kept_last xs x passes)
  ]

  dropped_last : (xs : List A) (x : A) → p x ≡ false → filter p (xs ++ x ∷ []) ≡ filter p xs
  dropped_last [] x fails = rw fails refl
  dropped_last (y ∷ xs) x fails = elim (cases_Bool (p y)) [
    | inl stays ↦ rw stays (ap (λ zs. y ∷ zs) (dropped_last xs x fails))
    | inr goes ↦ rw goes (dropped_last xs x fails)
  ]

  pub keeps_here : (xs : List A) (k : ℕ) (x : A) → slice_get xs k ≡ Some x → p x ≡ true
      → filter p (take (k + 1) xs) ≡ filter p (take k xs) ++ x ∷ []
  keeps_here xs k x at passes = rw (up_to_here xs k x at) (kept_last (take k xs) x passes)

  pub drops_here : (xs : List A) (k : ℕ) (x : A) → slice_get xs k ≡ Some x → p x ≡ false
      → filter p (take (k + 1) xs) ≡ filter p (take k xs)
  drops_here xs k x at fails = rw (up_to_here xs k x at) (dropped_last (take k xs) x fails)

-- ---- hidden signals
module _ (given : List Signal) (names : List (List ℕ)) (k : ℕ) (n : List ℕ) (at : slice_get names k ≡ Some n) where
  abbrev keeps : List ℕ → Bool
  keeps = λ name. not (has_name given name)

  abbrev signals_to : ℕ → List Signal
  signals_to i = given ++ signals_of Inserted (filter keeps (take i names))

  pub hides_here : (old new : List Signal) → has_name given n ≡ false → old ≡ signals_to k
      → new ≡ old ++ record { name = n; kind = Inserted } ∷ [] → new ≡ signals_to (k + 1)
  hides_here old new other so_far is =
      let kept = keeps_here keeps names k n at (rw other refl) in
      let make : List ℕ → Signal = λ name. record { name = name; kind = Inserted } in
      is ∙ ap (λ (xs : List Signal). xs ++ make n ∷ []) so_far
      ∙ append_assoc given (signals_of Inserted (filter keeps (take k names))) (make n ∷ [])
      ∙ ap (λ (xs : List Signal). given ++ xs)
      (sym (ap (λ (l : List (List ℕ)). signals_of Inserted l) kept ∙ map_push make (filter keeps (take k names)) n))

  pub hides_none : (old : List Signal) → has_name given n ≡ true → old ≡ signals_to k → old ≡ signals_to (k + 1)
  hides_none old there so_far =
      so_far ∙ ap (λ (l : List (List ℕ)). given ++ signals_of Inserted l)
      (sym (drops_here keeps names k n at (rw there refl)))

-- ---- the expression of a name among those that are left
pub expression_here : (qs : List Equation) (k : ℕ) (name n : List ℕ) (t total : Tree)
    → slice_get (map (λ q. q.name) qs) k ≡ Some n → slice_get (map (λ q. q.tree) qs) k ≡ Some t
    → bytes_eq name n ≡ true → expression_of (drop k qs) name ≡ total → t ≡ total
expression_here [] k name n t total at tree same so_far = absurd cc
expression_here (q ∷ qs) zero name n t total at tree same so_far =
    let named : q.name ≡ n = cc in
    let is : q.tree ≡ t = cc in
    let here : expression_of (q ∷ qs) name ≡ q.tree = rw (named, same) refl in
    sym is ∙ sym here ∙ so_far
expression_here (q ∷ qs) (suc k) name n t total at tree same so_far =
    expression_here qs k name n t total at tree same so_far

later_expression : (qs : List Equation) (k : ℕ) (name n : List ℕ) → slice_get (map (λ q. q.name) qs) k ≡ Some n
    → bytes_eq name n ≡ false → expression_of (drop k qs) name ≡ expression_of (drop (suc k) qs) name
later_expression [] k name n at other = absurd cc
later_expression (q ∷ qs) zero name n at other = (let named : q.name ≡ n = cc in rw (named, other) refl)
later_expression (q ∷ qs) (suc k) name n at other = later_expression qs k name n at other

pub expression_behind : (qs : List Equation) (k : ℕ) (name n : List ℕ) (total : Tree)
    → slice_get (map (λ q. q.name) qs) k ≡ Some n → bytes_eq name n ≡ false
    → expression_of (drop k qs) name ≡ total → expression_of (drop (k + 1) qs) name ≡ total
expression_behind qs k name n total at other so_far =
    rw add-one (sym (later_expression qs k name n at other) ∙ so_far)

pub expression_ended : (qs : List Equation) (k : ℕ) (name : List ℕ) (total : Tree) → length qs ≤ k
    → expression_of (drop k qs) name ≡ total → Constant false ≡ total
expression_ended qs k name total past so_far =
    let here : expression_of (drop k qs) name ≡ Constant false = rw (nothing_behind qs k past) refl in sym here ∙ so_far
