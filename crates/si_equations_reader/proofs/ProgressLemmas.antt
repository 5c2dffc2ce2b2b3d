-- Equations one after another, and the signals with them.
use Rattle.std.proofs.Common.{◌≡◌, ℕ, ◌+◌, ◌<◌, ◌≤◌, ◌&&◌, ◌||◌, not, Bool, true, false, List, [], ◌∷◌, ◌++◌, length}
use Rattle.std.proofs.Common.{nat_le, bytes_eq, if◌then◌else◌, suc, get_or, slice_get, drop, map, add-one}
use Rattle.std.proofs.Common.{Option, Some, None, refl, sym, ap, ◌∙◌}
use Rattle.std.specs.List.{list_all}
use Rattle.std.proofs.Math.ListN.{drop_of_length-le}
use Rattle.std.proofs.Math.Seq.{drop-cons}
use Rattle.std.proofs.lemmas.Bool.{leb-false}
use Rattle.std.proofs.lemmas.Option.{slice_get_within, get_or_from_slice_get}
use Rattle.si_base.specs.declared.fault.TextKind.TheVariants.{BadName, Repeated, TooManySignals, Undeclared}
use Rattle.si_base.specs.Faults.{when, ◌otherwise◌, first_in}
use Rattle.si_base.specs.Limits.{max_signals}
use Rattle.si_base.specs.Words.{is_signal_name}
use Rattle.si_words.specs.Names.{stands_in}
use Rattle.si_words.proofs.FaultLemmas.{both, not_when}
use Rattle.si_genlib.specs.Expression.{value_of}
use Rattle.si_equations.specs.Equations.{Equation, internal_among, equation_fault, known, undeclared}
use Rattle.si_equations.proofs.NewLemmas.{stands_append}
use Rattle.si_equations_reader.specs.Held.{equation_now}
use Rattle.si_equations_reader.specs.Steps.{tree_of}
use Rattle.si_equations_reader.specs.declared.step.Step.{Step}
use Rattle.si_equations_reader.specs.declared.progress.Equation.{Equation as EquationHeld}

-- ---- a name without fault
apart : (a b : Bool) → (a || b) ≡ false → (a ≡ false) × (b ≡ false)
apart false b none = (refl, none)
apart true b none = absurd cc

room_left : (a b : Bool) → (not a && b) ≡ false → a ≡ false → b ≡ false
room_left false b none new = none
room_left true b none new = absurd cc

inner_none : (outputs names : List (List ℕ)) (x : List ℕ) → stands_in names x ≡ false
    → stands_in (internal_among outputs names) x ≡ false
inner_none outputs [] x none = refl
inner_none outputs (n ∷ names) x none =
    let parts = apart (bytes_eq x n) (stands_in names x) none in
    by_stand (stands_in outputs n) (inner_none outputs names x parts.1) parts.0
  where
    by_stand : (c : Bool) → stands_in (internal_among outputs names) x ≡ false
        → bytes_eq x n ≡ false
        → stands_in (if not c then n ∷ internal_among outputs names else internal_among outputs names) x ≡ false
    by_stand true rest other = rest
    by_stand false rest other = rw other rest

-- what holds of the name of an equation without fault that isn't an output
pub record IsInternal (signals : List (List ℕ)) (name : List ℕ) : Type 0 where
  pub new : stands_in signals name ≡ false
  pub room : length signals < max_signals

pub internal_new : (inputs outputs before : List (List ℕ)) (name : List ℕ)
    → equation_fault inputs outputs before name ≡ None → stands_in outputs name ≡ false
    → IsInternal (inputs ++ outputs ++ internal_among outputs before) name
internal_new inputs outputs before name none other =
    let full = not (stands_in outputs name)
    && nat_le max_signals (length (inputs ++ outputs ++ internal_among outputs before)) in
    let one = both (when (not (is_signal_name name)) BadName)
    (when (stands_in inputs name || stands_in before name) Repeated otherwise when full TooManySignals) none in
    let two = both (when (stands_in inputs name || stands_in before name) Repeated)
    (when full TooManySignals) one.1 in
    let twice = apart (stands_in inputs name) (stands_in before name)
    (not_when (stands_in inputs name || stands_in before name) Repeated two.0) in
    record {
      new = stands_append (inputs ++ outputs) (internal_among outputs before) name
          ∙ ap (λ (c : Bool). c || stands_in (internal_among outputs before) name) (stands_append inputs outputs name
          ∙ ap (λ (c : Bool). c || stands_in outputs name) twice.0 ∙ other)
          ∙ inner_none outputs before name twice.1;
      room = leb-false _ _ (room_left (stands_in outputs name) (nat_le max_signals
          (length (inputs ++ outputs ++ internal_among outputs before))) (not_when full TooManySignals two.1) other);
    }

-- ---- one output after another
pub drop_at : (xs : List (List ℕ)) (k : ℕ) (x : List ℕ) → slice_get xs k ≡ Some x → drop k xs ≡ x ∷ drop (k + 1) xs
drop_at xs k x at =
    let within : k < length xs = slice_get_within xs k x at in
    drop-cons xs k x within
    ∙ ap (λ (y : List ℕ). y ∷ drop (suc k) xs) (get_or_from_slice_get xs k x x at)
    ∙ (rw add-one refl)

module _ (p : List ℕ → Bool) (xs : List (List ℕ)) (k : ℕ) (x : List ℕ) (at : slice_get xs k ≡ Some x) where
  pub all_next : p x ≡ true → list_all p (drop k xs) ≡ list_all p xs → list_all p (drop (k + 1) xs) ≡ list_all p xs
  all_next here so_far =
      sym (ap (λ (c : Bool). c && list_all p (drop (k + 1) xs)) here)
      ∙ ap (list_all p) (sym (drop_at xs k x at)) ∙ so_far

  pub all_stops : p x ≡ false → list_all p (drop k xs) ≡ list_all p xs → false ≡ list_all p xs
  all_stops here so_far = sym (ap (λ (c : Bool). c && list_all p (drop (k + 1) xs)) here)
      ∙ ap (list_all p) (sym (drop_at xs k x at)) ∙ so_far

pub all_done : (p : List ℕ → Bool) (xs : List (List ℕ)) (k : ℕ) → length xs ≤ k
    → list_all p (drop k xs) ≡ list_all p xs → true ≡ list_all p xs
all_done p xs k past so_far = sym (ap (list_all p) (drop_of_length-le xs past)) ∙ so_far

-- ---- one equation after another
module _ {F : Type 0} (f : Equation → Option F) (qs : List EquationHeld) (i : ℕ) (d : EquationHeld)
    (within : i < length qs)
    (so_far : first_in f (map equation_now (drop i qs)) ≡ first_in f (map equation_now qs)) where
  at : first_in f (map equation_now qs) ≡ (f (equation_now (get_or qs i d))
      otherwise first_in f (map equation_now (drop (i + 1) qs)))
  at = sym so_far ∙ ap (λ (l : List EquationHeld). first_in f (map equation_now l)) (drop-cons qs i d within)
      ∙ (rw add-one refl)

  pub first_next : f (equation_now (get_or qs i d)) ≡ None
      → first_in f (map equation_now (drop (i + 1) qs)) ≡ first_in f (map equation_now qs)
  first_next none = sym (at ∙ ap (λ (o : Option F). o otherwise first_in f (map equation_now (drop (i + 1) qs))) none)

  pub first_stops : (fault : F) → f (equation_now (get_or qs i d)) ≡ Some fault
      → first_in f (map equation_now qs) ≡ Some fault
  first_stops fault is = at ∙ ap (λ (o : Option F). o otherwise first_in f (map equation_now (drop (i + 1) qs))) is

pub first_done : {F : Type 0} (f : Equation → Option F) (qs : List EquationHeld) (i : ℕ) → length qs ≤ i
    → first_in f (map equation_now (drop i qs)) ≡ first_in f (map equation_now qs)
    → first_in f (map equation_now qs) ≡ None
first_done f qs i past so_far =
    sym so_far ∙ ap (λ (l : List EquationHeld). first_in f (map equation_now l)) (drop_of_length-le qs past)

-- ---- whether the names of an equation are those of signals
module _ (sigs names : List (List ℕ)) (q : EquationHeld) (all : List Step) (v : Bool)
    (sigs_are : sigs ≡ names) (all_are : all ≡ q.steps.items) (is : v ≡ value_of (known sigs) (tree_of all)) where
  value_then : value_of (known names) (equation_now q).tree ≡ v
  value_then = sym (is ∙ ap (λ (l : List (List ℕ)). value_of (known l) (tree_of all)) sigs_are
      ∙ ap (λ (l : List Step). value_of (known names) (tree_of l)) all_are)

  pub is_known : v ≡ true → undeclared names (equation_now q) ≡ None
  is_known known_so = ap (λ (c : Bool). if c then None else Some (q.line, Undeclared)) (value_then ∙ known_so)

  pub is_unknown : v ≡ false → undeclared names (equation_now q) ≡ Some (q.line, Undeclared)
  is_unknown unknown = ap (λ (c : Bool). if c then None else Some (q.line, Undeclared)) (value_then ∙ unknown)
