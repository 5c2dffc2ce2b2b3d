-- What is read of an expression, and the trees that its steps leave.
use Rattle.std.proofs.Common.{◌≡◌, ℕ, ◌<◌, ◌≤◌, Bool, true, false, List, [], ◌∷◌, ◌++◌, length, reverse, suc}
use Rattle.std.proofs.Common.{Option, Some, None, nat_le, if◌then◌else◌, MatchOption}
use Rattle.std.proofs.Common.{refl, sym, ap, ◌∙◌, arith}
use Rattle.std.proofs.lemmas.Bool.{le-leb, lt-leb}
use Rattle.std.proofs.lemmas.List.{reverse-append, length-reverse}
use Rattle.si_base.specs.declared.fault.TextKind.TheVariants.{TooDeep}
use Rattle.si_genlib.specs.declared.symbol.Symbol.TheVariants as symbols
use Rattle.si_genlib.specs.Limits.{max_unfinished}
use Rattle.si_genlib.specs.Expression.{Operations, Tree, trees, State, Goes, Stops, opened, due}
use Rattle.si_genlib.specs.Expression.{begins_complement, complemented, still}
use Rattle.si_equations_reader.specs.declared.step.Step.{Step}
use Rattle.si_equations_reader.specs.declared.step.Step.TheVariants as steps
use Rattle.si_equations_reader.specs.declared.machine.Reading.{Reading}
use Rattle.si_equations_reader.specs.declared.machine.Operator.{Operator as OperatorHeld}
use Rattle.si_equations_reader.specs.declared.machine.Operator.TheVariants as operators
use Rattle.si_equations_reader.specs.Steps.{last_of, before_last, after_step, after_steps, tree_of}
use Rattle.si_equations_reader.specs.Loops.Machine.{before, operators_now, trees_now, trees_before}
use Rattle.si_equations_reader.specs.Loops.Machine.{state_of, state_now}

-- ---- one step more
one_more : {X : Type 0} (o : Operations X) (xs : List X) (all : List Step) (step : Step)
    → after_steps o xs (all ++ step ∷ []) ≡ after_step o (after_steps o xs all) step
one_more o xs [] step = refl
one_more o xs (first ∷ all) step = one_more o (after_step o xs first) all step

pub trees_push : (new old : List Step) (step : Step) → new ≡ old ++ step ∷ []
    → trees_now new ≡ after_step trees (trees_now old) step
trees_push new old step is = ap trees_now is ∙ one_more trees [] old step

-- ---- one operator more
operators_length : (ts : List Tree) (ops : List OperatorHeld) → length (operators_now ts ops) ≡ length ops
operators_length ts [] = refl
operators_length ts (operators.Complement ∷ more) = ap suc (operators_length ts more)
operators_length ts (operators.Paren terms factors ∷ more) =
    ap suc (operators_length (before terms (before factors ts)) more)

count_is : (ts : List Tree) (ops : List OperatorHeld) → length (operators_now ts (reverse ops)) ≡ length ops
count_is ts ops = operators_length ts (reverse ops) ∙ length-reverse ops

-- nothing but their number tells whether there is room
same_room : (s t next : State Tree) → length s.unfinished ≡ length t.unfinished → opened s next ≡ opened t next
same_room s t next same =
    ap (λ (n : ℕ). if nat_le max_unfinished n then Stops TooDeep else Goes next) same

pub too_deep : (r : Reading) (operator : OperatorHeld) → max_unfinished ≤ length r.unfinished.items
    → opened (state_now r) (state_of false r.terms r.factors (operator ∷ reverse r.unfinished.items)
    (trees_now r.steps.items)) ≡ Stops TooDeep
too_deep r operator deep =
    let next = state_of false r.terms r.factors (operator ∷ reverse r.unfinished.items) (trees_now r.steps.items) in
    let count = count_is (before r.terms (before r.factors (before r.operand (trees_now r.steps.items))))
    r.unfinished.items in
    ap (λ (full : Bool). if full then Stops TooDeep else Goes next) (le-leb _ _ (omega (arith, count, deep)))

pub opens : (operand terms factors : Bool) (old new : List OperatorHeld) (operator : OperatorHeld) (ts : List Tree)
    → operand ≡ false → new ≡ old ++ operator ∷ [] → length old < max_unfinished
    → opened (state_of operand terms factors (reverse old) ts)
    (state_of false terms factors (operator ∷ reverse old) ts) ≡ Goes (state_of operand terms factors (reverse new) ts)
opens true terms factors old new operator ts due is room = absurd cc
opens false terms factors old new operator ts due is room =
    let next = state_of false terms factors (operator ∷ reverse old) ts in
    let count = count_is (before terms (before factors ts)) old in
    ap (λ (full : Bool). if full then Stops TooDeep else Goes next) (lt-leb _ _ (omega (arith, count, room)))
    ∙ ap (λ (ops : List OperatorHeld). Goes (state_of false terms factors ops ts))
    (sym (ap reverse is ∙ reverse-append old (operator ∷ [])))

pub opens_paren : (operand terms factors : Bool) (ops : List OperatorHeld) (ts : List Tree) → operand ≡ false
    → opened (state_of operand false false ops ts)
    (state_of false false false (operators.Paren terms factors ∷ ops) ts)
    ≡ due (state_of operand terms factors ops ts) symbols.Open
opens_paren true terms factors ops ts none = absurd cc
opens_paren false terms factors ops ts none =
    same_room (state_of false false false ops ts) (state_of false terms factors ops ts) _
    (operators_length ts ops ∙ sym (operators_length (before terms (before factors ts)) ops))

-- ---- the `!` that stand last
pub popped_complement : (ops rest : List OperatorHeld) (r : Option OperatorHeld)
    → begins_complement (operators_now [] ops) ≡ true → MatchOption r (ops ≡ []) (λ x. ops ≡ x ∷ rest)
    → ops ≡ operators.Complement ∷ rest
popped_complement ops rest None begins none =
    let not_so : false ≡ true =
    ap (λ (l : List OperatorHeld). begins_complement (operators_now [] l)) (sym none) ∙ begins in
    absurd cc
popped_complement ops rest (Some operators.Complement) begins is = is
popped_complement ops rest (Some (operators.Paren terms factors)) begins is =
    let not_so : false ≡ true =
    ap (λ (l : List OperatorHeld). begins_complement (operators_now [] l)) (sym is) ∙ begins in
    absurd cc

-- some of them are taken
pub record Taken (old new : List Step) (ops rest : List OperatorHeld) : Type 0 where
  pub last_is : (ts : List Tree) → complemented trees (tree_of new) (operators_now ts rest)
      ≡ complemented trees (tree_of old) (operators_now ts ops)
  pub same_before : trees_before new ≡ trees_before old
  pub same_still : (ts : List Tree) → still (operators_now ts rest) ≡ still (operators_now ts ops)

pub one_taken : (old new more : List Step) (ops rest last : List OperatorHeld) → Taken old new ops rest
    → rest ≡ operators.Complement ∷ last → trees_now more ≡ after_step trees (trees_now new) steps.Not
    → Taken old more ops last
one_taken old new more ops rest last taken is made = record {
  last_is = λ ts. ap (λ (l : List Tree). complemented trees (last_of trees l) (operators_now ts last)) made
      ∙ sym (ap (λ (l : List OperatorHeld). complemented trees (tree_of new) (operators_now ts l)) is)
      ∙ taken.last_is ts;
  same_before = ap (λ (l : List Tree). before_last l) made ∙ taken.same_before;
  same_still = λ ts. sym (ap (λ (l : List OperatorHeld). still (operators_now ts l)) is) ∙ taken.same_still ts;
}

none_left : (x : Tree) (ts : List Tree) (rest : List OperatorHeld)
    → begins_complement (operators_now [] rest) ≡ false
    → (x ≡ complemented trees x (operators_now ts rest)) × (operators_now ts rest ≡ still (operators_now ts rest))
none_left x ts [] none = (refl, refl)
none_left x ts (operators.Complement ∷ more) none = absurd cc
none_left x ts (operators.Paren terms factors ∷ more) none = (refl, refl)

pub all_taken : (old new : List Step) (ops rest : List OperatorHeld) → Taken old new ops rest
    → begins_complement (operators_now [] rest) ≡ false → (ts : List Tree)
    → (tree_of new ≡ complemented trees (tree_of old) (operators_now ts ops))
    × (operators_now ts rest ≡ still (operators_now ts ops))
all_taken old new ops rest taken none ts =
    let left = none_left (tree_of new) ts rest none in
    (left.0 ∙ taken.last_is ts, left.1 ∙ taken.same_still ts)
