-- The functions of divisors, and those that come next, beginning with one of them.
use Rattle.std.proofs.Common.{◌≡◌, ℕ, ◌+◌, ◌<◌, ◌≤◌, ◌∙◌, List, [], ◌∷◌, ◌++◌, All, length, get_or, sym, ap}
use Rattle.std.proofs.Common.{subst, arith, inl, inr}
use Rattle.std.proofs.lemmas.Bool.{cases_eq}
use Rattle.std.proofs.lemmas.List.{get_or_append_left, get_or_default, get_or_push, length_push}
use Rattle.std.proofs.lemmas.List.Elements.{All-push}
use Rattle.si_base.specs.Limits.{code_width}
use Rattle.si_cell.specs.Library.{Library, Instance, IsInstance}
use Rattle.si_divisor.specs.declared.function.Function.{Function}
use Rattle.si_divisor.specs.Functions.{IsFunction}
use Rattle.si_divisor.proofs.FunctionLemmas.{signals_within}
use Rattle.si_map.specs.Loops.Functions.{AreFunctions}

abbrev pub HasSignals : Function → Type 0
HasSignals f = All (λ s. s < code_width) f.signals.items

-- ---- the functions of divisors
pub one_function : (library : Library) (divisors : List Instance) (count : ℕ) (divisor : Instance) (f : Function)
    (functions : List Function) → count < length divisors → divisor ≡ get_or divisors count divisor
    → IsInstance library divisor → IsFunction library divisor f → AreFunctions library divisors count functions
    → AreFunctions library divisors (count + 1) (functions ++ f ∷ [])
one_function library divisors count divisor f functions inside there instance is before = record {
  size = length_push functions f ∙ ap (λ n. n + 1) before.size;
  within = All-push HasSignals functions f before.within (signals_within library divisor f instance is);
  each = λ k i g below. elim (cases_eq k count) [
    | inl last ↦ subst (λ n. IsFunction library (get_or divisors n i) (get_or (functions ++ f ∷ []) n g)) (sym last)
        (last_is i g)
    | inr other ↦ earlier_are k i g (omega (arith, other, below))
  ];
}
  where
    last_is : (i : Instance) (g : Function)
        → IsFunction library (get_or divisors count i) (get_or (functions ++ f ∷ []) count g)
    last_is i g =
        let same : divisor ≡ get_or divisors count i = there ∙ get_or_default divisors count divisor i inside in
        subst (λ h. IsFunction library (get_or divisors count i) h) (sym (get_or_push functions f g count before.size))
        (subst (λ x. IsFunction library x f) same is)

    earlier_are : (k : ℕ) (i : Instance) (g : Function) → k < count
        → IsFunction library (get_or divisors k i) (get_or (functions ++ f ∷ []) k g)
    earlier_are k i g earlier = subst (λ h. IsFunction library (get_or divisors k i) h)
        (sym (get_or_append_left functions (f ∷ []) g k (omega (arith, earlier, before.size))))
        (before.each k i g earlier)

-- ---- the functions that come next
-- as many as a word has room for, the first of them this one
pub record AreNext (function : Function) (next : List Function) : Type 0 where
  pub some : 0 < length next
  pub few : length next ≤ 128
  pub within : All HasSignals next
  pub first : (d : Function) → get_or next 0 d ≡ function
