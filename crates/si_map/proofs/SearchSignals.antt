-- What becomes of a search with each signal, and at its end.
use Rattle.std.proofs.Common.{◌≡◌, ◌↔◌, ℕ, ◌+◌, ◌<◌, IsTrue, Bool, true, false, List, [], length, get_or}
use Rattle.std.proofs.Common.{Option, Some, None, is_some, refl, sym, ap, subst, ◌∙◌, inl, inr, arith}
use Rattle.std.proofs.lemmas.Bool.{true≢false}
use Rattle.std.proofs.lemmas.Option.{slice_get-get_or}
use Rattle.si_base.specs.Codes.{CodedGraph}
use Rattle.si_base.specs.Graph.{StateGraph, IsNonInput}
use Rattle.si_cell.specs.Library.{Library, Instance}
use Rattle.si_checks.specs.Loops.Searches.{IsFirstOrNone}
use Rattle.si_divisor.specs.declared.function.Function.{Function}
use Rattle.si_divisor.specs.Divisors.{AreDivisors}
use Rattle.si_divisor.specs.Functions.{IsFunction}
use Rattle.si_match.specs.Fit.{first_fit}
use Rattle.si_map.specs.declared.search.Search.{Search}
use Rattle.si_map.specs.Best.{Choice, IsBestPartition, IsUnfit, IsDivisorAt, Serves, choice_place}
use Rattle.si_map.specs.Loops.Functions.{AreFunctions}
use Rattle.si_map.specs.Loops.Search.{IsEarlier}
use Rattle.si_map.specs.Loops.Progress.{IsSearching, HasTried, classes_of}
use Rattle.si_map.proofs.BestDivisors.{place_within}
use Rattle.si_map.proofs.SearchSteps.{search_signal, search_none_below, search_ends}

module _ (c : CodedGraph) (library : Library) where
  -- ---- one divisor after another
  pub unfit_by : (z : ℕ) → IsNonInput c.graph.signals z → is_some (first_fit c library z) ≡ false
      → IsUnfit c library z
  unfit_by z driven none = by_first (first_fit c library z) refl none
    where
      by_first : (o : Option Instance) → first_fit c library z ≡ o → is_some o ≡ false → IsUnfit c library z
      by_first None is unfit = record { driven = driven; unfit = is }
      by_first (Some i) is unfit = absurd (true≢false unfit)

  pub next_divisor : (d : CodedGraph) (z k : ℕ) (divisors : List Instance) (f : Function) (functions : List Function)
      (s t : Search) → d ≡ c → IsUnfit c library z → AreDivisors c library z divisors
      → AreFunctions library divisors (length divisors) functions → k < length functions → f ≡ get_or functions k f
      → ((i : Instance) → IsFunction library i f → HasTried d library i s t) → IsSearching c library z k s
      → IsSearching c library z (k + 1) t
  next_divisor d z k divisors f functions s t same unfit are made within is tried so =
      subst (λ e. HasTried e library divisor s t) same (tried divisor function) z k unfit here so
    where
      inside : k < length divisors
      inside = omega (arith, within, made.size)

      divisor : Instance
      divisor = get_or divisors k (record { cell = 0; literals = [] })

      here : IsDivisorAt c library z k divisor
      here = record { divisors = divisors; are = are; there = slice_get-get_or divisors k _ inside }

      function : IsFunction library divisor f
      function = subst (IsFunction library divisor) (sym is) (made.each k _ f inside)

  -- ---- the end of a signal
  next_signal : (z k : ℕ) (s : Search) → ((y : Choice) → Serves c library y → y.signal ≡ z → IsEarlier y z k)
      → IsSearching c library z k s → IsSearching c library (z + 1) 0 s
  next_signal z k s all so = record {
    ready = so.ready;
    best = so.best;
    is_best = search_signal c library z k so.best all so.is_best;
    bar_is = so.bar_is;
    kept = so.kept;
  }

  pub end_signal : (z : ℕ) (divisors : List Instance) (s : Search) → AreDivisors c library z divisors
      → IsSearching c library z (length divisors) s → IsSearching c library (z + 1) 0 s
  end_signal z divisors s are so = next_signal z (length divisors) s all so
    where
      all : (y : Choice) → Serves c library y → y.signal ≡ z → IsEarlier y z (length divisors)
      all y serves at =
          let P : ℕ → Type 0 = λ a. IsDivisorAt c library a y.place serves.divisor in
          let within = place_within c library z y.place serves.divisor divisors are (subst P at serves.at) in
          inr (at, inl within)

  pub pass_input : (z : ℕ) (s : Search) → (IsNonInput c.graph.signals z → ⊥) → IsSearching c library z 0 s
      → IsSearching c library (z + 1) 0 s
  pass_input z s input so = next_signal z 0 s
      (λ y serves at. absurd (input (subst (IsNonInput c.graph.signals) at serves.unfit.driven))) so

  pub pass_input_by : (z : ℕ) (s : Search) (g : StateGraph) (driven : Bool) → g ≡ c.graph
      → (IsTrue driven ↔ IsNonInput g.signals z) → driven ≡ false → IsSearching c library z 0 s
      → IsSearching c library (z + 1) 0 s
  pass_input_by z s g driven same told is so = pass_input z s
      (λ there. true≢false (sym (told.1 (subst (λ h. IsNonInput h.signals z) (sym same) there)) ∙ is)) so

  pub pass_fitted : (z : ℕ) (s : Search) → is_some (first_fit c library z) ≡ true → IsSearching c library z 0 s
      → IsSearching c library (z + 1) 0 s
  pass_fitted z s fits so = next_signal z 0 s (λ y serves at. absurd (not_both y serves at)) so
    where
      not_both : (y : Choice) → Serves c library y → y.signal ≡ z → ⊥
      not_both y serves at = true≢false (sym fits ∙ ap (λ (o : Option Instance). is_some o)
          (ap (first_fit c library) (sym at) ∙ serves.unfit.unfit))

  pub pass_zero : (z : ℕ) (s : Search) → s.bar ≡ 0 → IsSearching c library z 0 s → IsSearching c library (z + 1) 0 s
  pass_zero z s zero so = record {
    ready = so.ready;
    best = so.best;
    is_best = search_none_below c library z so.best (sym so.bar_is ∙ zero) so.is_best;
    bar_is = so.bar_is;
    kept = so.kept;
  }

  -- ---- the end of all
  best_shown : (o : Option Choice) → IsFirstOrNone choice_place (Serves c library) o
      → IsBestPartition c library (classes_of o)
  best_shown None none = none
  best_shown (Some x) first = (x, first, refl)

  pub found : (s : Search) → IsSearching c library (length c.graph.signals) 0 s
      → IsBestPartition c library s.best
  found s so = subst (IsBestPartition c library) (sym so.kept)
      (best_shown so.best (search_ends c library so.best so.is_best))
