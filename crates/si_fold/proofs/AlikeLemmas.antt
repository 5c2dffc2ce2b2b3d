-- To be alike is an equivalence of states, and steps keep it.
use Rattle.std.proofs.Common.{◌≡◌, ℕ, ◌<◌, ◌≤◌, get_or, zero-add, ◌==◌, ◌&&◌, Bool, true, refl, sym, ap, subst, ◌∙◌}
use Rattle.std.proofs.Common.{arith, eqb-true, eq-eqb}
use Rattle.std.proofs.lemmas.Bool.{and_parts, and_from}
use Rattle.std.proofs.lemmas.List.Folds.{list_any_at, Any-from_list_any}
use Rattle.std.proofs.lemmas.List.FromFn.{length-range_with_len, get_or-range_with_len}
use Rattle.std.specs.List.{list_any, range_with_len}
use Rattle.si_base.specs.declared.ids.Event.{Event}
use Rattle.si_base.specs.Graph.{Step, enables}
use Rattle.si_base.specs.Codes.{CodedGraph, IsDeterministic, code}
use Rattle.si_base.specs.Graph.{IsGraph}
use Rattle.si_base.proofs.GraphSteps.{enables-step, step_from_enables}
use Rattle.si_base.proofs.RightGateLemmas.{step_within}
use Rattle.si_fold.specs.Alike.{IsBisimulation, AreAlike, IsLeastAlike}

-- some number below n passes
abbrev pub some_below : (ℕ → Bool) → ℕ → Bool
some_below test n = list_any test (range_with_len 0 n)

pub some_at : (test : ℕ → Bool) (n m : ℕ) → m < n → test m ≡ true → some_below test n ≡ true
some_at test n m within passes =
    let at : get_or (range_with_len 0 n) m 0 ≡ m = get_or-range_with_len 0 n m 0 within ∙ zero-add m in
    list_any_at test (range_with_len 0 n) m 0 (omega (arith, length-range_with_len 0 n)) (ap test at ∙ passes)

pub some_from : (test : ℕ → Bool) (n : ℕ) → some_below test n ≡ true → (m : ℕ) × (m < n) × (test m ≡ true)
some_from test n some =
    let any = Any-from_list_any test (range_with_len 0 n) some in
    let below : any.0 < n = omega (arith, any.2, length-range_with_len 0 n) in
    let at : any.1 ≡ any.0 = sym any.3 ∙ get_or-range_with_len 0 n any.0 any.1 below ∙ zero-add any.0 in
    (any.0, below, ap test (sym at) ∙ any.4)

module _ (c : CodedGraph) (is : IsGraph c.graph) (det : IsDeterministic c.graph) where
  -- related states can follow each other's steps
  followed : (related : ℕ → ℕ → Bool) (b : IsBisimulation c related) (s t : ℕ) (e : Event) (u : ℕ) → related s t ≡ true
      → Step c.graph s e u → (v : ℕ) × Step c.graph t e v × (related u v ≡ true)
  followed related b s t e u here step =
      let enabled = sym (b.keeps.events s t e here) ∙ enables-step c.graph s e u step in
      let other = step_from_enables c.graph t e enabled in
      (other.0, other.1, b.keeps.steps s t e u other.0 here step other.1)

  pub alike_itself : (s : ℕ) → s < c.graph.states → AreAlike c s s
  alike_itself s within = record {
    one_within = within;
    other_within = within;
    related = λ t u. t == u;
    bisimulation = record {
      codes = λ t u same. ap (code c) (eqb-true t u same);
      keeps = record {
        events = λ t u e same. ap (λ v. enables c.graph v e) (eqb-true t u same);
        steps = λ t u e v w same one other. eq-eqb v w
            (det u e v w (subst (λ x. Step c.graph x e v) (eqb-true t u same) one) other);
      };
    };
    holds = eq-eqb s s refl;
  }

  pub alike_back : (s t : ℕ) → AreAlike c s t → AreAlike c t s
  alike_back s t a =
      let b = a.bisimulation in
      record {
        one_within = a.other_within;
        other_within = a.one_within;
        related = λ x y. a.related y x;
        bisimulation = record {
          codes = λ x y here. sym (b.codes y x here);
          keeps = record {
            events = λ x y e here. sym (b.keeps.events y x e here);
            steps = λ x y e u v here one other. b.keeps.steps y x e v u here other one;
          };
        };
        holds = a.holds;
      }

  -- one after the other
  abbrev joined : (ℕ → ℕ → Bool) → (ℕ → ℕ → Bool) → ℕ → ℕ → Bool
  joined one other s t = some_below (λ m. one s m && other m t) c.graph.states

  joined_bisimulation : (one other : ℕ → ℕ → Bool) → IsBisimulation c one → IsBisimulation c other
      → IsBisimulation c (joined one other)
  joined_bisimulation one other a b = record {
    codes = λ s t here. (
        let m = some_from (λ x. one s x && other x t) c.graph.states here in
        let both = and_parts (one s m.0) (other m.0 t) m.2 in
        a.codes s m.0 both.0 ∙ b.codes m.0 t both.1);
    keeps = record {
      events = λ s t e here. (
          let m = some_from (λ x. one s x && other x t) c.graph.states here in
          let both = and_parts (one s m.0) (other m.0 t) m.2 in
          a.keeps.events s m.0 e both.0 ∙ b.keeps.events m.0 t e both.1);
      steps = λ s t e u v here first last. (
          let m = some_from (λ x. one s x && other x t) c.graph.states here in
          let both = and_parts (one s m.0) (other m.0 t) m.2 in
          let w = followed one a s m.0 e u both.0 first in
          let inside = step_within c.graph m.0 e w.0 is w.1 in
          some_at (λ x. one u x && other x v) c.graph.states w.0 inside.2
          (and_from (one u w.0) (other w.0 v) w.2 (b.keeps.steps m.0 t e w.0 v both.1 w.1 last)));
    };
  }

  pub alike_through : (s m t : ℕ) → AreAlike c s m → AreAlike c m t → AreAlike c s t
  alike_through s m t a b = record {
    one_within = a.one_within;
    other_within = b.other_within;
    related = joined a.related b.related;
    bisimulation = joined_bisimulation a.related b.related a.bisimulation b.bisimulation;
    holds = some_at (λ x. a.related s x && b.related x t) c.graph.states m a.other_within
        (and_from (a.related s m) (b.related m t) a.holds b.holds);
  }

  -- alike states lead to alike states
  pub alike_after : (s t : ℕ) (e : Event) (u : ℕ) → AreAlike c s t → Step c.graph s e u
      → (v : ℕ) × Step c.graph t e v × AreAlike c u v
  alike_after s t e u a step =
      let f = followed a.related a.bisimulation s t e u a.holds step in (
        f.0,
        f.1,
        record {
          one_within = (step_within c.graph s e u is step).2;
          other_within = (step_within c.graph t e f.0 is f.1).2;
          related = a.related;
          bisimulation = a.bisimulation;
          holds = f.2;
        },
      )

  -- alike states have one least state that is alike with them
  pub least_same : (s t m n : ℕ) → AreAlike c s t → IsLeastAlike c s m → IsLeastAlike c t n → m ≡ n
  least_same s t m n a one other =
      let up : m ≤ n = one.least n (alike_through s t n a other.alike) in
      let down : n ≤ m = other.least m (alike_through t s m (alike_back s t a) one.alike) in
      omega arith

  -- the least of a class is its own least
  pub least_itself : (s m : ℕ) → IsLeastAlike c s m → IsLeastAlike c m m
  least_itself s m l = record {
    alike = alike_itself m l.alike.other_within;
    least = λ t a. l.least t (alike_through s m t l.alike a);
  }
