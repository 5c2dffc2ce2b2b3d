-- A round of one input, told twice: which of its states are alike, and how classes of them lead to one another.
use Rattle.std.proofs.Common.{◌≡◌, ℕ, zero, suc, ◌+◌, ◌%◌, ◌<◌, ◌==◌, ◌&&◌, nat_lt, Bool, true, [], ◌∷◌}
use Rattle.std.proofs.Common.{codes, refl, sym, subst, arith, eqb-true, ltb-true}
use Rattle.std.proofs.lemmas.Bool.{and_parts}
use Rattle.si_base.specs.declared.graph.SigKind.TheVariants.{Input}
use Rattle.si_base.specs.declared.ids.Event.{Event}
use Rattle.si_base.specs.Codes.{CodedGraph, code}
use Rattle.si_base.specs.Graph.{Step, arc, enables, rise, fall}
use Rattle.si_base.proofs.GraphSteps.{all_arcs}
use Rattle.si_fold.specs.Alike.{AreAlike, IsLeastAlike}
use Rattle.si_fold.specs.Folded.{LeadsBetween}

-- `s0 a+ s1 a- s2 a+ s3 a- s0`
abbrev two_rounds : CodedGraph
two_rounds = record {
  graph = record {
    signals = record { name = codes "a"; kind = Input } ∷ [];
    states = 4;
    edges = arc 0 (rise 0) 1 ∷ arc 1 (fall 0) 2 ∷ arc 2 (rise 0) 3 ∷ arc 3 (fall 0) 0 ∷ [];
    start = 0;
  };
  codes = 0 ∷ 1 ∷ 0 ∷ 1 ∷ [];
}

-- t is two steps on from s
abbrev is_round_on : ℕ → ℕ → Bool
is_round_on s t = nat_lt s 4 && (t == (s + 2) % 4)

each_pair : (P : ℕ → ℕ → Type 0) → P 0 2 → P 1 3 → P 2 0 → P 3 1 → (s t : ℕ) → is_round_on s t ≡ true → P s t
each_pair P first second third fourth s t here =
    let parts = and_parts (nat_lt s 4) (t == (s + 2) % 4) here in
    subst (P s) (sym (eqb-true t ((s + 2) % 4) parts.1)) (go s (ltb-true s 4 parts.0))
  where
    go : (r : ℕ) → r < 4 → P r ((r + 2) % 4)
    go zero below = first
    go (suc zero) below = second
    go (suc (suc zero)) below = third
    go (suc (suc (suc zero))) below = fourth
    go (suc (suc (suc (suc r)))) below = absurd (omega (arith, below))

one_on : (s : ℕ) (e : Event) (u : ℕ) → Step two_rounds.graph s e u → u ≡ (s + 1) % 4
one_on s e u step =
    eqb-true u ((s + 1) % 4) (all_arcs (λ a. a.to == (a.from + 1) % 4) two_rounds.graph s e u refl step)

-- states that are a round apart are alike
round_alike : (s t : ℕ) → s < 4 → t < 4 → is_round_on s t ≡ true → AreAlike two_rounds s t
round_alike s t one two here = record {
  one_within = one;
  other_within = two;
  related = is_round_on;
  bisimulation = record {
    codes = each_pair (λ x y. code two_rounds x ≡ code two_rounds y) refl refl refl refl;
    keeps = record {
      events = λ x y e on.
          each_pair (λ v w. enables two_rounds.graph v e ≡ enables two_rounds.graph w e) refl refl refl refl x y on;
      steps = λ x y e u v on from_x from_y.
          subst (λ w. is_round_on w v ≡ true) (sym (one_on x e u from_x))
          (subst (λ w. is_round_on ((x + 1) % 4) w ≡ true) (sym (one_on y e v from_y))
          (each_pair (λ p q. is_round_on ((p + 1) % 4) ((q + 1) % 4) ≡ true) refl refl refl refl x y on));
    };
  };
  holds = here;
}

-- so the first state is the least of the class of the third, which has the first's name when folded
third_is_first : IsLeastAlike two_rounds 2 0
third_is_first = record {
  alike = round_alike 2 0 (omega arith) (omega arith) refl;
  least = λ t alike. omega arith;
}

-- states of different codes are not
first_and_second_differ : AreAlike two_rounds 0 1 → ⊥
first_and_second_differ a = (let same : 0 ≡ 1 = a.bisimulation.codes 0 1 a.holds in omega (arith, same))

-- the class of `s1` and `s3` leads by `a-` to that of `s0` and `s2`: `s3` leads to `s0`
back_to_first : LeadsBetween two_rounds.graph (0 ∷ 1 ∷ 0 ∷ 1 ∷ []) 1 (fall 0) 0
back_to_first = record {
  source = 3;
  target = 0;
  step = (3, omega arith, refl);
  source_in = refl;
  target_in = refl;
}
