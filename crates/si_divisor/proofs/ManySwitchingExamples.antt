-- The rules of switching states at a square of four states, and two functions at once at two states.
use Rattle.std.proofs.Common.{◌≡◌, ◌≢◌, ℕ, zero, suc, ◌<◌, true, false, [], ◌∷◌, refl, sym, ap}
use Rattle.std.proofs.Common.{ap₂, subst, ◌∙◌, arith, inr, codes, length, get_or}
use Rattle.std.proofs.lemmas.Bool.{true≢false}
use Rattle.si_base.specs.declared.graph.SigKind.TheVariants.{Input, Output}
use Rattle.si_base.specs.declared.ids.Event.{Event}
use Rattle.si_base.specs.Bits.{bit}
use Rattle.si_base.specs.Graph.{StateGraph, arc, rise, fall}
use Rattle.si_base.proofs.StepCodes.{no_bit}
use Rattle.si_base.specs.Sets.{IsIn, IsSubset}
use Rattle.si_closures.specs.Loops.WordSearch.{column}
use Rattle.si_insert.specs.declared.partition.Class.TheVariants.{Rising, High, Falling}
use Rattle.si_insert.specs.Partition.{class_of}
use Rattle.si_divisor.specs.declared.function_sets.FunctionSets.{FunctionSets}
use Rattle.si_divisor.specs.declared.switching.Switched.{Switched}
use Rattle.si_divisor.specs.Loops.ManyFunctions.{AreClassesAt}
use Rattle.si_divisor.specs.Loops.ManySwitching.{AreSwitched, ExitsBeside, FollowsBack, Source, FollowsOn, LetsExit}
use Rattle.si_divisor.specs.PartitionFor.{class_for}
use Rattle.si_divisor.specs.Switching.{Switches}
use Rattle.si_divisor.specs.Loops.SwitchRules.{Crossed, ExitsLow, FollowsByRule, HasDiamond, IsCrossed, OmitsState}
use Rattle.si_divisor.specs.Loops.SwitchRules.{WithFirst}
use Rattle.si_divisor.specs.Targets.{IsLeast, target}
use Rattle.si_divisor.proofs.SwitchingTests.{switches_if, each_member}

-- ---- an output a and an input b: s0 a+ s1, s0 b+ s2, s1 b+ s3, s2 a+ s3
abbrev square : StateGraph
square = record {
  signals = record { name = codes "b"; kind = Input } ∷ record { name = codes "a"; kind = Output } ∷ [];
  states = 4;
  edges = arc 0 (rise 0) 2 ∷ arc 0 (rise 1) 1 ∷ arc 1 (rise 0) 3 ∷ arc 2 (rise 1) 3 ∷ [];
  start = 0;
}

apart : rise 1 ≢ rise 0
apart same = (let one = ap (λ (e : Event). e.sig) same in omega (arith, one))

-- s3 alone is high, so it is entered from a low state
crossed : IsCrossed square (false ∷ false ∷ false ∷ true ∷ []) 3
crossed = record { s = 1; e = rise 0; step = (2, omega arith, refl); low = refl; there = refl }

-- each set that meets the rules has it, so the empty set lacks a state
omitted : OmitsState square (false ∷ false ∷ false ∷ true ∷ []) (false ∷ false ∷ false ∷ false ∷ [])
omitted = (3, omega arith, (λ set size closed. closed [] 3 (Crossed refl crossed) tt), refl)

joins : HasDiamond square 0 1 2 3
joins = record {
  a = rise 1;
  c = rise 0;
  diamond = record {
    non_input = (record { name = codes "a"; kind = Output }, refl, refl);
    apart = apart;
    first = (1, omega arith, refl);
    other = (0, omega arith, refl);
    next = (3, omega arith, refl);
  };
}

-- the diamond begins at a low state: from s2 its end follows
exits_low : ExitsLow square (false ∷ false ∷ false ∷ false ∷ []) 2 3
exits_low = record { s = 0; t = 1; joins = joins; low = refl }

-- it begins at a high one: from s2 its end follows where s1 is marked
exits_high : FollowsByRule square (true ∷ false ∷ false ∷ false ∷ []) (false ∷ true ∷ true ∷ false ∷ []) 2 3
exits_high = WithFirst 1 refl (record { s = 0; joins = joins; there = refl })

-- ---- the same as turns of the search see it
-- along s0 b+ s2, into the source of the exit s2 a+ s3
lets : LetsExit square (true ∷ false ∷ false ∷ false ∷ []) (false ∷ true ∷ true ∷ false ∷ []) (arc 2 (rise 1) 3)
    (arc 0 (rise 0) 2)
lets = record { t = 1; apart = apart; step = (1, omega arith, refl); may = inr refl }

follows : FollowsOn square (true ∷ false ∷ false ∷ false ∷ []) (false ∷ true ∷ true ∷ false ∷ [])
    (arc 2 (rise 1) 3)
follows = inr (
  (record { name = codes "a"; kind = Output }, refl, refl),
  record { before = arc 0 (rise 0) 2; listed = (0, omega arith, refl); into = refl; lets = lets },
)

-- from s1, where s2 is marked, beside s0 a+ s1
beside : ExitsBeside square (true ∷ false ∷ false ∷ false ∷ []) (false ∷ true ∷ true ∷ false ∷ [])
    (arc 0 (rise 1) 1) (arc 0 (rise 0) 2) 3
beside = record {
  begins_high = refl;
  non_input = (record { name = codes "a"; kind = Output }, refl, refl);
  same = refl;
  apart = apart;
  there = refl;
  step = (3, omega arith, refl);
}

back : FollowsBack square (true ∷ false ∷ false ∷ false ∷ []) (false ∷ true ∷ false ∷ false ∷ []) (arc 0 (rise 1) 1) 0
back = Source refl refl

-- ---- two functions at once, of which each is 1 just at s1: s0 a+ s1, s1 a- s0
abbrev pair : StateGraph
pair = record {
  signals = record { name = codes "a"; kind = Output } ∷ [];
  states = 2;
  edges = arc 0 (rise 0) 1 ∷ arc 1 (fall 0) 0 ∷ [];
  start = 0;
}

-- the new signals rise at s1: within the first set, and not within the other one
module _ (found : Switched) (words : found.words.items ≡ 0 ∷ 3 ∷ []) (kept : found.kept ≡ 1) where
  at_first : (k : ℕ) → bit found.kept k ≡ true → k ≡ 0
  at_first zero is = refl
  at_first (suc k) is =
      absurd (true≢false (sym (subst (λ (w : ℕ). bit w (suc k) ≡ true) kept is)
      ∙ no_bit 1 1 (suc k) (omega arith) (omega arith)))

  rises : IsLeast 2 (Switches pair (target (false ∷ true ∷ [])) true) (false ∷ true ∷ [])
  rises = record {
    size = refl;
    meets = switches_if pair (target (false ∷ true ∷ [])) true (false ∷ true ∷ []) refl;
    least = λ other size x. each_member (IsIn other) (false ∷ true ∷ [])
        (x.entered 0 (rise 0) 1 (0, omega arith, refl) refl refl, tt);
  }

  strays : OmitsState pair (false ∷ true ∷ []) (false ∷ false ∷ [])
  strays = (1, omega arith, (λ set size closed. closed [] 1 (Crossed refl at_second) tt), refl)
    where
      at_second : IsCrossed pair (false ∷ true ∷ []) 1
      at_second = record { s = 0; e = rise 0; step = (0, omega arith, refl); low = refl; there = refl }

  lost : (k : ℕ) → bit 3 k ≡ true → bit found.kept k ≡ false
      → OmitsState pair (column k (0 ∷ 3 ∷ [])) (column k (0 ∷ 1 ∷ []))
  lost zero has out = absurd (true≢false (subst (λ (w : ℕ). bit w 0 ≡ false) kept out))
  lost (suc zero) has out = strays
  lost (suc (suc k)) has out = absurd (true≢false (sym has ∙ no_bit 3 2 (suc (suc k)) (omega arith) (omega arith)))

  switched : AreSwitched pair (0 ∷ 3 ∷ []) 3 (0 ∷ 1 ∷ []) found
  switched = record {
    size = ap length words;
    given_too = λ k is. subst (λ j. bit 3 j ≡ true) (sym (at_first k is)) refl;
    least = λ k is. subst (λ ws. IsLeast 2 (Switches pair (target (column k (0 ∷ 3 ∷ []))) true) (column k ws))
        (sym words) (subst (λ j. IsLeast 2 (Switches pair (target (column j (0 ∷ 3 ∷ []))) true)
        (column j (0 ∷ 3 ∷ []))) (sym (at_first k is)) rises);
    inside = λ k is. subst (λ ws. IsSubset (column k ws) (column k (0 ∷ 1 ∷ []))) (sym words)
        (subst (λ j. IsSubset (column j (0 ∷ 3 ∷ [])) (column j (0 ∷ 1 ∷ []))) (sym (at_first k is))
        (λ s there. there));
    dropped = λ k few has out. lost k has out;
  }

-- ---- the classes by the second of two functions: it rises at s0, falls at s1, and is high at s2
module _ (sets : FunctionSets) (plus : sets.plus.items ≡ 3 ∷ 0 ∷ 0 ∷ []) (minus : sets.minus.items ≡ 0 ∷ 2 ∷ 1 ∷ [])
    (ones : sets.ones.items ≡ 3 ∷ 1 ∷ 2 ∷ []) where
  second : (s : ℕ) → s < 3 → class_of (Rising ∷ Falling ∷ High ∷ []) s
      ≡ class_for (get_or (column 1 (3 ∷ 0 ∷ 0 ∷ [])) s false) (get_or (column 1 (0 ∷ 2 ∷ 1 ∷ [])) s false)
      (get_or (column 1 (3 ∷ 1 ∷ 2 ∷ [])) s false)
  second zero below = refl
  second (suc zero) below = refl
  second (suc (suc zero)) below = refl
  second (suc (suc (suc s))) below = absurd (omega (arith, below))

  classes : AreClassesAt 3 1 sets (Rising ∷ Falling ∷ High ∷ [])
  classes = record {
    count = refl;
    each = λ s below. second s below
        ∙ sym (ap (λ p. class_for (get_or (column 1 p) s false) (get_or (column 1 sets.minus.items) s false)
        (get_or (column 1 sets.ones.items) s false)) plus
        ∙ ap₂ (λ m o. class_for (get_or (column 1 (3 ∷ 0 ∷ 0 ∷ [])) s false) (get_or (column 1 m) s false)
        (get_or (column 1 o) s false)) minus ones);
  }
