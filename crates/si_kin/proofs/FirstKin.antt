-- The first conflict of kin is the first conflict of a graph whose codes tell classes and codes: as the code of
-- a state it has the first state that is alike.
use Rattle.std.proofs.Common.{◌≡◌, ℕ, ◌<◌, ◌≤◌, List, get_or, ap, arith}
use Rattle.std.proofs.Common.{Option, Some, None}
use Rattle.si_base.specs.Codes.{CodedGraph}
use Rattle.si_base.specs.Proper.{IsConflict, pair_place}
use Rattle.si_checks.specs.Loops.Searches.{IsFirstOrNone}
use Rattle.si_checks.proofs.ConflictLemmas.{IsAt, IsConflictBelow, all_states}
use Rattle.si_kin.specs.declared.alike.Likeness.{Likeness}
use Rattle.si_kin.specs.Kin.{AreKinClasses, IsFirstKinOrNone, IsKinConflict}
use Rattle.si_kin.specs.Loops.Alike.{AreFirstAlike, likeness_of}

abbrev pub with_firsts : CodedGraph → List ℕ → CodedGraph
with_firsts c firsts = record { graph = c.graph; codes = firsts }

-- of the first n states
abbrev pub IsFoundTo : CodedGraph → List ℕ → ℕ → Option (ℕ × ℕ) → Type 0
IsFoundTo c firsts n found = IsFirstOrNone pair_place (IsConflictBelow (with_firsts c firsts) n) found

module _ (c : CodedGraph) (classes firsts : List ℕ) (are : AreKinClasses c classes)
    (alike : AreFirstAlike c classes firsts) where
  -- the first state that is alike has the code of n, and none before it does
  pub at_first : (n : ℕ) → n < c.graph.states → IsAt (with_firsts c firsts) n (get_or firsts n 0)
  at_first n within = record {
    within = within;
    le = alike.up_to n within;
    first = record {
      has_code = alike.own n within;
      first = λ r below same. (
          let low = alike.up_to n within in
          let up = alike.up_to r (omega (arith, below, low, within)) in
          omega (arith, up, below, same));
    };
  }

  first_below : (pair : ℕ × ℕ) → pair.0 < pair.1 → pair.1 < c.graph.states → pair.0 < c.graph.states
  first_below pair order within = omega (arith, order, within)

  pub kin_as_conflict : (pair : ℕ × ℕ) → IsKinConflict c pair → IsConflict (with_firsts c firsts) pair
  kin_as_conflict pair is =
      let x = is.conflict in
      let below = first_below pair x.order x.within in
      let class = (are.exactly pair.0 pair.1 below x.within).1 is.kin in
      let one : likeness_of c classes pair.0 ≡ likeness_of c classes pair.1 =
      λ i. record { class = class i; code = x.same_code i } in
      record {
        order = x.order;
        within = x.within;
        same_code = (alike.exactly pair.0 pair.1 below x.within).1 one;
        event = x.event;
        non_input = x.non_input;
        differ = x.differ;
      }

  pub conflict_as_kin : (pair : ℕ × ℕ) → IsConflict (with_firsts c firsts) pair → IsKinConflict c pair
  conflict_as_kin pair x =
      let below = first_below pair x.order x.within in
      let one = (alike.exactly pair.0 pair.1 below x.within).0 x.same_code in
      record {
        conflict = record {
          order = x.order;
          within = x.within;
          same_code = ap (λ (y : Likeness). y.code) one;
          event = x.event;
          non_input = x.non_input;
          differ = x.differ;
        };
        kin = (are.exactly pair.0 pair.1 below x.within).0 (ap (λ (y : Likeness). y.class) one);
      }

  as_kin : (found : Option (ℕ × ℕ)) → IsFirstOrNone pair_place (IsConflict (with_firsts c firsts)) found
      → IsFirstKinOrNone c found
  as_kin None none = λ pair is. none pair (kin_as_conflict pair is)
  as_kin (Some pair) first = record {
    holds = conflict_as_kin pair first.holds;
    none_before = λ other is before. first.none_before other (kin_as_conflict other is) before;
  }

  -- all states have been looked at
  pub first_kin : (n : ℕ) (found : Option (ℕ × ℕ)) → c.graph.states ≤ n → IsFoundTo c firsts n found
      → IsFirstKinOrNone c found
  first_kin n found all is = as_kin found (all_states (with_firsts c firsts) n found all is)
