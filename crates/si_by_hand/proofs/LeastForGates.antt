-- The partition for a gate is the least of the accepted ones for which the gate is right.
use Rattle.std.proofs.Common.{◌≡◌, ℕ, ◌<◌, not, Bool, true, false, List, length, map, get_or, refl, sym, ap, subst}
use Rattle.std.proofs.Common.{◌∙◌, arith, inl, inr}
use Rattle.std.proofs.lemmas.Bool.{cases_Bool, true≢false, and_parts, not-true}
use Rattle.std.proofs.lemmas.List.{get_or-map, length-map}
use mathlib.Core.Bool.{beq}
use Rattle.si_base.specs.Codes.{CodedGraph, IsCoded, code}
use Rattle.si_base.specs.Netlist.{value_of}
use Rattle.si_base.specs.Proper.{IsProper}
use Rattle.si_base.specs.Sets.{IsIn}
use Rattle.si_base.proofs.StepCodes.{step_within}
use Rattle.si_divisor.proofs.InstanceLaws.{new_value}
use Rattle.si_divisor.proofs.PartitionLemmas.{least}
use Rattle.si_divisor.specs.Laws.{SwitchesWithin, to_one}
use Rattle.si_divisor.specs.PartitionFor.{IsPartitionFor}
use Rattle.si_divisor.specs.Targets.{Settles, forced_by, holds, target}
use Rattle.si_insert.proofs.InsertionProper.{code_at}
use Rattle.si_insert.proofs.InsertionCopies.{placed}
use Rattle.si_insert.specs.Accepted.{IsAccepted}
use Rattle.si_insert.specs.Insertion.{Copy, coded, has_copy, new_signal}
use Rattle.si_insert.specs.Lineage.{Current}
use Rattle.si_insert.specs.Partition.{class_of, may_lead}
use Rattle.si_insert.specs.declared.partition.Class.{Class}
use Rattle.si_insert.specs.declared.partition.Class.TheVariants.{Low, Rising, High, Falling}
use Rattle.si_by_hand.specs.Forcing.{own_value}
use Rattle.si_by_hand.specs.GateLaws.{HasNextValues, PartitionsForGatesAreLeast}

-- ---- classes and their targets
low_has : (k : Class) → to_one k ≡ false → has_copy k false ≡ true
low_has Low is = refl
low_has Rising is = absurd (true≢false is)
low_has High is = absurd (true≢false is)
low_has Falling is = refl

high_has : (k : Class) → to_one k ≡ true → has_copy k true ≡ true
high_has Low is = absurd (true≢false (sym is))
high_has Rising is = refl
high_has High is = refl
high_has Falling is = absurd (true≢false (sym is))

-- an arc keeps the target where the class that it enters doesn't switch to the other one
leads_up : (j k : Class) → to_one j ≡ true → may_lead j k ≡ true → (k ≡ Falling → ⊥) → to_one k ≡ true
leads_up Low k is lead stays = absurd (true≢false (sym is))
leads_up Rising Low is lead stays = absurd (true≢false (sym lead))
leads_up Rising Rising is lead stays = refl
leads_up Rising High is lead stays = refl
leads_up Rising Falling is lead stays = absurd (stays refl)
leads_up High Low is lead stays = absurd (true≢false (sym lead))
leads_up High Rising is lead stays = absurd (true≢false (sym lead))
leads_up High High is lead stays = refl
leads_up High Falling is lead stays = absurd (stays refl)
leads_up Falling k is lead stays = absurd (true≢false (sym is))

leads_down : (j k : Class) → to_one j ≡ false → may_lead j k ≡ true → (k ≡ Rising → ⊥) → to_one k ≡ false
leads_down Low Low is lead stays = refl
leads_down Low Rising is lead stays = absurd (stays refl)
leads_down Low High is lead stays = absurd (true≢false (sym lead))
leads_down Low Falling is lead stays = absurd (true≢false (sym lead))
leads_down Rising k is lead stays = absurd (true≢false is)
leads_down High k is lead stays = absurd (true≢false is)
leads_down Falling Low is lead stays = refl
leads_down Falling Rising is lead stays = absurd (stays refl)
leads_down Falling High is lead stays = absurd (true≢false (sym lead))
leads_down Falling Falling is lead stays = refl

is_high : (v : Bool) → beq v true ≡ true → v ≡ true
is_high true is = refl
is_high false is = absurd (true≢false (sym is))

is_low : (v : Bool) → beq v false ≡ true → v ≡ false
is_low true is = absurd (true≢false (sym is))
is_low false is = refl

not_high : (v : Bool) → beq v true ≡ false → v ≡ false
not_high true is = absurd (true≢false is)
not_high false is = refl

not_low : (v : Bool) → beq v false ≡ false → v ≡ true
not_low true is = refl
not_low false is = absurd (true≢false is)

-- ---- a partition for which values are right
module _ (c : CodedGraph) (value : ℕ → Bool → Bool) (classes others : List Class) (is : IsCoded c)
    (proper : IsProper c.graph) (p : IsPartitionFor c.graph (forced_by value c) classes)
    (accepted : IsAccepted c.graph others)
    (right : (s : ℕ) (b : Bool) → s < c.graph.states → has_copy (class_of others s) b ≡ true
    → value (code c s) b ≡ to_one (class_of others s)) where
  abbrev aim : ℕ → Bool
  aim s = to_one (class_of others s)

  -- where a value is forced the target is that value
  aims_high : (s : ℕ) → s < c.graph.states → forced_by value c true s ≡ true → aim s ≡ true
  aims_high s inside forced = elim (cases_Bool (aim s)) [
    | inl high ↦ high
    | inr low ↦ absurd (true≢false (sym (is_high (value (code c s) false) forced)
        ∙ right s false inside (low_has (class_of others s) low) ∙ low))
  ]

  aims_low : (s : ℕ) → s < c.graph.states → forced_by value c false s ≡ true → aim s ≡ false
  aims_low s inside forced = elim (cases_Bool (aim s)) [
    | inl high ↦ absurd (true≢false (sym (right s true inside (high_has (class_of others s) high) ∙ high)
        ∙ is_low (value (code c s) true) forced))
    | inr low ↦ low
  ]

  -- where none is forced the signal doesn't switch
  never_falls : (s : ℕ) → s < c.graph.states → holds (forced_by value c) s ≡ true → class_of others s ≡ Falling → ⊥
  never_falls s inside held falls =
      let parts = and_parts (not (forced_by value c true s)) (not (forced_by value c false s)) held in
      let high = not_low (value (code c s) true) (not-true (forced_by value c false s) parts.1) in
      true≢false (sym high ∙ right s true inside (ap (λ (k : Class). has_copy k true) falls) ∙ ap to_one falls)

  never_rises : (s : ℕ) → s < c.graph.states → holds (forced_by value c) s ≡ true → class_of others s ≡ Rising → ⊥
  never_rises s inside held rises =
      let parts = and_parts (not (forced_by value c true s)) (not (forced_by value c false s)) held in
      let low = not_high (value (code c s) false) (not-true (forced_by value c true s) parts.0) in
      true≢false (sym (right s false inside (ap (λ (k : Class). has_copy k false) rises) ∙ ap to_one rises) ∙ low)

  -- the states with either target
  abbrev highs : List Bool
  highs = map to_one others

  abbrev lows : List Bool
  lows = map (λ k. not (to_one k)) others

  count : length others ≡ c.graph.states
  count = accepted.lawful.count

  high_at : (s : ℕ) → s < c.graph.states → get_or highs s false ≡ aim s
  high_at s inside = get_or-map to_one others s Low false (omega (arith, inside, count))

  low_at : (s : ℕ) → s < c.graph.states → get_or lows s false ≡ not (aim s)
  low_at s inside = get_or-map (λ k. not (to_one k)) others s Low false (omega (arith, inside, count))

  settles_high : Settles c.graph (forced_by value c) true highs
  settles_high = record {
    begins = λ s inside forced. high_at s inside ∙ aims_high s inside forced;
    goes_on = λ s e t step there held.
        let ends = step_within c.graph s e t is.graph_is step in
        high_at t ends.2 ∙ leads_up (class_of others s) (class_of others t) (sym (high_at s ends.0) ∙ there)
        (accepted.lawful.arcs s e t step) (never_falls t ends.2 held);
  }

  settles_low : Settles c.graph (forced_by value c) false lows
  settles_low = record {
    begins = λ s inside forced. low_at s inside ∙ ap not (aims_low s inside forced);
    goes_on = λ s e t step there held.
        let ends = step_within c.graph s e t is.graph_is step in
        low_at t ends.2 ∙ ap not (leads_down (class_of others s) (class_of others t)
        (not-true (aim s) (sym (low_at s ends.0) ∙ there)) (accepted.lawful.arcs s e t step)
        (never_rises t ends.2 held));
  }

  -- the targets are the same
  target_is : (s : ℕ) → s < c.graph.states → target p.sets.ones s ≡ aim s
  target_is s inside = elim (cases_Bool (get_or p.sets.ones s false)) [
    | inl one ↦ one ∙ sym (sym (high_at s inside) ∙ p.are.settled.at_one.least highs (length-map others to_one ∙ count)
        settles_high s one)
    | inr none ↦ none ∙ sym (not-true (aim s) (sym (low_at s inside)
        ∙ p.are.settled.at_zero.least lows (length-map others (λ k. not (to_one k)) ∙ count) settles_low s
        (in_zeros none)))
  ]
    where
      in_zeros : get_or p.sets.ones s false ≡ false → IsIn p.sets.zeros s
      in_zeros none = elim (cases_Bool (get_or p.sets.zeros s false)) [
        | inl zero ↦ zero
        | inr neither ↦ absurd (p.are.targets.some s (record {
          within = inside;
          not_one = λ one. true≢false (sym one ∙ none);
          not_zero = λ zero. true≢false (sym zero ∙ neither);
        }))
      ]

  pub switches_within : SwitchesWithin c.graph classes others
  switches_within = least c (forced_by value c) classes others is proper p accepted target_is

pub least_for_gates : PartitionsForGatesAreLeast
least_for_gates c gate name classes others l is proper p extends has =
    switches_within c (own_value gate (length c.graph.signals)) classes others is proper p accepted right
  where
    z : ℕ
    z = length c.graph.signals

    accepted : IsAccepted c.graph others
    accepted = extends.inserts.accepted

    has_here : HasNextValues (coded c extends.inserts.copies extends.inserts.graph) z gate
    has_here = subst (λ (v : Current). HasNextValues v.coded z gate) extends.inserts.makes has

    right : (s : ℕ) (b : Bool) → s < c.graph.states → has_copy (class_of others s) b ≡ true
        → own_value gate z (code c s) b ≡ to_one (class_of others s)
    right s b inside there =
        let copies = extends.inserts.copies in
        let h = extends.inserts.graph in
        let insertion = extends.inserts.insertion in
        let x : Copy = record { state = s; value = b } in
        let at = placed c.graph others (new_signal name) copies h x insertion
        (record { within = inside; there = there }) in
        sym (ap (value_of gate z) (code_at c copies h at.0 x at.2)) ∙ has_here at.0 at.1
        ∙ new_value c others (new_signal name) copies h at.0 x is accepted.lawful insertion at.2
