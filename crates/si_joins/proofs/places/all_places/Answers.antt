use Rattle.std.proofs.Common.{◌≡◌, ◌+◌, List, ℕ, ◌∷◌, [], ◌++◌, ◌∙◌, ap, arith, length, map, vec_items, Global, drop}
use Rattle.std.proofs.lemmas.List.{map-append}
use Rattle.si_base.specs.Netlist.{Insertion}
use Rattle.si_joins.specs.Gates.{all_places, places}
use Rattle.si_joins.proofs.NetlistFacts.{few_inserts}
use Rattle.si_joins.proofs.PlaceLemmas.{part_places}
use Rattle.si_joins.proofs.places.all_places.Goals as goal

pub loop-part-preserved : goal.loop-part-preserved
loop-part-preserved c =
    let whole = c.args.whole.now in
    let old = c.loop-part.tos.items in
    let n = c.part-item.result in
    let to = c.in_ok-places.field-0 in
    let few = few_inserts n c.signals.ensures.netlist in
    let counted = ap (length {A = Insertion}) c.inserts.ensures in
    let low = c.loop-part.invariant.1 in
    let own : to.items ≡ places whole c.loop-part.next n.signals =
    c.in_ok-places.ensures ∙ ap (places whole c.loop-part.next) c.signals.ensures.signals in
    let rest : ℕ → List (List ℕ) =
    λ k. all_places whole (c.loop-part.next + k) (drop (c.loop-part.part-index + 1) c.args.parts.now) in
    let made : map (vec_items {X = ℕ} {Z = Global}) c.push.new.self.items ≡ map vec_items old ++ to.items ∷ [] =
    ap (map vec_items) c.in_ok-push.ensures.items ∙ map-append vec_items old (to ∷ []) in (
      ap (λ (ts : List (List ℕ)). ts ++ rest (length c.inserts.result.now)) made
          ∙ ap (λ (k : ℕ). (map vec_items old ++ to.items ∷ []) ++ rest k) counted
          ∙ part_places whole c.args.parts.now (all_places whole c.args.first c.args.parts.now) (map vec_items old)
          c.loop-part.next c.loop-part.part-index n to.items c.loop-part.invariant.0 c.loop-part-test.true
          c.part-item.is own,
      omega (arith, few, counted, low),
    )
