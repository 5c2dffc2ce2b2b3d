-- The weight that an insertion leaves is one, whatever the new signal is called.
use Rattle.std.proofs.Common.{◌≡◌, ℕ, zero, suc, ◌+◌, ◌&&◌, ◌||◌, not, Bool, List, [], ◌∷◌, ◌++◌, length}
use Rattle.std.proofs.Common.{map, is_none, if◌then◌else◌, refl, sym, ap, ap₂, subst, ◌∙◌, length-append}
use Rattle.std.specs.List.{list_all, enumerate_from}
use mathlib.Core.Bool.{beq}
use Rattle.si_base.specs.Bits.{bit, flip, ones}
use Rattle.si_base.specs.Netlist.{sum_value}
use Rattle.si_base.specs.declared.ids.Event.{Event}
use Rattle.si_base.specs.declared.graph.Signal.{Signal}
use Rattle.si_base.specs.declared.graph.SigKind.TheVariants.{Inserted}
use Rattle.si_base.specs.Graph.{StateGraph, Step, enables, rise, fall, is_driven}
use Rattle.si_base.specs.Codes.{CodedGraph, code, next_value}
use Rattle.si_base.proofs.GraphSteps.{enables-step, step_from_enables}
use Rattle.si_base.proofs.Booleans.{same_if}
use Rattle.si_cell.specs.Library.{Library, Instance, cell_at, pin_values}
use Rattle.si_insert.specs.declared.partition.Class.{Class}
use Rattle.si_insert.specs.Insertion.{Copy, IsInsertedGraph, coded, copy_code}
use Rattle.si_insert.proofs.OneInsertion.{same_copies}
use Rattle.si_match.specs.Fit.{first_fit, first_that, instances}
use Rattle.si_match.specs.Support.{agree, determines, support_by_drops, support_of}
use Rattle.si_match.specs.Weight.{size_from, size_of_support, weight_from, weight_of}
use Rattle.si_map.specs.Best.{LeavesWeight}

-- ---- graphs that differ in the names of signals alone
record AreAlike (c d : CodedGraph) : Type 0 where
  codes : c.codes ≡ d.codes
  count : length c.graph.signals ≡ length d.graph.signals
  enabled : (s : ℕ) (e : Event) → enables c.graph s e ≡ enables d.graph s e

module _ (c d : CodedGraph) (alike : AreAlike c d) where
  next : (s z : ℕ) → next_value c s z ≡ next_value d s z
  next s z = λ i. alike.enabled s (rise z) i
      || (bit (code (record { graph = c.graph; codes = alike.codes i }) s) z && not (alike.enabled s (fall z) i))

  fitted : (library : Library) (z : ℕ) → first_fit c library z ≡ first_fit d library z
  unfolding first_fit
  fitted library z = λ i. first_that (λ (j : Instance). list_all (λ (s : ℕ × ℕ). beq
      (sum_value (pin_values j.literals s.1 (bit s.1 z)) (cell_at library j.cell).sum) (next s.0 z i))
      (enumerate_from 0 (alike.codes i))) (instances (alike.count i) library)

  determined : (z signals : ℕ) → determines c z signals ≡ determines d z signals
  determined z signals = λ i. list_all (λ (s : ℕ × ℕ). list_all (λ (t : ℕ × ℕ). not (agree signals s.1 t.1)
      || beq (next s.0 z i) (next t.0 z i)) (enumerate_from 0 (alike.codes i))) (enumerate_from 0 (alike.codes i))

  abbrev kept : ℕ → ℕ → Bool → ℕ
  kept i signals needless = if needless then flip signals i else signals

  dropped : (z count i signals : ℕ) → support_by_drops c z count i signals ≡ support_by_drops d z count i signals
  dropped z zero i signals = refl
  dropped z (suc count) i signals =
      ap (λ b. support_by_drops c z count (i + 1) (kept i signals b)) (determined z (flip signals i))
      ∙ dropped z count (i + 1) (kept i signals (determines d z (flip signals i)))

  supported : (z : ℕ) → support_of c z ≡ support_of d z
  unfolding support_of
  supported z = (λ i. support_by_drops c z (alike.count i) 0 (ones (alike.count i)))
      ∙ dropped z (length d.graph.signals) 0 (ones (length d.graph.signals))

  sized : (z : ℕ) → size_of_support c z ≡ size_of_support d z
  sized z = λ i. size_from (alike.count i) 0 (supported z i)

  -- what a signal adds, of kinds that are the same
  added : (library : Library) (z : ℕ) (a b : Bool) → a ≡ b
      → (if a && is_none (first_fit c library z) then 1 + size_of_support c z else 0)
      ≡ (if b && is_none (first_fit d library z) then 1 + size_of_support d z else 0)
  added library z a b same = λ i. if same i && is_none (fitted library z i) then 1 + sized z i else 0

  weights : (library : Library) (x y : Signal) → x.kind ≡ y.kind → (xs : List Signal) (i : ℕ)
      → weight_from c library i (xs ++ x ∷ []) ≡ weight_from d library i (xs ++ y ∷ [])
  weights library x y same [] i =
      ap (λ n. n + 0) (added library i (is_driven x.kind) (is_driven y.kind) (ap is_driven same))
  weights library x y same (z ∷ xs) i =
      ap₂ (λ m n. m + n) (added library i (is_driven z.kind) (is_driven z.kind) refl)
      (weights library x y same xs (i + 1))

same_weight : (c d : CodedGraph) (library : Library) (xs : List Signal) (x y : Signal)
    → c.graph.signals ≡ xs ++ x ∷ [] → d.graph.signals ≡ xs ++ y ∷ [] → x.kind ≡ y.kind → AreAlike c d
    → weight_of c library ≡ weight_of d library
unfolding weight_of
same_weight c d library xs x y c_is d_is kinds alike =
    ap (weight_from c library 0) c_is ∙ weights c d alike library x y kinds xs 0
    ∙ sym (ap (weight_from d library 0) d_is)

-- ---- insertions by one partition
renamed : (g : StateGraph) (classes : List Class) (new other : Signal) (copies : List Copy) (h : StateGraph)
    → other.kind ≡ Inserted → IsInsertedGraph g classes new copies h
    → IsInsertedGraph g classes other copies
    (record { signals = g.signals ++ other ∷ []; states = h.states; edges = h.edges; start = h.start })
renamed g classes new other copies h kind a = record {
  signals = refl;
  kind = kind;
  in_order = a.in_order;
  exactly = a.exactly;
  count = a.count;
  starts = a.starts;
  arcs = a.arcs;
}

same_enabled : (h k : StateGraph) → ((s : ℕ) (e : Event) (t : ℕ) → Step h s e t → Step k s e t)
    → ((s : ℕ) (e : Event) (t : ℕ) → Step k s e t → Step h s e t) → (s : ℕ) (e : Event)
    → enables h s e ≡ enables k s e
same_enabled h k there back s e = same_if (enables h s e) (enables k s e)
    (λ on. (let t = step_from_enables h s e on in enables-step k s e t.0 (there s e t.0 t.1)))
    (λ on. (let t = step_from_enables k s e on in enables-step h s e t.0 (back s e t.0 t.1)))

one_more : (xs all : List Signal) (x : Signal) → all ≡ xs ++ x ∷ [] → length all ≡ length xs + 1
one_more xs all x is = ap (length {A = Signal}) is ∙ length-append xs (x ∷ [])

-- a partition leaves one weight
pub weight_is_one : (c : CodedGraph) (library : Library) (classes : List Class) (n m : ℕ)
    → LeavesWeight c library classes n → LeavesWeight c library classes m → n ≡ m
weight_is_one c library classes n m a b =
    sym a.weighs
    ∙ same_weight (coded c a.copies a.graph) (coded c b.copies b.graph) library c.graph.signals a.new b.new
    a.insertion.signals b.insertion.signals (a.insertion.kind ∙ sym b.insertion.kind) alike
    ∙ b.weighs
  where
    copies : a.copies ≡ b.copies
    copies = same_copies c.graph classes b.new a.copies b.copies _ b.graph
        (renamed c.graph classes a.new b.new a.copies a.graph b.insertion.kind a.insertion) b.insertion

    other : IsInsertedGraph c.graph classes b.new a.copies b.graph
    other = subst (λ xs. IsInsertedGraph c.graph classes b.new xs b.graph) (sym copies) b.insertion

    alike : AreAlike (coded c a.copies a.graph) (coded c b.copies b.graph)
    alike = record {
      codes = ap (map (copy_code c)) copies;
      count = one_more c.graph.signals a.graph.signals a.new a.insertion.signals
          ∙ sym (one_more c.graph.signals b.graph.signals b.new b.insertion.signals);
      enabled = same_enabled a.graph b.graph
          (λ s e t there. (other.arcs s e t).1 ((a.insertion.arcs s e t).0 there))
          (λ s e t there. (a.insertion.arcs s e t).1 ((other.arcs s e t).0 there));
    }
