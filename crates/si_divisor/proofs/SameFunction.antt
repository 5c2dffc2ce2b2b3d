-- Instances that compute one function.
use Rattle.std.proofs.Common.{◌≡◌, ℕ, not, Bool, true, List, Option, None, Some, sym, ap, ◌∙◌, eqb-true}
use Rattle.std.proofs.lemmas.Bool.{and_parts}
use Rattle.std.proofs.lemmas.Map.Text.{is_eq-slice_cmp}
use Rattle.std.proofs.lemmas.Slice.Eq.{bytes_eq-Decides}
use Rattle.std.specs.Cmp.{unsigned_ties}
use Rattle.std.specs.Cmp.Lexicographic.{slice_cmp}
use Rattle.std.specs.Ordering.{nat_cmp, is_eq}
use mathlib.Core.Bool.{beq}
use Rattle.si_base.specs.Codes.{CodedGraph, code}
use Rattle.si_base.specs.Graph.{IsGraph}
use Rattle.si_graph.proofs.ArcFacts.{is_eq-then}
use Rattle.si_cell.specs.Library.{Library, Instance, instance_value}
use Rattle.si_insert.specs.declared.partition.Class.{Class}
use Rattle.si_divisor.specs.declared.function.Function.{Function}
use Rattle.si_divisor.specs.Functions.{Computes, IsFunction, function_cmp, function_value}
use Rattle.si_divisor.specs.Laws.{FunctionsDecide}
use Rattle.si_divisor.specs.PartitionFor.{Answers}
use Rattle.si_divisor.specs.Targets.{forced_by}
use Rattle.si_divisor.proofs.SameForced.{ForceAlike, partitions_alike}

-- ---- they have the same values, and so the same partition
pub same_values : (library : Library) (i k : Instance) (f : Function) → IsFunction library i f → IsFunction library k f
    → (c : ℕ) (q : Bool) → instance_value library i c q ≡ instance_value library k c q
same_values library i k f a b c q = sym (a.table.value c q) ∙ b.table.value c q

pub functions_decide : FunctionsDecide
functions_decide library c i k f classes graph a b =
    partitions_alike c.graph (forced_by (instance_value library i) c) (forced_by (instance_value library k) c) classes
    graph alike
  where
    alike : ForceAlike c.graph (forced_by (instance_value library i) c) (forced_by (instance_value library k) c)
    alike v s within = ap (λ b. beq b v) (same_values library i k f a b (code c s) (not v))

-- ---- functions of one place in the order are equal
pub same_function : (f g : Function) → is_eq (function_cmp f g) ≡ true → f ≡ g
same_function f g level = λ i. record { signals = record { items = signals i }; table = table i }
  where
    parts : (is_eq (slice_cmp nat_cmp f.signals.items g.signals.items) ≡ true)
        × (is_eq (nat_cmp f.table g.table) ≡ true)
    parts = and_parts (is_eq (slice_cmp nat_cmp f.signals.items g.signals.items)) (is_eq (nat_cmp f.table g.table))
        (sym (is_eq-then (slice_cmp nat_cmp f.signals.items g.signals.items) (nat_cmp f.table g.table)) ∙ level)

    signals : f.signals.items ≡ g.signals.items
    signals = (bytes_eq-Decides f.signals.items g.signals.items).0
        (sym (is_eq-slice_cmp f.signals.items g.signals.items) ∙ parts.0)

    table : f.table ≡ g.table
    table = eqb-true f.table g.table (unsigned_ties f.table g.table ∙ parts.1)

value_alike : (c : CodedGraph) (f : Function) (value : ℕ → Bool → Bool) → Computes f value
    → ForceAlike c.graph (forced_by (function_value f) c) (forced_by value c)
value_alike c f value same v s within = ap (λ b. beq b v) (same (code c s) (not v))

-- the answer for a function is that for each value that it computes
pub answers_alike : (c : CodedGraph) (f : Function) (value : ℕ → Bool → Bool) (found : Option (List Class))
    → IsGraph c.graph → Computes f value → Answers c (function_value f) found → Answers c value found
answers_alike c f value None graph same none =
    λ classes p. none classes (partitions_alike c.graph (forced_by value c) (forced_by (function_value f) c)
    classes graph (λ v s within. sym (value_alike c f value same v s within)) p)
answers_alike c f value (Some classes) graph same (p, lawful) = (
  partitions_alike c.graph (forced_by (function_value f) c) (forced_by value c) classes graph
      (value_alike c f value same) p,
  lawful,
)
