-- The losses that diamonds show.
use Rattle.std.proofs.Common.{◌≡◌, ◌≢◌, ℕ, Bool, true, false, List}
use Rattle.si_base.specs.declared.ids.Event.{Event}
use Rattle.si_base.specs.Graph.{StateGraph}
use Rattle.si_base.specs.Proper.{Loss}
use Rattle.si_insert.specs.declared.partition.Class.{Class}
use Rattle.si_insert.specs.Partition.{class_of, may_lead}
use Rattle.si_insert.specs.Insertion.{waits, has_copy}
use Rattle.si_insert.specs.Diamond.{Diamond}
use Rattle.si_insert.specs.Loops.Tests.{WaitsAfter}
use Rattle.si_insert.proofs.PairWaiting.{waiting, waits_if, goes_into}

-- after the one event the other waits, where that leads out of the class and didn't wait before
pub lost_after : (g : StateGraph) (classes : List Class) (b : Bool) (s : ℕ) (lost by : Event) (t u w : ℕ)
    → Diamond g s lost by t u w → may_lead (class_of classes s) (class_of classes u) ≡ true
    → class_of classes u ≡ waiting b → class_of classes w ≢ waiting b
    → waits (class_of classes s) (class_of classes t) b ≡ false
    → WaitsAfter g classes (record { s = s; lost = lost; by = by })
lost_after g classes b s lost by t u w d lawful in_u out_w goes = record {
  non_input = d.non_input;
  apart = d.apart;
  value = b;
  has = at.0;
  t = t;
  first = d.first;
  first_goes = goes;
  u = u;
  other = d.other;
  other_goes = at.1;
  w = w;
  next = d.next;
  late = waits_if (class_of classes u) (class_of classes w) b in_u out_w;
}
  where
    at : (has_copy (class_of classes s) b ≡ true) × (waits (class_of classes s) (class_of classes u) b ≡ false)
    at = goes_into (class_of classes s) (class_of classes u) b lawful in_u

pub diamond_of : (g : StateGraph) (classes : List Class) (l : Loss) (x : WaitsAfter g classes l)
    → Diamond g l.s l.lost l.by x.t x.u x.w
diamond_of g classes l x = record {
  non_input = x.non_input;
  apart = x.apart;
  first = x.first;
  other = x.other;
  next = x.next;
}
