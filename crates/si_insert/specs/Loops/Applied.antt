-- What `apply` answers: the inserted graph, with the codes of its copies.
use Rattle.std.specs.Prelude.{◌≡◌, ℕ, List, map}
use Rattle.si_base.specs.Codes.{CodedGraph, IsCoded}
use Rattle.si_base.specs.Proper.{IsProper}
use Rattle.si_insert.specs.declared.partition.Class.{Class}
use Rattle.si_insert.specs.Insertion.{IsInsertedGraph, copy_code, new_signal}
use Rattle.si_insert.specs.GraphOfCopies.{copies_of}

-- h is the inserted graph for the new signal of that name; its states are the copies in order, with
-- their codes
pub record IsApplied (c : CodedGraph) (classes : List Class) (name : List ℕ) (h : CodedGraph)
    : Type 0 where
  pub insertion : IsInsertedGraph c.graph classes (new_signal name) (copies_of classes) h.graph
  pub codes : h.codes ≡ map (copy_code c) (copies_of classes)
  pub coded : IsCoded h
  pub proper : IsProper h.graph
