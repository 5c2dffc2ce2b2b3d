-- (command) The insertions of the parts, one after another, as insertions of the composed graph.
use Rattle.std.specs.Prelude.{◌≡◌, ℕ, ◌+◌, Bool, List, [], ◌∷◌, zip, length, Ok, Err}
use Rattle.si_base.specs.Graph.{StateGraph}
use Rattle.si_base.specs.GivenGraph.{Sg}
use Rattle.si_base.specs.Netlist.{Insertion, Netlist}
use Rattle.si_base.specs.Sets.{IsDisjoint, IsIn}
use Rattle.si_base.specs.declared.graph.Signal.{Signal}
use Rattle.si_candidates.specs.Parts.{AreClasses, HaveNoClasses}
use Rattle.si_circuit.specs.Spelling.{current_word}
use Rattle.si_insert.specs.Accepted.{IsAccepted, ShowsRejected, copy_count}
use Rattle.si_insert.specs.Lineage.{Extends, History}
use Rattle.si_insert.specs.declared.accept.Rejected.{Rejected}
use Rattle.si_insert.specs.declared.accept.Rejected.TheVariants as why
use Rattle.si_insert.specs.declared.lineage.TraceStep.{TraceStep}
use Rattle.si_insert.specs.declared.partition.Class.{Class}
use Rattle.si_joins.specs.Lifted.{IsNamedAmong, PartView, lifted_set, names_in_part}
use Rattle.si_refusals.specs.Refusal.{TextRefusal}
use Rattle.si_refusals.specs.Refusal as answer
use Rattle.si_refusals.specs.Stages.{Stage, ◌>>=◌, gives, shows}
use Rattle.si_refusals.specs.declared.rejection.NamedRejection.TheVariants as reason
use Rattle.si_sg.specs.CanonicalText.{event_word}

-- ---- one insertion, by the sets of states at which its signal rises and falls
-- the name of the new signal, which is `own` in its part
abbrev pub named : List Signal → (own : List ℕ) → Stage TextRefusal (List ℕ)
named signals own = shows (IsNamedAmong signals own)

abbrev pub HasSome : List Bool → Type 0
HasSome set = (s : ℕ) × IsIn set s

-- the new signal rises somewhere, and falls somewhere
abbrev pub used : (own : List ℕ) → (plus minus : List Bool) → Stage TextRefusal (Unit {0})
used own plus minus (Ok _) = HasSome plus × HasSome minus
used own plus minus (Err refusal) =
    (HasSome plus × HasSome minus → ⊥) × (refusal ≡ answer.Unused own)

-- no state is in both sets of insertion number k
abbrev pub apart : (k : ℕ) → (plus minus : List Bool) → Stage TextRefusal (Unit {0})
apart k plus minus (Ok _) = IsDisjoint plus minus
apart k plus minus (Err refusal) =
    (IsDisjoint plus minus → ⊥) × (refusal ≡ answer.Rejected (reason.States k))

-- the classes of all states that the two sets make
abbrev pub parted : StateGraph → (k : ℕ) → (plus minus : List Bool)
    → Stage TextRefusal (List Class)
parted g k plus minus (Ok classes) = AreClasses g plus minus classes
parted g k plus minus (Err refusal) =
    HaveNoClasses g plus minus × (refusal ≡ answer.Rejected (reason.Classes k))

-- what is told where the classes aren't accepted for the current graph
abbrev pub told : (states : List (List ℕ)) → History → (k : ℕ) → (own : List ℕ) → List Class
    → Rejected → TextRefusal
told states l k own classes (why.DelaysInput s e) = answer.Rejected
    (reason.Delays k (current_word states l s) (event_word l.current.coded.graph.signals e))
told states l k own classes (why.BreaksPersistency s lost by) = answer.Rejected
    (reason.Breaks k (current_word states l s) (event_word l.current.coded.graph.signals lost)
    (event_word l.current.coded.graph.signals by))
told states l k own classes (why.TooLarge count) = answer.JoinedTooLarge own count
told states l k own classes why.NoCodeBit = answer.JoinedTooLarge own (copy_count classes)

-- the classes are accepted for the current graph: else the first reason against them
abbrev pub accepted : (states : List (List ℕ)) → History → (k : ℕ) → (own : List ℕ) → List Class
    → Stage TextRefusal (Unit {0})
accepted states l k own classes (Ok _) = IsAccepted l.current.coded.graph classes
accepted states l k own classes (Err refusal) =
    (first : Rejected) × ShowsRejected l.current.coded.graph classes first
    × (refusal ≡ told states l k own classes first)

-- the lineage with one insertion more
abbrev pub extended : History → TraceStep → Stage TextRefusal History
extended l step = shows (Extends l step)

-- the classes of the sets become an insertion of that name
abbrev pub with_sets : (states : List (List ℕ)) → History → (own name : List ℕ)
    → (plus minus : List Bool) → Stage TextRefusal History
with_sets states l own name plus minus = do
  classes ← parted l.current.coded.graph (length l.trace + 1) plus minus
  _ ← accepted states l (length l.trace + 1) own classes
  extended l (record { name = name; partition = classes })

-- the insertion whose signal is `own` in its part
abbrev pub with_insertion : (states : List (List ℕ)) → History → (own : List ℕ)
    → (plus minus : List Bool) → Stage TextRefusal History
with_insertion states l own plus minus = do
  name ← named l.current.coded.graph.signals own
  _ ← used own plus minus
  _ ← apart (length l.trace + 1) plus minus
  with_sets states l own name plus minus

-- the insertion that a line of the part's netlist names: its signal rises and falls where the part
-- says so
abbrev pub with_line : (states : List (List ℕ)) → PartView → History → Insertion
    → Stage TextRefusal History
with_line states view l line =
    with_insertion states l line.name (lifted_set view l line.up) (lifted_set view l line.down)

-- ---- all insertions
-- steps that each make something new of a value, one after another
abbrev pub along : {R A X : Type 0} → (A → X → Stage R A) → A → List X → Stage R A
along step a [] = gives a
along step a (x ∷ xs) = do
  b ← step a x
  along step b xs

-- each with its place, from i on
abbrev pub numbered : {X : Type 0} → (i : ℕ) → List X → List (ℕ × X)
numbered i [] = []
numbered i (x ∷ xs) = (i, x) ∷ numbered (i + 1) xs

-- part i begins where the parts before it end
abbrev pub view_of : (tuples : List (List ℕ)) → History → (i : ℕ) → Sg → PartView
view_of tuples l i given =
    record { names = names_in_part given.states i tuples; before = length l.trace }

-- all insertions of a part, in the order of its netlist
abbrev pub with_part : (states tuples : List (List ℕ)) → History → ℕ × (Sg × Netlist)
    → Stage TextRefusal History
with_part states tuples l p =
    along (with_line states (view_of tuples l p.0 p.1.0)) l p.1.1.inserts

-- all insertions of all parts, part after part; the composed graph has these states, each of which
-- is a tuple of states of the parts
abbrev pub with_parts : (states tuples : List (List ℕ)) → History → List Sg → List Netlist
    → Stage TextRefusal History
with_parts states tuples l given netlists =
    along (with_part states tuples) l (numbered 0 (zip given netlists))
