-- Worked examples of spelled insertions and of a circuit with one.
use Rattle.std.proofs.Common.{◌≡◌, ℕ, List, [], ◌∷◌, refl, codes}
use Rattle.si_base.specs.declared.graph.Signal.{Signal}
use Rattle.si_base.specs.declared.graph.SigKind.{SigKind}
use Rattle.si_base.specs.declared.graph.SigKind.TheVariants.{Input, Inserted}
use Rattle.si_base.specs.Codes.{CodedGraph}
use Rattle.si_base.specs.Netlist.{Insertion}
use Rattle.si_insert.specs.declared.lineage.TraceStep.{TraceStep}
use Rattle.si_insert.specs.declared.partition.Class.{Class}
use Rattle.si_insert.specs.Lineage.{History, given_current}
use Rattle.si_insert.specs.declared.partition.Class.TheVariants.{Low, Rising, High, Falling}
use Rattle.si_circuit.specs.Spelling.{current_word, insertions_from, given_descents}

abbrev step : List ℕ → List Class → TraceStep
step name classes = record { name = name; partition = classes }

abbrev spelled : List ℕ → List ℕ → List ℕ → Insertion
spelled name up down = record { name = name; up = up ∷ []; down = down ∷ [] }

-- two states p and q: x rises at p and falls at q, so that there are p and q at 0 and at 1; of these y rises at the
-- second p and falls at the first q; and z rises and falls where y has two values
abbrev trace : List TraceStep
trace = step (codes "x") (Rising ∷ Falling ∷ [])
    ∷ step (codes "y") (Low ∷ Rising ∷ Falling ∷ High ∷ [])
    ∷ step (codes "z") (Low ∷ Rising ∷ High ∷ High ∷ Falling ∷ Low ∷ [])
    ∷ []

three_spelled : insertions_from (codes "p" ∷ codes "q" ∷ []) 0 (given_descents 2) trace
    ≡ spelled (codes "x") (codes "p") (codes "q")
    ∷ spelled (codes "y") (codes "p@1") (codes "q@0")
    ∷ spelled (codes "z") (codes "p@10") (codes "q@01")
    ∷ []
three_spelled = refl

-- the states p and q with the signal a, and what x makes of them: p where x is 0 and where it is 1, q where it is 1 and
-- where it is 0
abbrev signal : List ℕ → SigKind → Signal
signal name kind = record { name = name; kind = kind }

abbrev given : CodedGraph
given = record {
  graph = record { signals = signal (codes "a") Input ∷ []; states = 2; edges = []; start = 0 };
  codes = 0 ∷ 1 ∷ [];
}

abbrev lineage : History
lineage = record {
  given = given;
  trace = step (codes "x") (Rising ∷ Falling ∷ []) ∷ [];
  current = record {
    coded = record {
      graph = record {
        signals = signal (codes "a") Input ∷ signal (codes "x") Inserted ∷ [];
        states = 4;
        edges = [];
        start = 0;
      };
      codes = 0 ∷ 2 ∷ 3 ∷ 1 ∷ [];
    };
    origins = 0 ∷ 0 ∷ 1 ∷ 1 ∷ [];
  };
}

abbrev words : ℕ → List ℕ
words s = current_word (codes "p" ∷ codes "q" ∷ []) lineage s

current_words : (words 0 ≡ codes "p@0") × (words 1 ≡ codes "p@1") × (words 2 ≡ codes "q@1") × (words 3 ≡ codes "q@0")
unfolding current_word
current_words = (refl, refl, refl, refl)

-- where nothing is inserted the word is the name
given_word : current_word (codes "p" ∷ codes "q" ∷ [])
    (record { given = given; trace = []; current = given_current given })
    1
    ≡ codes "q"
unfolding current_word
given_word = refl
