-- What is known of the parts before they are composed.
use Rattle.std.specs.Prelude.{ℕ, List, [], ◌∷◌, map}
use Rattle.si_base.specs.GivenGraph.{Sg}
use Rattle.si_composing.specs.declared.compose.Uncomposed.{Uncomposed}
use Rattle.si_composing.specs.declared.compose.Uncomposed.TheVariants as cause
use Rattle.si_sg.specs.GivenGraph.{IsGivenBy, sg_now}
use Rattle.si_sg.specs.declared.read.Sg.{Sg as SgRead}
use Rattle.si_systems.specs.Names.{IsTupleOf}

abbrev pub sgs_now : List SgRead → List Sg
sgs_now given = map sg_now given

-- each is the graph that some text gives
abbrev pub AreGiven : List Sg → Type 0
AreGiven [] = Unit {0}
AreGiven (g ∷ gs) = ((text : List ℕ) × IsGivenBy text g) × AreGiven gs

-- each is a tuple of states of the graphs
abbrev pub AreTuplesOf : List Sg → List (List ℕ) → Type 0
AreTuplesOf given [] = Unit {0}
AreTuplesOf given (xs ∷ tuples) = IsTupleOf given xs × AreTuplesOf given tuples

-- where the cause shows a tuple, it is one
abbrev pub ShowsTupleOf : List Sg → Uncomposed → Type 0
ShowsTupleOf given cause.NoMemory = Unit {0}
ShowsTupleOf given (cause.Signal clash name) = Unit {0}
ShowsTupleOf given (cause.TooMany count) = Unit {0}
ShowsTupleOf given cause.States = Unit {0}
ShowsTupleOf given (cause.Interferes at name up) = IsTupleOf given at
ShowsTupleOf given cause.Arcs = Unit {0}
ShowsTupleOf given (cause.Constant name) = Unit {0}
