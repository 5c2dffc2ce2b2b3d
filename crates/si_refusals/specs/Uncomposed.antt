-- (command) The words of the causes why graphs can't be composed.
use Rattle.std.specs.Prelude.{ℕ, List, [], ◌∷◌, ◌++◌, codes, decimal}
use Rattle.si_refusals.specs.declared.uncomposed.NamedCause.{NamedCause}
use Rattle.si_refusals.specs.declared.uncomposed.NamedCause.TheVariants.{Driven, Private, Signals}
use Rattle.si_refusals.specs.declared.uncomposed.NamedCause.TheVariants.{Starts, States, Interferes}
use Rattle.si_refusals.specs.declared.uncomposed.NamedCause.TheVariants.{Arcs, Constant}

abbrev pub cause_words : NamedCause → List (List ℕ)
cause_words (Driven signal) = codes "driven" ∷ signal ∷ []
cause_words (Private signal) = codes "private" ∷ signal ∷ []
cause_words (Signals count) = codes "signals" ∷ decimal count ∷ []
cause_words (Starts signal) = codes "starts" ∷ signal ∷ []
cause_words States = codes "states" ∷ []
cause_words (Interferes states event walk) = codes "interferes" ∷ (states ++ event ∷ walk)
cause_words Arcs = codes "arcs" ∷ []
cause_words (Constant signal) = codes "constant" ∷ signal ∷ []
