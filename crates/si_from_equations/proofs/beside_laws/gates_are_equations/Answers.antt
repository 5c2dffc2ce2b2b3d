use Rattle.si_from_equations.proofs.GateLemmas as lemmas
use Rattle.si_from_equations.proofs.beside_laws.gates_are_equations.Goals as goal

pub returns : goal.returns
returns c = lemmas.gates_are_equations
