use Rattle.std.proofs.Common.{ℕ, List, flat_map, ap, ◌∙◌, ◌+◌, ◌*◌, ◌^◌}
use Rattle.si_base.specs.declared.graph.Signal.{Signal}
use Rattle.si_from_equations.specs.Beside.{unknown_of}
use Rattle.si_from_equations.proofs.NetlistLemmas.{made_started}
use Rattle.si_from_equations.proofs.started.started.Goals as goal

pub make-requires : goal.make-requires
make-requires c =
    let a = c.args in
    made_started a.given a.values a.netlist.now _ _ _ _ _ c.signals.ensures.netlist c.requires.given c.requires.start
    c.requires.values (c.in_ok-model.ensures ∙ c.bytes.ensures ∙ c.model.ensures)
    (c.in_ok-signals.ensures ∙ c.signals.ensures.signals)
    (c.with_values-start.ensures ∙ ap (λ (s : ℕ). a.values * 2 ^ a.given + s) c.start.ensures)
    (c.in_ok-inserts.ensures ∙ ap (λ (xs : List Signal). flat_map unknown_of xs) c.signals-3.ensures.signals)
    (c.in_ok-gates.ensures ∙ c.gates.ensures)
