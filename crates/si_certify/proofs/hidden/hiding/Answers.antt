use Rattle.std.proofs.Common.{◌∙◌, ap, sym}
use Rattle.si_base.specs.declared.graph.Signal.{Signal}
use Rattle.si_base.specs.Netlist.{Netlist}
use Rattle.std.proofs.Common.{List, flat_map}
use Rattle.si_certify.specs.Hidden.{hide, unknown_of}
use Rattle.si_certify.proofs.HiddenLemmas.{made_is_netlist}
use Rattle.si_certify.proofs.hidden.hiding.Goals as goal

pub make-requires : goal.make-requires
make-requires c =
    let parts = c.into_parts-model.ensures.parts in
    let signals = c.in_ok-signals.ensures ∙ ap (λ (n : Netlist). hide c.args.given n.signals) (sym parts) in
    let inserts = c.in_ok-inserts.ensures
    ∙ ap (λ (xs : List Signal). flat_map unknown_of xs) c.as_slice.ensures.value in
    rw parts at (made_is_netlist c.args.given c.args.netlist c.in_ok-signals.signals.items
    c.in_ok-inserts.inserts.items c.into_parts-model.ensures.netlist signals inserts)
