use Rattle.std.proofs.Common.{◌≡◌, ◌++◌, List, ℕ, sym, ap, subst, ◌∙◌}
use Rattle.si_sg.specs.Loops.Reads.{Apart}
use Rattle.si_sg.proofs.SignalLemmas.{apart_front}
use Rattle.si_sg.proofs.signals.declared_names.Goals as goal

pub add_names-requires : goal.add_names-requires
add_names-requires c = subst (λ (l : List (List ℕ)). Apart (l ++ c.args.header.now.inputs))
    (sym c.in_ok-names.ensures) (apart_front c.args.header.now.inputs c.args.header.now.outputs
    (apart_front (c.args.header.now.inputs ++ c.args.header.now.outputs) c.args.header.now.internals
    c.requires.apart))

pub add_names-requires-2 : goal.add_names-requires-2
add_names-requires-2 c =
    let is : c.add_names.new.all ≡ c.args.header.now.inputs =
    c.in_ok-add_names.ensures ∙ ap (λ (l : List (List ℕ)). l ++ c.args.header.now.inputs) c.in_ok-names.ensures in
    subst (λ (l : List (List ℕ)). Apart (l ++ c.args.header.now.outputs)) (sym is)
    (apart_front (c.args.header.now.inputs ++ c.args.header.now.outputs) c.args.header.now.internals c.requires.apart)
