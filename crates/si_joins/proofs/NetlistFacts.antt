-- How many insertions a netlist has.
use Rattle.std.proofs.Common.{◌≡◌, ◌∙◌, ◌≤◌, ℕ, List, filter, length, sym, ap, arith}
use Rattle.std.proofs.lemmas.List.{length-map}
use Rattle.si_base.specs.declared.graph.Signal.{Signal}
use Rattle.si_base.specs.declared.graph.SigKind.TheVariants.{Inserted}
use Rattle.si_base.specs.Limits.{max_signals}
use Rattle.si_base.specs.Netlist.{Insertion, Netlist}
use Rattle.si_base.specs.NetlistText.{same_kind}
use Rattle.si_base.specs.WellFormed.{IsNetlist}
use Rattle.si_works.proofs.ShownLemmas.{few_filtered}

pub few_inserts : (n : Netlist) → IsNetlist n → length n.inserts ≤ max_signals
few_inserts n is =
    let kept = filter (λ (x : Signal). same_kind Inserted x.kind) n.signals in
    let same : length n.inserts ≡ length kept =
    sym (length-map n.inserts (λ (i : Insertion). i.name)) ∙ ap (length {A = List ℕ}) is.insert_names
    ∙ length-map kept (λ (x : Signal). x.name) in
    let few = few_filtered (λ (x : Signal). same_kind Inserted x.kind) n.signals in
    omega (arith, same, few, is.few)
