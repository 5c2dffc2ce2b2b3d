use Rattle.std.proofs.Common.{◌≡◌, sym, ◌∙◌}
use Rattle.std.proofs.lemmas.Bool.{true≢false}
use Rattle.si_audit.proofs.StateWords.{HasStateNames}
use Rattle.si_audit.proofs.NamedSetWords.{none_if_met}
use Rattle.si_audit.proofs.named.named_sets.Goals as goal

pub returns-else-are_disjoint : goal.returns-else-are_disjoint
returns-else-are_disjoint c =
    let states = c.args.states.now in
    let l = c.args.lineage.now in
    let i = c.args.insert.now in
    let spelled : HasStateNames states l =
    record { lineage = c.trace-trace.ensures.made; count = c.requires; apart = c.len-count.ensures.distinct } in
    let ups : c.insert.inside.up ≡ i.up = cc in
    let downs : c.insert.inside.down ≡ i.down = cc in
    let up = rw c.in-Some.is at c.in_ok-up.ensures in
    let down = rw c.in-Some-2.is at c.in_ok-down.ensures in
    none_if_met states l i c.insert.inside.up c.insert.inside.down c.in-Some.up c.in-Some-2.down spelled ups downs up
    down
    (λ apart. true≢false (sym (c.are_disjoint.ensures.1 apart) ∙ c.if-are_disjoint.false))
