use Rattle.std.proofs.Common.{subst, ◌∙◌}
use Rattle.si_base.specs.Codes.{CodedGraph}
use Rattle.si_base.specs.Order.{IsFirst}
use Rattle.si_base.specs.RightGates.{GivesNextValues}
use Rattle.si_audit.specs.Faults.{IsWrong, spot_place}
use Rattle.si_audit.proofs.LastBuilt.{is_built, same_start}
use Rattle.si_finder.proofs.unbuilt.first_difference.Goals as goal

pub returns-in-None : goal.returns-in-None
returns-in-None c =
    let l = c.args.lineage.now in
    let n = c.args.netlist.now in
    let same = c.coded.ensures.same ∙ c.current-current.ensures.same in
    is_built l.given l.current n c.signals-signals.ensures.netlist c.requires.lists c.current-current.ensures.kept
    c.requires.signals c.in_default.ensures
    (subst (λ (d : CodedGraph). GivesNextValues d n) same c.in-None.ensures)

pub returns-in-Some-first_wrong : goal.returns-in-Some-first_wrong
returns-in-Some-first_wrong c =
    let l = c.args.lineage.now in
    let n = c.args.netlist.now in
    let spot = c.in-Some-first_wrong.spot in
    let same = c.coded.ensures.same ∙ c.current-current.ensures.same in (
      same_start l.given l.current n c.signals-signals.ensures.netlist c.requires.lists
          c.current-current.ensures.kept c.requires.signals c.in_default.ensures,
      subst
          (λ (d : CodedGraph). IsFirst spot_place (IsWrong d n) (record { sig = spot.sig; state = spot.state }))
          same c.in-Some-first_wrong.ensures,
    )
