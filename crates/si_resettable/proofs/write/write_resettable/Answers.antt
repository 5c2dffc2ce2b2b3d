use Rattle.std.proofs.Common.{List, ℕ, subst}
use Rattle.si_resettable.specs.Refusals.{HasRoomFor}
use Rattle.si_resettable.proofs.ModuleLemmas.{text_means}
use Rattle.si_resettable.proofs.WritingLemmas.{text_by_forced}
use Rattle.si_resettable.proofs.write.write_resettable.Goals as goal

pub returns-clause-room : goal.returns-clause-room
returns-clause-room c =
    subst (HasRoomFor c.args.netlist.now) c.in_ok-forcing.ensures.named c.in_ok-forcing.ensures.is.room

pub returns-clause-text : goal.returns-clause-text
returns-clause-text c =
    text_by_forced c.args.netlist.now c.args.reset.now _ _ _ c.in_ok-forcing.ensures.is.are
    c.forced.ensures.same c.in_ok-text.ensures.text

pub returns-clause-means : goal.returns-clause-means
returns-clause-means c =
    text_means c.args.netlist.now c.args.reset.now _ c.text_of.ensures.netlist
    (subst (HasRoomFor c.args.netlist.now) c.in_ok-forcing.ensures.named c.in_ok-forcing.ensures.is.room)
    (text_by_forced c.args.netlist.now c.args.reset.now _ _ _ c.in_ok-forcing.ensures.is.are
    c.forced.ensures.same c.in_ok-text.ensures.text)
