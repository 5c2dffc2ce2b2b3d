use Rattle.std.proofs.Common.{refl}
use Rattle.si_insert.specs.declared.lineage.TraceStep.{TraceStep}
use Rattle.si_suggest.proofs.OfferLemmas.{named_next}
use Rattle.si_suggest.proofs.offers.with_step.Goals as goal

pub returns-in-Ok : goal.returns-in-Ok
returns-in-Ok c =
    let step : TraceStep = record { name = c.in_ok-name.name; partition = c.in-Some.accepted } in
    named_next c.args.lineage step c.in-Ok.next c.in-Ok.ensures.line (c.in_ok-name.ensures.signal_name refl) c.requires
