use Rattle.std.proofs.Common.{◌≡◌, ◌<◌, sym, ◌∙◌, ap, None, rules, subst, arith, length, [], All}
use Rattle.std.proofs.lemmas.List.{length_push}
use Rattle.std.proofs.lemmas.List.Elements.{All-push}
use Rattle.si_words.proofs.FirstFaultLemmas.{stops, goes, takes}
use Rattle.si_cell.specs.CellWords.{pin_fault}
use Rattle.si_cell.specs.Library.{IsPinName}
use Rattle.si_cell.proofs.CellLemmas.{good_pin, no_own}
use Rattle.si_cell.proofs.cell_reader.declared_names.Goals as goal

pub returns-in-Some-clause-fault : goal.returns-in-Some-clause-fault
returns-in-Some-clause-fault c = stops pin_fault _ _ _ _ _ _ c.loop-pin-test.true c.loop-pin.invariant.fault
    (sym c.in-Some.ensures)

pub loop-pin-preserved : goal.loop-pin-preserved
loop-pin-preserved c =
    let none : c.pin_kind.result ≡ None = search rules in
    let good = good_pin _ _ (sym c.pin_kind.ensures ∙ none) in
    let few : length c.loop-pin.names < 4 = good.2 in
    let count = ap length c.in_ok-push.ensures.ok ∙ length_push c.loop-pin.names _ in
    record {
      fault = goes pin_fault _ _ _ _ _ _ c.loop-pin-test.true c.loop-pin.invariant.fault (sym c.pin_kind.ensures
          ∙ none) c.in_ok-push.ensures.ok;
      value = takes [] _ _ _ _ _ c.loop-pin-test.true c.loop-pin.invariant.value c.in_ok-push.ensures.ok;
      good = subst (All IsPinName) (sym c.in_ok-push.ensures.ok)
          (All-push IsPinName c.loop-pin.names _ c.loop-pin.invariant.good good.0);
      few = omega (arith, count, few);
    }

pub push-requires-2-clause-new : goal.push-requires-2-clause-new
push-requires-2-clause-new c = no_own c.loop-pin.names c.loop-pin.invariant.good
