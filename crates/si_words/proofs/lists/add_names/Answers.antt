use Rattle.std.proofs.Common.{◌≡◌, sym, ◌∙◌, None, rules}
use Rattle.std.proofs.lemmas.Result.{err_from_is_err_and}
use Rattle.si_base.specs.declared.fault.LineFault.TheVariants.{NoMemory}
use Rattle.si_words.specs.Names.{name_fault}
use Rattle.si_words.proofs.NameLemmas.{until, some_left}
use Rattle.si_words.proofs.FirstFaultLemmas.{stops, goes, takes, good_more}
use Rattle.si_words.proofs.lists.add_names.Goals as goal

pub returns-in-Some-clause-fault : goal.returns-in-Some-clause-fault
returns-in-Some-clause-fault c = stops (name_fault c.args.limit) _ _ _ _ _ _ c.loop-word-test.true
    c.loop-word.invariant.fault (sym c.in-Some.ensures)

pub loop-word-preserved : goal.loop-word-preserved
loop-word-preserved c =
    let none : c.name_kind.result ≡ None = search rules in
    record {
      fault = goes (name_fault c.args.limit) _ _ _ _ _ _ c.loop-word-test.true c.loop-word.invariant.fault
          (sym c.name_kind.ensures ∙ none) c.in_ok-push.ensures.ok;
      value = takes _ _ _ _ _ _ c.loop-word-test.true c.loop-word.invariant.value c.in_ok-push.ensures.ok;
      good = good_more (name_fault c.args.limit) _ _ _ _ _ c.loop-word-test.true c.loop-word.invariant.good
          c.loop-word.invariant.value (sym c.name_kind.ensures ∙ none);
      few = λ _. c.in_ok-push.ensures.few;
    }

pub returns-in-Some-clause-left : goal.returns-in-Some-clause-left
returns-in-Some-clause-left c = until c.args.limit _ _ _ _ _ _ c.loop-word-test.true c.loop-word.invariant.value
    c.loop-word.invariant.good (sym c.in-Some.ensures)

pub returns-in_err-push-clause-left : goal.returns-in_err-push-clause-left
returns-in_err-push-clause-left c =
    let exit = err_from_is_err_and c.from_residual.result c.from_residual.ensures.1 in
    let at = exit.1 in
    let gives = exit.2 in
    let wants : exit.0 ≡ NoMemory = (let want = c.in_err-push.ensures.err in cc) in
    some_left c.from_residual.result c.args.limit exit.0 _ _ _ at wants (record {
      count = c.loop-word.word-index;
      names_are = c.in_err-push.ensures.kept ∙ c.loop-word.invariant.value;
      good = c.loop-word.invariant.good;
    })
