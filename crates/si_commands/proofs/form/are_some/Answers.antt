use Rattle.std.proofs.Common.{arith, []}
use Rattle.si_commands.proofs.form.are_some.Goals as goal
use Rattle.si_commands.proofs.form.are_some.Goals.{in-Some+then-eq, in-Some+else-eq, in_default}
use Rattle.si_commands.proofs.TailLemmas.{all_options_passed, next_skipped, next_taken, no_word_left}

pub loop-option-preserved : goal.loop-option-preserved
loop-option-preserved c =
    let options = c.args.options.now in
    let words = c.args.words.now in
    let place = c.loop-option.option-index in
    let taken = c.loop-option.taken in
    let below = c.loop-option-test.true in
    let left = c.loop-option.invariant.left in
    elim c.match-get.branch [
      | in-Some+then-eq w ↦
          let found = w.in-Some.ensures.lookup in
          let next = next_taken options words place taken _ below left w.in-Some.word.now w.as_str.result.now w.eq.result
          found.3.0 found.1 w.as_str.ensures.value w.eq.ensures w.if-eq.true in
          rw w.taken-is (record { within = omega (arith, found.3.0); left = next })
      | in-Some+else-eq w ↦
          let found = w.in-Some.ensures.lookup in
          let next = next_skipped options words place taken _ below left w.in-Some.word.now w.as_str.result.now w.eq.result
          found.3.0 found.1 w.as_str.ensures.value w.eq.ensures w.if-eq.false in
          rw w.taken-is (record { within = c.loop-option.invariant.within; left = next })
      | in_default w ↦
          let none = w.in_default.ensures.lookup in
          rw w.taken-is (record {
            within = c.loop-option.invariant.within;
            left = no_word_left options words place taken (record { ref_ptr = (0, 0); now = [] }) below left none.3;
          })
    ]

pub returns : goal.returns
returns c = all_options_passed c.args.options.now c.args.words.now c.loop-option.option-index c.loop-option.taken
    c.loop-option-test.false c.loop-option.invariant.within c.loop-option.invariant.left
