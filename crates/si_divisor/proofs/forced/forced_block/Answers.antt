use Rattle.std.proofs.Common.{true, false}
use Rattle.si_divisor.proofs.ForcedLemmas.{forced_by_functions}
use Rattle.si_divisor.proofs.forced.forced_block.Goals as goal

pub returns-clause-up : goal.returns-clause-up
returns-clause-up c =
    forced_by_functions c.args.coded.now c.args.functions.now true c.args.first c.args.count
    c.columns_at-columns.result c.put_words.new.up c.turn.new.rows c.columns_at-columns.ensures c.requires.block
    c.requires.few c.put_words.ensures.up c.turn.ensures.turned

pub returns-clause-down : goal.returns-clause-down
returns-clause-down c =
    forced_by_functions c.args.coded.now c.args.functions.now false c.args.first c.args.count
    c.columns_at-columns.result c.put_words.new.down c.turn-2.new.rows c.columns_at-columns.ensures
    c.requires.block c.requires.few c.put_words.ensures.down c.turn-2.ensures.turned
