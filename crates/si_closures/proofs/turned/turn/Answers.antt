use Rattle.std.proofs.Common.{refl}
use Rattle.si_closures.proofs.TurnedLemmas.{as_one_block, one_round, all_turned}
use Rattle.si_closures.proofs.turned.turn.Goals as goal

pub returns-clause-turned : goal.returns-clause-turned
returns-clause-turned c i j i_in j_in =
    let rows = c.args.rows.now in
    let of_64 = one_round 1 64 _ rows _ _ (as_one_block rows) c.exchange_quarters.ensures.pairs refl refl in
    let of_32 = one_round 2 32 _ rows _ _ of_64 c.exchange_quarters-2.ensures.pairs refl refl in
    let of_16 = one_round 4 16 _ rows _ _ of_32 c.exchange_quarters-3.ensures.pairs refl refl in
    let of_8 = one_round 8 8 _ rows _ _ of_16 c.exchange_quarters-4.ensures.pairs refl refl in
    let of_4 = one_round 16 4 _ rows _ _ of_8 c.exchange_quarters-5.ensures.pairs refl refl in
    let of_2 = one_round 32 2 _ rows _ _ of_4 c.exchange_quarters-6.ensures.pairs refl refl in
    let of_1 = one_round 64 1 _ rows _ _ of_2 c.exchange_quarters-7.ensures.pairs refl refl in
    all_turned rows c.exchange_quarters-7.new.rows of_1 i j i_in j_in
