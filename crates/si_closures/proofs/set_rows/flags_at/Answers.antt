use Rattle.std.proofs.Common.{◌*◌, refl, arith}
use Rattle.si_closures.proofs.RowLemmas.{low_alone, both_halves}
use Rattle.si_closures.proofs.set_rows.flags_at.Goals as goal

pub returns-then-b-words : goal.returns-then-b-words
returns-then-b-words c =
    low_alone c.args.words.now c.args.b _ refl (c.type_inv.words (2 * c.args.b)).fits
    (omega (arith, c.if-b-words.true))

pub returns : goal.returns
returns c = both_halves c.args.words.now c.args.b _ refl (c.type_inv.words (2 * c.args.b)).fits _ refl
