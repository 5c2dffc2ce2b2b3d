use Rattle.std.proofs.Common.{length}
use Rattle.si_match.proofs.PlaceLemmas.{byte_le, small_value}
use Rattle.si_match.proofs.places.placed_code.Goals as goal

pub returns-clause-small : goal.returns-clause-small
returns-clause-small c =
    small_value (length c.args.chosen.now) c.values_at.result c.from.result c.requires.few c.values_at.ensures.small
    (byte_le c.get.result c.from.result c.from.ensures)
