use Rattle.std.proofs.Common.{◌≡◌, ◌<◌, get_or, subst, sym}
use Rattle.si_base.specs.Bits.{bit}
use Rattle.si_match.specs.Functions.{places}
use Rattle.si_match.proofs.ColumnLemmas.{place_column, place_columns}
use Rattle.si_match.proofs.columns.place_column.Goals as goal

pub returns : goal.returns
returns c m below =
    let place = c.place.inside.0 in
    let within = subst (λ n. n < places) (sym c.place.view_is) c.requires in
    subst (λ n. bit (get_or place_columns place 0) m ≡ bit m n) c.place.view_is (place_column place m within below)
