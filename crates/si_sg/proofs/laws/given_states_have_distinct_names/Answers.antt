use Rattle.si_sg.proofs.GivenApart.{given_apart}
use Rattle.si_sg.proofs.laws.given_states_have_distinct_names.Goals as goal

pub returns : goal.returns
returns c text sg given = given_apart text sg given
