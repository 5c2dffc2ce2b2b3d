use Rattle.si_equations_reader.proofs.ListLemmas.{few_listed, good_signals}
use Rattle.si_equations_reader.proofs.statements.read_lists.Goals as goal

pub read_list-requires-2 : goal.read_list-requires-2
read_list-requires-2 c = few_listed c.in_ok-none.none c.in_ok-listed.listed _ _ c.in_ok-none.ensures
    c.in_ok-listed.ensures

pub begin-requires : goal.begin-requires
begin-requires c = good_signals c.in_ok-none.none c.in_ok-listed.listed _ _ c.in_ok-none.ensures
    c.in_ok-listed.ensures c.in_ok-outputs.outputs _ c.in_ok-outputs.ensures
