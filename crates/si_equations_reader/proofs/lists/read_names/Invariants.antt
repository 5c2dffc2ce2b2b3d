use Rattle.std.proofs.Common.{◌≡◌, ◌++◌, [], length, None}
use Rattle.si_base.specs.Faults.{first_after}
use Rattle.si_tokens.specs.Loops.Parts.{left}
use Rattle.si_tokens.specs.Unread.{tokens, size}
use Rattle.si_equations.specs.Equations.{names_from, list_fault, without}
use Rattle.si_equations_reader.proofs.lists.read_names.Given as goal

abbrev pub invariant-loop-token : goal.invariant-loop-token
invariant-loop-token l = record {
  names : names_from l.others l.names (tokens (left l.source))
      ≡ names_from l.others [] (tokens (left l.fn.source));
  good : first_after (list_fault l.others) [] l.names ≡ None;
  count : l.count ≡ length (l.others ++ without l.others l.names);
}

abbrev pub decreases-loop-token : goal.decreases-loop-token
decreases-loop-token l = size (left l.source)
