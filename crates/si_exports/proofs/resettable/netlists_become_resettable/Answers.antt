use Rattle.si_exports.proofs.ResettableLemmas.{output_is_resettable, resettable_is_output}
use Rattle.si_exports.proofs.resettable.netlists_become_resettable.Goals as goal

pub returns : goal.returns
returns c file text name output =
    (output_is_resettable file text name output, resettable_is_output file text name output)
