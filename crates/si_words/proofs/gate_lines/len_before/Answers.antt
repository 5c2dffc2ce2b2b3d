use Rattle.std.proofs.Common.{◌∙◌, List, ℕ, bytes_eq, not}
use Rattle.std.specs.Borrow.{Bor}
use Rattle.si_words.proofs.SumWordLemmas.{prefix_len-map}
use Rattle.si_words.proofs.gate_lines.len_before.Goals as goal

pub returns-clause-len : goal.returns-clause-len
returns-clause-len c = c.count_before.ensures.len
    ∙ prefix_len-map (λ (w : Bor (List ℕ)). w.now) (λ w. not (bytes_eq c.args.mark.now w)) c.args.words.now
