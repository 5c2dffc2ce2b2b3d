use Rattle.std.proofs.Common.{rules, tests, List, ℕ, bytes_eq, codes, Bor}
use Rattle.std.proofs.lemmas.Iterator.Consumers.{map_from_collect}
use Rattle.std.proofs.lemmas.Iterator.Splits.{YieldsList-from_slice_split}
use Rattle.si_words.proofs.PartLemmas.{parts_ok}
use Rattle.si_words.proofs.gate_lines.parts_of.Goals as goal

pub returns : goal.returns
returns c = parts_ok c.args.words.now c.collect.result (map_from_collect _ c.collect.ensures.ran
    (YieldsList-from_slice_split _ (λ (w : Bor (List ℕ)). bytes_eq (codes "+") w.now) c.args.words.now
    c.split.ensures.rest c.split.ensures.done c.split.ensures.closure (λ x r q k. search (rules, tests))))
