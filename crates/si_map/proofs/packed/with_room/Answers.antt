use Rattle.std.proofs.Common.{List, ℕ, subst, sym}
use Rattle.si_map.specs.Loops.Packed.{ArePacking}
use Rattle.si_map.proofs.PackedLemmas.{next_word}
use Rattle.si_map.proofs.packed.with_room.Goals as goal

pub returns-clause-same : goal.returns-clause-same
returns-clause-same c classes are =
    subst (λ (ws : List ℕ). ArePacking classes ws 1) (sym c.in_ok-push.ensures.items)
    (next_word classes c.args.words.now.items c.args.word are)
