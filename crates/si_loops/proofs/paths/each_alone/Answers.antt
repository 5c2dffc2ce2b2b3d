use Rattle.std.proofs.Common.{ℕ, List, [], ◌∷◌, ◌++◌, ap₂, sym, ◌∙◌, arith}
use Rattle.std.proofs.lemmas.List.FromFn.{map-range_with_len_more}
use Rattle.si_base.specs.Bits.{flip}
use Rattle.si_loops.proofs.paths.each_alone.Goals as goal

pub loop-s-preserved : goal.loop-s-preserved
loop-s-preserved c =
    c.in_ok-push.ensures.items
    ∙ ap₂ (λ (l : List ℕ) (x : ℕ). l ++ x ∷ []) c.loop-s.invariant c.flip.ensures
    ∙ sym (map-range_with_len_more (flip 0) 0 c.loop-s.s c.loop-s.s (omega arith))
