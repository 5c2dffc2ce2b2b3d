use Rattle.std.proofs.Common.{◌∙◌, not, ap, ap₂}
use mathlib.Core.Bool.{beq}
use Rattle.si_base.specs.Bits.{bit}
use Rattle.si_pictures.proofs.CodeLemmas.{next_differs}
use Rattle.si_pictures.proofs.code_word.is_excited.Goals as goal

pub returns : goal.returns
returns c =
    let value = c.get.ensures ∙ ap (λ k. bit k c.args.z) c.code.ensures in
    ap₂ (λ a b. not (beq a b)) c.next_value.ensures value
    ∙ next_differs c.args.graph.now c.args.s c.args.z c.graph-graph.ensures.coded c.requires.signal
