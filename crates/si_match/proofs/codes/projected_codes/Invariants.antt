use Rattle.std.proofs.Common.{◌≡◌, map, take, bit_and}
use Rattle.si_match.proofs.codes.projected_codes.Given as goal

abbrev pub invariant-loop-code : goal.invariant-loop-code
invariant-loop-code l = l.part.items ≡ map (λ k. bit_and k l.fn.signals) (take l.code-index l.codes)
