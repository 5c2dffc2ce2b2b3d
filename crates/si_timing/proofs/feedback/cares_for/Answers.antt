use Rattle.std.proofs.Common.{◌≡◌, ℕ, ◌==◌, List, sym, ap, ◌∙◌, arith}
use Rattle.std.proofs.lemmas.Nat.Bits.{shr_and_one}
use Rattle.si_base.specs.declared.ids.Literal.{Literal}
use Rattle.si_netlist.proofs.ReadLemmas.{cares_read, cube_reads}
use Rattle.si_timing.proofs.feedback.cares_for.Goals as goal

pub returns : goal.returns
returns c =
    let care : c.cube-inside.inside.0.0.0 ≡ c.cube.inside.care = cc in
    let signal : c.x.inside.0 ≡ c.args.x = cc in
    rw (care, signal) (
    ap (λ (b : ℕ). b == 1) (shr_and_one c.cube.inside.care c.args.x)
    ∙ sym (cares_read c.cube.inside.care c.cube.inside.value c.args.x (omega arith))
    ∙ ap (λ (ls : List Literal). cube_reads ls c.args.x) c.cube.view_is)
