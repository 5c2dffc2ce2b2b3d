use Rattle.std.proofs.Common.{◌≡◌, ℕ, [], ◌∷◌, ◌++◌, get_or, length, map, sym, ap, subst, ◌∙◌, arith}
use Rattle.std.proofs.lemmas.List.{length-map}
use Rattle.si_loops.specs.Loops.Paths.{AreEnds, led_on}
use Rattle.si_loops.proofs.PathLemmas.{more_ends, written_back}
use Rattle.si_loops.proofs.paths.Paths.add.Goals as goal

pub invariant_of-self-2 : goal.invariant_of-self-2
invariant_of-self-2 c =
    let arcs = c.self.inside.arcs.items in
    let old = c.self.inside.ends.items in
    let led : ℕ → ℕ = led_on c.args.arc.from (get_or old c.args.arc.to 0) in
    let words_are : c.lead_on.new.words ≡ map led old = rw c.as_mut_slice.ensures.value at c.lead_on.ensures in
    let as_many : length c.lead_on.new.words ≡ length old = ap length words_are ∙ length-map old led in
    let size : c.self.inside.ends.len ≡ length old = omega (arith, c.self.inside.ends.ok) in
    let back = written_back c.lead_on.new.words old c.self.inside.ends.len as_many size in
    let ends = more_ends arcs old c.args.arc c.self.invariant c.requires in
    rw c.in_ok-push.ensures.items (subst (AreEnds (arcs ++ c.args.arc ∷ [])) (sym (back ∙ words_are)) ends)
