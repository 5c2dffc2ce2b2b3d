use Rattle.std.proofs.Common.{List, ℕ, sym, subst}
use Rattle.std.proofs.lemmas.Result.{IfOk-weaker}
use Rattle.si_equations.specs.Meaning.{MeansNetlist}
use Rattle.si_equations.proofs.MeansLemmas.{text_means}
use Rattle.si_equations.proofs.write.write_equations.Goals as goal

pub returns-clause-means : goal.returns-clause-means
returns-clause-means c = IfOk-weaker c.text_of.result _ _
    (λ text is. subst (λ (t : List ℕ). MeansNetlist t c.args.netlist.now) (sym is)
    (text_means c.args.netlist.now c.text_of.ensures.netlist)) c.text_of.ensures.text
