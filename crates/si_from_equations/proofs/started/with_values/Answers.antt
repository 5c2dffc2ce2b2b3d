use Rattle.si_from_equations.proofs.StartLemmas.{shifted}
use Rattle.si_from_equations.proofs.started.with_values.Goals as goal

pub returns : goal.returns
returns c =
    let a = c.args in
    rw (c.values.view_is, c.start.view_is)
    (shifted a.start a.given a.hidden a.values c.requires.few c.requires.start c.requires.values)
