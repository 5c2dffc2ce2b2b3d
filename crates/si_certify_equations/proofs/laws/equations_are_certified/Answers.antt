use Rattle.si_certify_equations.proofs.CertifyLemmas.{answers_are_one, answers_exist, certified_equations_pass}
use Rattle.si_certify_equations.proofs.CertifyLemmas.{fitting_are_certified}
use Rattle.si_certify_equations.proofs.laws.equations_are_certified.Goals as goal

pub returns : goal.returns
returns c = record {
  pass = certified_equations_pass;
  certified = fitting_are_certified;
  one = answers_are_one;
  some = answers_exist;
}
