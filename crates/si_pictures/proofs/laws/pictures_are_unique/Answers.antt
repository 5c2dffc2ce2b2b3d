use Rattle.si_pictures.proofs.PictureLaws.{one_dot_text, some_dot_text}
use Rattle.si_pictures.proofs.laws.pictures_are_unique.Goals as goal

pub returns-clause-one : goal.returns-clause-one
returns-clause-one c = one_dot_text

pub returns-clause-some : goal.returns-clause-some
returns-clause-some c = some_dot_text
