use Rattle.si_pictures.proofs.OneTokenReading.{one_reading}
use Rattle.si_pictures.proofs.PictureLaws.{read_back}
use Rattle.si_pictures.proofs.laws.pictures_are_read_back.Goals as goal

pub returns-clause-one : goal.returns-clause-one
returns-clause-one c = one_reading

pub returns-clause-back : goal.returns-clause-back
returns-clause-back c = read_back
