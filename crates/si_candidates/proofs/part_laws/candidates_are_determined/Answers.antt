use Rattle.si_candidates.proofs.PartLaws.{classes_lawful, classes_unique, torn_have_none}
use Rattle.si_candidates.proofs.ClassesExist.{classes_or_torn}
use Rattle.si_candidates.proofs.LawfulParts.{lawful_are_classes}
use Rattle.si_candidates.proofs.part_laws.candidates_are_determined.Goals as goal

pub returns-clause-lawful : goal.returns-clause-lawful
returns-clause-lawful c = classes_lawful

pub returns-clause-each_lawful : goal.returns-clause-each_lawful
returns-clause-each_lawful c = lawful_are_classes

pub returns-clause-unique : goal.returns-clause-unique
returns-clause-unique c = classes_unique

pub returns-clause-torn : goal.returns-clause-torn
returns-clause-torn c = torn_have_none

pub returns-clause-or_torn : goal.returns-clause-or_torn
returns-clause-or_torn c = classes_or_torn
