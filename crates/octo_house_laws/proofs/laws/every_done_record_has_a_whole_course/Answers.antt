use Rattle.octo_house_laws.proofs.Courses.{every_done_record}
use Rattle.octo_house_laws.proofs.laws.every_done_record_has_a_whole_course.Goals as goal

pub returns : goal.returns
returns c = every_done_record
