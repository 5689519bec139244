use Rattle.octo_house_laws.proofs.Courses.{every_print}
use Rattle.octo_house_laws.proofs.laws.every_print_follows_a_course.Goals as goal

pub returns : goal.returns
returns c = every_print
