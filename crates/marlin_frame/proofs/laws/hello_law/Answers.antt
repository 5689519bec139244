use Rattle.marlin_frame.proofs.HelloLaws.{hello_bytes, hello_line, hello_n_parameter, hello_sets_number}
use Rattle.marlin_frame.proofs.laws.hello_law.Goals as goal

pub returns : goal.returns
returns c = record { bytes = hello_bytes; reads_back = hello_line; n_parameter = hello_n_parameter; sets_number = hello_sets_number }
