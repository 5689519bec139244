use Rattle.std.proofs.Common.{arith}
use Rattle.marlin_frame.proofs.FrameLaws.{numbered_line, only_numbered, n_parameter_of-frame, has_m110-frame, no_line_feed-frame, length-frame, sum_of-lt}
use Rattle.marlin_frame.proofs.laws.frame_law.Goals as goal

pub returns : goal.returns
returns c = record {
  reads_back = λ n text few sendable bytes. numbered_line n text (omega arith) (sum_of-lt n text (omega arith) bytes) sendable.no_m110;
  read_as = λ n text reading few sendable bytes read. only_numbered n text reading (omega arith) (sum_of-lt n text (omega arith) bytes) sendable.no_m110 read;
  n_parameter = λ n text few. n_parameter_of-frame n text (omega arith);
  no_m110 = λ n text few sendable bytes. has_m110-frame n text (omega arith) (sum_of-lt n text (omega arith) bytes) sendable.no_m110;
  no_line_feed = λ n text few sendable bytes. no_line_feed-frame n text (omega arith) (sum_of-lt n text (omega arith) bytes) sendable.no_line_feed;
  at_most_95 = λ n text few sendable bytes. length-frame n text (omega arith) (sum_of-lt n text (omega arith) bytes) sendable.short;
}
