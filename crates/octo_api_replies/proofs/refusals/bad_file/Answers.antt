use Rattle.octo_api_replies.proofs.refusals.bad_file.Goals as goal

pub returns-in-TooLong : goal.returns-in-TooLong
returns-in-TooLong c = rw c.in-TooLong.is c.bad_line.ensures

pub returns-in-ControlByte : goal.returns-in-ControlByte
returns-in-ControlByte c = rw c.in-ControlByte.is c.bad_line-in-ControlByte.ensures
