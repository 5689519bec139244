use Rattle.std.proofs.Common.{ℕ, List, refl, ap, subst}
use Rattle.octo_house.specs.Facing.{Faces}
use Rattle.octo_house_rules.specs.Answers.{request_verdict}
use Rattle.octo_house_rules.specs.Prints.{lines_verdict, move_verdict}
use Rattle.octo_house.specs.State.{known_of}
use Rattle.octo_house.proofs.Fileless.{shelves-same, request-leaves, is_storing}
use Rattle.octo_house.proofs.house.House.answer_other.Goals as goal

pub returns-in-GetConnection-clause-done : goal.returns-in-GetConnection-clause-done
returns-in-GetConnection-clause-done g c = rw c.in-GetConnection.is (λ files at. c.connection.ensures.done (known_of c.args.self.now))

pub returns-in-GetPrinter-clause-done : goal.returns-in-GetPrinter-clause-done
returns-in-GetPrinter-clause-done g c = rw c.in-GetPrinter.is (λ files at. c.printer.ensures.done (known_of c.args.self.now))

pub returns-in-GetJob-clause-done : goal.returns-in-GetJob-clause-done
returns-in-GetJob-clause-done g c = rw c.in-GetJob.is (λ files at. c.job.ensures.done (known_of c.args.self.now))

pub returns-in-Shutdown-clause-done : goal.returns-in-Shutdown-clause-done
returns-in-Shutdown-clause-done g c = rw c.in-Shutdown.is (λ files at. c.shut_down.ensures.done (known_of c.args.self.now))

pub returns-in-Connect-clause-done : goal.returns-in-Connect-clause-done
returns-in-Connect-clause-done g c = rw c.in-Connect.is (λ files at. c.connect.ensures.done (known_of c.args.self.now))

pub returns-in-Disconnect-clause-done : goal.returns-in-Disconnect-clause-done
returns-in-Disconnect-clause-done g c = rw c.in-Disconnect.is (λ files at. c.disconnect.ensures.done (known_of c.args.self.now))

pub returns-in-HeatTool-clause-done : goal.returns-in-HeatTool-clause-done
returns-in-HeatTool-clause-done g c = rw c.in-HeatTool.is (λ files at. c.heat_tool.ensures.done (known_of c.args.self.now))

pub returns-in-HeatBed-clause-done : goal.returns-in-HeatBed-clause-done
returns-in-HeatBed-clause-done g c = rw c.in-HeatBed.is (λ files at. c.heat_bed.ensures.done (known_of c.args.self.now))

pub returns-in-Lines-clause-done : goal.returns-in-Lines-clause-done
returns-in-Lines-clause-done g c =
    let faced = subst (λ (texts : List (List ℕ)). Faces (lines_verdict texts) c.lines.result c.args.self.now.desk c.lines.new.self)
    c.as_slice.ensures c.lines.ensures.done in
    rw c.in-Lines.is (λ files at. faced (known_of c.args.self.now))

pub returns-in-Move-clause-done : goal.returns-in-Move-clause-done
returns-in-Move-clause-done g c =
    let faced = subst (λ (texts : List (List ℕ)). Faces (move_verdict texts) c.move_by_hand.result c.args.self.now.desk c.move_by_hand.new.self)
    c.as_slice-in-Move.ensures c.move_by_hand.ensures.done in
    rw c.in-Move.is (λ files at. faced (known_of c.args.self.now))

pub returns-in-GetLimits-clause-done : goal.returns-in-GetLimits-clause-done
returns-in-GetLimits-clause-done g c = rw c.in-GetLimits.is (λ files at. c.limits.ensures.done (known_of c.args.self.now))

pub returns-in-Cancel-clause-done : goal.returns-in-Cancel-clause-done
returns-in-Cancel-clause-done g c = rw c.in-Cancel.is (λ files at. c.cancel.ensures.done (known_of c.args.self.now))

pub returns-in-Pause-clause-done : goal.returns-in-Pause-clause-done
returns-in-Pause-clause-done g c = rw c.in-Pause.is (λ files at. c.pause.ensures.done (known_of c.args.self.now))

pub returns-in-Resume-clause-done : goal.returns-in-Resume-clause-done
returns-in-Resume-clause-done g c = rw c.in-Resume.is (λ files at. c.resume.ensures.done (known_of c.args.self.now))

pub returns-in-Toggle-clause-done : goal.returns-in-Toggle-clause-done
returns-in-Toggle-clause-done g c = rw c.in-Toggle.is (λ files at. c.toggle.ensures.done (known_of c.args.self.now))

pub returns-in-Connect-clause-files : goal.returns-in-Connect-clause-files
returns-in-Connect-clause-files g c =
    shelves-same _ _ (λ files. request_verdict c.args.request.now c.args.user.now files (known_of c.args.self.now)) _ refl
    (λ files. request-leaves c.args.request.now c.args.user.now files (known_of c.args.self.now) (ap is_storing c.in-Connect.is))

pub returns-in-HeatTool-clause-files : goal.returns-in-HeatTool-clause-files
returns-in-HeatTool-clause-files g c =
    shelves-same _ _ (λ files. request_verdict c.args.request.now c.args.user.now files (known_of c.args.self.now)) _ refl
    (λ files. request-leaves c.args.request.now c.args.user.now files (known_of c.args.self.now) (ap is_storing c.in-HeatTool.is))

pub returns-in-HeatBed-clause-files : goal.returns-in-HeatBed-clause-files
returns-in-HeatBed-clause-files g c =
    shelves-same _ _ (λ files. request_verdict c.args.request.now c.args.user.now files (known_of c.args.self.now)) _ refl
    (λ files. request-leaves c.args.request.now c.args.user.now files (known_of c.args.self.now) (ap is_storing c.in-HeatBed.is))

pub returns-in-Lines-clause-files : goal.returns-in-Lines-clause-files
returns-in-Lines-clause-files g c =
    shelves-same _ _ (λ files. request_verdict c.args.request.now c.args.user.now files (known_of c.args.self.now)) _ refl
    (λ files. request-leaves c.args.request.now c.args.user.now files (known_of c.args.self.now) (ap is_storing c.in-Lines.is))

pub returns-in-Move-clause-files : goal.returns-in-Move-clause-files
returns-in-Move-clause-files g c =
    shelves-same _ _ (λ files. request_verdict c.args.request.now c.args.user.now files (known_of c.args.self.now)) _ refl
    (λ files. request-leaves c.args.request.now c.args.user.now files (known_of c.args.self.now) (ap is_storing c.in-Move.is))

pub returns-in-Start-clause-files : goal.returns-in-Start-clause-files
returns-in-Start-clause-files g c =
    shelves-same _ _ (λ files. request_verdict c.args.request.now c.args.user.now files (known_of c.args.self.now)) _ refl
    (λ files. request-leaves c.args.request.now c.args.user.now files (known_of c.args.self.now) (ap is_storing c.in-Start.is))

pub returns-in-Backup-clause-files : goal.returns-in-Backup-clause-files
returns-in-Backup-clause-files g c =
    shelves-same _ _ (λ files. request_verdict c.args.request.now c.args.user.now files (known_of c.args.self.now)) _ refl
    (λ files. request-leaves c.args.request.now c.args.user.now files (known_of c.args.self.now) (ap is_storing c.in-Backup.is))

pub returns-in-GetFile-clause-files : goal.returns-in-GetFile-clause-files
returns-in-GetFile-clause-files g c =
    shelves-same _ _ (λ files. request_verdict c.args.request.now c.args.user.now files (known_of c.args.self.now)) _ c.file.ensures.rest.stays
    (λ files. request-leaves c.args.request.now c.args.user.now files (known_of c.args.self.now) (ap is_storing c.in-GetFile.is))
