use denote.Param.Send.{sendable}
use Rattle.std.proofs.Crossing.{crosses}
use Rattle.mvo.proofs.Sent.{disk_send, folder_send}
use Rattle.mvo.proofs.main.Goals as goal

pub run_program-requires-send-R-Disk : goal.run_program-requires-send-R-Disk
run_program-requires-send-R-Disk g c = let d = disk_send in let f = folder_send in search (sendable, crosses) depth 40
