use denote.Param.Send.{sendable}
use Rattle.std.proofs.Crossing.{crosses}
use Rattle.bench_disk.proofs.Sent.{disk_send, folder_send}
use Rattle.bench_disk.proofs.time_service.Goals as goal

pub load-requires-send-D : goal.load-requires-send-D
load-requires-send-D g c κs within = let d = disk_send in let f = folder_send in search (sendable, crosses) depth 40

pub serve-requires-send-D : goal.serve-requires-send-D
serve-requires-send-D g c κs within = let d = disk_send in let f = folder_send in search (sendable, crosses) depth 40
