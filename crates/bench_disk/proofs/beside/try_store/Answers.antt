use denote.Param.Send.{sendable}
use Rattle.std.proofs.Crossing.{crosses}
use Rattle.bench_disk.proofs.Sent.{disk_send, folder_send}
use Rattle.bench_disk.proofs.beside.try_store.Goals as goal

pub run-requires-send-D : goal.run-requires-send-D
run-requires-send-D g c κs within = let d = disk_send in let f = folder_send in search (sendable, crosses) depth 40
