-- A disk in a folder may go to another thread, where what has its files and what is told of it may.
use denote.RattleType.{RattleType}
use denote.Param.Send.{IsSend, sendable, recorded_send, struct_send}
use denote.Struct.Declared.{shape}
use Rattle.std.proofs.Crossing.{crosses}
use Rattle.std.specs.declared.io.traits.Read as Read
use Rattle.std.specs.contracts.fs.File as File
use Rattle.std.specs.contracts.fs.FileRead.TheImpl as reads
use Rattle.std.specs.contracts.fs.FileWrite.TheImpl as writes
use Rattle.std.specs.contracts.fs.FileSeek.TheImpl as seeks
use Rattle.mvo_disk.specs.contracts.disk_history.DiskHistory as Record
use Rattle.mvo_disk.specs.contracts.folder.Folder as Folder
use Rattle.mvo_disk.specs.contracts.dir_disk.DirDisk as DirDisk

file_send : IsSend File.the_row
file_send = search (sendable, crosses) depth 40

record_send : IsSend Record.the_row
record_send = search (sendable, crosses) depth 40

module _ (R T : RattleType) (n : Read.Ghosts T.Denot) (is : IsSend R) where
  pub folder_send : IsSend (Folder.the_field R T reads.ghosts writes.ghosts seeks.ghosts n).row
  folder_send = let f = file_send in search (sendable, crosses) depth 40

module _ (F S P : RattleType) (is : IsSend F) (shown : IsSend P) where
  pub disk_send : IsSend (DirDisk.the_row F S P)
  disk_send = recorded_send _ _ _ (DirDisk.the_type F S P).to_one (struct_send (shape (DirDisk.the_type F S P)) (is, (record_send, (search (sendable, crosses) depth 40, (shown, (search sendable, (search sendable, (search sendable, (search sendable, tt)))))))))
