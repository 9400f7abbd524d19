use Rattle.std.proofs.Common.{rules}
use Rattle.block.specs.Memories.{stands_on}
use Rattle.block.proofs.Writes.{beyond_kept, write_performed}
use Rattle.block.proofs.disk.DiskDevice.perform.Goals as goal

pub returns-in-Some-Write-clause-performed : goal.returns-in-Some-Write-clause-performed
returns-in-Some-Write-clause-performed g c =
    rw c.write.ensures (write_performed (g.M.Memory.bytes (stands_on c.args.self.now)) c.args.command.now.payload.now c.args.answer.now c.args.command.now.level c.args.command.now.kind c.args.command.now.address (search rules))

pub returns-in-Some-Write-clause-beyond : goal.returns-in-Some-Write-clause-beyond
returns-in-Some-Write-clause-beyond g c =
    rw c.write.ensures (beyond_kept (g.M.Memory.bytes (stands_on c.args.self.now)) c.args.command.now.payload.now c.args.answer.now c.args.command.now.level c.args.command.now.kind c.args.command.now.address (search rules))
