use Rattle.block.proofs.Blocks.{block_read}
use Rattle.block.proofs.disk.read_block.Goals as goal

pub returns-clause-bytes : goal.returns-clause-bytes
returns-clause-bytes c = block_read c.args.memory.now c.args.address c.requires
