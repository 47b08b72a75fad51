-- `text::put_byte` meets its contract: a byte written is a store.
use Rattle.std.proofs.Common.{refl}
use Rattle.text.proofs.Writing.{put-set}
use Rattle.text.proofs.put_byte.Goals as goal

pub returns : goal.returns
returns c = record { ends = refl; holds = put-set c.args.out.now c.args.at c.args.byte c.requires }
