use Rattle.std.proofs.Common.{arith}
use Rattle.ga_ports.proofs.Outside.{outside_below}
use Rattle.ga_ports.proofs.address.classify_address.Goals as goal

pub from_bits-requires : goal.from_bits-requires
from_bits-requires c = let below = outside_below _ c.if-low-eq1.true in (omega arith, omega arith)
