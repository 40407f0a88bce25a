use Rattle.station.proofs.VectorReading.{zeros}
use Rattle.station.proofs.vectors.nothing.Goals as goal

pub returns : goal.returns
returns c = record { zero = zeros 64 }
