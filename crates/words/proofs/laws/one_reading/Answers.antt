use Rattle.words.proofs.LawsReadings.{one_reading}
use Rattle.words.proofs.laws.one_reading.Goals as goal

pub returns : goal.returns
returns c = one_reading
