use Rattle.semantics_eval.proofs.Longs.{long_fits, fits_long}
use Rattle.semantics_eval.proofs.laws.longs_fit.Goals as goal

pub returns : goal.returns
returns c z = (fits_long z, long_fits z)
