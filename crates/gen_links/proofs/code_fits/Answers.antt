use Rattle.gen_links.proofs.Coding as coding
use Rattle.gen_links.proofs.code_fits.Goals as goal

pub returns : goal.returns
returns c = record { fits = coding.code_fits_all }
