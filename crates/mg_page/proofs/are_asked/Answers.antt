use Rattle.mg_page.proofs.Spelled.{words_there, files_there}
use Rattle.mg_page.proofs.are_asked.Goals as goal

pub returns : goal.returns
returns c = λ words files short these. record { are_words = words_there words short; are_files = files_there files these }
