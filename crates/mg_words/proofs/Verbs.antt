-- The first words of the commands, which their first and third bytes tell apart.
use Rattle.std.proofs.Common.{ℕ, ◌+◌, ◌*◌, get_or, codes}
use Rattle.mg_words.specs.Words.{Word}

abbrev pub translate : Word
translate = codes "translate"

abbrev pub client : Word
client = codes "client"

abbrev pub conform : Word
conform = codes "conform"

abbrev pub check : Word
check = codes "check"

abbrev pub compile : Word
compile = codes "compile"

abbrev pub run : Word
run = codes "run"

abbrev pub exec : Word
exec = codes "exec"

abbrev pub refine : Word
refine = codes "refine"

abbrev pub project : Word
project = codes "project"

abbrev pub load : Word
load = codes "load"

abbrev pub verify : Word
verify = codes "verify"

abbrev pub fit : Word
fit = codes "fit"

abbrev pub show : Word
show = codes "show"

abbrev pub mark : Word → ℕ
mark word = get_or word 0 0 * 256 + get_or word 2 0
