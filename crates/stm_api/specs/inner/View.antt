-- What the program's values say.
use Rattle.std.specs.Prelude.{List, map}
use Rattle.std.specs.Borrow.{Bor}
use Rattle.mg_text.specs.Call.{Name}
use Rattle.scr_tree.specs.Meaning.{message_of}
use Rattle.stm_api.specs.Doings.{Doing, Passes, Asks}
use Rattle.stm_api.specs.declared.doings.Doing.{Doing as Kept}
use Rattle.stm_api.specs.declared.doings.Doing.TheVariants as kept

-- the names that borrowed texts say
abbrev pub names_of : List (Bor Name) → List Name
names_of names = map (λ n. n.now) names

abbrev pub doing_of : Kept → Doing
doing_of (kept.Passes message) = Passes (message_of message.now)
doing_of (kept.Asks number peer labels) = Asks number peer.now (names_of labels.items)
