-- The premises can be met: the adder can end, and in a protocol that goes on for ever no role is forgotten.
use Rattle.std.specs.Prelude.{[], ◌∷◌, codes}
use Rattle.mg_text.specs.Call.{Name}
use Rattle.scr_tree.specs.declared.syntax.Payload.TheVariants as payloads
use Rattle.scr_tree.specs.Tree.{LocalTree}
use Rattle.scr_global.specs.Adder.{text}
use Rattle.scr_global.specs.Global.{Passing, Global, Nothing, Says, Rec, Continue}
use Rattle.scr_global.specs.Tree.{said}
use Rattle.scr_faithful.specs.Faithful.{CanEnd}
use Rattle.scr_faithful.specs.Heard.{NoneIsForgotten}

abbrev pub AdderCanEnd : Type 0
AdderCanEnd = CanEnd (said text)

abbrev pub hello : Passing
hello = record { from = codes "A"; to = codes "B"; label = codes "hello"; kind = payloads.Nothing }

-- rec Y { hello() from A to B; continue Y; }
abbrev pub for_ever : Global
for_ever = Rec (codes "Y") (Says hello (Continue (codes "Y") Nothing)) Nothing

abbrev pub NoneIsForgottenForEver : Type 0
NoneIsForgottenForEver = (locals : Name → LocalTree) → NoneIsForgotten (codes "A" ∷ codes "B" ∷ []) for_ever locals
