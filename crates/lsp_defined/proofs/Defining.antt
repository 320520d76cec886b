-- What a file defines, by equal things.
use Rattle.std.proofs.Common.{◌≡◌, List, Some, Option, subst}
use Rattle.mg_text.specs.Call.{Name}
use Rattle.mg_text.specs.declared.place.Place.{Place}
use Rattle.mg_sources.specs.Files.{Source}
use Rattle.lsp_text.specs.declared.encoding.Encoding.{Encoding}
use Rattle.lsp_messages.specs.declared.outgoing.Location.{Location}
use Rattle.lsp_defined.specs.Definitions.{AreFrom, AreOfFile}

pub by_file : (encoding : Encoding) (o : Option Source) (source : Source) (place : Place) (name text : Name) (ls : List Location) →
    Some source ≡ o → text ≡ name → AreFrom encoding source place text ls → AreOfFile encoding o place name ls
by_file encoding o source place name text ls is same h =
    subst (λ (x : Option Source). AreOfFile encoding x place name ls) is
    (subst (λ (n : Name). AreFrom encoding source place n ls) same h)
