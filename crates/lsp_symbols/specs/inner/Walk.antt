-- What the walk over tokens keeps, as definitions speak of it.
use Rattle.std.specs.Prelude.{◌≡◌, List, ◌++◌, Option, option_map}
use Rattle.std.specs.Borrow.{Bor}
use Rattle.mg_text.specs.Call.{Name}
use Rattle.lsp_symbols.specs.declared.things.Declared.{Declared}
use Rattle.lsp_symbols.specs.declared.named.Found.{Found as KeptFound}
use Rattle.lsp_symbols.specs.declared.named.Inside.{Inside as KeptInside}
use Rattle.lsp_symbols.specs.Named.{Found, found, with_found, Inside, inside, nested}

abbrev pub text_of : Bor Name → Name
text_of text = text.now

abbrev pub found_of : KeptFound → Found
found_of f = found f.kind f.place f.name.now

abbrev pub inside_of : KeptInside → Inside
inside_of i = inside (option_map text_of i.typestate) (option_map text_of i.state)

-- the things that were declared, and those still to be, are the same before and behind what was found
abbrev pub Goes : (before : List Declared) → Inside → Option Found → (after : List Declared) → Inside → Type 0
Goes before i f after j = (fs : List Found) → after ++ nested j fs ≡ before ++ nested i (with_found f fs)
