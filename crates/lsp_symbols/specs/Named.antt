-- What protocols and typestates declare, by their tokens: names behind a word, or in front of a sign.
use Rattle.std.specs.Prelude.{ℕ, ◌==◌, List, [], ◌∷◌, Option, Some, None, codes, if◌then◌else◌}
use Rattle.std.specs.Str.{bytes_eq}
use Rattle.mg_text.specs.Call.{Name}
use Rattle.mg_text.specs.declared.place.Place.{Place}
use Rattle.lsp_messages.specs.declared.outgoing.SymbolKind.{SymbolKind}
use Rattle.lsp_messages.specs.declared.outgoing.SymbolKind.TheVariants as kinds
use Rattle.lsp_symbols.specs.declared.things.Declared.{Declared}
use Rattle.lsp_symbols.specs.declared.named.Language.{Language}
use Rattle.lsp_symbols.specs.declared.named.Language.TheVariants as languages
use Rattle.lsp_symbols.specs.declared.tokens.Token.{Token}
use Rattle.lsp_symbols.specs.declared.tokens.Token.TheVariants as tokens

abbrev pub thing : Name → SymbolKind → Place → (within : Option Name) → Declared
thing name kind place within = record { name = name; kind = kind; place = place; within = within }

-- a name that is declared
pub record Found : Type 0 where
  pub kind : SymbolKind
  pub place : Place
  pub name : Name

abbrev pub found : SymbolKind → Place → Name → Found
found kind place name = record { kind = kind; place = place; name = name }

-- the word in front of the name of a protocol or of a typestate
abbrev pub keyword : Language → Name
keyword languages.Protocols = codes "protocol"
keyword languages.Typestates = codes "typestate"

-- what a name behind a word declares
abbrev pub behind : (keyword word : Name) → Place → Name → Option Found
behind keyword word place name = if bytes_eq word keyword then Some (found kinds.Protocol place name) else None

-- in a typestate a name in front of `=` is that of a state, and one in front of `(` that of a method
abbrev pub in_front : Language → Place → Name → (sign : ℕ) → Option Found
in_front languages.Protocols place name sign = None
in_front languages.Typestates place name sign =
    if sign == 61 then Some (found kinds.State place name)
    else (if sign == 40 then Some (found kinds.Method place name)
    else None)

-- what two tokens declare, of which one stands behind the other
abbrev pub found_at : Language → Token → Token → Option Found
found_at l (tokens.Word p word) (tokens.Word q name) = behind (keyword l) word q name
found_at l (tokens.Word p name) (tokens.Sign sign) = in_front l p name sign
found_at l (tokens.Sign sign) t = None

abbrev pub with_found : Option Found → List Found → List Found
with_found None fs = fs
with_found (Some f) fs = f ∷ fs

-- what tokens declare, in their order
abbrev pub found_in : Language → List Token → List Found
found_in l [] = []
found_in l (t ∷ []) = []
found_in l (t ∷ u ∷ more) = with_found (found_at l t u) (found_in l (u ∷ more))

-- the typestate and the state that were declared last
pub record Inside : Type 0 where
  pub typestate : Option Name
  pub state : Option Name

abbrev pub inside : Option Name → Option Name → Inside
inside t s = record { typestate = t; state = s }

-- what a thing is declared in: a state in the typestate, a method in the state
abbrev pub within : Inside → SymbolKind → Option Name
within i kinds.Class = None
within i kinds.Method = i.state
within i kinds.Field = None
within i kinds.Enum = None
within i kinds.Protocol = None
within i kinds.State = i.typestate

abbrev pub behind_kind : Inside → SymbolKind → Name → Inside
behind_kind i kinds.Class name = i
behind_kind i kinds.Method name = i
behind_kind i kinds.Field name = i
behind_kind i kinds.Enum name = i
behind_kind i kinds.Protocol name = inside (Some name) i.state
behind_kind i kinds.State name = inside i.typestate (Some name)

abbrev pub entered : Inside → Found → Inside
entered i f = behind_kind i f.kind f.name

abbrev pub nested : Inside → List Found → List Declared
nested i [] = []
nested i (f ∷ fs) = thing f.name f.kind f.place (within i f.kind) ∷ nested (entered i f) fs

-- What a file declares. Each protocol of a file of protocols is declared for itself.
abbrev pub declared_in : Language → List Token → List Declared
declared_in l ts = nested (inside None None) (found_in l ts)
