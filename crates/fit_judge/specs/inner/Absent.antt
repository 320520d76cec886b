-- For private clauses: a role of the header that isn't among some names; the protocol that a part is.
use Rattle.std.specs.Prelude.{◌≡◌, Bool, false, [], ◌∷◌, Option, Some, None}
use Rattle.std.specs.Borrow.{Bor}
use Rattle.mg_text.specs.Call.{Name}
use Rattle.scr_tree.specs.Local.{tree_of as local_of}
use Rattle.scr_tree.specs.declared.local.Local.{Local}
use Rattle.mg_sources.specs.Reading.{Part}
use Rattle.mg_refusal.specs.Refusals.{Refusal, refusal_at}
use Rattle.mg_fits.specs.Parts.{Headed, protocol_in}

abbrev pub IsAbsent : (kind : Name) → (Name → Bool) → Headed → Refusal → Type 0
IsAbsent kind has headed r = (has headed.role ≡ false) × (r ≡ refusal_at kind headed.place headed.role)

-- this protocol, or that it is none
abbrev pub IsProtocolIn : Part → Option (Bor Local) → Type 0
IsProtocolIn part (Some local) = protocol_in part ≡ local_of local.now ∷ []
IsProtocolIn part None = protocol_in part ≡ []
