-- What offers say of arrows.
use Rattle.std.specs.Prelude.{◌≡◌, ◌≤◌, ℕ, Option, Some, None, List, length, map}
use Rattle.mg_text.specs.Call.{Name, Call}
use Rattle.scr_tree.specs.Meaning.{message_of}
use Rattle.scr_tree.specs.CallNames.{message_call, call_of}
use Rattle.scr_trace.specs.declared.arrow.Arrow.{Arrow}
use Rattle.scr_trace.specs.declared.call.Offer.{Offer}
use Rattle.scr_trace.specs.Graph.{Edge}
use Rattle.scr_trace.specs.Walking.{methods_of}
use Rattle.scr_trace.specs.inner.Goes.{Among}
use Rattle.scr_trace.specs.inner.Laying.{Draft}

abbrev pub edge_calls : Name → List Edge → List Call
edge_calls me edges = map (λ e. call_of me e.act) edges

abbrev pub labels_in : List Draft → List Name
labels_in drafts = map (λ d. d.message.label) drafts

-- all messages are from one peer
abbrev pub SamePeer : List Arrow → Type 0
SamePeer arrows = (a b : Arrow) → Among arrows a → Among arrows b → a.message.now.peer ≡ b.message.now.peer

abbrev pub messages_in : List Draft → List Name
messages_in drafts = map (λ d. message_call (message_of d.message)) drafts

-- one offer for each message, or one at most for all looks at the choice of this number
abbrev pub AreApart : Option ℕ → List Draft → List Offer → Type 0
AreApart None drafts offers = methods_of offers ≡ messages_in drafts
AreApart (Some number) drafts offers = length offers ≤ 1
