-- The messages on their way between roles, which are numbered in their order.
use Rattle.std.specs.Prelude.{ℕ, List, [], ◌∷◌, ◌++◌, Option, Some, None, length, replicate, slice_get, slice_set}
use Rattle.std.specs.List.{position}
use Rattle.std.specs.Str.{bytes_eq}
use Rattle.mg_text.specs.Call.{Name}
use Rattle.mg_text.specs.declared.event.Sent.{Sent}

-- a list for each sender, in it one for each receiver, in it the messages in the order of their sending
pub record Messages : Type 0 where
  pub roles : List Name
  pub lists : List (List (List Sent))

abbrev pub or_nothing : {A : Type 0} → Option (List A) → List A
or_nothing None = []
or_nothing (Some list) = list

-- the lists of a sender
abbrev pub sent_by : Messages → ℕ → List (List Sent)
sent_by q from = or_nothing (slice_get q.lists from)

-- the messages on their way from a role to another
abbrev pub on_way : Messages → (from to : ℕ) → List Sent
on_way q from to = or_nothing (slice_get (sent_by q from) to)

-- the same with another list from a role to another
abbrev pub with_list : Messages → (from to : ℕ) → List Sent → Messages
with_list q from to list = record q { lists = slice_set q.lists from (slice_set (sent_by q from) to list) }

-- one more message from a role to another
abbrev pub sending : Messages → (from to : ℕ) → Sent → Messages
sending q from to message = with_list q from to (on_way q from to ++ message ∷ [])

-- the number of the role of this name
abbrev pub role_named : Messages → Name → Option ℕ
role_named q name = position (bytes_eq name) q.roles

-- these roles, with no messages on their way
abbrev pub no_messages : List Name → Messages
no_messages roles = record { roles = roles; lists = replicate (length roles) (replicate (length roles) []) }
