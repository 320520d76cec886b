-- The protocol that a tree says: places are left out, and the choices of other roles are numbered from 1 in the order of the text,
-- which runs through the whole file.
use Rattle.std.specs.Prelude.{ℕ, suc, ◌+◌, List, [], ◌∷◌, if◌then◌else◌}
use Rattle.std.specs.Str.{bytes_eq}
use Rattle.mg_text.specs.Call.{Name}
use Rattle.scr_tree.specs.declared.syntax.Direction.{Direction}
use Rattle.scr_tree.specs.declared.syntax.Direction.TheVariants as directions
use Rattle.scr_tree.specs.declared.syntax.Payload.{Payload}
use Rattle.scr_tree.specs.declared.syntax.Message.{Message as Said}
use Rattle.scr_tree.specs.Tree.{Statements, Branches as Written, Titled, LocalTree, titled}
use Rattle.scr_tree.specs.Tree as tree
use Rattle.scr_tree.specs.Protocol.{Message, Send, Take, Protocol, Done, Does, ChoiceHere, ChoiceThere, Rec, Continue, Do, Branches, NoMore}
use Rattle.scr_tree.specs.Protocol.{Branch, Named, Parts}

abbrev pub towards : Direction → Name → Name → Payload → Message
towards directions.To peer label kind = Send peer label kind
towards directions.From peer label kind = Take peer label kind

-- a message without its place
abbrev pub message_of : Said → Message
message_of said = towards said.direction said.peer said.label said.payload

abbrev mutual
  -- how many choices are made elsewhere
  pub choices : Name → Statements → ℕ
  choices me tree.Nothing = 0
  choices me (tree.Says said rest) = choices me rest
  choices me (tree.Choice place at branches rest) = (if bytes_eq at me then 0 else 1) + choices_in me branches + choices me rest
  choices me (tree.Rec place name body rest) = choices me body + choices me rest
  choices me (tree.Continue place name rest) = choices me rest
  choices me (tree.Do place name rest) = choices me rest

  pub choices_in : Name → Written → ℕ
  choices_in me tree.NoBranch = 0
  choices_in me (tree.Branch statements more) = choices me statements + choices_in me more

abbrev mutual
  -- the protocol of statements whose choices elsewhere are numbered from n on
  pub numbered : Name → ℕ → Statements → Protocol
  numbered me n tree.Nothing = Done
  numbered me n (tree.Says said rest) = Does (message_of said) (numbered me n rest)
  numbered me n (tree.Choice place at branches rest) =
      if bytes_eq at me then ChoiceHere (numbered_in me n branches) (numbered me (n + choices_in me branches) rest)
      else ChoiceThere n (numbered_in me (suc n) branches) (numbered me (suc n + choices_in me branches) rest)
  numbered me n (tree.Rec place name body rest) = Rec name (numbered me n body) (numbered me (n + choices me body) rest)
  numbered me n (tree.Continue place name rest) = Continue name (numbered me n rest)
  numbered me n (tree.Do place name rest) = Do name (numbered me n rest)

  pub numbered_in : Name → ℕ → Written → Branches
  numbered_in me n tree.NoBranch = NoMore
  numbered_in me n (tree.Branch statements more) = Branch (numbered me n statements) (numbered_in me (n + choices me statements) more)

-- the parts that these protocols say; the numbers go on from one to the next
abbrev pub numbered_parts : Name → ℕ → List Titled → Parts
numbered_parts me n [] = []
numbered_parts me n (t ∷ more) = record { name = t.name; body = numbered me n t.body } ∷ numbered_parts me (n + choices me t.body) more

-- what the first protocol says
abbrev pub first_of : LocalTree → Protocol
first_of local = numbered local.me 1 local.body

-- what the role of a local protocol does
abbrev pub protocol_of : LocalTree → Parts
protocol_of local = numbered_parts local.me 1 (titled local)
