-- The same local protocol, places aside.
use Rattle.std.specs.Prelude.{◌≡◌, List, [], ◌∷◌}
use Rattle.scr_tree.specs.declared.syntax.Message.{Message}
use Rattle.scr_tree.specs.Tree.{PartTree, LocalTree, Statements, Nothing, Says, Choice, Rec, Continue, Do, Branches, NoBranch, Branch}

-- two messages differ in their places at most
pub record IsSameMessage (m n : Message) : Type 0 where
  pub direction : m.direction ≡ n.direction
  pub peer : m.peer ≡ n.peer
  pub label : m.label ≡ n.label
  pub payload : m.payload ≡ n.payload

abbrev mutual
  -- statements differ in their places at most
  pub AreSame : Statements → Statements → Type 0
  AreSame Nothing Nothing = Unit {0}
  AreSame (Says m rest) (Says n other) = IsSameMessage m n × AreSame rest other
  AreSame (Choice p at branches rest) (Choice q by others other) = (at ≡ by) × AreSameBranches branches others × AreSame rest other
  AreSame (Rec p name body rest) (Rec q word inner other) = (name ≡ word) × AreSame body inner × AreSame rest other
  AreSame (Continue p name rest) (Continue q word other) = (name ≡ word) × AreSame rest other
  AreSame (Do p name rest) (Do q word other) = (name ≡ word) × AreSame rest other
  AreSame _ _ = ⊥

  pub AreSameBranches : Branches → Branches → Type 0
  AreSameBranches NoBranch NoBranch = Unit {0}
  AreSameBranches (Branch b more) (Branch d others) = AreSame b d × AreSameBranches more others
  AreSameBranches _ _ = ⊥

-- protocols behind the first differ in places at most
abbrev pub AreSameParts : List PartTree → List PartTree → Type 0
AreSameParts [] [] = Unit {0}
AreSameParts (p ∷ ps) (q ∷ qs) = (p.name ≡ q.name) × AreSame p.body q.body × AreSameParts ps qs
AreSameParts _ _ = ⊥

-- local protocols differ in the number of their file and in places at most
pub record IsSame (a b : LocalTree) : Type 0 where
  pub name : a.name ≡ b.name
  pub me : a.me ≡ b.me
  pub roles : a.roles ≡ b.roles
  pub body : AreSame a.body b.body
  pub others : AreSameParts a.others b.others
