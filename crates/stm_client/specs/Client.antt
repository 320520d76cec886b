-- The client of a local protocol: a class whose `main` plays the whole protocol, each statement of the text in its order.
use Rattle.std.specs.Prelude.{ℕ, zero, suc, ◌+◌, pos, Bool, true, false, ◌||◌, List, [], ◌∷◌, ◌++◌, map, length, codes}
use Rattle.std.specs.Prelude.{Option, Some, None, if◌then◌else◌, nat_lt, nat_le}
use Rattle.std.specs.Char.{to_ascii_lowercase}
use Rattle.std.specs.Fmt.{decimal}
use Rattle.std.specs.List.{list_any, range_with_len}
use Rattle.std.specs.Str.{bytes_eq}
use Rattle.mg_text.specs.Call.{Name}
use Rattle.mg_text.specs.JavaWords.{java_words}
use Rattle.mg_text.specs.Places.{start_of}
use Rattle.mg_text.specs.declared.place.Place.{Place}
use Rattle.scr_tree.specs.declared.syntax.Payload.{Payload}
use Rattle.scr_tree.specs.declared.syntax.Payload.TheVariants as payloads
use Rattle.scr_tree.specs.declared.syntax.Message.{Message as Said}
use Rattle.scr_tree.specs.Tree.{LocalTree, Statements, Nothing, Says, Choice, Rec, Continue, Do, Branches, NoBranch, Branch, Titled, titled}
use Rattle.scr_tree.specs.Protocol.{Message, Send, Take}
use Rattle.scr_tree.specs.CallNames.{message_call, label_call}
use Rattle.scr_tree.specs.Meaning.{message_of}
use Rattle.scr_tree.specs.Control.{falls}
use Rattle.scr_tree.specs.Said.{first_said}
use Rattle.ts_tree.specs.declared.parts.TypeName.TheVariants as types
use Rattle.jv_tree.specs.declared.tree.Op.TheVariants as ops
use Rattle.jv_tree.specs.declared.tree.Param.{Param}
use Rattle.jv_tree.specs.Source.{Expr, Int, Truth, Text, Variable, Binary, Call, MethodCall, New}
use Rattle.jv_tree.specs.Source.{Stmt, Block, Local, Assign, IfElse, While, Switch, Break, Return, Print, Eval, NoStmt, Method, Class, ClassDecl}
use Rattle.jv_tree.specs.Source as java
use Rattle.jv_tree.specs.View.{exprs_of, stmts_of, groups_of, OneGroup}
use Rattle.stm_api.specs.Api.{ApiText, written}
use Rattle.stm_client.specs.declared.points.Numbers.{Numbers}
use Rattle.stm_client.specs.Counting.{start, opened, behind, behind_in, own_choices, deepest_of_all, any_goes_on}

-- ---- names

-- what a client is made with: the one place at which all of it stands, the role, and the names of the counters of its own choices
pub record Making : Type 0 where
  pub place : Place
  pub me : Name
  pub counters : List Name

-- the counter of the own choice of this number
abbrev pub counter : ℕ → Name
counter k = codes "chosen" ++ decimal k

-- those of the first own choices of a file, so many
abbrev pub counters : ℕ → List Name
counters n = map counter (range_with_len 1 n)

-- a `rec` around: its name, and the label of its loop
pub record Loop : Type 0 where
  pub name : Name
  pub label : Name

-- a word that Java reserves, or the label of a loop around
abbrev pub is_taken : List Loop → Name → Bool
is_taken loops label = list_any (bytes_eq label) java_words || list_any (λ (l : Loop). bytes_eq l.label label) loops

-- a label with `_` behind it as often as it is taken, at most so often
abbrev pub free_label : ℕ → List Loop → Name → Name
free_label zero loops label = label
free_label (suc n) loops label = if is_taken loops label then free_label n loops (label ++ codes "_") else label

-- The label of a `rec` inside these: its name in small letters, with `_` until it is free. So many are enough, since no word that Java reserves
-- ends with `_`.
abbrev pub label_for : List Loop → Name → Name
label_for loops name = free_label (suc (length loops)) loops (map to_ascii_lowercase name)

-- the label of the `rec` of this name, of which there is one around
abbrev pub label_in : List Loop → Name → Name
label_in [] name = []
label_in (l ∷ loops) name = if bytes_eq l.name name then l.label else label_in loops name

-- ---- expressions

-- the role's object
abbrev pub role : Name
role = codes "role"

-- `role.NAME(..)`
abbrev pub on_role : Place → Name → List Expr → Expr
on_role p name args = MethodCall p (Variable p role) name (exprs_of args)

-- what is sent: the first value of its type
abbrev pub first_value : Place → Payload → List Expr
first_value p payloads.Nothing = []
first_value p payloads.Int = Int p (pos 0) ∷ []
first_value p payloads.Boolean = Truth p false ∷ []
first_value p payloads.Text = Text p [] ∷ []

-- `as_NAME(role, chosen1, ..)`
abbrev pub part_call : Making → Name → Expr
part_call w name = Call w.place (codes "as_" ++ name) (exprs_of (Variable w.place role ∷ map (Variable w.place) w.counters))

-- whether the branch of this number is the one whose turn it is: `chosenK % n == i`
abbrev pub is_turn : Place → (k n i : ℕ) → Expr
is_turn p k n i = Binary p ops.Eq (Binary p ops.Rem (Variable p (counter k)) (Int p (pos n))) (Int p (pos i))

-- ---- statements

abbrev pub block : Place → List Stmt → Stmt
block p body = Block p (stmts_of body) p

-- what is taken is printed, if anything is carried
abbrev pub taken : Place → Payload → Expr → Stmt
taken p payloads.Nothing call = Eval p call
taken p payloads.Int call = Print p call
taken p payloads.Boolean call = Print p call
taken p payloads.Text call = Print p call

-- a message to a peer, or from one
abbrev pub passing : Place → Message → Stmt
passing p (Send peer label kind) = Eval p (on_role p (message_call (Send peer label kind)) (first_value p kind))
passing p (Take peer label kind) = taken p kind (on_role p (message_call (Take peer label kind)) [])

-- `chosenK = chosenK + 1;`
abbrev pub next_turn : Place → ℕ → Stmt
next_turn p k = Assign p (Variable p (counter k)) (Binary p ops.Add (Variable p (counter k)) (Int p (pos 1)))

-- the blocks of branches from this number on, of n: each where its turn is, the last where it is that of none before it
abbrev pub in_turn : Place → (k n i : ℕ) → List Stmt → Stmt
in_turn p k n i [] = block p []
in_turn p k n i (b ∷ []) = b
in_turn p k n i (b ∷ c ∷ more) = IfElse p (is_turn p k n i) b (in_turn p k n (i + 1) (c ∷ more))

-- an own choice of this number: its branches are taken in turn
abbrev pub own_choice : Place → ℕ → List Stmt → List Stmt
own_choice p k blocks = next_turn p k ∷ in_turn p k (length blocks) 1 blocks ∷ []

-- `break`, where control comes there
abbrev pub ended : Place → Option Name → Bool → List Stmt
ended p label true = Break p label ∷ []
ended p label false = []

-- the label of a group, by the first message of its branch
abbrev pub label_of_group : Option Said → List (Option Name)
label_of_group None = []
label_of_group (Some m) = Some m.label ∷ []

abbrev pub group : Place → Statements → List Stmt → OneGroup
group p b body = record { labels = label_of_group (first_said b); body = stmts_of body; end = p }

-- the peer of the first message
abbrev pub peer_of : Option Said → Name
peer_of None = []
peer_of (Some m) = m.peer

abbrev pub first_branch : Branches → Statements
first_branch NoBranch = Nothing
first_branch (Branch b more) = b

-- another's choice of this number: the label that has come decides
abbrev pub other_choice : Making → ℕ → Branches → List OneGroup → Stmt
other_choice w number branches groups =
    Switch w.place (on_role w.place (label_call w.me number (peer_of (first_said (first_branch branches)))) []) (groups_of groups) w.place

-- `label: while (true) { .. }`
abbrev pub looping : Place → Name → List Stmt → Stmt
looping p label body = While p (Some label) (Truth p true) (block p body)

-- the loops around, with this one
abbrev pub with_loop : List Loop → Name → List Loop
with_loop loops name = loops ++ (record { name = name; label = label_for loops name }) ∷ []

abbrev mutual
  -- the statements that play those of the protocol, inside these loops; the next choices have these numbers
  pub plays : Making → List Loop → Numbers → Statements → List Stmt
  plays w loops at Nothing = []
  plays w loops at (Says m rest) = passing w.place (message_of m) ∷ plays w loops at rest
  plays w loops at (Choice place by branches rest) =
      (if bytes_eq by w.me then own_choice w.place at.own (blocks w loops (opened true at) branches)
      else (other_choice w at.there branches (groups w loops (opened false at) branches) ∷ []))
      ++ plays w loops (behind_in w.me (opened (bytes_eq by w.me) at) branches) rest
  plays w loops at (Rec place name body rest) =
      looping w.place (label_for loops name) (plays w (with_loop loops name) at body
      ++ ended w.place (Some (label_for loops name)) (falls body))
      ∷ plays w loops (behind w.me at body) rest
  plays w loops at (Continue place name rest) = java.Continue w.place (Some (label_in loops name)) ∷ plays w loops at rest
  plays w loops at (Do place name rest) = Eval w.place (part_call w name) ∷ Return w.place None ∷ plays w loops at rest

  -- the blocks of the branches of an own choice
  pub blocks : Making → List Loop → Numbers → Branches → List Stmt
  blocks w loops at NoBranch = []
  blocks w loops at (Branch b more) = block w.place (plays w loops at b) ∷ blocks w loops (behind w.me at b) more

  -- the groups of the branches of another's choice
  pub groups : Making → List Loop → Numbers → Branches → List OneGroup
  groups w loops at NoBranch = []
  groups w loops at (Branch b more) =
      group w.place b (plays w loops at b ++ ended w.place None (falls b)) ∷ groups w loops (behind w.me at b) more

-- ---- methods

abbrev pub role_class : Name → Name
role_class me = me ++ codes "Role"

-- `RRole role = new RRole();`
abbrev pub new_role : Making → Stmt
new_role w = Local w.place (types.Named (role_class w.me)) role (New w.place (role_class w.me))

-- `int chosenK = 0;`
abbrev pub new_counter : Place → Name → Stmt
new_counter p name = Local p types.Int name (Int p (pos 0))

-- a static method that answers nothing
abbrev pub static_method : Place → Name → Bool → List Param → List Stmt → Method
static_method p name takes_args params body = record {
  place = p;
  end = p;
  is_static = true;
  result = types.Void;
  name = name;
  params = params;
  takes_args = takes_args;
  body = stmts_of body;
}

-- `main`, with what stands behind its declarations
abbrev pub main_with : Making → List Stmt → Method
main_with w body = static_method w.place (codes "main") true [] (new_role w ∷ (map (new_counter w.place) w.counters ++ body))

abbrev pub counter_param : Place → Name → Param
counter_param p name = record { place = p; ty = types.Int; name = name }

-- the object, and the counters
abbrev pub part_params : Making → List Param
part_params w = record { place = w.place; ty = types.Named (role_class w.me); name = role } ∷ map (counter_param w.place) w.counters

-- the method that plays a protocol of a file of several
abbrev pub part_method : Making → Name → List Stmt → Method
part_method w name body = static_method w.place (codes "as_" ++ name) false (part_params w) body

-- the methods of the protocols of a file, from these numbers on
abbrev pub part_methods : Making → Numbers → List Titled → List Method
part_methods w at [] = []
part_methods w at (t ∷ ts) = part_method w t.name (plays w [] at t.body) ∷ part_methods w (behind w.me at t.body) ts

-- the methods of a client: one protocol is played by `main`; several, or one that goes on by `do`, by a method each
abbrev pub methods : Making → LocalTree → (several : Bool) → List Method
methods w local false = main_with w (plays w [] start local.body) ∷ []
methods w local true = main_with w (Eval w.place (part_call w local.name) ∷ []) ∷ part_methods w start (titled local)

-- ---- the whole

abbrev pub making_of : LocalTree → Making
making_of local = record { place = start_of local.file; me = local.me; counters = counters (own_choices local.me 0 (titled local)) }

-- the class of these methods
abbrev pub class_with : Making → List Method → Class
class_with w ms = record { place = w.place; name = w.me ++ codes "Main"; typestate = None; fields = []; methods = ms }

abbrev pub client_file : Making → LocalTree → (several : Bool) → ApiText
client_file w local several = written (w.me ++ codes "Main.java") (ClassDecl (class_with w (methods w local several)) ∷ [])

-- whether each protocol of the file has a method
abbrev pub is_several : LocalTree → Bool
is_several local = nat_lt 0 (length local.others) || any_goes_on (titled local)

-- The file of the client of a local protocol; each place is the first of the protocol's file. There is none where more than 200 branches of
-- own choices stand one inside another: a file of Java has statements and expressions at most 200 deep.
abbrev pub client_of : LocalTree → Option ApiText
client_of local =
    if nat_le (deepest_of_all local.me (titled local)) 200 then Some (client_file (making_of local) local (is_several local)) else None
