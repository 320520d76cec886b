-- What laying out makes of statements, in front of what is there.
use Rattle.std.specs.Prelude.{◌≡◌, ℕ, suc, List, [], ◌∷◌, ◌++◌, length, get_or, slice_set, Option, Some, None, Bool, true, false}
use Rattle.std.specs.Prelude.{if◌then◌else◌}
use Rattle.std.specs.Str.{bytes_eq}
use Rattle.mg_text.specs.Call.{Name}
use Rattle.scr_tree.specs.declared.syntax.Message.{Message as Said}
use Rattle.scr_tree.specs.Tree.{LocalTree, Titled, titled, Statements, Nothing, Says, Choice, Rec, Continue, Do, Branches, NoBranch, Branch}
use Rattle.scr_trace.specs.declared.arrow.Hop.{Hop}
use Rattle.scr_trace.specs.declared.arrow.Hop.TheVariants as hops

-- a message, and where it leads
pub record Draft : Type 0 where
  pub message : Said
  pub to : Hop

-- what a state offers, in the order of the text; a choice elsewhere has the count of those behind its opening
pub record Cell : Type 0 where
  pub number : Option ℕ
  pub drafts : List Draft

-- what is laid out of a text, from here on
pub record Work : Type 0 where
  pub cells : List Cell
  pub loops : List ℕ
  -- where the protocols begin that are laid out, that of the last one first
  pub entries : List Hop
  pub choices : ℕ
  pub next : Hop

-- nothing is laid out
abbrev pub nothing : Work
nothing = record { cells = []; loops = []; entries = []; choices = 0; next = hops.End }

pub record Known : Type 0 where
  pub name : Name
  pub number : ℕ

abbrev pub hop_named : Name → List Known → Hop
hop_named name [] = hops.End
hop_named name (k ∷ ks) = if bytes_eq name k.name then hops.Loop k.number else hop_named name ks

-- where a `do` leads, by the number of its protocol
abbrev pub hop_to : Option ℕ → Hop
hop_to None = hops.End
hop_to (Some number) = hops.Part number

-- what is laid out, and the first messages of the branches that are
pub record Gathered : Type 0 where
  pub work : Work
  pub drafts : List Draft

unfoldable pub said : Said → Work → Work
said m w = record w {
  cells = record { number = None; drafts = record { message = m; to = w.next } ∷ [] } ∷ w.cells;
  next = hops.State (suc (length w.cells));
}

unfoldable pub opened : Work → Work
opened w = record w { loops = w.loops ++ 0 ∷ [] }

unfoldable pub closed : ℕ → Work → Work
closed number w = record w { loops = slice_set w.loops number (length w.cells) }

unfoldable pub chosen : Bool → Gathered → Work
chosen self g = record {
  cells = record { number = if self then None else Some g.work.choices; drafts = g.drafts } ∷ g.work.cells;
  loops = g.work.loops;
  entries = g.work.entries;
  choices = if self then g.work.choices else suc g.work.choices;
  next = hops.State (suc (length g.work.cells));
}

-- the first message of a branch, which is a state in a choice elsewhere
unfoldable pub joined : Bool → Said → Gathered → Gathered
joined true m g = record { work = g.work; drafts = record { message = m; to = g.work.next } ∷ g.drafts }
joined false m g = record { work = said m g.work; drafts = record { message = m; to = hops.State (suc (length g.work.cells)) } ∷ g.drafts }

abbrev pub turned : Hop → Gathered → Gathered
turned behind g = record { work = record g.work { next = behind }; drafts = g.drafts }

abbrev pub gathering : Work → Gathered
gathering w = record { work = w; drafts = [] }

-- `known` gives the numbers of the protocols
module _ (me : Name) (known : Name → Option ℕ) where
  abbrev mutual
    pub lay : List Known → Work → Statements → Work
    lay around w Nothing = w
    lay around w (Says m rest) = said m (lay around w rest)
    lay around w (Choice place at branches rest) =
        let v = lay around w rest in
        chosen (bytes_eq at me) (lay_in around (bytes_eq at me) v.next (gathering v) branches)
    lay around w (Rec place name body rest) =
        let v = lay around w rest in
        closed (length v.loops) (lay (record { name = name; number = length v.loops } ∷ around) (opened v) body)
    lay around w (Continue place name rest) = record (lay around w rest) { next = hop_named name around }
    lay around w (Do place name rest) = record (lay around w rest) { next = hop_to (known name) }

    pub lay_in : List Known → Bool → Hop → Gathered → Branches → Gathered
    lay_in around self behind g NoBranch = g
    lay_in around self behind g (Branch b more) = branch_laid self around b (turned behind (lay_in around self behind g more))

    pub branch_laid : Bool → List Known → Statements → Gathered → Gathered
    branch_laid self around (Says m rest) g = joined self m (record { work = lay around g.work rest; drafts = g.drafts })
    branch_laid self around _ g = g

  -- a protocol, in front of what is there
  abbrev pub part_laid : Statements → Work → Work
  part_laid body w = let v = lay [] (record w { next = hops.End }) body in record v { entries = v.entries ++ v.next ∷ [] }

  abbrev pub parts_laid : List Titled → Work → Work
  parts_laid [] w = w
  parts_laid (t ∷ more) w = part_laid t.body (parts_laid more w)

-- ---- numbers of protocols, from the last one of the text on

abbrev pub number_among : List Titled → Name → Option ℕ
number_among [] name = None
number_among (t ∷ more) name = if bytes_eq name t.name then Some (length more) else number_among more name

abbrev pub number_in : LocalTree → Name → Option ℕ
number_in local = number_among (titled local)

-- ---- what entries lead to

abbrev pub entry_at : ℕ → List Hop → Hop
entry_at k entries = get_or entries k hops.End

-- the hop leads to no protocol
abbrev pub IsPlain : Hop → Type 0
IsPlain (hops.Part k) = ⊥
IsPlain hop = Unit {0}

-- where a hop leads at last, past protocols that only go on as others
pub data Ends (entries : List Hop) : Hop → Hop → Type 0 where
  stops : {hop : Hop} → IsPlain hop → Ends entries hop hop
  onward : {k : ℕ} {end : Hop} → Ends entries (entry_at k entries) end → Ends entries (hops.Part k) end

-- each entry leads where it led at last, if it did
abbrev pub Settled : List Hop → List Hop → Type 0
Settled old new = (k : ℕ) (end : Hop) → Ends old (hops.Part k) end → entry_at k new ≡ end

-- a local protocol with its entries as they are laid out
abbrev pub laid_parts : LocalTree → Work
laid_parts local = parts_laid local.me (number_in local) (titled local) nothing

-- what is laid out of a local protocol: no entry leads to another protocol
pub record LaidOut (local : LocalTree) (w : Work) : Type 0 where
  pub parts : record w { entries = (laid_parts local).entries } ≡ laid_parts local
  pub settled : Settled (laid_parts local).entries w.entries
