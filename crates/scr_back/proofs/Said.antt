-- Printed statements are read as the same statements.
use Rattle.std.proofs.Common.{◌≡◌, ◌≢◌, Option, Some, None, ℕ, ◌+◌, ◌*◌, List, [], ◌∷◌, ◌++◌, refl, sym, ap, subst, ◌∙◌, append_assoc}
use Rattle.std.proofs.Common.{codes, arith}
use Rattle.std.specs.List.{AllByRecursion}
use Rattle.mg_text.specs.Call.{Name}
use Rattle.mg_text.specs.declared.place.Place.{Place}
use Rattle.mg_read.proofs.Lists.{Each}
use Rattle.scr_tree.specs.declared.syntax.Message.{Message}
use Rattle.scr_tree.specs.declared.syntax.Payload.{Payload}
use Rattle.scr_tree.specs.declared.syntax.Payload.TheVariants as payloads
use Rattle.scr_tree.specs.declared.token.Mark.{Mark}
use Rattle.scr_tree.specs.declared.token.Mark.TheVariants as marks
use Rattle.scr_tree.specs.Tok.{Tok, named, marked}
use Rattle.scr_tree.specs.Tree.{Statements, Nothing, Says, Choice, Rec, Continue, Do, Branches, NoBranch, Branch}
use Rattle.scr_tree.specs.Valid.{AreWritten, AreWrittenIn, HasBranches}
use Rattle.scr_tree.specs.Words.{IsName}
use Rattle.scr_tree.specs.Written.{Carries, Arguments, class_beforehand, kind_of}
use Rattle.scr_parse.specs.Grammar.{Behind as After, Listed, IsNaming, AreTypes, IsMessage, direction_mark, Note, carries, gives}
use Rattle.scr_parse.specs.Grammar.{carries_among, arguments_among, carried, given, IsBraced, AreStatements, AreBranches, AreOthers}
use Rattle.scr_tree.specs.Payloads.{payload_word}
use Rattle.scr_read.specs.Layout.{direction_word, message_text, argument_list, do_text, braced, lines, branch_lines}
use Rattle.scr_back.specs.Same.{IsSameMessage, AreSame, AreSameBranches}
use Rattle.scr_back.proofs.Told.{Any, NoName, Told, nothing, convert, blank_then, indented, Behind, sign_then, word_then, Both, both}
use Rattle.scr_back.proofs.Marks.{naming, choice_word, at_word, or_word, rec_word, continue_word, do_word, int_type, boolean_type}
use Rattle.scr_back.proofs.Marks.{string_type, direction_token}

-- behind a token
pub on : {t : Tok} {us vs : List Tok} → us ≡ vs → ◌≡◌ {A = List Tok} (t ∷ us) (t ∷ vs)
on {t} e = ap (λ z. t ∷ z) e

-- ---- what a message carries

-- no type, or one that is declared beforehand
abbrev pub IsPlain : List Name → Type 0
IsPlain [] = Unit {0}
IsPlain (w ∷ []) = class_beforehand w ≢ None
IsPlain _ = ⊥

-- such types, and all roles in their order
abbrev pub IsPlainNote : List Name → Note → Type 0
IsPlainNote roles (carries c) = IsPlain c.types
IsPlainNote roles (gives a) = a.roles ≡ roles

abbrev pub ArePlain : List Name → List Note → Type 0
ArePlain roles = AllByRecursion (IsPlainNote roles)

plain-append : (roles : List Name) (cs ds : List Note) → ArePlain roles cs → ArePlain roles ds → ArePlain roles (cs ++ ds)
plain-append roles [] ds h g = g
plain-append roles (c ∷ cs) ds h g = (h.0, plain-append roles cs ds h.1 g)

-- of the notes, what messages carry and what `do`s are given
abbrev pub PlainCarried : List Carries → Type 0
PlainCarried = AllByRecursion (λ m. IsPlain m.types)

abbrev pub GivenAll : List Name → List Arguments → Type 0
GivenAll roles = AllByRecursion (λ a. a.roles ≡ roles)

pub plain_carried : (roles : List Name) (ns : List Note) → ArePlain roles ns → PlainCarried (carries_among ns)
plain_carried roles [] h = tt
plain_carried roles (carries c ∷ ns) h = (h.0, plain_carried roles ns h.1)
plain_carried roles (gives a ∷ ns) h = plain_carried roles ns h.1

pub given_all : (roles : List Name) (ns : List Note) → ArePlain roles ns → GivenAll roles (arguments_among ns)
given_all roles [] h = tt
given_all roles (carries c ∷ ns) h = given_all roles ns h.1
given_all roles (gives a ∷ ns) h = (h.0, given_all roles ns h.1)

abbrev Typed : Payload → List Tok → Type 0
Typed payload ts = (types : List Name) × AreTypes types ts × (payload ≡ kind_of [] types) × IsPlain types

typed_one : (w : Name) (payload : Payload) → payload ≡ kind_of [] (w ∷ []) → (class_beforehand w ≢ None) → (ts : List Tok) →
    Behind (λ a. named a w) (λ us. us ≡ []) ts → Typed payload ts
typed_one w payload e known ts h = (w ∷ [], (named h.0 w ∷ [], [], h.2 ∙ on h.3, (h.0, refl), refl), e, known)

some : {X : Type 0} {x : X} → (◌≡◌ {A = Option X} (Some x) None) → ⊥
some e = cc

types : (payload : Payload) → Told NoName (Typed payload) (payload_word payload)
types payloads.Nothing = convert (λ ts e. ([], e, refl, tt)) nothing
types payloads.Int = convert (typed_one (codes "int") payloads.Int refl some) (word_then (codes "int") _ int_type (λ bytes o. o) nothing)
types payloads.Boolean = convert (typed_one (codes "boolean") payloads.Boolean refl some)
    (word_then (codes "boolean") _ boolean_type (λ bytes o. o) nothing)
types payloads.Text = convert (typed_one (codes "String") payloads.Text refl some)
    (word_then (codes "String") _ string_type (λ bytes o. o) nothing)

-- ---- a message

abbrev Messaged : Message → List Tok → Type 0
Messaged m ts = (n : Message) × (types : List Name) × IsSameMessage m n × IsMessage [] n types ts × IsPlain types

abbrev Sign : Mark → (List Tok → Type 0) → List Tok → Type 0
Sign mark P = Behind (λ a. marked a mark) P

abbrev MessageParts : Message → List Tok → Type 0
MessageParts m =
    Behind (λ a. named a m.label) (Sign marks.OpenParen
    (Both (Typed m.payload) (Sign marks.CloseParen
    (Sign (direction_mark m.direction) (Behind (λ a. named a m.peer) (Sign marks.Semicolon (λ ts. ts ≡ [])))))))

message_form : (m : Message) (ts : List Tok) → MessageParts m ts → Messaged m ts
message_form m ts h =
    let o = h.3 in let b = o.3 in let k = b.4 in let d = k.3 in let p = d.3 in let s = p.3 in (
      record { place = h.0; direction = m.direction; peer = m.peer; label = m.label; payload = m.payload },
      b.3.0,
      record { direction = refl; peer = refl; label = refl; payload = refl },
      (
        o.0,
        k.0,
        d.0,
        p.0,
        s.0,
        b.0,
        h.2 ∙ on (o.2 ∙ on (b.2 ∙ ap (λ z. b.0 ++ z) (k.2 ∙ on (d.2 ∙ on (p.2 ∙ on (s.2 ∙ on s.3)))))),
        b.3.1,
        b.3.2,
      ),
      b.3.3,
    )

message : (m : Message) → IsName m.label → IsName m.peer → Told Any (Messaged m) (message_text m)
message m label peer =
    convert (message_form m)
    (word_then m.label (λ a. named a m.label) (naming m.label label) (λ bytes o. refl)
    (sign_then 40 marks.OpenParen refl refl (omega arith) refl
    (both (types m.payload) (λ bytes o. refl)
    (sign_then 41 marks.CloseParen refl refl (omega arith) refl
    (blank_then 32 refl (omega arith)
    (word_then (direction_word m.direction) (λ a. marked a (direction_mark m.direction)) (direction_token m.direction) (λ bytes o. refl)
    (blank_then 32 refl (omega arith)
    (word_then m.peer (λ a. named a m.peer) (naming m.peer peer) (λ bytes o. refl)
    (sign_then 59 marks.Semicolon refl refl (omega arith) refl nothing)))))))))

-- ---- the arguments of a `do`

-- there is one at least
abbrev pub HasName : List Name → Type 0
HasName [] = ⊥
HasName (name ∷ names) = Unit {0}

abbrev MoreGiven : List Name → List Tok → Type 0
MoreGiven names ts = Each (After marks.Comma IsNaming) names ts

argument_form : (name : Name) (names : List Name) (ts : List Tok) → Sign marks.Comma (Behind (λ a. named a name) (MoreGiven names)) ts →
    MoreGiven (name ∷ names) ts
argument_form name names ts h =
    let n = h.3 in (marked h.0 marks.Comma ∷ named n.0 name ∷ [], n.1, h.2 ∙ on n.2, (h.0, named n.0 name ∷ [], refl, (n.0, refl)), n.3)

first_form : (name : Name) (names : List Name) (ts : List Tok) → Behind (λ a. named a name) (MoreGiven names) ts →
    Listed marks.Comma IsNaming (name ∷ names) ts
first_form name names ts n = (named n.0 name ∷ [], n.1, n.2, (n.0, refl), n.3)

argument_stops : (names : List Name) (bytes : List ℕ) → NoName bytes → NoName (argument_list (codes ", ") names ++ bytes)
argument_stops [] bytes o = o
argument_stops (name ∷ names) bytes o = refl

more_arguments : (names : List Name) → AllByRecursion IsName names → Told NoName (MoreGiven names) (argument_list (codes ", ") names)
more_arguments [] h = convert (λ ts e. e) nothing
more_arguments (name ∷ names) h =
    convert (argument_form name names) (sign_then 44 marks.Comma refl refl (omega arith) refl (blank_then 32 refl (omega arith)
    (word_then name (λ a. named a name) (naming name h.0) (argument_stops names) (more_arguments names h.1))))

arguments : (names : List Name) → AllByRecursion IsName names → HasName names → Told NoName (Listed marks.Comma IsNaming names)
    (argument_list [] names)
arguments [] h has = absurd has
arguments (name ∷ names) h has =
    convert (first_form name names) (word_then name (λ a. named a name) (naming name h.0) (argument_stops names) (more_arguments names h.1))

-- ---- statements

abbrev pub Stated : List Name → Statements → List Tok → Type 0
Stated roles ss ts = (ss' : Statements) × (cs : List Note) × AreSame ss ss' × AreStatements [] ss' cs ts × ArePlain roles cs

abbrev pub Blocked : List Name → Statements → List Tok → Type 0
Blocked roles ss ts = (ss' : Statements) × (cs : List Note) × AreSame ss ss' × IsBraced (AreStatements [] ss' cs) ts × ArePlain roles cs

abbrev Branched : List Name → Branches → List Tok → Type 0
Branched roles bs ts = (bs' : Branches) × (cs : List Note) × AreSameBranches bs bs' × AreBranches [] bs' cs ts × ArePlain roles cs

abbrev Others : List Name → Branches → List Tok → Type 0
Others roles bs ts = (bs' : Branches) × (cs : List Note) × AreSameBranches bs bs' × AreOthers [] bs' cs ts × ArePlain roles cs

says_form : (roles : List Name) (m : Message) (rest : Statements) (ts : List Tok) → Both (Messaged m) (Stated roles rest) ts →
    Stated roles (Says m rest) ts
says_form roles m rest ts h =
    let n = h.3 in let r = h.4 in
    (Says n.0 r.0, carries (carried n.0.place n.1) ∷ r.1, (n.2, r.2), (n.1, r.1, h.0, h.1, refl, h.2, n.3, r.3), (n.4, r.4))

choice_form : (roles : List Name) (place : Place) (at : Name) (bs : Branches) (rest : Statements) (ts : List Tok) →
    Sign marks.Choice (Sign marks.At (Behind (λ a. named a at) (Both (Branched roles bs) (Stated roles rest)))) ts →
    Stated roles (Choice place at bs rest) ts
choice_form roles place at bs rest ts h =
    let a = h.3 in let n = a.3 in let b = n.3 in let l = b.3 in let r = b.4 in (
      Choice h.0 at l.0 r.0,
      l.1 ++ r.1,
      (refl, l.2, r.2),
      (
        a.0,
        n.0,
        l.1,
        r.1,
        b.0,
        b.1,
        refl,
        h.2 ∙ on (a.2 ∙ on (n.2 ∙ on b.2)),
        l.3,
        r.3,
      ),
      plain-append roles l.1 r.1 l.4 r.4,
    )

rec_form : (roles : List Name) (place : Place) (name : Name) (body rest : Statements) (ts : List Tok) →
    Sign marks.Rec (Behind (λ a. named a name) (Both (Blocked roles body) (Stated roles rest))) ts →
    Stated roles (Rec place name body rest) ts
rec_form roles place name body rest ts h =
    let n = h.3 in let b = n.3 in let l = b.3 in let r = b.4 in (
      Rec h.0 name l.0 r.0,
      l.1 ++ r.1,
      (refl, l.2, r.2),
      (n.0, l.1, r.1, b.0, b.1, refl, h.2 ∙ on (n.2 ∙ on b.2), l.3, r.3),
      plain-append roles l.1 r.1 l.4 r.4,
    )

continue_form : (roles : List Name) (place : Place) (name : Name) (rest : Statements) (ts : List Tok) →
    Sign marks.Continue (Behind (λ a. named a name) (Sign marks.Semicolon (Stated roles rest))) ts →
    Stated roles (Continue place name rest) ts
continue_form roles place name rest ts h =
    let n = h.3 in let s = n.3 in let r = s.3 in
    (Continue h.0 name r.0, r.1, (refl, r.2), (n.0, s.0, s.1, h.2 ∙ on (n.2 ∙ on s.2), r.3), r.4)

do_form : (roles : List Name) (place : Place) (name : Name) (rest : Statements) (ts : List Tok) →
    Sign marks.Do (Behind (λ a. named a name)
    (Sign marks.OpenParen (Both (Listed marks.Comma IsNaming roles)
    (Sign marks.CloseParen (Sign marks.Semicolon (Stated roles rest)))))) ts →
    Stated roles (Do place name rest) ts
do_form roles place name rest ts h =
    let n = h.3 in let o = n.3 in let l = o.3 in let k = l.4 in let s = k.3 in let r = s.3 in (
      Do h.0 name r.0,
      gives (given h.0 name roles) ∷ r.1,
      (refl, r.2),
      (n.0, o.0, k.0, s.0, roles, r.1, l.0, s.1, refl, h.2 ∙ on (n.2 ∙ on (o.2 ∙ on (l.2 ∙ ap (λ z. l.0 ++ z) (k.2 ∙ on s.2)))), l.3, r.3),
      (refl, r.4),
    )

block_form : (roles : List Name) (body : Statements) (ts : List Tok) →
    Sign marks.OpenBrace (Both (Stated roles body) (Sign marks.CloseBrace (λ ts. ts ≡ []))) ts → Blocked roles body ts
block_form roles body ts h =
    let b = h.3 in let l = b.3 in let k = b.4 in
    (l.0, l.1, l.2, (h.0, k.0, b.0, h.2 ∙ on (b.2 ∙ ap (λ z. b.0 ++ z) (k.2 ∙ on k.3)), l.3), l.4)

branches_form : (roles : List Name) (b : Statements) (more : Branches) (ts : List Tok) → Both (Blocked roles b) (Others roles more) ts →
    Branched roles (Branch b more) ts
branches_form roles b more ts h =
    let l = h.3 in let r = h.4 in (
      Branch l.0 r.0,
      l.1 ++ r.1,
      (l.2, r.2),
      (l.1, r.1, h.0, h.1, refl, h.2, l.3, r.3),
      plain-append roles l.1
          r.1 l.4 r.4,
    )

others_form : (roles : List Name) (b : Statements) (more : Branches) (ts : List Tok) →
    Sign marks.Or (Both (Blocked roles b) (Others roles more)) ts → Others roles (Branch b more) ts
others_form roles b more ts h =
    let g = h.3 in let l = g.3 in let r = g.4 in (
      Branch l.0 r.0,
      l.1 ++ r.1,
      (l.2, r.2),
      (h.0, l.1, r.1, g.0, g.1, refl, h.2 ∙ on g.2, l.3, r.3),
      plain-append roles l.1 r.1 l.4 r.4,
    )

-- braces round what is told
in_braces : (roles : List Name) (level : ℕ) (body : Statements) (inside : List ℕ) → Told Any (Stated roles body) inside →
    Told Any (Blocked roles body) (braced level inside)
in_braces roles level body inside h =
    convert (block_form roles body) (sign_then 123 marks.OpenBrace refl refl (omega arith) refl (blank_then 10 refl (omega arith)
    (both h (λ bytes o. tt) (indented (4 * level) (sign_then 125 marks.CloseBrace refl refl (omega arith) refl nothing)))))

-- the line of a `do`, as its tokens stand in it
do_line : (roles : List Name) (name : Name) (more : List ℕ) →
    codes "do" ++ 32 ∷ (name ++ 40 ∷ (argument_list [] roles ++ 41 ∷ 59 ∷ 10 ∷ more)) ≡ do_text roles name ++ (codes "\n" ++ more)
do_line roles name more =
    sym (ap (λ z. codes "do " ++ z) (append_assoc name (codes "(" ++ (argument_list [] roles ++ codes ");")) (codes "\n" ++ more)
    ∙ ap (λ z. name ++ (codes "(" ++ z)) (append_assoc (argument_list [] roles) (codes ");") (codes "\n" ++ more))))

mutual
  pub told : (roles : List Name) → AllByRecursion IsName roles → HasName roles → (level : ℕ) (ss : Statements) → AreWritten ss →
      Told Any (Stated roles ss) (lines roles level ss)
  told roles fine some_role level Nothing w = convert (λ ts e. (Nothing, [], tt, (refl, e), tt)) nothing
  told roles fine some_role level (Says m rest) w =
      indented (4 * level) (convert (says_form roles m rest)
      (both (message m w.0 w.1) (λ bytes o. tt) (blank_then 10 refl (omega arith) (told roles fine some_role level rest w.2))))
  told roles fine some_role level (Choice place at bs rest) w =
      indented (4 * level) (convert (choice_form roles place at bs rest)
      (word_then (codes "choice") (λ a. marked a marks.Choice) choice_word (λ bytes o. refl) (blank_then 32 refl (omega arith)
      (word_then (codes "at") (λ a. marked a marks.At) at_word (λ bytes o. refl) (blank_then 32 refl (omega arith)
      (word_then at (λ a. named a at) (naming at w.0) (λ bytes o. refl) (blank_then 32 refl (omega arith)
      (both (branches roles fine some_role level bs w.1 w.2) (λ bytes o. tt)
      (blank_then 10 refl (omega arith) (told roles fine some_role level rest w.3))))))))))
  told roles fine some_role level (Rec place name body rest) w =
      indented (4 * level) (convert (rec_form roles place name body rest)
      (word_then (codes "rec") (λ a. marked a marks.Rec) rec_word (λ bytes o. refl) (blank_then 32 refl (omega arith)
      (word_then name (λ a. named a name) (naming name w.0) (λ bytes o. refl) (blank_then 32 refl (omega arith)
      (both (in_braces roles level body (lines roles (level + 1) body) (told roles fine some_role (level + 1) body w.1)) (λ bytes o. tt)
      (blank_then 10 refl (omega arith) (told roles fine some_role level rest w.2))))))))
  told roles fine some_role level (Continue place name rest) w =
      indented (4 * level) (convert (continue_form roles place name rest)
      (word_then (codes "continue") (λ a. marked a marks.Continue) continue_word (λ bytes o. refl) (blank_then 32 refl (omega arith)
      (word_then name (λ a. named a name) (naming name w.0) (λ bytes o. refl)
      (sign_then 59 marks.Semicolon refl refl (omega arith) refl
      (blank_then 10 refl (omega arith) (told roles fine some_role level rest w.1)))))))
  told roles fine some_role level (Do place name rest) w =
      indented (4 * level) (subst (Told Any (Stated roles (Do place name rest))) (do_line roles name (lines roles level rest))
      (convert (do_form roles place name rest)
      (word_then (codes "do") (λ a. marked a marks.Do) do_word (λ bytes o. refl) (blank_then 32 refl (omega arith)
      (word_then name (λ a. named a name) (naming name w.0) (λ bytes o. refl)
      (sign_then 40 marks.OpenParen refl refl (omega arith) refl
      (both (arguments roles fine some_role) (λ bytes o. refl)
      (sign_then 41 marks.CloseParen refl refl (omega arith) refl
      (sign_then 59 marks.Semicolon refl refl (omega arith) refl
      (blank_then 10 refl (omega arith) (told roles fine some_role level rest w.1)))))))))))

  branches : (roles : List Name) → AllByRecursion IsName roles → HasName roles → (level : ℕ) (bs : Branches) → HasBranches bs →
      AreWrittenIn bs → Told Any (Branched roles bs) (branch_lines roles [] level bs)
  branches roles fine some_role level NoBranch has w = absurd has
  branches roles fine some_role level (Branch b more) has w =
      convert (branches_form roles b more)
      (both (in_braces roles level b (lines roles (level + 1) b) (told roles fine some_role (level + 1) b w.0)) (λ bytes o. tt)
      (others roles fine some_role level more w.1))

  others : (roles : List Name) → AllByRecursion IsName roles → HasName roles → (level : ℕ) (bs : Branches) → AreWrittenIn bs →
      Told Any (Others roles bs) (branch_lines roles (codes " or ") level bs)
  others roles fine some_role level NoBranch w = convert (λ ts e. (NoBranch, [], tt, (refl, e), tt)) nothing
  others roles fine some_role level (Branch b more) w =
      blank_then 32 refl (omega arith) (convert (others_form roles b more)
      (word_then (codes "or") (λ a. marked a marks.Or) or_word (λ bytes o. refl) (blank_then 32 refl (omega arith)
      (both (in_braces roles level b (lines roles (level + 1) b) (told roles fine some_role (level + 1) b w.0)) (λ bytes o. tt)
      (others roles fine some_role level more w.1)))))

-- braces round printed statements
pub block_told : (roles : List Name) → AllByRecursion IsName roles → HasName roles → (level : ℕ) (ss : Statements) → AreWritten ss →
    Told Any (Blocked roles ss) (braced level (lines roles (level + 1) ss))
block_told roles fine some_role level ss w = in_braces roles level ss (lines roles (level + 1) ss)
    (told roles fine some_role (level + 1) ss w)
