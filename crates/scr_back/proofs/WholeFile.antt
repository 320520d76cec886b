-- A printed local protocol is read as the same protocol.
use Rattle.std.proofs.Common.{◌≡◌, None, ℕ, suc, max, ◌≤◌, ⊎_elim, inl, List, [], ◌∷◌, ◌++◌, refl, sym, ap, subst, ◌∙◌, codes, arith}
use Rattle.std.proofs.Common.{Contains, append_assoc, length, map}
use Rattle.std.specs.List.{AllByRecursion}
use Rattle.std.proofs.lemmas.List.{append-nil}
use Rattle.std.proofs.lemmas.List.Elements.{Contains-append_cases, Contains-push_cases}
use Rattle.mg_text.specs.Call.{Name}
use Rattle.mg_read.specs.Each.{Each}
use Rattle.scr_tree.specs.declared.token.Mark.TheVariants as marks
use Rattle.scr_tree.specs.Tok.{Tok, named, marked}
use Rattle.scr_tree.specs.Tree.{PartTree, LocalTree, Titled, titled, other, Statements, Nothing, Says, Choice, Rec, Continue, Do, Branches}
use Rattle.scr_tree.specs.Tree.{NoBranch, Branch}
use Rattle.scr_tree.specs.Valid.{IsWritten, IsWrittenPart, AreWritten, depth, depth_in}
use Rattle.scr_tree.specs.Words.{IsName}
use Rattle.mg_read.specs.First.{Judged}
use Rattle.mg_read.proofs.Judging.{clean-judged}
use Rattle.scr_tree.specs.Written.{WrittenPart, WrittenTree, roles_in, part_meant, local_of}
use Rattle.scr_lex.specs.Pieces.{AreTokens}
use Rattle.scr_parse.specs.Grammar.{carries_among, arguments_among, IsLocal, IsShallow, IsSpelled}
use Rattle.scr_read.specs.Unsupported.{IsUnsupported}
use Rattle.scr_read.specs.declared.words.ProtocolKind.TheVariants as kinds
use Rattle.scr_read.specs.Spelling.{Spells}
use Rattle.scr_read.specs.Layout.{layout, block, part_text, part_texts, role_list}
use Rattle.scr_back.specs.Same.{AreSame, AreSameBranches, AreSameParts, IsSame}
use Rattle.scr_back.proofs.Told.{Any, NoName, Told, nothing, blank_then, Behind, sign_then, word_then, Both, both, Whole, whole}
use Rattle.scr_back.proofs.Marks.{naming, local_word, protocol_word, at_word}
use Rattle.scr_back.proofs.Said.{on, HasName, PlainCarried, GivenAll, plain_carried, given_all, Blocked, block_told}
use Rattle.scr_back.proofs.Header.{RolesTold, roles_told}

-- ---- depth

mutual
  same_depth : (ss ss' : Statements) → AreSame ss ss' → depth ss ≡ depth ss'
  same_depth Nothing Nothing h = refl
  same_depth (Says m rest) (Says n other) h = ap (max 1) (same_depth rest other h.1)
  same_depth (Choice p at bs rest) (Choice q by cs other) h = λ i. max (suc (same_depth_in bs cs h.1 i)) (same_depth rest other h.2 i)
  same_depth (Rec p name body rest) (Rec q word inner other) h = λ i. max (suc (same_depth body inner h.1 i)) (same_depth rest other h.2 i)
  same_depth (Continue p name rest) (Continue q word other) h = ap (max 1) (same_depth rest other h.1)
  same_depth (Do p name rest) (Do q word other) h = ap (max 1) (same_depth rest other h.1)
  same_depth _ _ h = absurd h

  same_depth_in : (bs cs : Branches) → AreSameBranches bs cs → depth_in bs ≡ depth_in cs
  same_depth_in NoBranch NoBranch h = refl
  same_depth_in (Branch b more) (Branch d others) h = λ i. max (same_depth b d h.0 i) (same_depth_in more others h.1 i)
  same_depth_in _ _ h = absurd h

-- ---- names of roles

listed_name : (names : List Name) (name : Name) → AllByRecursion IsName names → Contains names name → IsName name
listed_name [] name h c = absurd (omega (arith, c.1))
listed_name (x ∷ xs) name h c =
    ⊎_elim (λ one. ⊎_elim (λ none. absurd (omega (arith, none.1))) (λ same. subst IsName same h.0) (Contains-push_cases [] x name one))
    (λ more. listed_name xs name h.1 more)
    (Contains-append_cases (x ∷ []) xs name c)

-- ---- a protocol

abbrev PartTold : Name → List Name → Titled → (List Tok → Type 0) → List Tok → Type 0
PartTold me roles t P =
    Behind (λ a. marked a marks.Local)
    (Behind (λ a. marked a marks.Protocol) (Behind (λ a. named a t.name) (Behind (λ a. marked a marks.At) (Behind (λ a. named a me)
    (Behind (λ a. marked a marks.OpenParen)
    (Both (RolesTold roles) (Behind (λ a. marked a marks.CloseParen) (Both (Blocked roles t.body) P))))))))

-- a protocol that says the same, of the same role with the same roles; what it carries is plain, and all roles are given to each `do`
pub record SamePart (me : Name) (roles : List Name) (t : Titled) (p : WrittenPart) : Type 0 where
  pub name : t.name ≡ p.name
  pub me_same : me ≡ p.me.name
  pub roles_same : roles ≡ roles_in p
  pub body : AreSame t.body p.body
  pub carried : PlainCarried p.carries
  pub given : GivenAll roles p.arguments

-- the protocol that tokens spell, and those behind it
pub record PartBack (me : Name) (roles : List Name) (t : Titled) (P : List Tok → Type 0) (ts : List Tok) : Type 0 where
  pub part : WrittenPart
  pub tokens : List Tok
  pub rest : List Tok
  pub parts : ts ≡ tokens ++ rest
  pub spelled : IsLocal [] part tokens
  pub same : SamePart me roles t part
  pub behind : P rest

part_back : (me : Name) (roles : List Name) (t : Titled) (P : List Tok → Type 0) (ts : List Tok) → PartTold me roles t P ts →
    PartBack me roles t P ts
part_back me roles t P ts l =
    let p = l.3 in let n = p.3 in let a = n.3 in let m = a.3 in let o = m.3 in let rs = o.3 in let k = rs.4 in let b = k.3 in
    let listed = rs.3 in let body = b.3 in
    let header : List Tok = marked a.0 marks.At ∷ named m.0 me ∷ marked o.0 marks.OpenParen ∷ (rs.0 ++ marked k.0 marks.CloseParen ∷ []) in
    let title : List Tok → List Tok = λ r. marked l.0 marks.Local ∷ marked p.0 marks.Protocol ∷ named n.0 t.name ∷ r in
    record {
      part = record {
        place = n.0;
        name = t.name;
        me = record { place = m.0; name = me };
        roles = listed.0;
        carries = carries_among body.1;
        arguments = arguments_among body.1;
        body = body.0;
      };
      tokens = title (header ++ b.0);
      rest = b.1;
      parts = l.2 ∙ on (p.2 ∙ on (n.2 ∙ on (a.2 ∙ on (m.2 ∙ on (o.2 ∙ on (rs.2 ∙ ap (λ z. rs.0 ++ z) (k.2 ∙ on b.2)
          ∙ sym (append_assoc rs.0 (marked k.0 marks.CloseParen ∷ []) (b.0 ++ b.1)) ∙
          sym (append_assoc (rs.0 ++ marked k.0 marks.CloseParen ∷ []) b.0 b.1)))))));
      spelled = record {
        header = header;
        block = b.0;
        notes = body.1;
        local_at = l.0;
        protocol_at = p.0;
        tokens = refl;
        heads = inl (a.0, o.0, k.0, rs.0, refl, listed.2);
        body = body.3;
        carries = refl;
        arguments = refl;
      };
      same = record {
        name = refl;
        me_same = refl;
        roles_same = sym listed.1;
        body = body.2;
        carried = plain_carried roles body.1 body.4;
        given = given_all roles body.1 body.4;
      };
      behind = b.4;
    }

part_told : (me : Name) (roles : List Name) (t : Titled) (P : List Tok → Type 0) (rest : List ℕ) → AllByRecursion IsName roles →
    Contains roles me → IsName t.name → AreWritten t.body → Told Any P rest →
    Told Any (PartTold me roles t P) (part_text me roles t ++ rest)
part_told me roles t P rest names listed name body behind =
    regroup (word_then (codes "local") (λ a. marked a marks.Local) local_word (λ bytes o. refl) (blank_then 32 refl (omega arith)
    (word_then (codes "protocol") (λ a. marked a marks.Protocol) protocol_word (λ bytes o. refl) (blank_then 32 refl (omega arith)
    (word_then t.name (λ a. named a t.name) (naming t.name name) (λ bytes o. refl) (blank_then 32 refl (omega arith)
    (word_then (codes "at") (λ a. marked a marks.At) at_word (λ bytes o. refl) (blank_then 32 refl (omega arith)
    (word_then me (λ a. named a me) (naming me (listed_name roles me names listed)) (λ bytes o. refl)
    (sign_then 40 marks.OpenParen refl refl (omega arith) refl
    (both (roles_of roles names listed) (λ bytes o. refl)
    (sign_then 41 marks.CloseParen refl refl (omega arith) refl (blank_then 32 refl (omega arith)
    (both (block_told roles names (some_name roles listed) 0 t.body body) (λ bytes o. tt)
    (blank_then 10 refl (omega arith) behind)))))))))))))))
  where
    roles_of : (ns : List Name) → AllByRecursion IsName ns → Contains ns me → Told NoName (RolesTold ns) (role_list [] ns)
    roles_of [] h c = absurd (omega (arith, c.1))
    roles_of (n ∷ ns) h c = roles_told n ns h

    some_name : (ns : List Name) → Contains ns me → HasName ns
    some_name [] c = absurd (omega (arith, c.1))
    some_name (n ∷ ns) c = tt

    end : List ℕ
    end = block roles 0 t.body ++ codes "\n"

    listed_end : List ℕ
    listed_end = role_list [] roles ++ (codes ") " ++ end)

    grouped : part_text me roles t ++ rest ≡
        codes "local protocol " ++ (t.name
        ++ (codes " at " ++ (me ++ (codes "("
        ++ (role_list [] roles ++ (codes ") " ++ (block roles 0 t.body ++ (codes "\n" ++ rest))))))))
    grouped =
        append_assoc (codes "local protocol ") (t.name ++ (codes " at " ++ (me ++ (codes "(" ++ listed_end)))) rest
        ∙ ap (λ z. codes "local protocol " ++ z) (append_assoc t.name (codes " at " ++ (me ++ (codes "(" ++ listed_end))) rest)
        ∙ ap (λ z. codes "local protocol " ++ (t.name ++ z)) (append_assoc (codes " at ") (me ++ (codes "(" ++ listed_end)) rest)
        ∙ ap (λ z. codes "local protocol " ++ (t.name ++ (codes " at " ++ z))) (append_assoc me (codes "(" ++ listed_end) rest)
        ∙ ap (λ z. codes "local protocol " ++ (t.name ++ (codes " at " ++ (me ++ z)))) (append_assoc (codes "(") listed_end rest)
        ∙ ap (λ z. codes "local protocol " ++ (t.name ++ (codes " at " ++ (me ++ (codes "(" ++ z)))))
        (append_assoc (role_list [] roles) (codes ") " ++ end) rest ∙ ap (λ z. role_list [] roles ++ z) (append_assoc (codes ") ") end rest
        ∙ ap (λ z. codes ") " ++ z) (append_assoc (block roles 0 t.body) (codes "\n") rest)))

    regroup : Told Any (PartTold me roles t P)
        (codes "local protocol " ++ (t.name ++ (codes " at " ++ (me ++ (codes "(" ++ (role_list [] roles
        ++ (codes ") " ++ (block roles 0 t.body ++ (codes "\n" ++ rest))))))))) →
        Told Any (PartTold me roles t P) (part_text me roles t ++ rest)
    regroup h = subst (Told Any (PartTold me roles t P)) (sym grouped) h

-- several protocols
abbrev PartsTold : Name → List Name → List Titled → List Tok → Type 0
PartsTold me roles [] ts = ts ≡ []
PartsTold me roles (t ∷ more) ts = PartTold me roles t (PartsTold me roles more) ts

abbrev AreWrittenTitles : List Titled → Type 0
AreWrittenTitles [] = Unit {0}
AreWrittenTitles (t ∷ more) = IsName t.name × AreWritten t.body × (depth t.body ≤ 200) × AreWrittenTitles more

parts_told : (me : Name) (roles : List Name) (ts : List Titled) → AllByRecursion IsName roles → Contains roles me → AreWrittenTitles ts →
    Told Any (PartsTold me roles ts) (part_texts me roles ts)
parts_told me roles [] names listed w = nothing
parts_told me roles (t ∷ more) names listed w =
    part_told me roles t (PartsTold me roles more) (part_texts me roles more) names listed w.0 w.1
    (parts_told me roles more names listed w.3)

abbrev pub SameParts : Name → List Name → List Titled → List WrittenPart → Type 0
SameParts me roles [] [] = Unit {0}
SameParts me roles (t ∷ more) (p ∷ ps) = SamePart me roles t p × SameParts me roles more ps
SameParts me roles _ _ = ⊥

record PartsBack (me : Name) (roles : List Name) (ts : List Titled) (tokens : List Tok) : Type 0 where
  parts : List WrittenPart
  spelled : Each (IsLocal []) parts tokens
  same : SameParts me roles ts parts
  shallow : AllByRecursion IsShallow parts

parts_back : (me : Name) (roles : List Name) (ts : List Titled) (tokens : List Tok) → AreWrittenTitles ts → PartsTold me roles ts tokens →
    PartsBack me roles ts tokens
parts_back me roles [] tokens w h = record { parts = []; spelled = h; same = tt; shallow = tt }
parts_back me roles (t ∷ more) tokens w h =
    let one = part_back me roles t (PartsTold me roles more) tokens h in
    let others = parts_back me roles more one.rest w.3 one.behind in
    record {
      parts = one.part ∷ others.parts;
      spelled = (one.tokens, one.rest, one.parts, one.spelled, others.spelled);
      same = (one.same, others.same);
      shallow = (subst (λ d. d ≤ 200) (same_depth t.body one.part.body one.same.body) w.2, others.shallow);
    }

-- ---- the file

written_titles : (ps : List PartTree) → AllByRecursion IsWrittenPart ps → AreWrittenTitles (map other ps)
written_titles [] h = tt
written_titles (p ∷ ps) h = (h.0.name, h.0.body, h.0.depth, written_titles ps h.1)

-- the file that a printed protocol spells
pub record Printed (file : ℕ) (local : LocalTree) : Type 0 where
  pub written : WrittenTree
  pub same_file : written.file ≡ file
  pub types : written.types ≡ []
  pub tokens : List Tok
  pub cut : AreTokens file tokens (layout local)
  pub supported : Judged (IsUnsupported kinds.Local) tokens None
  pub spelled : IsSpelled written tokens
  pub first : SamePart local.me local.roles (record { name = local.name; body = local.body }) written.first
  pub others : SameParts local.me local.roles (map other local.others) written.others

-- the protocols behind the first are the same
same_parts : (me : Name) (roles : List Name) (qs : List PartTree) (ps : List WrittenPart) → SameParts me roles (map other qs) ps →
    AreSameParts qs (map part_meant ps)
same_parts me roles [] [] h = tt
same_parts me roles (q ∷ qs) (p ∷ ps) h = (h.0.name, h.0.body, same_parts me roles qs ps h.1)
same_parts me roles [] (p ∷ ps) h = absurd h
same_parts me roles (q ∷ qs) [] h = absurd h

pub is_same : {file : ℕ} {local : LocalTree} (h : Printed file local) → IsSame local (local_of h.written)
is_same {local = local} h = record {
  name = h.first.name;
  me = h.first.me_same;
  roles = h.first.roles_same;
  body = h.first.body;
  others = same_parts local.me local.roles local.others h.written.others h.others;
}

-- what is told of the tokens is the grammar's
file_back : (file : ℕ) (local : LocalTree) → IsWritten local → Whole file (PartsTold local.me local.roles (titled local)) (layout local) →
    Printed file local
file_back file local w h =
    let t : Titled = record { name = local.name; body = local.body } in
    let more : List Titled = map other local.others in
    let one = part_back local.me local.roles t (PartsTold local.me local.roles more) h.tokens h.holds in
    let others = parts_back local.me local.roles more one.rest (written_titles local.others w.others) one.behind in
    record {
      written = record { file = file; types = []; first = one.part; others = others.parts };
      same_file = refl;
      types = refl;
      tokens = h.tokens;
      cut = h.cut;
      supported = clean-judged h.tokens h.used;
      spelled = record {
        spelled = record {
          start = [];
          types = [];
          first = one.tokens;
          others = one.rest;
          tokens = one.parts;
          starts = inl refl;
          declares = refl;
          begins = one.spelled;
          goes_on = others.spelled;
        };
        shallow = (subst (λ d. d ≤ 200) (same_depth local.body one.part.body one.same.body) w.depth, others.shallow);
      };
      first = one.same;
      others = others.same;
    }

pub printed : (file : ℕ) (local : LocalTree) → IsWritten local → Contains local.roles local.me → Printed file local
printed file local w listed =
    file_back file local w (whole file (parts_told local.me local.roles (titled local) w.roles listed
    (w.name, w.body, w.depth, written_titles local.others w.others)))

pub printed_spells : (file : ℕ) (local : LocalTree) → IsWritten local → Contains local.roles local.me → length (layout local) ≤ 1048576 →
    (w : WrittenTree) × Spells file (layout local) w × IsSame local (local_of w)
printed_spells file local w listed size =
    let h = printed file local w listed in (
      h.written,
      record {
        same_file = h.same_file;
        tokens = h.tokens;
        separates = record { size = size; cut = h.cut };
        supported =
            h.supported;
        spelled = h.spelled;
      },
      is_same h,
    )
