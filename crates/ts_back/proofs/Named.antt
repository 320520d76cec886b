-- The names among the tokens of a file are names, and each type is what its word says.
use Rattle.std.proofs.Common.{◌≡◌, ℕ, ◌≤◌, List, [], ◌∷◌, ◌++◌, length, Bool, true, false, cond, Option, Some, None, codes, refl, sym, ap}
use Rattle.std.proofs.Common.{◌∙◌, subst}
use Rattle.std.specs.List.{AllByRecursion}
use Rattle.std.specs.Str.{bytes_eq}
use Rattle.std.proofs.lemmas.Slice.Eq.{bytes_eq-Decides}
use Rattle.mg_text.specs.Call.{Name}
use Rattle.mg_text.specs.Places.{start_of, place_after}
use Rattle.mg_text.specs.declared.place.Place.{Place}
use Rattle.mg_read.specs.Each.{Each}
use Rattle.mg_read.specs.Passes.{AllPasses, StartsWith}
use Rattle.mg_read.specs.Letters.{is_name_start, is_name_byte}
use Rattle.mg_read.specs.Pieces.{Piece, blank, line, block, word, quote, sign, spell, Cut, tokens_from}
use Rattle.mg_read.proofs.Lists.{all_both, all_front, all_back}
use Rattle.mg_read.proofs.Steps.{some_is}
use Rattle.ts_tree.specs.declared.parts.TypeName.{TypeName}
use Rattle.ts_tree.specs.declared.parts.TypeName.TheVariants as types
use Rattle.ts_parse.specs.declared.token.Mark.{Mark}
use Rattle.ts_parse.specs.declared.token.Mark.TheVariants as marks
use Rattle.ts_parse.specs.declared.written.WrittenBranch.{WrittenBranch}
use Rattle.ts_parse.specs.Tok.{Tok, named, marked, reserved, sign_of, typestates, word_tok, sign_toks, tok_said, AreTokens}
use Rattle.ts_parse.specs.Grammar.{Behind, Listed, type_named, param_named, IsParam, AreParams, IsBranch, IsTarget, IsMethod, IsEntry}
use Rattle.ts_parse.specs.Grammar.{AreEntries, IsState, IsSpelled}
use Rattle.ts_parse.specs.Written.{WTarget, to_one, by_label, WMethod, WEntry, offer, drop_end, WState, WFile, methods_in}
use Rattle.ts_read.specs.Layout.{type_text}
use Rattle.ts_back.proofs.Told.{IsName}

-- ---- a file that can be written

abbrev pub IsTyped : TypeName → Type 0
IsTyped type = IsName (type_text type) × (type_named (type_text type) ≡ type)

abbrev pub IsParamTyped : TypeName → Type 0
IsParamTyped type = IsName (type_text type) × (param_named (type_text type) ≡ Some type)

abbrev pub IsNamedBranch : WrittenBranch → Type 0
IsNamedBranch b = IsName b.label.text × IsName b.to.text

abbrev pub IsNamedTarget : WTarget → Type 0
IsNamedTarget (to_one n) = IsName n.text
IsNamedTarget (by_label []) = ⊥
IsNamedTarget (by_label (b ∷ bs)) = AllByRecursion IsNamedBranch (b ∷ bs)

pub record IsNamedMethod (m : WMethod) : Type 0 where
  pub result : IsTyped m.result
  pub name : IsName m.name.text
  pub params : AllByRecursion IsParamTyped m.params
  pub target : IsNamedTarget m.target

pub record IsNamedState (s : WState) : Type 0 where
  pub name : IsName s.name.text
  pub methods : AllByRecursion IsNamedMethod (methods_in s.entries)

pub record IsNamedFile (w : WFile) : Type 0 where
  pub name : IsName w.name
  pub states : AllByRecursion IsNamedState w.states

-- ---- tokens

-- each name among tokens is one
abbrev IsNamed : Tok → Type 0
IsNamed (named place name) = IsName name
IsNamed (marked place mark) = Unit {0}

abbrev AreNamed : List Tok → Type 0
AreNamed = AllByRecursion IsNamed

in_front : (ts us : List Tok) → AreNamed (ts ++ us) → AreNamed ts
in_front = all_front IsNamed

in_back : (ts us : List Tok) → AreNamed (ts ++ us) → AreNamed us
in_back = all_back IsNamed

word_named : (place : Place) (text : Name) (mark : Option Mark) → reserved text ≡ mark → StartsWith is_name_start text
    → AllPasses is_name_byte text → length text ≤ 255
    → AreNamed (word_tok place text mark ∷ [])
word_named place text None e starts passes short = (record { starts = starts; bytes = passes; short = short; free = e }, tt)
word_named place text (Some mark) e starts passes short = (tt, tt)

sign_named : (place : Place) (mark : Option Mark) → AreNamed (sign_toks place mark)
sign_named place None = tt
sign_named place (Some mark) = (tt, tt)

pieces_named : (place : Place) (ps : List Piece) (bytes rest : List ℕ) → Cut typestates ps bytes rest
    → AreNamed (tokens_from tok_said place ps)
pieces_named place [] bytes rest cut = tt
pieces_named place (blank c ∷ ps) bytes rest (after, e, may, cut) = pieces_named (place_after place (spell (blank c))) ps after rest cut
pieces_named place (line body ∷ ps) bytes rest (after, e, may, cut) = pieces_named (place_after place (spell (line body))) ps after rest cut
pieces_named place (block body ∷ ps) bytes rest (after, e, may, cut) =
    pieces_named (place_after place (spell (block body))) ps after rest cut
pieces_named place (quote body ∷ ps) bytes rest (after, e, may, cut) =
    pieces_named (place_after place (spell (quote body))) ps after rest cut
pieces_named place (word text ∷ ps) bytes rest (after, e, (starts, passes, stops, short), cut) =
    all_both IsNamed (word_tok place text (reserved text) ∷ []) (tokens_from tok_said (place_after place text) ps)
    (word_named place text (reserved text) refl starts passes short)
    (pieces_named (place_after place (spell (word text))) ps after rest cut)
pieces_named place (sign c ∷ ps) bytes rest (after, e, may, cut) =
    all_both IsNamed (sign_toks place (sign_of c)) (tokens_from tok_said (place_after place (spell (sign c))) ps)
    (sign_named place (sign_of c)) (pieces_named (place_after place (spell (sign c))) ps after rest cut)

tokens_named : (file : ℕ) (ts : List Tok) (bytes : List ℕ) → AreTokens file ts bytes → AreNamed ts
tokens_named file ts bytes h = subst AreNamed (sym h.tokens) (pieces_named (start_of file) h.pieces bytes [] h.cut)

-- ---- types

-- a type is printed as the word that it was
type_told : (text : Name) → type_text (type_named text) ≡ text
type_told text = go (bytes_eq text (codes "void")) (bytes_eq text (codes "int")) (bytes_eq text (codes "boolean"))
    (bytes_eq text (codes "String")) refl refl refl refl
  where
    go : (a b c d : Bool) → bytes_eq text (codes "void") ≡ a → bytes_eq text (codes "int") ≡ b → bytes_eq text (codes "boolean") ≡ c
        → bytes_eq text (codes "String") ≡ d
        → type_text (cond a types.Void (cond b types.Int (cond c types.Boolean (cond d types.Text (types.Named text))))) ≡ text
    go true b c d e f g h = sym ((bytes_eq-Decides text (codes "void")).0 e)
    go false true c d e f g h = sym ((bytes_eq-Decides text (codes "int")).0 f)
    go false false true d e f g h = sym ((bytes_eq-Decides text (codes "boolean")).0 g)
    go false false false true e f g h = sym ((bytes_eq-Decides text (codes "String")).0 h)
    go false false false false e f g h = refl

typed : (text : Name) (type : TypeName) → type_named text ≡ type → IsName text → IsTyped type
typed text type is n =
    let same : type_text type ≡ text = ap type_text (sym is) ∙ type_told text in
    (subst IsName (sym same) n, ap type_named same ∙ is)

param_type : (text : Name) (type : TypeName) → param_named text ≡ Some type → type_named text ≡ type
param_type text type h = go (bytes_eq text (codes "void")) h
  where
    go : (b : Bool) → cond b None (Some (type_named text)) ≡ Some type → type_named text ≡ type
    go true e = absurd cc
    go false e = some_is (type_named text) type e

param_typed : (type : TypeName) (ts : List Tok) → IsParam type ts → AreNamed ts → IsParamTyped type
param_typed type ts (a, text, e, is) h =
    let g = subst AreNamed e h in
    let same : type_text type ≡ text = ap type_text (sym (param_type text type is)) ∙ type_told text in
    (subst IsName (sym same) g.0, ap param_named same ∙ is)

-- ---- lists

module _ {X : Type 0} (G : X → List Tok → Type 0) (P : X → Type 0) (one : (x : X) (ts : List Tok) → G x ts → AreNamed ts → P x) where
  each_named : (xs : List X) (ts : List Tok) → Each G xs ts → AreNamed ts → AllByRecursion P xs
  each_named [] ts e h = tt
  each_named (x ∷ xs) ts (us, vs, parts, g, more) h =
      let n = subst AreNamed parts h in
      (one x us g (in_front us vs n), each_named xs vs more (in_back us vs n))

  behind_named : (mark : Mark) (xs : List X) (ts : List Tok) → Each (Behind mark G) xs ts → AreNamed ts → AllByRecursion P xs
  behind_named mark [] ts e h = tt
  behind_named mark (x ∷ xs) ts (us, vs, parts, (a, zs, e, g), more) h =
      let n = subst AreNamed parts h in
      let first = subst AreNamed e (in_front us vs n) in
      (one x zs g first.1, behind_named mark xs vs more (in_back us vs n))

  listed_named : (mark : Mark) (xs : List X) (ts : List Tok) → Listed mark G xs ts → AreNamed ts → AllByRecursion P xs
  listed_named mark [] ts e h = absurd e
  listed_named mark (x ∷ xs) ts (us, vs, parts, g, more) h =
      let n = subst AreNamed parts h in
      (one x us g (in_front us vs n), behind_named mark xs vs more (in_back us vs n))

-- ---- the parts of a file

params_named : (xs : List TypeName) (ts : List Tok) → AreParams xs ts → AreNamed ts → AllByRecursion IsParamTyped xs
params_named [] ts e h = tt
params_named (x ∷ xs) ts e h = listed_named IsParam IsParamTyped param_typed marks.Comma (x ∷ xs) ts e h

branch_named : (b : WrittenBranch) (ts : List Tok) → IsBranch b ts → AreNamed ts → IsNamedBranch b
branch_named b ts (a, e) h = let n = subst AreNamed e h in (n.0, n.1.1.0)

target_named : (t : WTarget) (ts : List Tok) → IsTarget t ts → AreNamed ts → IsNamedTarget t
target_named (to_one n) ts e h = let g = subst AreNamed e h in g.0
target_named (by_label []) ts (a, b, us, e, listed) h = absurd listed
target_named (by_label (d ∷ ds)) ts (a, b, us, e, listed) h =
    let n = subst AreNamed e h in
    listed_named IsBranch IsNamedBranch branch_named marks.Comma (d ∷ ds) us listed (in_front us (marked b marks.Greater ∷ []) n.1)

method_named : (m : WMethod) (ts : List Tok) → IsMethod m ts → AreNamed ts → IsNamedMethod m
method_named m ts (a, b, c, d, text, us, vs, e, type, params, target) h =
    let n = subst AreNamed e h in
    let rest = n.1.1.1 in
    let behind : List Tok = marked c marks.CloseParen ∷ marked d marks.Colon ∷ vs in
    record {
      result = typed text m.result type n.0;
      name = n.1.0;
      params = params_named m.params us params (in_front us behind rest);
      target = target_named m.target vs target (in_back us behind rest).1.1;
    }

abbrev IsNamedEntry : WEntry → Type 0
IsNamedEntry (offer m) = IsNamedMethod m
IsNamedEntry (drop_end place) = Unit {0}

entry_named : (e : WEntry) (ts : List Tok) → IsEntry e ts → AreNamed ts → IsNamedEntry e
entry_named (offer m) ts e h = method_named m ts e h
entry_named (drop_end place) ts e h = tt

methods_named : (es : List WEntry) → AllByRecursion IsNamedEntry es → AllByRecursion IsNamedMethod (methods_in es)
methods_named [] h = tt
methods_named (offer m ∷ es) h = (h.0, methods_named es h.1)
methods_named (drop_end place ∷ es) h = methods_named es h.1

entries_named : (es : List WEntry) (ts : List Tok) → AreEntries es ts → AreNamed ts → AllByRecursion IsNamedEntry es
entries_named [] ts e h = tt
entries_named (x ∷ xs) ts (us, vs, e, listed, last) h =
    listed_named IsEntry IsNamedEntry entry_named marks.Comma (x ∷ xs) us listed (in_front us vs (subst AreNamed e h))

state_named : (s : WState) (ts : List Tok) → IsState s ts → AreNamed ts → IsNamedState s
state_named s ts (a, b, c, us, e, entries) h =
    let n = subst AreNamed e h in
    record {
      name = n.0;
      methods = methods_named s.entries (entries_named s.entries us entries (in_front us (marked c marks.CloseBrace ∷ []) n.1.1.1));
    }

pub file_named : (file : ℕ) (bytes : List ℕ) (w : WFile) (ts : List Tok) → AreTokens file ts bytes → IsSpelled w ts → IsNamedFile w
file_named file bytes w ts cut s =
    let n = in_back s.import_toks _ (in_back s.package_toks _ (subst AreNamed s.tokens (tokens_named file ts bytes cut))) in
    record {
      name = n.1.0;
      states = each_named IsState IsNamedState state_named w.states s.state_toks s.states
          (in_front s.state_toks (marked s.close_at marks.CloseBrace ∷ []) n.1.1.1);
    }
