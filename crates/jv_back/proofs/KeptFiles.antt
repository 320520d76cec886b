-- What a file keeps that some bytes spell.
use Rattle.std.proofs.Common.{ℕ, inl, inr, List, [], ◌∷◌, ◌++◌, Option, Some, None, refl, sym, subst, codes}
use Rattle.std.specs.List.{AllByRecursion}
use Rattle.mg_text.specs.Call.{Name}
use Rattle.mg_read.specs.Passes.{AllPasses, StartsWith}
use Rattle.ts_tree.specs.declared.parts.TypeName.{TypeName}
use Rattle.jv_tree.specs.declared.tree.Param.{Param}
use Rattle.jv_tree.specs.declared.token.Sign.TheVariants as signs
use Rattle.jv_tree.specs.declared.token.Token.{Token}
use Rattle.jv_tree.specs.Source.{Expr, Field, Method, Class, Enum, Decl, ClassDecl, EnumDecl, File}
use Rattle.jv_tree.specs.Tokens as tokens
use Rattle.jv_tree.specs.Statements.{type_word}
use Rattle.jv_tree.specs.Files.{Member, FieldMember, MethodMember, fields_among, methods_among, IsInitialiser, IsField, IsParam}
use Rattle.jv_tree.specs.Files.{AreMoreParams, AreParams, AreParamsOf, IsResult, IsMethod, AreMembers, IsAnnotation, IsClass, AreMoreNames}
use Rattle.jv_tree.specs.Files.{AreNames, IsEnum, IsDecl, AreDecls, IsFile}
use Rattle.jv_lex.specs.Letters.{is_word_start, is_word_byte}
use Rattle.jv_back.proofs.Told.{IsWord, plain_word, IsNamed}
use Rattle.jv_back.proofs.Kept.{AreGood, in_front, in_back, named}
use Rattle.jv_back.proofs.KeptStmts.{typed, free_kept, items_kept, ended}
use Rattle.jv_back.proofs.Stmts.{IsWrittenValue}
use Rattle.jv_back.proofs.Members.{IsWrittenField, IsWrittenParam, AreWrittenParams, IsWrittenMethod}
use Rattle.jv_back.proofs.Files.{IsWrittenText, IsWrittenClass, AreWrittenConstants, IsWrittenEnum, IsWrittenDecl}

value_kept : (value : Option Expr) (ts : List Token) → IsInitialiser value ts → AreGood ts → IsWrittenValue value
value_kept None ts is h = tt
value_kept (Some e) ts (a, us, parts, free) h = free_kept e us free (subst AreGood parts h).1

field_kept : (f : Field) (ts : List Token) → IsField f ts → AreGood ts → IsWrittenField f
field_kept f ts (type, is, a, b, us, vs, parts, mods, static, value) h =
    let g = in_back us (tokens.word a (type_word f.ty) ∷ tokens.word f.place f.name ∷ (vs ++ ended b)) (subst AreGood parts h) in
    record { ty = typed f.ty type g.0; name = named f.name is g.1.0; value = value_kept f.value vs value (in_front vs (ended b) g.1.1) }

param_kept : (p : Param) (ts : List Token) → IsParam p ts → AreGood ts → IsWrittenParam p
param_kept p ts (type, is, a, us, parts, final) h =
    let g = in_back us (tokens.word a (type_word p.ty) ∷ tokens.word p.place p.name ∷ []) (subst AreGood parts h) in
    (typed p.ty type g.0, named p.name is g.1.0)

more_params_kept : (ps : List Param) (ts : List Token) → AreMoreParams ps ts → AreGood ts → AllByRecursion IsWrittenParam ps
more_params_kept [] ts is h = tt
more_params_kept (p ∷ ps) ts (a, us, vs, parts, is, are) h =
    let g = (subst AreGood parts h).1 in (param_kept p us is (in_front us vs g), more_params_kept ps vs are (in_back us vs g))

params_kept : (ps : List Param) (ts : List Token) → AreParams ps ts → AreGood ts → AllByRecursion IsWrittenParam ps
params_kept [] ts is h = tt
params_kept (p ∷ ps) ts (us, vs, parts, is, are) h =
    let g = subst AreGood parts h in (param_kept p us is (in_front us vs g), more_params_kept ps vs are (in_back us vs g))

all_params_kept : (m : Method) (ts : List Token) → AreParamsOf m ts → AreGood ts → AreWrittenParams m
all_params_kept m ts (inl (off, are)) h = inl (off, params_kept m.params ts are h)
all_params_kept m ts (inr (set, none, main, is)) h = inr (set, none, main)

result_kept : (ty : TypeName) → IsResult ty → StartsWith is_word_start (type_word ty) × AllPasses is_word_byte (type_word ty)
    → IsWord (type_word ty)
result_kept ty (inl e) g = subst (λ t. IsWord (type_word t)) (sym e) (plain_word (codes "void") refl refl)
result_kept ty (inr is) g = (typed ty is g).1

method_kept : (m : Method) (ts : List Token) → IsMethod m ts → AreGood ts → IsWrittenMethod m
method_kept m ts (result, is, a, b, c, d, us, vs, ws, parts, mods, static, params, items) h =
    let last : List Token = tokens.sign m.end signs.CloseBrace ∷ [] in
    let tail : List Token = tokens.sign c signs.CloseParen ∷ tokens.sign d signs.OpenBrace ∷ (ws ++ last) in
    let g = in_back us (tokens.word a (type_word m.result) ∷ tokens.word m.place m.name ∷ tokens.sign b signs.OpenParen ∷ (vs ++ tail))
    (subst AreGood parts h) in
    let k = g.1.1.1 in
    record {
      result = result;
      word = result_kept m.result result g.0;
      name = named m.name is g.1.0;
      params = all_params_kept m vs params (in_front vs tail k);
      body = items_kept m.body ws items (in_front ws last (in_back vs tail k).1.1);
    }

members_kept : (ms : List Member) (ts : List Token) → AreMembers ms ts → AreGood ts
    → AllByRecursion IsWrittenField (fields_among ms) × AllByRecursion IsWrittenMethod (methods_among ms)
members_kept [] ts is h = (tt, tt)
members_kept (FieldMember f ∷ ms) ts (us, vs, parts, is, are) h =
    let g = subst AreGood parts h in
    let more = members_kept ms vs are (in_back us vs g) in
    ((field_kept f us is (in_front us vs g), more.0), more.1)
members_kept (MethodMember m ∷ ms) ts (us, vs, parts, is, are) h =
    let g = subst AreGood parts h in
    let more = members_kept ms vs are (in_back us vs g) in
    (more.0, (method_kept m us is (in_front us vs g), more.1))

text_kept : (t : Option (List ℕ)) (ts : List Token) → IsAnnotation t ts → AreGood ts → IsWrittenText t
text_kept None ts is h = tt
text_kept (Some t) ts (a, b, c, d, e, parts) h = (subst AreGood parts h).1.1.1.0

class_kept : (c : Class) (ts : List Token) → IsClass c ts → AreGood ts → IsWrittenClass c
class_kept c ts (is, a, b, d, us, vs, ws, parts, note, mods, ms, members, fields, methods) h =
    let last : List Token = tokens.sign d signs.CloseBrace ∷ [] in
    let tail : List Token = tokens.word a (codes "class") ∷ tokens.word c.place c.name ∷ tokens.sign b signs.OpenBrace ∷ (ws ++ last) in
    let g = subst AreGood parts h in
    let k = in_back vs tail (in_back us (vs ++ tail) g) in
    let all = members_kept ms ws members (in_front ws last k.1.1.1) in
    record {
      name = named c.name is k.1.0;
      typestate = text_kept c.typestate us note (in_front us (vs ++ tail) g);
      fields = subst (λ fs. AllByRecursion IsWrittenField fs) fields all.0;
      methods = subst (λ ns. AllByRecursion IsWrittenMethod ns) methods all.1;
    }

more_names_kept : (ns : List Name) (ts : List Token) → AreMoreNames ns ts → AreGood ts → AllByRecursion IsNamed ns
more_names_kept [] ts is h = tt
more_names_kept (n ∷ ns) ts (is, a, b, us, parts, are) h =
    let g = subst AreGood parts h in (named n is g.1.0, more_names_kept ns us are g.1.1)

names_kept : (ns : List Name) (ts : List Token) → AreNames ns ts → AreGood ts → AreWrittenConstants ns
names_kept [] ts is h = absurd is
names_kept (n ∷ ns) ts (is, a, us, parts, are) h = let g = subst AreGood parts h in (named n is g.0, more_names_kept ns us are g.1)

enum_kept : (e : Enum) (ts : List Token) → IsEnum e ts → AreGood ts → IsWrittenEnum e
enum_kept e ts (is, a, b, c, us, vs, ws, parts, mods, names, end) h =
    let tail : List Token = ws ++ tokens.sign c signs.CloseBrace ∷ [] in
    let g = in_back us (tokens.word a (codes "enum") ∷ tokens.word e.place e.name ∷ tokens.sign b signs.OpenBrace ∷ (vs ++ tail))
    (subst AreGood parts h) in
    record { name = named e.name is g.1.0; constants = names_kept e.constants vs names (in_front vs tail g.1.1.1) }

decl_kept : (d : Decl) (ts : List Token) → IsDecl d ts → AreGood ts → IsWrittenDecl d
decl_kept (ClassDecl c) ts is h = class_kept c ts is h
decl_kept (EnumDecl e) ts is h = enum_kept e ts is h

decls_kept : (ds : List Decl) (ts : List Token) → AreDecls ds ts → AreGood ts → AllByRecursion IsWrittenDecl ds
decls_kept [] ts is h = tt
decls_kept (d ∷ ds) ts (us, vs, parts, is, are) h =
    let g = subst AreGood parts h in (decl_kept d us is (in_front us vs g), decls_kept ds vs are (in_back us vs g))

pub file_kept : (f : File) (ts : List Token) → IsFile f ts → AreGood ts → AllByRecursion IsWrittenDecl f
file_kept f ts (n, us, vs, ws, parts, packaged, imported, are) h =
    decls_kept f ws are (in_back vs ws (in_back us (vs ++ ws) (subst AreGood parts h)))
