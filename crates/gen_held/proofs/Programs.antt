-- The cores of programs that are read from files can be held.
use Rattle.std.proofs.Common.{◌≡◌, ℕ, suc, ◌+◌, ◌≤◌, ◌^◌, List, [], ◌∷◌, map, flat_map, length, Some, refl, sym, subst, IsUtf8}
use Rattle.std.specs.List.{AllByRecursion}
use Rattle.scr_tree.specs.Tree.{LocalTree}
use Rattle.scr_tree.specs.Valid.{IsValid}
use Rattle.scr_read.specs.Outcome as scribble
use Rattle.scr_read.proofs.Named.{can_be_written}
use Rattle.scr_judge.proofs.Faultless.{faultless}
use Rattle.ts_tree.specs.Typestate.{Typestate}
use Rattle.jv_tree.specs.Source as source
use Rattle.jv_tree.specs.Source.{File, Decl, ClassDecl, EnumDecl}
use Rattle.jv_lex.specs.declared.LexFault.{LexFault}
use Rattle.jv_lex.specs.declared.LexFault.TheVariants as lexes
use Rattle.jv_read.specs.Outcome as java
use Rattle.jv_meaning.specs.Program.{class_in, enum_in, classes_of, enums_of}
use Rattle.jv_rules.specs.Program.{Program}
use Rattle.jv_core.specs.Tree as Core
use Rattle.jv_names.proofs.Tables.{some_is, none_some}
use Rattle.jv_resolve_law.specs.Tables.{Entry, Tables, followed, entries_from, tables_of}
use Rattle.jv_resolve_law.specs.Members.{enums, classes, methods}
use Rattle.jv_resolve_law.proofs.Steps.{bound}
use Rattle.stm_api.specs.Api.{ApiText}
use Rattle.jv_back.proofs.Kept.{tokens_good}
use Rattle.jv_back.proofs.KeptFiles.{file_kept}
use Rattle.jv_back.proofs.Files.{IsWrittenClass, IsWrittenEnum, IsWrittenDecl}
use Rattle.api_back.proofs.Files.{IsFineFile, files_fine}
use Rattle.mg_sources.specs.Files.{Source}
use Rattle.mg_sources.specs.Reading.{Part, Reads}
use Rattle.mg_sources.specs.Reading as reading
use Rattle.mg_sources.specs.Sources.{Sourced, AreProgram, Stands, Spell}
use Rattle.mg_sources.specs.Sources as together
use Rattle.gen_links.specs.Files.{IsPlainName}
use Rattle.gen_held.specs.Laws.{CanBeHeld, WrittenCoresAreHeld}
use Rattle.gen_held.proofs.Words.{AreFine, all_in_back}
use Rattle.gen_held.proofs.Exprs.{AreFew}
use Rattle.gen_held.proofs.Members.{EntryWritten, enums_kept, classes_kept, methods_kept}

-- the declarations of a file can be written
abbrev IsWrittenFile : File → Type 0
IsWrittenFile file = AllByRecursion IsWrittenDecl file

written_api : (api : List ApiText) → AllByRecursion IsFineFile api → AllByRecursion IsWrittenFile (map (λ f. f.tree) api)
written_api [] h = tt
written_api (f ∷ fs) h = (h.0.written, written_api fs h.1)

-- a local protocol that is read is valid
valid : (file : ℕ) (bytes : List ℕ) (local : LocalTree) (a : scribble.Answer) → scribble.Outcome file bytes a → a ≡ scribble.Protocol local
    → IsValid local
valid file bytes local a (scribble.found {w = w} spells fine) e =
    subst IsValid (same e) (faultless w fine (can_be_written file bytes w spells))
  where
    same : {x y : LocalTree} → scribble.Protocol x ≡ scribble.Protocol y → x ≡ y
    same e = cc
valid file bytes local a (scribble.too_large h) e = absurd cc
valid file bytes local a (scribble.bad_byte k h b) e = absurd cc
valid file bytes local a (scribble.unsupported s j) e = absurd cc
valid file bytes local a (scribble.syntax s j n) e = absurd cc
valid file bytes local a (scribble.refused s f) e = absurd cc

-- an answer that is no file
abbrev NotFile : java.Answer → Type 0
NotFile (java.Read f) = ⊥
NotFile _ = Unit {0}

-- no fault of the tokens is told as a file
told_no_file : (fault : LexFault) (a : java.Answer) → java.told fault ≡ Some a → NotFile a
told_no_file (lexes.TooLarge place) a t = subst NotFile (some_is t) tt
told_no_file (lexes.BadByte place) a t = subst NotFile (some_is t) tt
told_no_file (lexes.OpenComment place) a t = subst NotFile (some_is t) tt
told_no_file (lexes.OpenText place) a t = subst NotFile (some_is t) tt
told_no_file (lexes.BadEscape place) a t = subst NotFile (some_is t) tt
told_no_file (lexes.BadNumber place) a t = subst NotFile (some_is t) tt
told_no_file lexes.Memory a t = absurd (none_some t)

-- a Java file that is read can be written
written_file : (number : ℕ) (bytes : List ℕ) (file : File) (a : java.Answer) → java.Outcome number bytes a → a ≡ java.Read file →
    IsWrittenFile file
written_file number bytes file a (java.read f s) e =
    subst IsWrittenFile (same e) (file_kept f s.tokens s.spelled.0 (tokens_good number s.tokens bytes s.cut))
  where
    same : {x y : File} → java.Read x ≡ java.Read y → x ≡ y
    same e = cc
written_file number bytes file a (java.uncut fault b l t) e = absurd (subst NotFile e (told_no_file fault a t))
written_file number bytes file a (java.unsupported tokens place text h c j) e = absurd cc
written_file number bytes file a (java.syntax tokens h c j n) e = absurd cc

standing_written : (from : Source) (part : Part) (fs : List File) (ts : List Typestate) → Reads from part → Stands part fs ts
    → AllByRecursion IsWrittenFile fs
standing_written from part fs ts (reading.protocol {local = local} is o) (together.protocol {api = api} a) =
    written_api api (files_fine local api (valid from.number from.bytes local _ o refl) a)
standing_written from part fs ts (reading.states is o) together.states = tt
standing_written from part fs ts (reading.classes {file = file} is o) together.classes =
    (written_file from.number from.bytes file _ o refl, tt)

-- the files of a program can be written
files_written : {sources : List Source} {s : Sourced} → Spell sources s → AllByRecursion IsWrittenFile s.program.files
files_written together.none = tt
files_written (together.one {source = from} {part = part} {files = fs} {typestates = ts} {rest = rest} reads st more) =
    all_in_back IsWrittenFile fs rest.program.files (standing_written from part fs ts reads st) (files_written more)

-- the classes and the enums of files that can be written

decl_classes : (ds : List Decl) → AllByRecursion IsWrittenDecl ds → AllByRecursion IsWrittenClass (flat_map class_in ds)
decl_classes [] h = tt
decl_classes (ClassDecl c ∷ ds) h = (h.0, decl_classes ds h.1)
decl_classes (EnumDecl e ∷ ds) h = decl_classes ds h.1

decl_enums : (ds : List Decl) → AllByRecursion IsWrittenDecl ds → AllByRecursion IsWrittenEnum (flat_map enum_in ds)
decl_enums [] h = tt
decl_enums (ClassDecl c ∷ ds) h = decl_enums ds h.1
decl_enums (EnumDecl e ∷ ds) h = (h.0, decl_enums ds h.1)

all_classes : (files : List File) → AllByRecursion IsWrittenFile files → AllByRecursion IsWrittenClass (classes_of files)
all_classes [] h = tt
all_classes (f ∷ fs) h = all_in_back IsWrittenClass (flat_map class_in f) (classes_of fs) (decl_classes f h.0) (all_classes fs h.1)

all_enums : (files : List File) → AllByRecursion IsWrittenFile files → AllByRecursion IsWrittenEnum (enums_of files)
all_enums [] h = tt
all_enums (f ∷ fs) h = all_in_back IsWrittenEnum (flat_map enum_in f) (enums_of fs) (decl_enums f h.0) (all_enums fs h.1)

entries_written : (typestates : List Typestate) (n m : ℕ) (cs : List source.Class) (xs : List Entry) → entries_from typestates n m cs ≡ Some
    xs →
    AllByRecursion IsWrittenClass cs → AllByRecursion EntryWritten xs
entries_written typestates n m [] xs e h = subst (AllByRecursion EntryWritten) (some_is e) tt
entries_written typestates n m (c ∷ cs) xs e h =
    let t = bound (followed typestates c.typestate) _ xs e in
    let r = bound (entries_from typestates (suc n) (m + length c.methods) cs) _ xs t.gives in
    subst (AllByRecursion EntryWritten) (some_is r.gives) (
      h.0,
      entries_written typestates (suc n) (m + length c.methods) cs r.item r.is
          h.1,
    )

-- the tables of a program whose files can be written
record TablesWritten (tables : Tables) : Type 0 where
  classes : AllByRecursion EntryWritten tables.classes
  enums : AllByRecursion IsWrittenEnum tables.enums

tables_written : (program : Program) (tables : Tables) → tables_of program ≡ Some tables → AllByRecursion IsWrittenFile program.files →
    TablesWritten tables
tables_written program tables e h =
    let b = bound (entries_from program.typestates 0 0 (classes_of program.files)) _ tables e in
    subst TablesWritten (some_is b.gives) (record {
      classes = entries_written program.typestates 0 0 (classes_of program.files) b.item b.is (all_classes program.files h);
      enums = all_enums program.files h;
    })

plain_names : (names : List (List ℕ)) → AreFine names → AllByRecursion IsPlainName names
plain_names [] h = tt
plain_names (n ∷ ns) h = (h.0.plain, plain_names ns h.1)

utf8_names : (names : List (List ℕ)) → AreFine names → AllByRecursion IsUtf8 names
utf8_names [] h = tt
utf8_names (n ∷ ns) h = (h.0.utf8, utf8_names ns h.1)

pub written_cores_are_held : WrittenCoresAreHeld
written_cores_are_held files sourced core are e bounded =
    let program = sourced.program in
    let w = files_written are.spell in
    let t = bound (tables_of program) _ core e in
    let es = bound (enums [] t.item.enums) _ core t.gives in
    let cs = bound (classes t.item es.item.names t.item.classes) _ core es.gives in
    let ms = bound (methods t.item cs.item.names t.item.classes) _ core cs.gives in
    let tw = tables_written program t.item t.is w in
    let ek = enums_kept [] t.item.enums es.item es.is tw.enums tt in
    let few : AreFew t.item.enums = ek.many (2 ^ 31)
    (subst (λ (c : Core.Program). AllByRecursion (λ (e : Core.Enum). length e.constants ≤ 2 ^ 31) c.enums) (sym (some_is ms.gives))
    bounded.enums) in
    let ck = classes_kept t.item few es.item.names t.item.classes cs.item cs.is tw.classes ek.names in
    let mk = methods_kept t.item few cs.item.names t.item.classes ms.item ms.is tw.classes ck.names in
    subst CanBeHeld (some_is ms.gives) (record {
      plain = plain_names ms.item.names mk.names;
      held = record { names = utf8_names ms.item.names mk.names; fields = ck.it; methods = mk.it };
    })
