-- The program that well typed files are holds what is generated of each protocol among them.
use Rattle.std.proofs.Common.{◌≡◌, ℕ, List, [], ◌∷◌, length, map, Contains, ⊎_elim, ap, ◌∙◌, subst}
use Rattle.std.proofs.lemmas.List.Elements.{Contains-append_left, Contains-append_right}
use Rattle.scr_tree.specs.Tree.{LocalTree}
use Rattle.scr_tree.specs.Meaning.{protocol_of}
use Rattle.ts_tree.specs.Typestate.{Typestate}
use Rattle.jv_tree.specs.Source.{File}
use Rattle.jv_rules.specs.Program.{Program}
use Rattle.jv_rules.proofs.Tests.{nothing_in, in_cases, in_first}
use Rattle.jv_names.proofs.Declared.{NoFault, no_fault, in_map}
use Rattle.jv_names.proofs.NamedApart.{types_apart, typestates_apart}
use Rattle.stm_gen.specs.Numbered.{typestate_of}
use Rattle.stm_api.specs.Api.{ApiText, IsApi}
use Rattle.stm_acts.specs.Played.{HasRole}
use Rattle.stm_acts.specs.Held.{HoldsApi, HeldIsHad}
use Rattle.mg_sources.specs.Files.{Source}
use Rattle.mg_sources.specs.Reading.{Part, Protocol, Reads}
use Rattle.mg_sources.specs.Sources.{Sourced, adding, Stands, Spell}
use Rattle.mg_sources.specs.Sources as together
use Rattle.mg_sources.proofs.OneKind.{one_part}
use Rattle.mg_accepted.specs.Program.{AreWellTyped}
use Rattle.mg_accepted.proofs.Grammatical.{numbered}
use Rattle.mg_accepted_law.proofs.Read.{valid_read}

-- a program has the files of a protocol's API and the protocol's typestate
record Has (program : Program) (local : LocalTree) : Type 0 where
  api : List ApiText
  is_api : IsApi local api
  held : (f : ApiText) → Contains api f → Contains program.files f.tree
  stands : Contains program.typestates (typestate_of local)

-- what stands for a protocol has them, and so has what is put behind it
at_first : (local : LocalTree) (number : ℕ) (part : Part) (fs : List File) (ts : List Typestate) (rest : Sourced) → Stands part fs ts →
    part ≡ Protocol local → Has (adding number fs ts rest).program local
at_first local number part fs ts rest (together.protocol {local = other} {api = api} is) e =
    let same : other ≡ local = cc in
    subst (Has (adding number (map (λ f. f.tree) api) (typestate_of other ∷ []) rest).program) same
    (record {
      api = api;
      is_api = is;
      held = λ f has. Contains-append_left (map (λ f. f.tree) api) rest.program.files f.tree (in_map (λ f. f.tree) api f has);
      stands = in_first rest.program.typestates (typestate_of other);
    })
at_first local number part fs ts rest together.states e = absurd (let no : ⊥ = cc in no)
at_first local number part fs ts rest together.classes e = absurd (let no : ⊥ = cc in no)

-- so has what is put before it
before_it : (local : LocalTree) (number : ℕ) (fs : List File) (ts : List Typestate) (rest : Sourced) → Has rest.program local →
    Has (adding number fs ts rest).program local
before_it local number fs ts rest h = record {
  api = h.api;
  is_api = h.is_api;
  held = λ f has. Contains-append_right fs rest.program.files f.tree (h.held f has);
  stands = Contains-append_right ts rest.program.typestates (typestate_of local) h.stands;
}

-- a file spells one part
same_part : (file source : Source) (part : Part) (local : LocalTree) → file ≡ source → Reads file part → Reads source (Protocol local) →
    part ≡ Protocol local
same_part file source part local same reads spells =
    one_part source part (Protocol local) (subst (λ (z : Source). Reads z part) same reads) spells

has_of : {files : List Source} {s : Sourced} → Spell files s → (source : Source) (local : LocalTree) → Contains files source →
    Reads source (Protocol local) → Has s.program local
has_of together.none source local among spells = absurd (nothing_in source among)
has_of (together.one {source = file} {sources = more} {part = part} {files = fs} {typestates = ts} {rest = rest} reads st left)
    source local among spells =
    ⊎_elim (λ same. at_first local file.number part fs ts rest st (same_part file source part local same reads spells))
    (λ later. before_it local file.number fs ts rest (has_of left source local later spells)) (in_cases more file source among)

holds : (program : Program) (origins : List ℕ) (local : LocalTree) → NoFault program origins → length origins ≡ length program.typestates →
    Has program local → HoldsApi program.files program.typestates local
holds program origins local clean numbered h = record {
  api = h.api;
  is_api = h.is_api;
  held = h.held;
  names_differ = types_apart program origins clean;
  stands = h.stands;
  typestates_differ = typestates_apart program origins clean numbered;
}

-- so the program that well typed files are does, for each protocol among them
pub holds_api : (files : List Source) (program : Program) → AreWellTyped files program → (source : Source) (local : LocalTree) →
    Contains files source → Reads source (Protocol local) → HoldsApi program.files program.typestates local
holds_api files program h source local among spells =
    holds program h.sourced.origins local (no_fault program h.sourced.origins h.declarations)
    (numbered h.are.spell ∙ ap (λ (z : Program). length z.typestates) h.is)
    (subst (λ (z : Program). Has z local) h.is (has_of h.are.spell source local among spells))

-- and has the role of the protocol
pub has_role : HeldIsHad → (files : List Source) (program : Program) → AreWellTyped files program → (source : Source) (local : LocalTree) →
    Contains files source → Reads source (Protocol local) → HasRole program.files program.typestates local.me (protocol_of local)
has_role had files program h source local among spells =
    had program.files program.typestates local (valid_read source local spells) (holds_api files program h source local among spells)
