-- The client of one protocol, judged beside its file.
use Rattle.std.proofs.Common.{◌≡◌, ℕ, zero, suc, List, [], ◌∷◌, codes, Option, Some, None, Bool, true, false, sym, ap, ◌∙◌, subst}
use Rattle.std.proofs.Common.{arith}
use Rattle.mg_text.specs.Call.{Name}
use Rattle.scr_tree.specs.Tree.{LocalTree}
use Rattle.stm_api.specs.Api.{ApiText}
use Rattle.stm_client.specs.Client.{client_of}
use Rattle.mg_refusal.specs.Refusals.{Refusal}
use Rattle.mg_sources.specs.Files.{Source, EndsWith, Scribble, Java, HaveKinds, sources}
use Rattle.mg_sources.specs.Reading.{Protocol, Reads}
use Rattle.mg_sources.proofs.OneKind.{one_part}
use Rattle.mg_accepted.specs.Accepted.{AreAccepted, FirstRefusal}
use Rattle.mg_accepted.proofs.Apart.{not_refused}
use Rattle.mg_client.specs.declared.files.ClientFile.{ClientFile}
use Rattle.mg_client.specs.Clients.{packed, IsClient, IsPlayed}
use Rattle.mg_client.specs.inner.Answered.{IsJudged}
use Rattle.mg_client.proofs.Apart.{same_local, one_client}
use Rattle.mg_client.proofs.Whole.{no_file}

-- a file of a protocol, and one of Java
pub two_kinds : (names : List Name) (a b : Name) → names ≡ a ∷ b ∷ [] → EndsWith (codes ".scr") a → EndsWith (codes ".java") b →
    HaveKinds names
two_kinds names a b e h k = subst HaveKinds (sym e) each where
  each : HaveKinds (a ∷ b ∷ [])
  each zero d lt = (Scribble, h)
  each (suc zero) d lt = (Java, k)
  each (suc (suc n)) d lt = absurd (omega arith)

-- what these names and contents are is what those are
pub judged_same : (b : Bool) (names contents others more : List (List ℕ)) → names ≡ others → contents ≡ more →
    IsJudged (sources names contents) b → IsJudged (sources others more) b
judged_same b names contents others more e k h = subst (λ (files : List Source). IsJudged files b) (λ i. sources (e i) (k i)) h

pub refused_false : (files : List Source) (r : Refusal) → FirstRefusal files r → IsJudged files false
refused_false files r h = λ core a. not_refused files core r a h

module _ (p : Option Name) (source : Source) (local : LocalTree) (spelled : Reads source (Protocol local)) where
  pub none_made : client_of local ≡ None → (file : ClientFile) → IsPlayed p source file → ⊥
  none_made e file h =
      let same : h.client.local ≡ local =
      same_local h.client.local local (one_part source (Protocol h.client.local) (Protocol local) h.client.spelled spelled) in
      no_file h.client.made (sym (ap client_of same ∙ e) ∙ h.client.is)

  module _ (made : ApiText) (file : ClientFile) (is : client_of local ≡ Some made) (packs : file ≡ packed p made) where
    made_so : IsClient p source file
    made_so = record { local = local; spelled = spelled; made = made; is = is; packs = packs }

    pub played_so : IsJudged (sources (source.name ∷ file.name ∷ []) (source.bytes ∷ file.text ∷ [])) true → IsPlayed p source file
    played_so h = record { client = made_so; core = h.0; accepted = h.1 }

    pub never_played : IsJudged (sources (source.name ∷ file.name ∷ []) (source.bytes ∷ file.text ∷ [])) false → (other : ClientFile) →
        IsPlayed p source other → ⊥
    never_played h other k =
        let same : other ≡ file = one_client p source other file k.client made_so in
        h k.core (subst (λ (f : ClientFile). AreAccepted (sources (source.name ∷ f.name ∷ []) (source.bytes ∷ f.text ∷ [])) k.core) same
        k.accepted)
