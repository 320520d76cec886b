-- What the calls that make clients answer.
use Rattle.std.proofs.Common.{◌≡◌, List, ◌++◌, All, codes, map, Option, Some, None, Bool, true, false, Result, Ok, Err, refl, sym}
use Rattle.std.proofs.Common.{ap, ◌∙◌}
use Rattle.std.proofs.Common.{append_assoc, if◌then◌else◌}
use Rattle.std.specs.Prelude.{nat_le}
use Rattle.mg_text.specs.Call.{Name}
use Rattle.mg_text.specs.Row.{Row}
use Rattle.mg_read.specs.First.{Judged, with_earlier}
use Rattle.scr_tree.specs.Tree.{LocalTree, titled}
use Rattle.stm_api.specs.Api.{ApiText}
use Rattle.stm_client.specs.Counting.{deepest_of_all}
use Rattle.stm_client.specs.Client.{client_of, client_file, making_of, is_several}
use Rattle.mg_refusal.specs.Refusals.{Refusal}
use Rattle.mg_refusal.specs.Order.{Answers, at_first, at_next}
use Rattle.mg_refusal.specs.declared.stop.Stop.{Stop}
use Rattle.mg_refusal.specs.declared.stop.Stop.TheVariants as stops
use Rattle.mg_refusal.proofs.Orders.{refused_by}
use Rattle.mg_sources.specs.Files.{Source, EndsWith, Scribble, HaveKinds}
use Rattle.mg_sources.specs.Reading.{Part, EachSpells, Refuses}
use Rattle.mg_sources.specs.Sources.{SharesRole}
use Rattle.mg_sources.specs.Parts.{part_of}
use Rattle.mg_sources.specs.declared.part.Part.{Part as KeptPart}
use Rattle.mg_client.specs.declared.files.ClientFile.{ClientFile}
use Rattle.mg_client.specs.Clients.{packed, EachPlays, IsUnaccepted, AreClients, FirstRefusal}

pub scribble_kinds : (names : List Name) → All (EndsWith (codes ".scr")) names → HaveKinds names
scribble_kinds names each k d lt = (Scribble, each k d lt)

-- ---- the ways out

module _ (p : Option Name) (files : List Source) (stop : Stop) (answer : Result (Row ClientFile) Stop) (is : answer ≡ Err stop) where
  pub parts_failed : Answers (λ (parts : Row KeptPart). EachSpells files (map part_of parts.items)) (λ r. Judged Refuses files (Some r))
      (Err stop) → Answers (λ (fs : Row ClientFile). AreClients p files fs.items) (FirstRefusal p files) answer
  parts_failed h =
      refused_by (λ (parts : Row KeptPart). EachSpells files (map part_of parts.items)) (λ r. Judged Refuses files (Some r))
      (λ (fs : Row ClientFile). AreClients p files fs.items) (FirstRefusal p files) (λ r j. at_first (at_first j)) stop h answer is

  pub roles_failed : (parts : List Part) → EachSpells files parts →
      Answers (λ (done : Unit {0}). Judged SharesRole (with_earlier files) None) (λ r. Judged SharesRole (with_earlier files) (Some r))
      (Err stop) → Answers (λ (fs : Row ClientFile). AreClients p files fs.items) (FirstRefusal p files) answer
  roles_failed parts each h =
      refused_by (λ (done : Unit {0}). Judged SharesRole (with_earlier files) None) (λ r. Judged SharesRole (with_earlier files) (Some r))
      (λ (fs : Row ClientFile). AreClients p files fs.items) (FirstRefusal p files) (λ r j. at_first (at_next parts each j))
      stop h answer is

pub all_answered : (p : Option Name) (files : List Source) (parts : List Part) (answer : Result (Row ClientFile) Stop) →
    EachSpells files parts → Judged SharesRole (with_earlier files) None →
    Answers (λ (fs : Row ClientFile). EachPlays p files fs.items) (λ r. Judged (IsUnaccepted p) files (Some r)) answer →
    Answers (λ (fs : Row ClientFile). AreClients p files fs.items) (FirstRefusal p files) answer
all_answered p files parts (Ok fs) each apart h = record { each = h; apart = apart }
all_answered p files parts (Err (stops.Refused r)) each apart h = at_next parts (record { each = each; apart = apart }) h
all_answered p files parts (Err stops.Memory) each apart h = tt

-- ---- the name of a client

some_is : (x y : ApiText) → Some x ≡ Some y → x ≡ y
some_is x y e = cc

pub no_file : {P : Type 0} (x : ApiText) → ◌≡◌ {A = Option ApiText} None (Some x) → P
no_file x e = absurd cc

made_where : (b : Bool) (file made : ApiText) → (if b then Some file else None) ≡ Some made → made ≡ file
made_where true file made e = sym (some_is file made e)
made_where false file made e = no_file made e

pub made_is : (local : LocalTree) (made : ApiText) → client_of local ≡ Some made → made.name ≡ local.me ++ codes "Main.java"
made_is local made e =
    ap (λ (x : ApiText). x.name)
    (made_where (nat_le (deepest_of_all local.me (titled local)) 200) (client_file (making_of local) local (is_several local)) made e)

packed_name : (p : Option Name) (made : ApiText) → (packed p made).name ≡ made.name
packed_name None made = refl
packed_name (Some q) made = refl

-- the file of a client is one of Java
pub is_java : (p : Option Name) (local : LocalTree) (made : ApiText) (file : ClientFile) → client_of local ≡ Some made →
    file ≡ packed p made →
    EndsWith (codes ".java") file.name
is_java p local made file e packs = (
  local.me ++ codes "Main",
  ap (λ (f : ClientFile). f.name) packs ∙ packed_name p made ∙ made_is local made e ∙ sym (append_assoc local.me (codes "Main")
      (codes ".java")),
)
