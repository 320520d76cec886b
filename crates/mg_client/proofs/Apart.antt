-- Files have one list of clients at most, and those that have one aren't refused.
use Rattle.std.proofs.Common.{◌≡◌, List, [], ◌∷◌, Option, Some, None, codes, refl, sym, ap, ◌∙◌}
use Rattle.mg_text.specs.Call.{Name}
use Rattle.mg_text.specs.Places.{start_of}
use Rattle.mg_read.specs.First.{Judged, clean, later}
use Rattle.mg_read.specs.FirstLaws.{IsSingle}
use Rattle.mg_read.proofs.Judging.{no_both}
use Rattle.scr_tree.specs.Tree.{LocalTree}
use Rattle.stm_api.specs.Api.{ApiText}
use Rattle.stm_client.specs.Client.{client_of}
use Rattle.mg_refusal.specs.Refusals.{Refusal, refusal_at}
use Rattle.mg_refusal.proofs.Orders.{then_never}
use Rattle.mg_sources.specs.Files.{Source}
use Rattle.mg_sources.specs.Reading.{Protocol, Refuses}
use Rattle.mg_sources.proofs.OneKind.{one_part, excludes}
use Rattle.mg_client.specs.declared.files.ClientFile.{ClientFile}
use Rattle.mg_client.specs.Clients.{packed, IsClient, EachPlays, IsUnaccepted, AreClients, FirstRefusal}

pub same_local : (k l : LocalTree) → Protocol k ≡ Protocol l → k ≡ l
same_local k l e = cc

same_text : (x y : ApiText) → Some x ≡ Some y → x ≡ y
same_text x y e = cc

module _ (p : Option Name) where
  pub one_client : (source : Source) (a b : ClientFile) → IsClient p source a → IsClient p source b → a ≡ b
  one_client source a b h k =
      let same : h.local ≡ k.local = same_local h.local k.local (one_part source (Protocol h.local) (Protocol k.local) h.spelled k.spelled)
      in
      let text : h.made ≡ k.made = same_text h.made k.made (sym h.is ∙ ap client_of same ∙ k.is) in
      h.packs ∙ ap (packed p) text ∙ sym k.packs

  each_once : (files : List Source) (xs ys : List ClientFile) → EachPlays p files xs → EachPlays p files ys → xs ≡ ys
  each_once [] [] [] h k = refl
  each_once [] [] (y ∷ ys) h k = absurd k
  each_once [] (x ∷ xs) ys h k = absurd h
  each_once (f ∷ fs) [] ys h k = absurd h
  each_once (f ∷ fs) (x ∷ xs) [] h k = absurd k
  each_once (f ∷ fs) (x ∷ xs) (y ∷ ys) (h, hs) (k, ks) =
      let first : x ≡ y = one_client f x y h.client k.client in
      let others : xs ≡ ys = each_once fs xs ys hs ks in
      λ i. first i ∷ others i

  pub one_list : (files : List Source) (xs ys : List ClientFile) → AreClients p files xs → AreClients p files ys → xs ≡ ys
  one_list files xs ys h k = each_once files xs ys h.each k.each

  none_refused : (files : List Source) (xs : List ClientFile) → EachPlays p files xs → Judged Refuses files None
  none_refused [] [] each = clean
  none_refused [] (x ∷ xs) each = absurd each
  none_refused (f ∷ fs) [] each = absurd each
  none_refused (f ∷ fs) (x ∷ xs) (h, rest) =
      later (λ r. excludes f (Protocol h.client.local) r h.client.spelled) (none_refused fs xs rest)

  none_unaccepted : (files : List Source) (xs : List ClientFile) → EachPlays p files xs → Judged (IsUnaccepted p) files None
  none_unaccepted [] [] each = clean
  none_unaccepted [] (x ∷ xs) each = absurd each
  none_unaccepted (f ∷ fs) [] each = absurd each
  none_unaccepted (f ∷ fs) (x ∷ xs) (h, rest) = later (λ r u. u.never x h) (none_unaccepted fs xs rest)

  pub not_refused : (files : List Source) (xs : List ClientFile) (r : Refusal) → AreClients p files xs → FirstRefusal p files r → ⊥
  not_refused files xs r h =
      then_never (then_never (λ r judged. no_both (none_refused files xs h.each) judged) (λ parts each r judged. no_both h.apart judged))
      (λ parts apart r judged. no_both (none_unaccepted files xs h.each) judged) r

  -- a file is unaccepted in one way
  pub one_unaccepted : IsSingle (IsUnaccepted p)
  one_unaccepted source r q h k =
      let (a, reads, is) = h.of_role in
      let (b, reads', is') = k.of_role in
      let same : a ≡ b = same_local a b (one_part source (Protocol a) (Protocol b) reads reads') in
      let role : h.role ≡ k.role = sym is ∙ ap (λ (x : LocalTree). x.me) same ∙ is' in
      h.said ∙ ap (λ (n : Name). refusal_at (codes "NotAccepted") (start_of source.number) n) role ∙ sym k.said
