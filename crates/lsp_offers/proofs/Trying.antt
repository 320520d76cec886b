-- Calls that are tried one after another.
use Rattle.std.proofs.Common.{◌≡◌, ℕ, zero, suc, ◌+◌, ◌<◌, ◌≤◌, List, [], ◌∷◌, length, get_or, drop, Option, Some, None, sym, ap}
use Rattle.std.proofs.Common.{subst, arith, add-one}
use Rattle.std.specs.Prelude.{Err, MatchOption, Vec}
use Rattle.std.specs.declared.alloc.Global.{Global}
use Rattle.mg_text.specs.declared.place.Place.{Place}
use Rattle.jv_core.specs.Tree.{Program}
use Rattle.mg_refusal.specs.Refusals.{Refusal}
use Rattle.mg_refusal.specs.declared.stop.Stop.{Stop}
use Rattle.mg_refusal.specs.declared.stop.Stop.TheVariants as stops
use Rattle.mg_refusal.specs.Order.{AnswersOnly}
use Rattle.mg_sources.specs.Files.{sources}
use Rattle.mg_sources.specs.Sources.{Sourced, AreProgram}
use Rattle.mg_sources.specs.View.{sourced_of}
use Rattle.mg_sources.specs.declared.sources.Sources.{Sources as KeptSources}
use Rattle.mg_accepted.specs.Program.{HaveCore}
use Rattle.lsp_messages.specs.declared.outgoing.Item.{Item}
use Rattle.lsp_offers.specs.declared.attempts.Attempt.{Attempt}
use Rattle.lsp_offers.specs.declared.typing.Typing.{Typing}
use Rattle.lsp_offers.specs.Attempts.{attempts}
use Rattle.lsp_offers.specs.Documents.{with_document, place_of}
use Rattle.lsp_offers.specs.Offered as offered
use Rattle.lsp_offers.specs.Offered.{NoneAt, AreItemsAt}
use Rattle.lsp_offers.specs.inner.Typed.{IsOnlyCore, IsTyping, files_of, Offered, Unfit, AllOffered, Here}

drop_at : {A : Type 0} (xs : List A) (i : ℕ) (x : A) → i < length xs → x ≡ get_or xs i x → drop i xs ≡ x ∷ drop (suc i) xs
drop_at [] i x less is = absurd (omega arith)
drop_at (y ∷ ys) zero x less is = ap (λ z. z ∷ ys) (sym is)
drop_at (y ∷ ys) (suc i) x less is = drop_at ys i x (omega arith) is

-- what is refused is answered by nothing else
pub none_had : {A : Type 0} (Right : A → Type 0) (s : Stop) (r : Refusal) → s ≡ stops.Refused r → AnswersOnly Right (Err s) → ⊥
none_had Right s r is h = subst (λ (z : Stop). AnswersOnly Right (Err z)) is h

module _ (t : Typing) where
  -- by a core of the files with a call
  pub by_core : IsTyping t → (a : Attempt) (core : Program) → IsOnlyCore (files_of t a) core → (o : Option (Vec Item Global)) →
      MatchOption o (NoneAt core t.place) (λ v. AreItemsAt core t.place v.items) →
      MatchOption o (Unfit t a) (λ v. Offered t a v.items)
  by_core typing a core is None none = record {
    none = λ other have. subst (λ (c : Program). NoneAt c (place_of t.file t.text.now t.spot)) (is.only other have)
        (subst (NoneAt core) typing.place none);
  }
  by_core typing a core is (Some v) are = record {
    core = core;
    has = is.has;
    are = subst (λ (q : Place). AreItemsAt core q v.items) typing.place are;
  }

  -- what is found of the files with a call
  abbrev pub Found : Attempt → Option Program → Type 0
  Found a found = MatchOption found ((core : Program) → ¬ HaveCore (files_of t a) core) (IsOnlyCore (files_of t a))

  pub by_found : IsTyping t → (a : Attempt) (found : Option Program) (core : Program) → Found a found → found ≡ Some core →
      (o : Option (Vec Item Global)) → MatchOption o (NoneAt core t.place) (λ v. AreItemsAt core t.place v.items) →
      MatchOption o (Unfit t a) (λ v. Offered t a v.items)
  by_found typing a found core have is o are = by_core typing a core (subst (Found a) is have) o are

  pub by_none : (a : Attempt) (found : Option Program) → Found a found → found ≡ None → Unfit t a
  by_none a found have is = let none : Found a None = subst (Found a) is have in record { none = λ core has. absurd (none core has) }

  -- what a call tells, where it fits
  abbrev pub Told : Attempt → Option (Vec Item Global) → Type 0
  Told a told = MatchOption told (Unfit t a) (λ v. Offered t a v.items)

  module _ (tries : List Attempt) (i : ℕ) (a : Attempt) (less : i < length tries) (is : a ≡ get_or tries i a)
      (told : Option (Vec Item Global)) (tells : Told a told)
    where
      pub tried : (v : Vec Item Global) → told ≡ Some v → AllOffered t (drop i tries) v.items
      tried v same =
          subst (λ (rest : List Attempt). AllOffered t rest v.items) (sym (drop_at tries i a less is))
          (offered.fits (subst (Told a) same tells))

      pub passed : told ≡ None → (items : List Item) → AllOffered t (drop (i + 1) tries) items → AllOffered t (drop i tries) items
      passed same items rest =
          subst (λ (left : List Attempt). AllOffered t left items) (sym (drop_at tries i a less is))
          (offered.fits_not (subst (Told a) same tells)
          (subst (λ (n : ℕ). AllOffered t (drop n tries) items) (add-one i) rest))

  ended : (tries : List Attempt) (i : ℕ) → length tries ≤ i → AllOffered t (drop i tries) []
  ended [] zero most = offered.none
  ended [] (suc i) most = offered.none
  ended (a ∷ tries) zero most = absurd (omega (arith, most))
  ended (a ∷ tries) (suc i) most = ended tries i (omega (arith, most))

  pub none_left : (tries : List Attempt) (i : ℕ) (items : List Item) → length tries ≤ i → items ≡ [] → AllOffered t (drop i tries) items
  none_left tries i items most same = subst (AllOffered t (drop i tries)) (sym same) (ended tries i most)

  -- the program without the document
  abbrev pub Others : Option KeptSources → Type 0
  Others others =
      MatchOption others ((s : Sourced) → ¬ AreProgram (sources t.names.now (with_document t.contents.now t.file [])) s)
      (λ s. AreProgram (sources t.names.now (with_document t.contents.now t.file [])) (sourced_of s))

  pub here_by : (others : Option KeptSources) (s : KeptSources) → Others others → others ≡ Some s →
      (tries : List Attempt) (items : List Item) →
      tries ≡ attempts s.typestates.items → AllOffered t tries items → Here t items
  here_by others s are is tries items same told =
      offered.program (sourced_of s) (subst Others is are) (subst (λ (all : List Attempt). AllOffered t all items) same told)

  pub none_here : (others : Option KeptSources) → Others others → others ≡ None → (items : List Item) → items ≡ [] → Here t items
  none_here others are is items same = subst (Here t) (sym same) (offered.no_program (subst Others is are))
