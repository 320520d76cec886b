-- Blocks, choices and loops are read where they are spelled, and nowhere else, whatever the statements in them are.
use Rattle.std.proofs.Common.{◌≡◌, ℕ, ◌<◌, List, [], ◌∷◌, ◌++◌, length, true, false, Some, refl, sym, ap, ◌∙◌, subst}
use Rattle.std.proofs.Common.{append_assoc, arith}
use Rattle.mg_text.specs.Call.{Name}
use Rattle.mg_text.specs.declared.place.Place.{Place}
use Rattle.mg_read.specs.Reader.{Reader, all_of}
use Rattle.mg_read.proofs.Steps.{bind_some, some_is, Takes}
use Rattle.mg_read.proofs.Lists.{Each, IsExact, Starts, all_sound, all_complete}
use Rattle.mg_read.proofs.Turns.{front_sound, front_complete, shorter}
use Rattle.scr_tree.specs.Tok.{Tok, named, marked}
use Rattle.scr_tree.specs.declared.token.Mark.TheVariants as marks
use Rattle.scr_parse.specs.Grammar.{IsBraced}
use Rattle.scr_parse.specs.inner.Reading.{is_at, mark_at, name_at, not_closed, block_with, other_with, branches_with, choice_with, rec_with}
use Rattle.scr_parse.specs.inner.Reading.{continue_with, Shortens}
use Rattle.scr_parse.proofs.Steps.{Anything, after, mark_is, name_is}

abbrev pub NotOr : List Tok → Type 0
NotOr ts = is_at marks.Or ts ≡ false

-- the tokens begin neither with "}" nor with "or", whatever stands behind them
abbrev pub Begins : List Tok → List Tok → Type 0
Begins us rest = NotOr (us ++ rest) × (not_closed (us ++ rest) ≡ true) × (0 < length us)

pub starts_of : {S : Type 0} (G : S → List Tok → Type 0) → ((x : S) (us rest : List Tok) → G x us → Begins us rest) →
    Starts not_closed G NotOr
starts_of G begins =
    record {
      follows = λ x us rest h. (begins x us rest h).0;
      goes = λ x us rest h. (begins x us rest h).1;
      nonempty = λ x us h. (begins x us [] h).2;
    }

-- what takes tokens of one form takes them of another that the first one gives
pub takes_as : {T : Type 0} {P Q : List T → Type 0} {ts rest : List T} → ((us : List T) → P us → Q us) → Takes P ts rest → Takes Q ts rest
takes_as g t = record { front = t.front; parts = t.parts; holds = g t.front t.holds }

-- `G` says how a statement is spelled.
module _ {S : Type 0} (G : S → List Tok → Type 0) where
  abbrev pub BlockOf : List S → List Tok → Type 0
  BlockOf xs = IsBraced (Each G xs)

  abbrev pub OtherOf : List S → List Tok → Type 0
  OtherOf xs us = (a : Place) × (vs : List Tok) × (us ≡ marked a marks.Or ∷ vs) × BlockOf xs vs

  abbrev pub BranchesOf : List (List S) → List Tok → Type 0
  BranchesOf [] ts = ⊥
  BranchesOf (x ∷ xs) ts = (us vs : List Tok) × (ts ≡ us ++ vs) × BlockOf x us × Each OtherOf xs vs

  other_goes : (x : List S) (ts rest : List Tok) → OtherOf x ts → is_at marks.Or (ts ++ rest) ≡ true
  other_goes x ts rest (a, vs, e, h) = rw e refl

  pub other_nonempty : (x : List S) (ts : List Tok) → OtherOf x ts → 0 < length ts
  other_nonempty x ts (a, vs, e, h) = rw e (omega arith)

  other_starts : Starts (is_at marks.Or) OtherOf Anything
  other_starts = record { follows = λ x ts rest h. tt; goes = other_goes; nonempty = other_nonempty }

  -- what is built of the place of a choice, its role and its branches
  pub record IsChoice {A : Type 0} (build : Place → Name → List (List S) → A) (x : A) (us : List Tok) : Type 0 where
    pub place : Place
    pub at : Name
    pub branches : List (List S)
    pub is : build place at branches ≡ x
    pub at_place : Place
    pub name_place : Place
    pub behind : List Tok
    pub tokens : us ≡ marked place marks.Choice ∷ marked at_place marks.At ∷ named name_place at ∷ behind
    pub spelled : BranchesOf branches behind

  -- of the place of a loop, its name and its body
  pub record IsRec {A : Type 0} (build : Place → Name → List S → A) (x : A) (us : List Tok) : Type 0 where
    pub place : Place
    pub name : Name
    pub body : List S
    pub is : build place name body ≡ x
    pub name_place : Place
    pub behind : List Tok
    pub tokens : us ≡ marked place marks.Rec ∷ named name_place name ∷ behind
    pub spelled : BlockOf body behind

  module _ (f : Reader Tok S) (exact : IsExact f G NotOr) (starts : Starts not_closed G NotOr) where
    block_sound : (ts : List Tok) (x : List S × List Tok) → block_with f ts ≡ Some x → Takes (BlockOf x.0) ts x.1
    unfolding block_with
    block_sound ts x e =
        let s = bind_some (mark_at marks.OpenBrace ts) _ x e in
        let b = bind_some (all_of not_closed f s.0.1) _ x s.2 in
        let c = bind_some (mark_at marks.CloseBrace b.0.1) _ x b.2 in
        let one = all_sound not_closed f G NotOr exact s.0.1 b.0 b.1 in
        let end : List Tok = marked c.0.0 marks.CloseBrace ∷ [] in
        let inner : s.0.1 ≡ (one.front ++ end) ++ c.0.1 =
        one.parts ∙ ap (λ (r : List Tok). one.front ++ r) (mark_is marks.CloseBrace b.0.1 c.0 c.1) ∙ sym
        (append_assoc one.front end c.0.1) in
        subst (λ (y : List S × List Tok). Takes (BlockOf y.0) ts y.1) (some_is _ x c.2)
        (record {
          front = marked s.0.0 marks.OpenBrace ∷ (one.front ++ end);
          parts = after (mark_is marks.OpenBrace ts s.0 s.1) inner;
          holds = (s.0.0, c.0.0, one.front, refl, one.holds);
        })

    pub block_complete : (x : List S) (ts rest : List Tok) → Anything rest → BlockOf x ts → block_with f (ts ++ rest) ≡ Some (x, rest)
    unfolding block_with
    block_complete x ts rest fine (a, c, us, parts, h) =
        let inner = all_complete not_closed f G NotOr exact starts x us (marked c marks.CloseBrace ∷ rest) refl refl h in
        rw (parts, append_assoc, inner) refl

    pub block_exact : IsExact (block_with f) BlockOf Anything
    block_exact = record { sound = block_sound; complete = block_complete }

    other_sound : (ts : List Tok) (x : List S × List Tok) → other_with f ts ≡ Some x → Takes (OtherOf x.0) ts x.1
    unfolding other_with
    other_sound ts x e =
        let s = bind_some (mark_at marks.Or ts) _ x e in
        let one = block_sound s.0.1 x s.2 in
        record {
          front = marked s.0.0 marks.Or ∷ one.front;
          parts = after (mark_is marks.Or ts s.0 s.1) one.parts;
          holds = (s.0.0, one.front, refl, one.holds);
        }

    other_complete : (x : List S) (ts rest : List Tok) → Anything rest → OtherOf x ts → other_with f (ts ++ rest) ≡ Some (x, rest)
    unfolding other_with
    other_complete x ts rest fine (a, us, parts, h) = rw (parts, block_complete x us rest fine h) refl

    pub other_exact : IsExact (other_with f) OtherOf Anything
    other_exact = record { sound = other_sound; complete = other_complete }

    branches_sound : (ts : List Tok) (x : List (List S) × List Tok) → branches_with f ts ≡ Some x → Takes (BranchesOf x.0) ts x.1
    unfolding branches_with
    branches_sound ts x e =
        let s = bind_some (block_with f ts) _ x e in
        let one = block_sound ts s.0 s.1 in
        let more = front_sound (is_at marks.Or) (other_with f) OtherOf Anything other_exact (s.0.0 ∷ []) s.0.1 x s.2 in
        record {
          front = one.front ++ more.2.front;
          parts = one.parts ∙ ap (λ (r : List Tok). one.front ++ r) more.2.parts ∙ sym (append_assoc one.front more.2.front x.1);
          holds = subst (λ (l : List (List S)). BranchesOf l (one.front ++ more.2.front)) (sym more.1)
              (one.front, more.2.front, refl, one.holds, more.2.holds);
        }

    pub branches_complete : (x : List (List S)) (ts rest : List Tok) → NotOr rest → BranchesOf x ts
        → branches_with f (ts ++ rest) ≡ Some (x, rest)
    unfolding branches_with
    branches_complete [] ts rest fine h = absurd h
    branches_complete (x ∷ xs) ts rest fine (us, vs, parts, block, more) =
        let first = block_complete x us (vs ++ rest) tt block in
        let others = front_complete (is_at marks.Or) (other_with f) OtherOf Anything other_exact other_starts
        (x ∷ []) xs vs rest tt fine more in
        rw (parts, append_assoc, first, others) refl

    pub choice_sound : {A : Type 0} (build : Place → Name → List (List S) → A) (ts : List Tok) (x : A × List Tok) →
        choice_with build f ts ≡ Some x → Takes (IsChoice build x.0) ts x.1
    unfolding choice_with
    choice_sound {A} build ts x e =
        let s = bind_some (mark_at marks.Choice ts) _ x e in
        let a = bind_some (mark_at marks.At s.0.1) _ x s.2 in
        let n = bind_some (name_at a.0.1) _ x a.2 in
        let b = bind_some (branches_with f n.0.1) _ x n.2 in
        let one = branches_sound n.0.1 b.0 b.1 in
        subst (λ (y : A × List Tok). Takes (IsChoice build y.0) ts y.1) (some_is _ x b.2)
        (record {
          front = marked s.0.0 marks.Choice ∷ marked a.0.0 marks.At ∷ named n.0.0.0 n.0.0.1 ∷ one.front;
          parts = after (mark_is marks.Choice ts s.0 s.1) (after (mark_is marks.At s.0.1 a.0 a.1)
              (after (name_is a.0.1 n.0 n.1) one.parts));
          holds = record {
            place = s.0.0;
            at = n.0.0.1;
            branches = b.0.0;
            is = refl;
            at_place = a.0.0;
            name_place = n.0.0.0;
            behind = one.front;
            tokens = refl;
            spelled = one.holds;
          };
        })

    pub rec_sound : {A : Type 0} (build : Place → Name → List S → A) (ts : List Tok) (x : A × List Tok) → rec_with build f ts ≡ Some x →
        Takes (IsRec build x.0) ts x.1
    unfolding rec_with
    rec_sound {A} build ts x e =
        let s = bind_some (mark_at marks.Rec ts) _ x e in
        let n = bind_some (name_at s.0.1) _ x s.2 in
        let b = bind_some (block_with f n.0.1) _ x n.2 in
        let one = block_sound n.0.1 b.0 b.1 in
        subst (λ (y : A × List Tok). Takes (IsRec build y.0) ts y.1) (some_is _ x b.2)
        (record {
          front = marked s.0.0 marks.Rec ∷ named n.0.0.0 n.0.0.1 ∷ one.front;
          parts = after (mark_is marks.Rec ts s.0 s.1) (after (name_is s.0.1 n.0 n.1) one.parts);
          holds = record {
            place = s.0.0;
            name = n.0.0.1;
            body = b.0.0;
            is = refl;
            name_place = n.0.0.0;
            behind = one.front;
            tokens = refl;
            spelled = one.holds;
          };
        })

-- what is built of the place of a `continue` and its name
pub record IsContinue {A : Type 0} (build : Place → Name → A) (x : A) (us : List Tok) : Type 0 where
  pub place : Place
  pub name : Name
  pub is : build place name ≡ x
  pub name_place : Place
  pub end : Place
  pub tokens : us ≡ marked place marks.Continue ∷ named name_place name ∷ marked end marks.Semicolon ∷ []

pub continue_sound : {A : Type 0} (build : Place → Name → A) (ts : List Tok) (x : A × List Tok) → continue_with build ts ≡ Some x →
    Takes (IsContinue build x.0) ts x.1
unfolding continue_with
continue_sound {A} build ts x e =
    let s = bind_some (mark_at marks.Continue ts) _ x e in
    let n = bind_some (name_at s.0.1) _ x s.2 in
    let c = bind_some (mark_at marks.Semicolon n.0.1) _ x n.2 in
    subst (λ (y : A × List Tok). Takes (IsContinue build y.0) ts y.1) (some_is _ x c.2)
    (record {
      front = marked s.0.0 marks.Continue ∷ named n.0.0.0 n.0.0.1 ∷ marked c.0.0 marks.Semicolon ∷ [];
      parts = after (mark_is marks.Continue ts s.0 s.1) (after (name_is s.0.1 n.0 n.1) (mark_is marks.Semicolon n.0.1 c.0 c.1));
      holds = record { place = s.0.0; name = n.0.0.1; is = refl; name_place = n.0.0.0; end = c.0.0; tokens = refl };
    })

-- `G d` says how a statement is spelled in which statements stand at most so deep, and `f d` reads it.
module _ {S : Type 0} (G : ℕ → S → List Tok → Type 0) (f : ℕ → Reader Tok S) (exact : (d : ℕ) → IsExact (f d) (G d) NotOr)
    (starts : (d : ℕ) → Starts not_closed (G d) NotOr)
  where
    -- a statement takes a token at least, and so does a further branch
    pub nested_shorten : Shortens f
    nested_shorten =
        record {
          statement = λ d. shorter (f d) (G d) NotOr (exact d) (starts d).nonempty;
          other = λ d. shorter (other_with (f d)) (OtherOf (G d)) Anything (other_exact (G d) (f d) (exact d) (starts d))
              (other_nonempty (G d));
        }
