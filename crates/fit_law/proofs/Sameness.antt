-- Places aside, the protocol is the same.
use Rattle.std.proofs.Common.{◌≡◌, ℕ, suc, ◌+◌, Bool, true, false, if◌then◌else◌, [], map, refl, ap, ◌∙◌, subst}
use Rattle.std.specs.Str.{bytes_eq}
use Rattle.std.proofs.Math.Logic.{∥∥₁_elim}
use Rattle.mg_text.specs.Call.{Name}
use Rattle.scr_tree.specs.declared.syntax.Message.{Message as Said}
use Rattle.scr_tree.specs.Tree.{LocalTree, Statements, Nothing, Says, Choice, Rec, Continue, Do, Branches, NoBranch, Branch, titled, other}
use Rattle.scr_tree.specs.Conditions.{Unguarded}
use Rattle.scr_tree.specs.Meaning.{message_of, towards, choices, choices_in, numbered, numbered_in, first_of}
use Rattle.scr_tree.specs.Protocol.{Protocol, ChoiceHere, ChoiceThere, Branches as Parted}
use Rattle.scr_tree.specs.Protocol as protocol
use Rattle.scr_tree.specs.Spots.{spots}
use Rattle.scr_trace.proofs.Valid.{clean_once}
use Rattle.scr_back.specs.Same.{IsSameMessage, AreSame, AreSameBranches}
use Rattle.scr_global.specs.Projection.{IsProjection}
use Rattle.scr_global.proofs.Valid.{first_guarded}
use Rattle.fit_law.specs.Same.{DoTheSame, SameAreLocals}

same_message : (m n : Said) → IsSameMessage m n → message_of m ≡ message_of n
same_message m n h =
    ap (λ d. towards d m.peer m.label m.payload) h.direction ∙ ap (λ p. towards n.direction p m.label m.payload) h.peer
    ∙ ap (λ l. towards n.direction n.peer l m.payload) h.label ∙ ap (λ k. towards n.direction n.peer n.label k) h.payload

module _ (me : Name) where
  mutual
    same_choices : (s t : Statements) → AreSame s t → choices me s ≡ choices me t
    same_choices Nothing Nothing h = refl
    same_choices (Says m rest) (Says n more) h = same_choices rest more h.1
    same_choices (Choice p at bs rest) (Choice q by ds more) h =
        ap (λ a. (if bytes_eq a me then 0 else 1) + choices_in me bs + choices me rest) h.0
        ∙ ap (λ k. (if bytes_eq by me then 0 else 1) + k + choices me rest) (same_choices_in bs ds h.1)
        ∙ ap (λ k. (if bytes_eq by me then 0 else 1) + choices_in me ds + k) (same_choices rest more h.2)
    same_choices (Rec p name body rest) (Rec q word inner more) h =
        ap (λ k. k + choices me rest) (same_choices body inner h.1) ∙ ap (λ k. choices me inner + k) (same_choices rest more h.2)
    same_choices (Continue p name rest) (Continue q word more) h = same_choices rest more h.1
    same_choices (Do p name rest) (Do q word more) h = same_choices rest more h.1
    same_choices _ _ h = absurd h

    same_choices_in : (bs ds : Branches) → AreSameBranches bs ds → choices_in me bs ≡ choices_in me ds
    same_choices_in NoBranch NoBranch h = refl
    same_choices_in (Branch b bs) (Branch d ds) h =
        ap (λ k. k + choices_in me bs) (same_choices b d h.0) ∙ ap (λ k. choices me d + k) (same_choices_in bs ds h.1)
    same_choices_in _ _ h = absurd h

  choice_same : (n : ℕ) (b : Bool) (x y : ℕ → Parted) (r s : ℕ → Protocol) (i k : ℕ) → ((n : ℕ) → x n ≡ y n) →
      ((n : ℕ) → r n ≡ s n) → i ≡ k →
      (if b then ChoiceHere (x n) (r (n + i)) else ChoiceThere n (x (suc n)) (r (suc n + i)))
      ≡ (if b then ChoiceHere (y n) (s (n + k)) else ChoiceThere n (y (suc n)) (s (suc n + k)))
  choice_same n true x y r s i k e f g =
      ap (λ z. ChoiceHere z (r (n + i))) (e n) ∙ ap (λ z. ChoiceHere (y n) (r (n + z))) g ∙ ap (λ z. ChoiceHere (y n) z) (f (n + k))
  choice_same n false x y r s i k e f g =
      ap (λ z. ChoiceThere n z (r (suc n + i))) (e (suc n)) ∙ ap (λ z. ChoiceThere n (y (suc n)) (r (suc n + z))) g
      ∙ ap (λ z. ChoiceThere n (y (suc n)) z) (f (suc n + k))

  mutual
    same_numbered : (s t : Statements) → AreSame s t → (n : ℕ) → numbered me n s ≡ numbered me n t
    same_numbered Nothing Nothing h n = refl
    same_numbered (Says m rest) (Says l more) h n =
        ap (λ x. protocol.Does x (numbered me n rest)) (same_message m l h.0)
        ∙ ap (λ x. protocol.Does (message_of l) x) (same_numbered rest more h.1 n)
    same_numbered (Choice p at bs rest) (Choice q by ds more) h n =
        ap (λ a. if bytes_eq a me then ChoiceHere (numbered_in me n bs) (numbered me (n + choices_in me bs) rest)
        else ChoiceThere n (numbered_in me (suc n) bs) (numbered me (suc n + choices_in me bs) rest)) h.0
        ∙ choice_same n (bytes_eq by me) (λ k. numbered_in me k bs) (λ k. numbered_in me k ds) (λ k. numbered me k rest)
        (λ k. numbered me k more) (choices_in me bs) (choices_in me ds) (same_numbered_in bs ds h.1) (same_numbered rest more h.2)
        (same_choices_in bs ds h.1)
    same_numbered (Rec p name body rest) (Rec q word inner more) h n =
        ap (λ x. protocol.Rec x (numbered me n body) (numbered me (n + choices me body) rest)) h.0
        ∙ ap (λ x. protocol.Rec word x (numbered me (n + choices me body) rest)) (same_numbered body inner h.1 n)
        ∙ ap (λ k. protocol.Rec word (numbered me n inner) (numbered me (n + k) rest)) (same_choices body inner h.1)
        ∙ ap (λ x. protocol.Rec word (numbered me n inner) x) (same_numbered rest more h.2 (n + choices me inner))
    same_numbered (Continue p name rest) (Continue q word more) h n =
        ap (λ x. protocol.Continue x (numbered me n rest)) h.0 ∙ ap (λ x. protocol.Continue word x) (same_numbered rest more h.1 n)
    same_numbered (Do p name rest) (Do q word more) h n =
        ap (λ x. protocol.Do x (numbered me n rest)) h.0 ∙ ap (λ x. protocol.Do word x) (same_numbered rest more h.1 n)
    same_numbered _ _ h n = absurd h

    same_numbered_in : (bs ds : Branches) → AreSameBranches bs ds → (n : ℕ) → numbered_in me n bs ≡ numbered_in me n ds
    same_numbered_in NoBranch NoBranch h n = refl
    same_numbered_in (Branch b bs) (Branch d ds) h n =
        ap (λ x. protocol.Branch x (numbered_in me (n + choices me b) bs)) (same_numbered b d h.0 n)
        ∙ ap (λ k. protocol.Branch (numbered me n d) (numbered_in me (n + k) bs)) (same_choices b d h.0)
        ∙ ap (λ x. protocol.Branch (numbered me n d) x) (same_numbered_in bs ds h.1 (n + choices me d))
    same_numbered_in _ _ h n = absurd h

same_first : (a b : LocalTree) → DoTheSame a b → first_of a ≡ first_of b
same_first a b h = ap (λ m. numbered m 1 a.body) h.me ∙ same_numbered b.me a.body b.body h.body 1

pub same_are_locals : SameAreLocals
same_are_locals roles g locals others are same own valid = record {
  projections = record {
    valid = are.valid;
    projected = λ me l. subst (IsProjection me g) (same_first (locals me) (others me) (same me l)) (are.projected me l);
    guarded = λ me l. ∥∥₁_elim (valid me l) (clean_once Unguarded (spots [] (others me).body)) (λ v.
        first_guarded (titled (others me)) (map other (others me).others) (record { name = (others me).name; body = (others me).body })
        v.guarded);
  };
  own = own;
  valid = valid;
}
