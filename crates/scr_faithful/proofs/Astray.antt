-- The example: what roles do is no part of a conversation.
use Rattle.std.proofs.Common.{◌≡◌, ◌≢◌, List, [], ◌∷◌, ◌++◌, Option, Some, refl, sym, ap, ◌∙◌, subst, inl, inr, ◌⊎◌, ⊎_elim, Bool}
use Rattle.std.proofs.Common.{true, false}
use Rattle.std.specs.Prelude.{Contains, codes}
use Rattle.std.specs.Str.{bytes_eq}
use Rattle.mg_text.specs.Call.{Name}
use Rattle.mg_read.specs.First.{Clean}
use Rattle.scr_tree.specs.declared.syntax.Payload.TheVariants as payloads
use Rattle.scr_tree.specs.Tree.{Statements, Says}
use Rattle.scr_tree.specs.declared.syntax.Message.{Message as TextMessage}
use Rattle.scr_tree.specs.Spots.{Way, Past, spots}
use Rattle.scr_tree.specs.Control.{Quietly, past}
use Rattle.scr_tree.specs.Conditions.{Unguarded}
use Rattle.scr_tree.specs.Meaning.{first_of}
use Rattle.scr_tree.specs.Protocol.{Message, Send, label_of}
use Rattle.scr_tree.specs.Steps as steps
use Rattle.scr_global.specs.Global.{Passing, Global}
use Rattle.scr_global.specs.Global as global
use Rattle.scr_global.specs.Points.{Once, TurnOf, Layer, Rest, Point, start, turned, Quiet, Next, Goes}
use Rattle.scr_global.specs.Points as points
use Rattle.scr_global.specs.Tree.{said}
use Rattle.scr_global.specs.Projection.{IsProjection}
use Rattle.scr_global.specs.Systems.{System, here, after, sends}
use Rattle.scr_global.specs.Laws.{named, named_in, messages_of, AreProjections, IsReached}
use Rattle.scr_global.proofs.Names.{same, differs, is_other, first_or_later, none_contained}
use Rattle.scr_global.proofs.Tests.{among_is}
use Rattle.scr_global.proofs.Unique.{projection_is_function}
use Rattle.scr_faithful.specs.Faithful.{acts_on}
use Rattle.scr_faithful.specs.Astray.{roles, text, locals, SomeGoAstray}

not_quiet : {name : Name} {m : TextMessage} {rest : Statements} {way : Way} → Quietly name (Past (Says m rest) ∷ way) → ⊥
not_quiet (past t q) = cc

-- what holds of the four roles holds of each
each_role : (P : Name → Type 0) → P (codes "A") → P (codes "B") → P (codes "C") → P (codes "D") → (me : Name) → Contains roles me → P me
each_role P a b c d me l =
    ⊎_elim (λ e. subst P e a)
    (λ l. ⊎_elim (λ e. subst P e b)
    (λ l. ⊎_elim (λ e. subst P e c)
    (λ l. ⊎_elim (λ e. subst P e d) (λ n. absurd (none_contained me n)) (first_or_later (codes "D") [] me l))
    (first_or_later (codes "C") (codes "D" ∷ []) me l))
    (first_or_later (codes "B") (codes "C" ∷ codes "D" ∷ []) me l))
    (first_or_later (codes "A") (codes "B" ∷ codes "C" ∷ codes "D" ∷ []) me l)

-- ---- a rec that never ends

module _ (y : Name) (k : Passing) (around : Point) where
  abbrev body : Global
  body = global.Says k (global.Continue y global.Nothing)

  pub data Loop : Point → Type 0 where
    opens : Loop (Rest (global.Rec y body global.Nothing) Once ∷ around)
    says : Loop (Rest body (TurnOf y body) ∷ Rest global.Nothing Once ∷ around)
    turns : Loop (Rest (global.Continue y global.Nothing) (TurnOf y body) ∷ Rest global.Nothing Once ∷ around)

  pub quiet_loop : {from to : Point} → Quiet from to → Loop from → Loop to
  quiet_loop points.begins opens = says
  quiet_loop (points.continues {to = to} e) turns =
      let found : Some (Rest body (TurnOf y body) ∷ Rest global.Nothing Once ∷ around) ≡ Some to =
      sym (ap (λ b. elim b as (λ (v : Bool). Option Point) [
        | true ↦ Some (Rest body (TurnOf y body) ∷ Rest global.Nothing Once ∷ around)
        | false ↦ turned y (Rest global.Nothing Once ∷ around)
      ]) (same {x = y} {y = y} refl)) ∙ e in
      let s : (Rest body (TurnOf y body) ∷ Rest global.Nothing Once ∷ around) ≡ to = cc in
      subst Loop s says
  quiet_loop q says = elim q [ ]

  pub next_loop : {from to : Point} {m : Passing} → Next from m to → Loop from → (m ≡ k) × Loop to
  next_loop (points.quietly q n) l = next_loop n (quiet_loop q l)
  next_loop points.says says = (refl, turns)
  next_loop (points.chooses b) l = elim l [ ]

  -- names no other role
  goes_loop : {from to : Point} {ms : List Passing} → Goes from ms to → Loop from → (me : Name) → k.from ≢ me → k.to ≢ me →
      named me ms ≡ []
  goes_loop points.stays l me f t = refl
  goes_loop (points.next {ms = ms} n r) l me f t =
      let x = next_loop n l in
      ap (λ z. named me (z ∷ ms)) x.0 ∙ ap (λ b. named_in b (bytes_eq k.to me) k (named me ms)) (differs f)
      ∙ ap (λ b. named_in false b k (named me ms)) (differs t) ∙ goes_loop r x.1 me f t

-- the first message
module _ (a y : Name) (m k n l : Passing) where
  abbrev rest : Global
  rest = global.Says l global.Nothing

  abbrev whole : Global
  whole = global.Choice a (global.Branch (global.Says m (global.Rec y (global.Says k (global.Continue y global.Nothing)) global.Nothing))
      (global.Branch (global.Says n global.Nothing) global.NoBranch)) rest

  first_is : {to : Point} {x : Passing} → Next (start whole) x to → ((x ≡ m) × Loop y k (Rest rest Once ∷ []) to) ⊎ (x ≡ n)
  first_is (points.quietly q next) = elim q [ ]
  first_is (points.chooses points.this) = inl (refl, opens)
  first_is (points.chooses (points.later points.this)) = inr refl
  first_is (points.chooses (points.later (points.later b))) = elim b [ ]

-- ---- the example

abbrev passing : Name → Name → Name → Passing
passing label from to = record { from = from; to = to; label = label; kind = payloads.Nothing }

are : AreProjections roles (said text) locals
are =
    let a : Contains roles (codes "A") = among_is roles (codes "A") refl in
    let b : Contains roles (codes "B") = among_is roles (codes "B") refl in
    let c : Contains roles (codes "C") = among_is roles (codes "C") refl in
    let d : Contains roles (codes "D") = among_is roles (codes "D") refl in
    let ab : codes "A" ≢ codes "B" = is_other {x = codes "A"} {y = codes "B"} refl in
    let cd : codes "C" ≢ codes "D" = is_other {x = codes "C"} {y = codes "D"} refl in
    record {
      valid = record {
        between = ((((a, b, ab), (((a, b, ab), tt), tt)), (((a, b, ab), tt), tt)), ((c, d, cd), tt));
        begun = (tt, (refl, (refl, tt)), ((tt, tt), (tt, tt)), tt);
        closed = ((((among_is (codes "Y" ∷ []) (codes "Y") refl, tt), tt), (tt, tt)), tt);
      };
      projected = each_role (λ me. IsProjection me (said text) (first_of (locals me)))
          ((projection_is_function (codes "A") (said text) (first_of (locals (codes "A")))).1 refl)
          ((projection_is_function (codes "B") (said text) (first_of (locals (codes "B")))).1 refl)
          ((projection_is_function (codes "C") (said text) (first_of (locals (codes "C")))).1 refl)
          ((projection_is_function (codes "D") (said text) (first_of (locals (codes "D")))).1 refl);
      guarded = each_role (λ me. Clean Unguarded (spots [] (locals me).body))
          (λ c h. h, (λ c h. h, (λ c h. h, (λ c h. h, (λ c h. not_quiet h.1, (λ c h. h, tt))))))
          (λ c h. h, (λ c h. h, (λ c h. h, (λ c h. h, (λ c h. not_quiet h.1, (λ c h. h, tt))))))
          (λ c h. h, tt)
          (λ c h. h, tt);
    }

-- A sends m, and C sends l
record Reached : Type 0 where
  system : System
  path : IsReached roles locals system
  first : messages_of (acts_on path (codes "A")) ≡ Send (codes "B") (codes "m") payloads.Nothing ∷ []
  third : messages_of (acts_on path (codes "C")) ≡ Send (codes "D") (codes "l") payloads.Nothing ∷ []

it_is_reached : Reached
it_is_reached = record {
  system = _;
  path = after (after here (among_is roles (codes "A") refl) (sends (steps.chooses steps.this))) (among_is roles (codes "C") refl)
      (sends steps.moves);
  first = refl;
  third = refl;
}

label_in : List Message → Name
label_in [] = []
label_in (m ∷ ms) = label_of m

no_conversation : {messages : List Passing} {point : Point} → Goes (start (said text)) messages point → (xs ys : List Message) →
    named (codes "A") messages ≡ Send (codes "B") (codes "m") payloads.Nothing ∷ xs →
    named (codes "C") messages ≡ Send (codes "D") (codes "l") payloads.Nothing ∷ ys → ⊥
unfolding label_in
no_conversation points.stays xs ys e f = cc
no_conversation (points.next {m = x} {ms = ms} n r) xs ys e f =
    ⊎_elim
    (λ h. let none : named (codes "C") ms ≡ [] = goes_loop (codes "Y") (passing (codes "k") (codes "A") (codes "B"))
    (Rest (global.Says (passing (codes "l") (codes "C") (codes "D")) global.Nothing) Once ∷ []) r h.1 (codes "C")
    (is_other {x = codes "A"} {y = codes "C"} refl) (is_other {x = codes "B"} {y = codes "C"} refl) in
    let i : named (codes "C") ms ≡ Send (codes "D") (codes "l") payloads.Nothing ∷ ys = sym (ap (λ z. named (codes "C") (z ∷ ms)) h.0) ∙ f in
    nothing_is (sym none ∙ i))
    (λ h. let i : Send (codes "B") (codes "n") payloads.Nothing ∷ named (codes "A") ms ≡ Send (codes "B") (codes "m") payloads.Nothing ∷ xs =
    sym (ap (λ z. named (codes "A") (z ∷ ms)) h) ∙ e in
    is_other {x = codes "n"} {y = codes "m"} refl (ap label_in i))
    (first_is (codes "A") (codes "Y") (passing (codes "m") (codes "A") (codes "B")) (passing (codes "k") (codes "A") (codes "B"))
    (passing (codes "n") (codes "A") (codes "B")) (passing (codes "l") (codes "C") (codes "D")) n)
  where
    nothing_is : {x : Message} {xs : List Message} → [] ≡ x ∷ xs → ⊥
    nothing_is e = cc

pub some_go_astray : SomeGoAstray
some_go_astray = (
  are,
  it_is_reached.system,
  it_is_reached.path,
  λ messages point goes parts.
      let a = parts (codes "A") (among_is roles (codes "A") refl) in
      let c = parts (codes "C") (among_is roles (codes "C") refl) in
      no_conversation goes a.0 c.0 (a.1 ∙ ap (λ ms. ms ++ a.0) it_is_reached.first) (c.1 ∙ ap (λ ms. ms ++ c.0) it_is_reached.third),
)
