-- The premises can be met: the adder can end, and in a protocol that goes on for ever no role is forgotten.
use Rattle.std.proofs.Common.{◌≢◌, List, [], ◌∷◌, refl, subst, inl, inr, ⊎_elim}
use Rattle.std.specs.Prelude.{Contains, codes}
use Rattle.mg_text.specs.Call.{Name}
use Rattle.scr_tree.specs.Protocol.{Message, Send, Take}
use Rattle.scr_tree.specs.declared.syntax.Payload.TheVariants as payloads
use Rattle.scr_global.specs.Adder.{roles, text}
use Rattle.scr_global.specs.Global.{Passing}
use Rattle.scr_global.specs.Points.{Layer, Point, start, Goes}
use Rattle.scr_global.specs.Points as points
use Rattle.scr_global.specs.Tree.{said}
use Rattle.scr_global.specs.Laws.{named}
use Rattle.scr_global.proofs.Adder.{adder_is_projected}
use Rattle.scr_global.proofs.Names.{first_or_later, none_contained}
use Rattle.scr_faithful.specs.Examples.{AdderCanEnd, hello, for_ever, NoneIsForgottenForEver}
use Rattle.scr_faithful.proofs.Leaving.{left_can_end}
use Rattle.scr_faithful.proofs.Astray.{Loop, opens, says, turns, next_loop}

pub adder_can_end : AdderCanEnd
adder_can_end = left_can_end roles (said text) adder_is_projected.valid ((inr (inl tt), tt), ((tt, (tt, tt)), tt), tt)

stays_in : {from to : Point} {ms : List Passing} → Goes from ms to → Loop (codes "Y") hello [] from → Loop (codes "Y") hello [] to
stays_in points.stays l = l
stays_in (points.next n r) l = stays_in r (next_loop (codes "Y") hello [] n l).1

-- the next message
more : {at : Point} → Loop (codes "Y") hello [] at → (to : Point) × Goes at (hello ∷ []) to
more opens = (_, points.next (points.quietly points.begins points.says) points.stays)
more says = (_, points.next points.says points.stays)
more turns = (_, points.next (points.quietly (points.continues refl) points.says) points.stays)

some : {x : Message} → x ∷ [] ≢ []
some e = cc

pub none_is_forgotten : NoneIsForgottenForEver
none_is_forgotten locals messages point goes me l =
    let m = more (stays_in goes (in_loop goes)) in
    inl (hello ∷ [], m.0, m.1, named_once me l)
  where
    in_loop : Goes (start for_ever) messages point → Loop (codes "Y") hello [] (start for_ever)
    in_loop r = opens

    named_once : (me : Name) → Contains (codes "A" ∷ codes "B" ∷ []) me → named me (hello ∷ []) ≢ []
    named_once me l =
        ⊎_elim (λ e. subst (λ q. named q (hello ∷ []) ≢ []) e (some {x = Send (codes "B") (codes "hello") payloads.Nothing}))
        (λ l. ⊎_elim (λ e. subst (λ q. named q (hello ∷ []) ≢ []) e (some {x = Take (codes "A") (codes "hello") payloads.Nothing}))
        (λ n. absurd (none_contained me n)) (first_or_later (codes "B") [] me l))
        (first_or_later (codes "A") (codes "B" ∷ []) me l)
