-- What roles that follow their projections do together is a conversation of the global protocol.
use Rattle.std.proofs.Common.{◌≡◌, ℕ, suc, ◌+◌, ◌<◌, List, [], ◌++◌, length, refl, sym, ap, ◌∙◌, subst, arith}
use Rattle.std.proofs.lemmas.List.{append-nil, length-append}
use Rattle.std.specs.Prelude.{Contains}
use Rattle.mg_text.specs.Call.{Name}
use Rattle.scr_tree.specs.Tree.{LocalTree}
use Rattle.scr_tree.specs.Protocol.{Message}
use Rattle.scr_tree.specs.Steps.{Position, after_silent}
use Rattle.scr_global.specs.Alone.{Finished}
use Rattle.scr_global.specs.Global.{Passing, Global}
use Rattle.scr_global.specs.Points.{start, Complete}
use Rattle.scr_global.specs.Systems.{System}
use Rattle.scr_global.specs.Laws.{named, messages_of, AreProjections, IsReached, IsComplete}
use Rattle.scr_faithful.specs.Guarded.{IsGuarded}
use Rattle.scr_global.proofs.Premises.{Projections, protocols_of, premises}
use Rattle.scr_global.proofs.Plans.{Picks, Plans, whole_run, Follows, over, silently, moves, chooses, looks}
use Rattle.scr_global.proofs.Following.{finished_after}
use Rattle.scr_global.proofs.Stepping.{Extends, beyond, picks_of, extends_itself}
use Rattle.scr_global.proofs.Holding.{Ahead, Holds, all_between}
use Rattle.scr_global.proofs.Followed.{did_all}
use Rattle.scr_faithful.specs.Faithful.{acts_on, CompleteIsConversation, CanEnd, CanDoRest, EachHasDoneItsPart}
use Rattle.scr_faithful.proofs.Planned.{planned_run, all_played}
use Rattle.scr_faithful.proofs.Counting.{sum, sum_same, count, bounded, named_short}
use Rattle.scr_faithful.proofs.Walks.{Walk, walk_found, walk_planned, walk_ends, AllMade}
use Rattle.scr_faithful.proofs.Walks as walks
use Rattle.scr_faithful.proofs.Doing.{Kept, kept, picks_on}

-- where a role is complete, nothing comes next
nothing_more : {n : ℕ} {picks : Picks} {at : Position} {ms : List Message} → Follows (suc n) picks at ms → Finished at → ms ≡ []
nothing_more (over e) f = refl
nothing_more (silently s r) f = nothing_more r (finished_after s f)
nothing_more (moves r) (after_silent s f) = elim s [ ]
nothing_more (chooses some all r) (after_silent s f) = elim s [ ]
nothing_more (looks j peer some takes apart r) (after_silent s f) = elim s [ ]

module _ (roles : List Name) (g : Global) (locals : Name → LocalTree) (given : AreProjections roles g locals) (c : System)
    (path : IsReached roles locals c) where
  abbrev are : Projections roles g (protocols_of locals)
  are = premises given

  -- how many messages the roles have sent and taken
  abbrev total : ℕ
  total = sum (λ q. length (messages_of (acts_on path q))) roles

  -- how many steps there are
  steps : ℕ
  steps = (kept roles g (protocols_of locals) are path refl).0

  now : (n : ℕ) → Kept roles g (protocols_of locals) are (steps + n) n c (acts_on path) (picks_on path)
  unfolding steps
  now n = (kept roles g (protocols_of locals) are path refl).1 (steps + n) n refl

  module _ (complete : IsComplete roles c) where
    abbrev most : ℕ
    most = steps + suc total

    abbrev holds : Holds roles g (protocols_of locals) are most (suc total) c
    holds = (now (suc total)).0

    abbrev plans : Plans
    plans q = picks_of (holds.made q)

    abbrev story : List Passing
    story = whole_run most g plans

    all : (q : Name) → Contains roles q → named q story ≡ messages_of (acts_on path q)
    all q l =
        let a = holds.agree plans (λ p m. extends_itself (holds.made p)) q l in
        a.is ∙ ap (λ ms. holds.done q ++ ms) (nothing_more a.follows (complete.finished q l)) ∙ append-nil (holds.done q)
        ∙ (now (suc total)).1 q

    short : length story < most
    short =
        let a = bounded roles story (all_between roles g (protocols_of locals) are most plans) in
        let b = sum_same (count story) (λ q. length (messages_of (acts_on path q))) roles (λ q l. ap length (all q l)) in
        omega arith

    conversation : IsGuarded g → (messages : List Passing) × Complete g messages
        × ((me : Name) → Contains roles me → messages_of (acts_on path me) ≡ named me messages)
    conversation guarded = (
      story,
      all_played (planned_run most g are.valid.closed are.valid.begun guarded plans) short,
      λ me l. sym (all me l),
    )

  -- what is missing of a complete conversation that goes on from the picks made
  module _ (can : CanEnd g) where
    abbrev walk : (ms : List Passing) × Walk (picks_on path) (start g) ms
    walk = walk_found roles g can are.valid.begun are.valid.between (picks_on path)

    abbrev later : ℕ
    later = suc (length walk.0) + walks.moves walk.1

    planned : (plans : Plans) × AllMade (picks_on path) plans × (whole_run (steps + later) g plans ≡ walk.0)
    planned = walk_planned (steps + later) g walk.1 (omega arith)

    abbrev kept_now : Holds roles g (protocols_of locals) are (steps + later) later c
    kept_now = (now later).0

    ahead : (q : Name) (l : Contains roles q) →
        Ahead (named q (whole_run (steps + later) g planned.0)) (kept_now.done q) later (beyond (kept_now.made q) (planned.0 q)) (c.at q)
    ahead q l = kept_now.agree planned.0 (λ p m. subst (λ js. Extends js (planned.0 p)) (sym ((now later).2 p)) (planned.1 p)) q l

    rest_done : (q : Name) (l : Contains roles q) → CanDoRest (c.at q) (messages_of (acts_on path q)) (named q walk.0)
    rest_done q l =
        let a = ahead q l in
        let is : named q walk.0 ≡ messages_of (acts_on path q) ++ a.rest =
        ap (named q) (sym planned.2) ∙ a.is ∙ ap (λ ms. ms ++ a.rest) ((now later).1 q) in
        let long = named_short q walk.0 in
        let i : length (named q walk.0) ≡ length (messages_of (acts_on path q)) + length a.rest =
        ap length is ∙ length-append (messages_of (acts_on path q)) a.rest in
        let d = did_all a.follows (omega arith) in
        record {
          acts = d.acts;
          end = d.end;
          run = d.ran;
          finished = d.finished;
          are = is ∙ ap (λ ms. messages_of (acts_on path q) ++ ms) (sym d.are);
        }

    part : (messages : List Passing) × Complete g messages
        × ((me : Name) → Contains roles me → CanDoRest (c.at me) (messages_of (acts_on path me)) (named me messages))
    part = (walk.0, walk_ends walk.1, rest_done)

pub each_has_done_its_part : EachHasDoneItsPart
each_has_done_its_part roles g locals given can c path = part roles g locals given c path can

pub complete_is_conversation : CompleteIsConversation
complete_is_conversation roles g locals given guarded c path complete = conversation roles g locals given c path complete guarded
