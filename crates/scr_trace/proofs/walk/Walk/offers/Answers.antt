use Rattle.std.proofs.Common.{List, sym, subst}
use Rattle.std.proofs.lemmas.Result.{IfOk-weaker}
use Rattle.scr_trace.specs.declared.call.Offer.{Offer}
use Rattle.scr_trace.specs.Walking.{Offered, calls_offered}
use Rattle.scr_trace.specs.inner.View.{cell_of}
use Rattle.scr_trace.proofs.Offering.{offered_at, offered_end, offered_past, peers_same, at_no_state, none_twice, offers_distinct}
use Rattle.scr_trace.proofs.walk.Walk.offers.Goals as goal

pub returns-in_default-clause-calls : goal.returns-in_default-clause-calls
returns-in_default-clause-calls c =
    λ tree position h. subst (λ (os : List Offer). Offered tree position (calls_offered os)) (sym c.new.ensures)
    (offered_end tree c.args.self.now position h (at_no_state c.args.self.now.standing c.in_default.not-State))

pub returns-in_default-clause-distinct : goal.returns-in_default-clause-distinct
returns-in_default-clause-distinct c = λ tree position h. none_twice _ c.new.ensures

pub returns-in_default-exits_of-clause-calls : goal.returns-in_default-exits_of-clause-calls
returns-in_default-exits_of-clause-calls c =
    λ tree position h. absurd (offered_past tree c.args.self.now position c.in-State.number h c.in-State.is c.in_default-exits_of.ensures)

pub returns-in_default-exits_of-clause-distinct : goal.returns-in_default-exits_of-clause-distinct
returns-in_default-exits_of-clause-distinct c =
    λ tree position h. absurd (offered_past tree c.args.self.now position c.in-State.number h c.in-State.is c.in_default-exits_of.ensures)

pub returns-clause-calls : goal.returns-clause-calls
returns-clause-calls c =
    IfOk-weaker c.offers_of.result _ _ (λ offers same tree position h.
    offered_at tree c.args.self.now position c.in-State.number (cell_of c.in-Some.exits.now) (calls_offered offers.items) h c.in-State.is
    c.in-Some.ensures (same (λ k e. peers_same tree c.args.self.now position c.in-State.number k c.in-Some.exits.now h c.in-State.is
    c.in-Some.ensures e))) c.offers_of.ensures.calls

pub returns-clause-distinct : goal.returns-clause-distinct
returns-clause-distinct c =
    IfOk-weaker c.offers_of.result _ _ (λ offers apart tree position h.
    offers_distinct tree c.args.self.now position c.in-State.number c.in-Some.exits.now offers.items h c.in-Some.ensures apart)
    c.offers_of.ensures.apart
