use Rattle.std.proofs.Common.{◌<◌, refl, arith}
use Rattle.cls_search.specs.declared.leading.Found.{Found}
use Rattle.cls_search.proofs.Searched.{search_ends, search_walks, search_on, search_less, walk_true, walk_false, measure, measure_is}
use Rattle.cls_search.proofs.method.settles.Goals as goal

pub waiting-init : goal.waiting-init
waiting-init c = λ s h. h

pub returns-in_default : goal.returns-in_default
returns-in_default c = λ s h. search_ends s c.waiting.found c.args.body (c.waiting.invariant s h) c.in_default.ensures

pub walk-requires : goal.walk-requires
walk-requires c =
    let s = c.requires.0 in
    let h = c.waiting.invariant s c.requires.1 in
    (s, search_walks s c.waiting.found c.args.body h _ c.in-Some.place refl refl c.in-Some.ensures.1 c.in-Some.ensures.0)

pub returns-then-not-goes_on : goal.returns-then-not-goes_on
returns-then-not-goes_on c = λ s h.
    let mid : Found = record { frames = c.waiting.found.frames; waiting = c.take.new.self; stacks = c.waiting.found.stacks } in
    let walks = search_walks s c.waiting.found c.args.body (c.waiting.invariant s h) mid c.in-Some.place refl refl c.in-Some.ensures.1
    c.in-Some.ensures.0 in
    walk_false s mid c.walk.new.self c.in_ok-goes_on.goes_on (c.in_ok-goes_on.ensures s walks) c.if-not-goes_on.true

pub waiting-preserved : goal.waiting-preserved
waiting-preserved c = λ s h.
    let mid : Found = record { frames = c.waiting.found.frames; waiting = c.take.new.self; stacks = c.waiting.found.stacks } in
    let b = c.waiting.invariant s h in
    let walks = search_walks s c.waiting.found c.args.body b mid c.in-Some.place refl refl c.in-Some.ensures.1 c.in-Some.ensures.0 in
    search_on s c.waiting.found c.args.body b mid c.in-Some.place refl refl c.in-Some.ensures.1 c.in-Some.ensures.0 c.walk.new.self
    (walk_true s mid c.walk.new.self c.in_ok-goes_on.goes_on (c.in_ok-goes_on.ensures s walks) c.if-not-goes_on.false)

pub waiting-smaller : goal.waiting-smaller
waiting-smaller c =
    let s = c.requires.0 in
    let h = c.requires.1 in
    let mid : Found = record { frames = c.waiting.found.frames; waiting = c.take.new.self; stacks = c.waiting.found.stacks } in
    let b = c.waiting.invariant s h in
    let walks = search_walks s c.waiting.found c.args.body b mid c.in-Some.place refl refl c.in-Some.ensures.1 c.in-Some.ensures.0 in
    let less = search_less s c.waiting.found c.args.body b mid c.in-Some.place refl refl c.in-Some.ensures.1 c.in-Some.ensures.0
    c.walk.new.self
    (walk_true s mid c.walk.new.self c.in_ok-goes_on.goes_on (c.in_ok-goes_on.ensures s walks) c.if-not-goes_on.false) in
    let was = measure_is s c.args.found.now c.waiting.found c.args.body h in
    let is = measure_is s c.args.found.now c.walk.new.self c.args.body h in
    let falls : measure c.args.found.now c.walk.new.self c.args.body < measure c.args.found.now c.waiting.found c.args.body =
    omega (arith, less, was, is) in
    falls
