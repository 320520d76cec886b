-- A valid local protocol has at most 1,000 states.
use Rattle.std.proofs.Common.{◌≡◌, ℕ, suc, ◌+◌, ◌<◌, ◌≤◌, ◌⊎◌, ⊎_elim, List, [], ◌∷◌, ◌++◌, length, refl, sym, ap, ◌∙◌, Bool, true, false}
use Rattle.std.proofs.Common.{not, cond, if◌then◌else◌, arith, length-append}
use Rattle.std.specs.List.{filter}
use Rattle.std.specs.Str.{bytes_eq}
use Rattle.std.proofs.Math.Logic.{∥∥₁_elim}
use Rattle.std.proofs.lemmas.List.Elements.{filter-append}
use Rattle.mg_text.specs.Call.{Name}
use Rattle.mg_text.specs.Places.{start_of}
use Rattle.mg_read.specs.Culprit.{culprit}
use Rattle.scr_tree.specs.Tree.{LocalTree, Titled, titled, body_in, Statements, Nothing, Says, Choice, Rec, Continue, Do, NoBranch, Branch}
use Rattle.scr_tree.specs.Tree as tree
use Rattle.scr_tree.specs.Meaning.{choices, choices_in, numbered, numbered_in, numbered_parts, message_of, protocol_of}
use Rattle.scr_tree.specs.Protocol.{Protocol, Does, ChoiceHere, ChoiceThere}
use Rattle.scr_tree.specs.Spots.{Past, Opens, Enters, Way, Spot, spot, spots, branch_spots}
use Rattle.scr_tree.specs.States.{TooManyStates, begins, is_state, all_states}
use Rattle.scr_tree.specs.States.{states as written_states}
use Rattle.scr_tree.specs.Steps.{Part, Plain, BodyOf, Left, Position}
use Rattle.scr_tree.specs.Valid.{IsValid, names_in}
use Rattle.scr_trace.specs.declared.standing.Standing.{Standing}
use Rattle.scr_trace.specs.declared.standing.Standing.TheVariants as standings
use Rattle.scr_trace.specs.Positions.{states_in, states_here, states_there}
use Rattle.scr_trace.proofs.Parts
use Rattle.scr_trace.proofs.Rules.{Sound, SoundIn, SoundFirst}
use Rattle.scr_trace.proofs.Valid.{AllSound, clean_once, valid_sound}
use Rattle.stm_gen.specs.Numbered.{after, states, part_states}
use Rattle.stm_gen.proofs.Numbers.{as_many}

module _ (me : Name) (protocols : List Name) where
  abbrev count : List Spot → ℕ
  count ss = length (filter (is_state me) ss)

  count-append : (a b : List Spot) → count (a ++ b) ≡ count a + count b
  count-append a b = ap length (filter-append (is_state me) a b) ∙ length-append _ _

  -- a choice has a state of its own
  choice_count : (self : Bool) (c : ℕ) (part : Part) (around : Position) (bs : tree.Branches) (rest : Statements) (a b : ℕ) →
      ((d : ℕ) (out : Position) → a ≡ length (Parts.within self out (numbered_in me d bs))) →
      ((d : ℕ) → b ≡ length (states_in part around (numbered me d rest))) →
      suc (a + b) ≡
      length (states_in part around (if self then ChoiceHere (numbered_in me c bs) (numbered me (c + choices_in me bs) rest) else
      ChoiceThere c (numbered_in me (suc c) bs) (numbered me (suc c + choices_in me bs) rest)))
  choice_count true c part around bs rest a b inside behind =
      let r : Protocol = numbered me (c + choices_in me bs) rest in
      let e = inside c (Left r part ∷ around) in
      let f = behind (c + choices_in me bs) in
      let g = length-append (states_here (Left r part ∷ around) (numbered_in me c bs)) (states_in part around r) in
      omega arith
  choice_count false c part around bs rest a b inside behind =
      let r : Protocol = numbered me (suc c + choices_in me bs) rest in
      let e = inside (suc c) (Left r part ∷ around) in
      let f = behind (suc c + choices_in me bs) in
      let g = length-append (states_there (Left r part ∷ around) (numbered_in me (suc c) bs)) (states_in part around r) in
      omega arith

  -- the first message of a branch has one in a choice elsewhere alone
  first_count : (self : Bool) (s : Spot) (ss : List Spot) (m : _) (r : Protocol) (around : Position) →
      length ss ≡ length (states_in Plain around r) →
      length (cond (not self) (s ∷ ss) ss) ≡ length (Parts.first_in self around (Does m r))
  first_count true s ss m r around e = e
  first_count false s ss m r around e = ap suc e

  mutual
    counts : (t : Statements) (names : List Name) → Sound protocols names t → (way : Way) → begins me way ≡ false →
        (c : ℕ) (part : Part) (around : Position) →
        count (spots way t) ≡ length (states_in part around (numbered me c t))
    counts Nothing names h way e c part around = refl
    counts (Says m rest) names h way e c part around =
        let more = filter (is_state me) (spots (Past (Says m Nothing) ∷ way) rest) in
        ap (λ b. length (cond (not b) (spot way (Says m rest) ∷ more) more)) e ∙
        ap suc (counts rest names h (Past (Says m Nothing) ∷ way) refl c part around)
    counts (Choice p at bs rest) names h way e c part around =
        ap suc (count-append (branch_spots way at [] bs) (spots (Past (Choice p at bs Nothing) ∷ way) rest))
        ∙ choice_count (bytes_eq at me) c part around bs rest _ _ (λ d out. counts_in bs names h.0 way at [] d out)
        (λ d. counts rest names h.1 (Past (Choice p at bs Nothing) ∷ way) refl d part around)
    counts (Rec p name body rest) names h way e c part around =
        let b : Protocol = numbered me c body in
        let r : Protocol = numbered me (c + choices me body) rest in
        let x = count-append (spots (Opens name ∷ way) body) (spots (Past (Rec p name body Nothing) ∷ way) rest) in
        let y = counts body (name ∷ names) h.1 (Opens name ∷ way) refl c (BodyOf name b) (Left r part ∷ around) in
        let z = counts rest names h.3 (Past (Rec p name body Nothing) ∷ way) refl (c + choices me body) part around in
        let l = length-append (states_in (BodyOf name b) (Left r part ∷ around) b) (states_in part around r) in
        omega arith
    counts (Continue p name rest) names h way e c part around =
        ap (λ (t : Statements). count (spots (Past (Continue p name Nothing) ∷ way) t)) h.1 ∙
        sym (ap (λ (t : Statements). length (states_in part around (numbered me c t))) h.1)
    counts (Do p name rest) names h way e c part around =
        ap (λ (t : Statements). count (spots (Past (Do p name Nothing) ∷ way) t)) h.1 ∙
        sym (ap (λ (t : Statements). length (states_in part around (numbered me c t))) h.1)

    counts_in : (bs : tree.Branches) (names : List Name) → SoundIn protocols names bs → (way : Way) (at : Name) (earlier : List Statements)
        (c : ℕ) (around : Position) →
        count (branch_spots way at earlier bs) ≡ length (Parts.within (bytes_eq at me) around (numbered_in me c bs))
    counts_in NoBranch names h way at earlier c around = sym (ap length (Parts.within-NoMore (bytes_eq at me) around))
    counts_in (Branch b more) names h way at earlier c around =
        let x = count-append (spots (Enters at earlier ∷ way) b) (branch_spots way at (b ∷ earlier) more) in
        let y = counts_first b names h.0 way at earlier c around in
        let z = counts_in more names h.1 way at (b ∷ earlier) (c + choices me b) around in
        let d = ap length (Parts.within-Branch (bytes_eq at me) around (numbered me c b) (numbered_in me (c + choices me b) more)) in
        let l = length-append (Parts.first_in (bytes_eq at me) around (numbered me c b))
        (Parts.within (bytes_eq at me) around (numbered_in me (c + choices me b) more)) in
        omega arith

    counts_first : (b : Statements) (names : List Name) → SoundFirst protocols names b → (way : Way) (at : Name) (earlier : List Statements)
        (c : ℕ) (around : Position) →
        count (spots (Enters at earlier ∷ way) b) ≡ length (Parts.first_in (bytes_eq at me) around (numbered me c b))
    counts_first (Says m rest) names h way at earlier c around =
        first_count (bytes_eq at me) (spot (Enters at earlier ∷ way) (Says m rest))
        (filter (is_state me) (spots (Past (Says m Nothing) ∷ Enters at earlier ∷ way) rest)) (message_of m) (numbered me c rest) around
        (counts rest names h (Past (Says m Nothing) ∷ Enters at earlier ∷ way) refl c Plain around)
    counts_first Nothing names h way at earlier c around = absurd h
    counts_first (Choice p other bs rest) names h way at earlier c around = absurd h
    counts_first (Rec p name body rest) names h way at earlier c around = absurd h
    counts_first (Continue p name rest) names h way at earlier c around = absurd h
    counts_first (Do p name rest) names h way at earlier c around = absurd h

at_most : (k : ℕ) → (1000 < k → ⊥) → k ≤ 1000
at_most k h = ⊎_elim (λ l. l) (λ g. absurd (h g)) (or_more k)
  where
    or_more : (k : ℕ) → (k ≤ 1000) ⊎ (1000 < k)
    or_more k = grind arith

-- parts, one after another
parts_count : (me : Name) (protocols : List Name) (entry : Name → Standing) (ts : List Titled) → AllSound protocols ts → (n c : ℕ) →
    length (all_states (λ (t : Titled). me) body_in ts) ≡ length (part_states entry me n (numbered_parts me c ts))
parts_count me protocols entry [] h n c = refl
parts_count me protocols entry (t ∷ ts) h n c =
    let body : Protocol = numbered me c t.body in
    let own = counts me protocols t.body [] h.0 [] refl c Plain [] in
    let many = as_many me entry body n standings.End [] Plain [] in
    let more = parts_count me protocols entry ts h.1 (after n body) (c + choices me t.body) in
    let x = length-append (written_states me t.body) (all_states (λ (t : Titled). me) body_in ts) in
    let y = length-append (states entry me n standings.End [] body)
    (part_states entry me (after n body) (numbered_parts me (c + choices me t.body) ts)) in
    omega arith

-- the states of a valid local protocol
pub few : (local : LocalTree) → ∥ IsValid local ∥₁ → (entry : Name → Standing) →
    length (part_states entry local.me 0 (protocol_of local)) ≤ 1000
few local v entry =
    let all : List Spot = all_states (λ (t : Titled). local.me) body_in (titled local) in
    let clean = ∥∥₁_elim v (clean_once (TooManyStates local.file) (all ∷ [])) (λ i. i.few_states) in
    let same = parts_count local.me (names_in local) entry (titled local) (valid_sound local v) 0 1 in
    at_most (length (part_states entry local.me 0 (protocol_of local))) (λ h. clean.0 (culprit (start_of local.file) [])
    (refl, omega (arith, same, h)))
