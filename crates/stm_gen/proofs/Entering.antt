-- Parts begin where they are laid out to begin.
use Rattle.std.proofs.Common.{◌≡◌, ℕ, zero, suc, ◌+◌, ◌-◌, ◌<◌, ◌≤◌, List, [], ◌∷◌, ◌++◌, length, map, Contains, Option, Some, None}
use Rattle.std.proofs.Common.{refl, sym, ap, ◌∙◌, subst, ⊎_elim, Bool, true, false, ◌&&◌, ◌||◌, if◌then◌else◌, arith}
use Rattle.std.specs.Option.{option_or}
use Rattle.std.specs.Str.{bytes_eq}
use Rattle.std.proofs.lemmas.List.{length-append, get_or_at}
use Rattle.std.proofs.lemmas.Slice.Eq.{bytes_eq-Decides}
use Rattle.mg_text.specs.Call.{Name}
use Rattle.scr_tree.specs.declared.syntax.Message.{Message as Said}
use Rattle.scr_tree.specs.Tree.{LocalTree, Titled, titled, Statements, Nothing, Says, Choice, Rec, Continue, Do, Branches, NoBranch, Branch}
use Rattle.scr_tree.specs.Meaning.{choices, choices_in, numbered, numbered_in, numbered_parts, protocol_of}
use Rattle.scr_tree.specs.Protocol.{Protocol}
use Rattle.scr_tree.specs.Protocol as protocol
use Rattle.scr_tree.specs.Valid.{IsValid, names_in}
use Rattle.scr_trace.specs.declared.standing.Standing.TheVariants as standings
use Rattle.scr_trace.specs.declared.arrow.Hop.{Hop}
use Rattle.scr_trace.specs.declared.arrow.Hop.TheVariants as hops
use Rattle.scr_trace.specs.inner.Laying.{Work, Known, Gathered, nothing, lay, lay_in, branch_laid, turned, said, joined, opened, closed}
use Rattle.scr_trace.specs.inner.Laying.{chosen, gathering, parts_laid, laid_parts, LaidOut, number_among, number_in, hop_to, entry_at}
use Rattle.scr_trace.specs.inner.Laying.{IsPlain}
use Rattle.scr_trace.specs.inner.View.{standing_of, plain_standing}
use Rattle.scr_trace.proofs.Parts
use Rattle.scr_trace.proofs.Leading.{true_or_false, among_rest}
use Rattle.scr_trace.proofs.Rules.{passes, stays, Guards, is_among, Sound}
use Rattle.scr_trace.proofs.Ending.{EndsIn, stops_here, goes, some_way, short}
use Rattle.scr_trace.proofs.Arriving.{valid_ended}
use Rattle.scr_trace.proofs.Valid.{AllSound, valid_sound, first_or_later, none_contained}
use Rattle.stm_gen.specs.Numbered.{after, has_state, do_in, Placed, placed, placed_as, began, began_as, entry_within}
use Rattle.stm_gen.specs.Numbered as numbered_by
use Rattle.stm_gen.proofs.Numbers.{laid_count}
use Rattle.stm_gen.proofs.Starting.{entered}

both_true : (a b : Bool) → a ≡ true → b ≡ true → (a && b) ≡ true
both_true true b e f = f
both_true false b e f = absurd (cc e)

or_first : (a b : Bool) → a ≡ true → (a || b) ≡ true
or_first a b e = ap (λ x. x || b) e

or_second : (a b : Bool) → b ≡ true → (a || b) ≡ true
or_second true b e = refl
or_second false b e = e

or_none : (a b : Bool) → a ≡ false → b ≡ false → (a || b) ≡ false
or_none a b e f = ap (λ x. x || b) e ∙ f

-- a choice has a state
has_chosen : (self : Bool) (c : ℕ) (x y : _) (r s : Protocol) →
    has_state (if self then protocol.ChoiceHere x r else protocol.ChoiceThere c y s) ≡ true
has_chosen true c x y r s = refl
has_chosen false c x y r s = refl

-- ---- entries stay

said_entries : (m : Said) (w : Work) → (said m w).entries ≡ w.entries
unfolding said
said_entries m w = refl

opened_entries : (w : Work) → (opened w).entries ≡ w.entries
unfolding opened
opened_entries w = refl

closed_entries : (number : ℕ) (w : Work) → (closed number w).entries ≡ w.entries
unfolding closed
closed_entries number w = refl

chosen_entries : (self : Bool) (g : Gathered) → (chosen self g).entries ≡ g.work.entries
unfolding chosen
chosen_entries self g = refl

joined_entries : (self : Bool) (m : Said) (g : Gathered) → (joined self m g).work.entries ≡ g.work.entries
joined_entries true m g = ap (λ (j : Gathered). j.work.entries) (Parts.joined_here m g)
joined_entries false m g = ap (λ (j : Gathered). j.work.entries) (Parts.joined_there m g) ∙ said_entries m g.work

front_at : (xs ys : List Hop) (k : ℕ) → k < length xs → entry_at k (xs ++ ys) ≡ entry_at k xs
front_at [] ys k h = absurd (omega arith)
front_at (x ∷ xs) ys zero h = refl
front_at (x ∷ xs) ys (suc k) h = front_at xs ys k (omega arith)

-- ---- where statements begin

module _ (me : Name) (parts : Name → Option ℕ) (protocols : List Name) (total : Work) where
  at_number : (n k : ℕ) → n + k ≡ length total.cells → standing_of total (hops.State k) ≡ standings.State n
  at_number n k e = let f : length total.cells - k ≡ n = omega arith in ap standings.State f

  -- at their first state, where they have one; else at what follows them, or where their own `do` leads
  data Opens (t : Statements) (w u : Work) (n c : ℕ) : Type 0 where
    stands : has_state (numbered me c t) ≡ true → IsPlain u.next → standing_of total u.next ≡ standings.State n → Opens t w u n c
    passed : has_state (numbered me c t) ≡ false → do_in (numbered me c t) ≡ None → after n (numbered me c t) ≡ n → passes t ≡ true →
        u.next ≡ w.next → Opens t w u n c
    leaves : (name : Name) → Contains protocols name → has_state (numbered me c t) ≡ false → do_in (numbered me c t) ≡ Some name →
        after n (numbered me c t) ≡ n → stays t ≡ true →
        u.next ≡ hop_to (parts name) → Opens t w u n c

  -- no `continue` of these names stands where no message stands before it
  abbrev AllGuarded : List Name → Statements → Type 0
  AllGuarded names t = (name : Name) → is_among name names ≡ true → Guards name t

  guarded_in : (names : List Name) (place : _) (name : Name) (body rest : Statements) → Guards name body →
      AllGuarded names (Rec place name body rest) → AllGuarded (name ∷ names) body
  guarded_in names place name body rest g h z among =
      ⊎_elim (λ e. subst (λ x. Guards x body) (sym ((bytes_eq-Decides z name).0 e)) g) (λ e. (h z (among_rest z name names e among)).0)
      (true_or_false (bytes_eq z name))

  -- a body that is passed, and what stands behind it
  opens_behind : (place : _) (name : Name) (body rest : Statements) (w v o x u : Work) (n c : ℕ) → has_state (numbered me c body) ≡ false →
      do_in (numbered me c body) ≡ None →
      after n (numbered me c body) ≡ n → passes body ≡ true → x.next ≡ o.next → o.next ≡ v.next → u.next ≡ x.next →
      Opens rest w v (after n (numbered me c body)) (c + choices me body) → Opens (Rec place name body rest) w u n c
  opens_behind place name body rest w v o x u n c none own same quiet xn on un (stands some plain at) =
      let all : u.next ≡ v.next = un ∙ xn ∙ on in
      stands (or_second (has_state (numbered me c body)) (has_state (numbered me (c + choices me body) rest)) some)
      (subst IsPlain (sym all) plain) (ap (standing_of total) all ∙ at ∙ ap standings.State same)
  opens_behind place name body rest w v o x u n c none own same quiet xn on un (passed some gone stay pass next) =
      passed (or_none (has_state (numbered me c body)) (has_state (numbered me (c + choices me body) rest)) none some)
      (ap (λ d. option_or d (do_in (numbered me (c + choices me body) rest))) own ∙ gone) (stay ∙ same)
      (both_true (passes body) (passes rest) quiet pass) (un ∙ xn ∙ on ∙ next)
  opens_behind place name body rest w v o x u n c none own same quiet xn on un (leaves to known some gone stay left next) =
      leaves to known (or_none (has_state (numbered me c body)) (has_state (numbered me (c + choices me body) rest)) none some)
      (ap (λ d. option_or d (do_in (numbered me (c + choices me body) rest))) own ∙ gone) (stay ∙ same)
      (or_second (stays body) (stays rest) left) (un ∙ xn ∙ on ∙ next)

  -- a rec, by its body
  opens_rec : (place : _) (name : Name) (body rest : Statements) (w v o x u : Work) (n c : ℕ) → (stays body ≡ true → rest ≡ Nothing) →
      o.next ≡ v.next → u.next ≡ x.next →
      (passes body ≡ true → Opens rest w v (after n (numbered me c body)) (c + choices me body)) → Opens body o x n c →
      Opens (Rec place name body rest) w u n c
  opens_rec place name body rest w v o x u n c last on un behind (stands some plain at) =
      stands (or_first (has_state (numbered me c body)) (has_state (numbered me (c + choices me body) rest)) some)
      (subst IsPlain (sym un) plain) (ap (standing_of total) un ∙ at)
  opens_rec place name body rest w v o x u n c last on un behind (passed none own same quiet next) =
      opens_behind place name body rest w v o x u n c none own same quiet next on un (behind quiet)
  opens_rec place name body rest w v o x u n c last on un behind (leaves to known none own same left next) =
      let empty : rest ≡ Nothing = last left in
      leaves to known
      (or_none (has_state (numbered me c body)) (has_state (numbered me (c + choices me body) rest)) none
      (ap (λ (s : Statements). has_state (numbered me (c + choices me body) s)) empty))
      (ap (λ d. option_or d (do_in (numbered me (c + choices me body) rest))) own)
      (ap (λ (s : Statements). after (after n (numbered me c body)) (numbered me (c + choices me body) s)) empty ∙ same)
      (or_first (stays body) (stays rest) left) (un ∙ next)

  opens : (t : Statements) (names : List Name) → Sound protocols names t → AllGuarded names t → (known : List Known) (w : Work) (n c : ℕ) →
      after n (numbered me c t) + length w.cells ≡ length total.cells → Opens t w (lay me parts known w t) n c
  opens Nothing names h guards known w n c nums = passed refl refl refl refl refl
  opens (Says m rest) names h guards known w n c nums =
      let v = lay me parts known w rest in
      let k = laid_count me parts rest known w (suc n) c in
      stands refl (subst IsPlain (sym (Parts.said_next m v)) tt) (ap (standing_of total) (Parts.said_next m v) ∙
      at_number n (suc (length v.cells)) (omega arith))
  opens (Choice place at bs rest) names h guards known w n c nums =
      let v = lay me parts known w rest in
      let g = lay_in me parts known (bytes_eq at me) v.next (gathering v) bs in
      let k = laid_count me parts (Choice place at bs rest) known w n c in
      let l : length (chosen (bytes_eq at me) g).cells ≡ suc (length g.work.cells) = ap length (Parts.chosen_cells (bytes_eq at me) g) in
      stands
      (has_chosen (bytes_eq at me) c (numbered_in me c bs) (numbered_in me (suc c) bs) (numbered me (c + choices_in me bs) rest)
      (numbered me (suc c + choices_in me bs) rest))
      (subst IsPlain (sym (Parts.chosen_next (bytes_eq at me) g)) tt)
      (ap (standing_of total) (Parts.chosen_next (bytes_eq at me) g) ∙ at_number n (suc (length g.work.cells)) (omega arith))
  opens (Rec place name body rest) names h guards known w n c nums =
      let v = lay me parts known w rest in
      let inside : List Known = record { name = name; number = length v.loops } ∷ known in
      let x = lay me parts inside (opened v) body in
      let p : Protocol = numbered me c body in
      let k = laid_count me parts rest known w (after n p) (c + choices me body) in
      let l : length (opened v).cells ≡ length v.cells = ap length (Parts.opened_cells v) in
      opens_rec place name body rest w v (opened v) x (closed (length v.loops) x) n c h.2 (Parts.opened_next v)
      (Parts.closed_next (length v.loops) x)
      (λ quiet. opens rest names h.3 (λ z among. (guards z among).1 quiet) known w (after n p) (c + choices me body) nums)
      (opens body (name ∷ names) h.1 (guarded_in names place name body rest h.0 guards) inside (opened v) n c (omega arith))
  opens (Continue place name rest) names h guards known w n c nums =
      let no : bytes_eq name name ≡ false = guards name h.0 in let e = (bytes_eq-Decides name name).1 refl in cc
  opens (Do place name rest) names h guards known w n c nums =
      leaves name h.0 (ap (λ (s : Statements). has_state (numbered me c s)) h.1) refl
      (ap (λ (s : Statements). after n (numbered me c s)) h.1) refl refl

  -- ---- parts

  -- the entry of a part
  data Entry (p : Placed) (hop : Hop) : Type 0 where
    first_state : (n : ℕ) → p.first ≡ Some n → IsPlain hop → standing_of total hop ≡ standings.State n → Entry p hop
    nowhere : p.first ≡ None → p.goes_on ≡ None → hop ≡ hops.End → Entry p hop
    elsewhere : (name : Name) → Contains protocols name → p.first ≡ None → p.goes_on ≡ Some name → hop ≡ hop_to (parts name) → Entry p hop

  entry_of : (t : Titled) (o u : Work) (n c : ℕ) → o.next ≡ hops.End → Opens t.body o u n c →
      Entry (record {
        name = t.name;
        first = if has_state (numbered me c t.body) then Some n else None;
        goes_on =
            do_in (numbered me c t.body);
      }) u.next
  entry_of t o u n c ends (stands some plain at) = first_state n (ap (λ b. if b then Some n else None) some) plain at
  entry_of t o u n c ends (passed none own same quiet next) = nowhere (ap (λ b. if b then Some n else None) none) own (next ∙ ends)
  entry_of t o u n c ends (leaves name known none own same left next) = elsewhere name known (ap (λ b. if b then Some n else None) none) own
      next

  -- what is laid out of statements keeps the entries
  mutual
    lay_entries : (t : Statements) (known : List Known) (w : Work) → (lay me parts known w t).entries ≡ w.entries
    lay_entries Nothing known w = refl
    lay_entries (Says m rest) known w = said_entries m (lay me parts known w rest) ∙ lay_entries rest known w
    lay_entries (Choice place at bs rest) known w =
        let v = lay me parts known w rest in
        chosen_entries (bytes_eq at me) (lay_in me parts known (bytes_eq at me) v.next (gathering v) bs) ∙ in_entries bs known
        (bytes_eq at me) v.next (gathering v) ∙ lay_entries rest known w
    lay_entries (Rec place name body rest) known w =
        let v = lay me parts known w rest in
        let inside : List Known = record { name = name; number = length v.loops } ∷ known in
        closed_entries (length v.loops) (lay me parts inside (opened v) body) ∙ lay_entries body inside (opened v) ∙ opened_entries v ∙
        lay_entries rest known w
    lay_entries (Continue place name rest) known w = lay_entries rest known w
    lay_entries (Do place name rest) known w = lay_entries rest known w

    in_entries : (bs : Branches) (known : List Known) (self : Bool) (behind : Hop) (g : Gathered) →
        (lay_in me parts known self behind g bs).work.entries ≡ g.work.entries
    in_entries NoBranch known self behind g = refl
    in_entries (Branch b more) known self behind g =
        branch_entries b known self (turned behind (lay_in me parts known self behind g more)) ∙ in_entries more known self behind g

    branch_entries : (b : Statements) (known : List Known) (self : Bool) (g : Gathered) → (branch_laid me parts self known b g).work.entries
        ≡ g.work.entries
    branch_entries (Says m rest) known self g = joined_entries self m (record { work = lay me parts known g.work rest; drafts = g.drafts })
        ∙ lay_entries rest known g.work
    branch_entries Nothing known self g = refl
    branch_entries (Choice place at bs rest) known self g = refl
    branch_entries (Rec place name body rest) known self g = refl
    branch_entries (Continue place name rest) known self g = refl
    branch_entries (Do place name rest) known self g = refl

  -- a part in front of others
  abbrev begun : List Titled → Work
  begun ts = record (parts_laid me parts ts nothing) { next = hops.End }

  abbrev part : Titled → List Titled → Work
  part t ts = lay me parts [] (begun ts) t.body

  entries_are : (t : Titled) (ts : List Titled) → (parts_laid me parts (t ∷ ts) nothing).entries ≡ (parts_laid me parts ts nothing).entries
      ++ (part t ts).next ∷ []
  entries_are t ts = ap (λ (es : List Hop). es ++ (part t ts).next ∷ []) (lay_entries t.body [] (begun ts))

  pub entries_many : (ts : List Titled) → length (parts_laid me parts ts nothing).entries ≡ length ts
  entries_many [] = refl
  entries_many (t ∷ ts) =
      let more = length-append (parts_laid me parts ts nothing).entries ((part t ts).next ∷ []) in
      let rest = entries_many ts in
      ap length (entries_are t ts) ∙
      (let all : length ((parts_laid me parts ts nothing).entries ++ (part t ts).next ∷ []) ≡ suc (length ts) =
      omega (arith, more, rest) in all)

  -- what is found of a name
  record Found (ts : List Titled) (name : Name) (p : Placed) : Type 0 where
    number : ℕ
    numbered_so : number_among ts name ≡ Some number
    within : number < length ts
    entry : Entry p (entry_at number (parts_laid me parts ts nothing).entries)

  found_here : (b : Bool) (t : Titled) (ts : List Titled) (name : Name) (own p : Placed) (rest : Option Placed) → bytes_eq name t.name ≡ b →
      b ≡ true → (if b then Some own else rest) ≡ Some p →
      Entry own (part t ts).next → Found (t ∷ ts) name p
  found_here true t ts name own p rest is e f entry =
      let same : own ≡ p = cc in
      let at : entry_at (length ts) (parts_laid me parts (t ∷ ts) nothing).entries ≡ (part t ts).next =
      ap (entry_at (length ts)) (entries_are t ts) ∙ get_or_at (parts_laid me parts ts nothing).entries (part t ts).next [] hops.End
      (length ts) (entries_many ts) in
      record {
        number = length ts;
        numbered_so = ap (λ x. if x then Some (length ts) else number_among ts name) is;
        within = omega arith;
        entry = subst (Entry p) (sym at) (subst (λ q. Entry q (part t ts).next) same entry);
      }
  found_here false t ts name own p rest is e f entry = absurd (cc e)

  found_later : (b : Bool) (t : Titled) (ts : List Titled) (name : Name) (p : Placed) → bytes_eq name t.name ≡ b → b ≡ false →
      Found ts name p → Found (t ∷ ts) name p
  found_later true t ts name p is e f = absurd (cc e)
  found_later false t ts name p is e f =
      let within : f.number < length (parts_laid me parts ts nothing).entries = subst (λ n. f.number < n) (sym (entries_many ts)) f.within
      in
      let at : entry_at f.number (parts_laid me parts (t ∷ ts) nothing).entries ≡ entry_at f.number
      (parts_laid me parts ts nothing).entries =
      ap (entry_at f.number) (entries_are t ts) ∙ front_at (parts_laid me parts ts nothing).entries ((part t ts).next ∷ []) f.number within
      in
      record {
        number = f.number;
        numbered_so = ap (λ x. if x then Some (length ts) else number_among ts name) is ∙ f.numbered_so;
        within = (let w = f.within in omega (arith, w));
        entry = subst (Entry p) (sym at) f.entry;
      }

  found : (ts : List Titled) → AllSound protocols ts → (n c : ℕ) → n + length (parts_laid me parts ts nothing).cells ≡ length total.cells →
      (name : Name) (p : Placed) →
      placed_as name (placed n (numbered_parts me c ts)) ≡ Some p → Found ts name p
  found [] h n c nums name p e = absurd (cc e)
  found (t ∷ ts) h n c nums name p e =
      let k = laid_count me parts t.body [] (begun ts) n c in
      let body : Protocol = numbered me c t.body in
      let own : Placed = record { name = t.name; first = if has_state body then Some n else None; goes_on = do_in body } in
      let rest : Option Placed = placed_as name (placed (after n body) (numbered_parts me (c + choices me t.body) ts)) in
      ⊎_elim
      (λ yes. found_here (bytes_eq name t.name) t ts name own p rest refl yes e
      (entry_of t (begun ts) (part t ts) n c refl (opens t.body [] h.0 (λ z among. absurd (cc among)) [] (begun ts) n c (omega arith))))
      (λ no. found_later (bytes_eq name t.name) t ts name p refl no
      (found ts h.1 (after n body) (c + choices me t.body) (omega arith) name p (sym (ap (λ x. if x then Some own else rest) no) ∙ e)))
      (true_or_false (bytes_eq name t.name))

  -- a name that is known is that of a part
  there : (ts : List Titled) (n c : ℕ) (name : Name) → Contains (map (λ (t : Titled). t.name) ts) name →
      (p : Placed) × (placed_as name (placed n (numbered_parts me c ts)) ≡ Some p)
  there [] n c name h = absurd (none_contained name h)
  there (t ∷ ts) n c name h =
      let body : Protocol = numbered me c t.body in
      let own : Placed = record { name = t.name; first = if has_state body then Some n else None; goes_on = do_in body } in
      let rest : Option Placed = placed_as name (placed (after n body) (numbered_parts me (c + choices me t.body) ts)) in
      ⊎_elim
      (λ yes. (own, ap (λ x. if x then Some own else rest) yes))
      (λ no. let more = there ts (after n body) (c + choices me t.body) name
      (⊎_elim (λ (same : t.name ≡ name). let yes = (bytes_eq-Decides name t.name).1 (sym same) in absurd (cc (sym yes ∙ no)))
      (λ later. later) (first_or_later t.name (map (λ (t : Titled). t.name) ts) name h)) in
      (more.0, ap (λ x. if x then Some own else rest) no ∙ more.1))
      (true_or_false (bytes_eq name t.name))

-- ---- a valid protocol

standing_plain : (w : Work) (hop : Hop) → IsPlain hop → plain_standing w hop ≡ standing_of w hop
standing_plain w (hops.State n) h = refl
standing_plain w (hops.Loop k) h = refl
standing_plain w (hops.Part k) h = absurd h
standing_plain w hops.End h = refl

ends_plain : {es : List Hop} {n : ℕ} {hop end : Hop} → EndsIn es n hop end → IsPlain hop → end ≡ hop
ends_plain (stops_here p) plain = refl
ends_plain (goes r) plain = absurd plain

many_placed : (me : Name) (ts : List Titled) (n c : ℕ) → length (placed n (numbered_parts me c ts)) ≡ length ts
many_placed me [] n c = refl
many_placed me (t ∷ ts) n c = ap suc (many_placed me ts (after n (numbered me c t.body)) (c + choices me t.body))

module _ (local : LocalTree) (v : ∥ IsValid local ∥₁) (w : Work) (laid : LaidOut local w) where
  abbrev ps : List Placed
  ps = placed 0 (protocol_of local)

  abbrev old : List Hop
  old = (laid_parts local).entries

  abbrev IsFound : Name → Placed → Type 0
  IsFound name p = Found local.me (number_in local) (names_in local) w (titled local) name p

  one_found : (name : Name) (p : Placed) → placed_as name ps ≡ Some p → IsFound name p
  one_found name p e =
      let many : length w.cells ≡ length (laid_parts local).cells = ap (λ (x : Work). length x.cells) laid.parts in
      found local.me (number_in local) (names_in local) w (titled local) (valid_sound local v) 0 1 (omega arith) name p e

  -- a part begins where its entry leads at last, if there is room for the way
  by_entry : (room j : ℕ) (end : Hop) (p : Placed) → (n : ℕ) → EndsIn old n (entry_at j old) end →
      ((k : ℕ) → entry_at j old ≡ hops.Part k → (name : Name) (q : Placed) → placed_as name ps ≡ Some q → number_in local name ≡ Some k →
      entry_within room ps name ≡ plain_standing w end) →
      Entry local.me (number_in local) (names_in local) w p (entry_at j old) → began p.first p.goes_on (entry_within room ps)
      ≡ plain_standing w end
  by_entry room j end p n rest again (first_state m first plain at) =
      ap (λ o. began o p.goes_on (entry_within room ps)) first ∙ sym (ap (plain_standing w) (ends_plain rest plain) ∙ standing_plain w
      (entry_at j old) plain ∙ at)
  by_entry room j end p n rest again (nowhere none own is) =
      (λ i. began (none i) (own i) (entry_within room ps)) ∙ sym (ap (plain_standing w) (ends_plain rest (subst IsPlain (sym is) tt) ∙ is))
  by_entry room j end p n rest again (elsewhere name known none own is) =
      let q = there local.me (number_in local) (names_in local) w (titled local) 0 1 name known in
      let f = one_found name q.0 q.1 in
      (λ i. began (none i) (own i) (entry_within room ps)) ∙ again f.number (is ∙ ap hop_to f.numbered_so) name q.0 q.1 f.numbered_so

  leads : {n : ℕ} {hop end : Hop} → EndsIn old n hop end → (room k : ℕ) → n ≤ room → hop ≡ hops.Part k → (name : Name) (p : Placed) →
      placed_as name ps ≡ Some p → number_in local name ≡ Some k →
      entry_within room ps name ≡ plain_standing w end
  leads (stops_here plain) room k h e name p f g = absurd (subst IsPlain e plain)
  leads (goes rest) zero k h e name p f g = absurd (omega arith)
  leads {end = end} (goes {n = m} {k = j} rest) (suc room) k h e name p f g =
      let own = one_found name p f in
      let both : Some own.number ≡ Some k = sym own.numbered_so ∙ g in
      let here : own.number ≡ j = cc in
      ap (λ o. began_as o (entry_within room ps)) f
      ∙ by_entry room j end p m rest (λ i same other q x y. leads rest room i (omega arith) same other q x y)
      (subst (λ i. Entry local.me (number_in local) (names_in local) w p (entry_at i old)) here own.entry)

  -- each part begins where it is laid out to begin
  pub enters : (name : Name) → Contains (names_in local) name → numbered_by.entry ps name ≡ entered (number_in local) w name
  enters name known =
      let q = there local.me (number_in local) (names_in local) w (titled local) 0 1 name known in
      let own = one_found name q.0 q.1 in
      let many : length old ≡ length (titled local) = entries_many local.me (number_in local) (names_in local) w (titled local) in
      let e = valid_ended local v own.number (subst (λ n. own.number < n) (sym many) own.within) in
      let way = some_way e.1 in
      let few : way.0 ≤ suc (length old) = short way.1 in
      let size : length ps ≡ length (titled local) = many_placed local.me (titled local) 0 1 in
      leads way.1 (suc (length ps)) own.number (omega (arith, few, many, size)) refl name q.0 q.1 own.numbered_so
      ∙ sym (ap (λ o. standing_of w (hop_to o)) own.numbered_so ∙ ap (plain_standing w) (laid.settled own.number e.0 e.1))
