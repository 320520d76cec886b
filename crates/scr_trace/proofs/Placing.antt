-- Protocols one after another: what is laid out of each stays, with its number, its states and its entry.
use Rattle.std.proofs.Common.{◌≡◌, ℕ, suc, ◌+◌, List, [], ◌∷◌, ◌++◌, length, get_or, map, Some, refl, sym, ap, ◌∙◌, subst, Bool, true}
use Rattle.std.proofs.Common.{false, if◌then◌else◌, Option, arith, append_assoc}
use Rattle.std.specs.Prelude.{Contains}
use Rattle.std.specs.Str.{bytes_eq}
use Rattle.std.proofs.lemmas.List.{append-nil, length-append}
use Rattle.std.proofs.lemmas.Slice.Eq.{bytes_eq-Decides}
use Rattle.mg_text.specs.Call.{Name}
use Rattle.scr_tree.specs.Tree.{Titled, Statements, Nothing, Says, Choice, Rec, Continue, Do, NoBranch, Branch}
use Rattle.scr_tree.specs.Tree as tree
use Rattle.scr_tree.specs.Meaning.{choices, numbered, numbered_parts}
use Rattle.scr_tree.specs.Protocol.{Protocol}
use Rattle.scr_tree.specs.Steps.{Plain, Position, body_named}
use Rattle.scr_tree.specs.Valid.{AreDistinct}
use Rattle.scr_trace.specs.declared.arrow.Hop.{Hop}
use Rattle.scr_trace.specs.declared.arrow.Hop.TheVariants as hops
use Rattle.scr_trace.specs.Positions.{states_in, state_positions}
use Rattle.scr_trace.specs.inner.Laying.{Work, Known, Gathered, nothing, lay, lay_in, branch_laid, turned, said, opened, closed, chosen}
use Rattle.scr_trace.specs.inner.Laying.{joined, gathering, parts_laid, number_among, entry_at}
use Rattle.scr_trace.proofs.Growing.{Keeps, keeps_all, keeps_more, keeps}
use Rattle.scr_trace.proofs.Counting.{counted, numbers}
use Rattle.scr_trace.proofs.Rules.{Sound}
use Rattle.scr_trace.proofs.Valid.{AllSound, contains_first, contains_later}

-- ---- statements leave the entries as they are

said_entries : (m : _) (w : Work) → (said m w).entries ≡ w.entries
unfolding said
said_entries m w = refl

opened_entries : (w : Work) → (opened w).entries ≡ w.entries
unfolding opened
opened_entries w = refl

closed_entries : (i : ℕ) (w : Work) → (closed i w).entries ≡ w.entries
unfolding closed
closed_entries i w = refl

chosen_entries : (self : Bool) (g : Gathered) → (chosen self g).entries ≡ g.work.entries
unfolding chosen
chosen_entries self g = refl

joined_entries : (self : Bool) (m : _) (g : Gathered) → (joined self m g).work.entries ≡ g.work.entries
unfolding joined
joined_entries true m g = refl
joined_entries false m g = said_entries m g.work

module _ (me : Name) (entry : Name → Option ℕ) where
  mutual
    pub same_entries : (t : Statements) (known : List Known) (w : Work) → (lay me entry known w t).entries ≡ w.entries
    same_entries Nothing known w = refl
    same_entries (Says m rest) known w = said_entries m _ ∙ same_entries rest known w
    same_entries (Choice place at bs rest) known w =
        let v = lay me entry known w rest in
        chosen_entries (bytes_eq at me) _ ∙ same_entries_in bs known (bytes_eq at me) v.next (gathering v) ∙ same_entries rest known w
    same_entries (Rec place name body rest) known w =
        let v = lay me entry known w rest in
        closed_entries (length v.loops) _ ∙ same_entries body (record { name = name; number = length v.loops } ∷ known) (opened v) ∙
        opened_entries v ∙ same_entries rest known w
    same_entries (Continue place name rest) known w = same_entries rest known w
    same_entries (Do place name rest) known w = same_entries rest known w

    same_entries_in : (bs : tree.Branches) (known : List Known) (self : Bool) (behind : Hop) (g : Gathered) →
        (lay_in me entry known self behind g bs).work.entries ≡ g.work.entries
    same_entries_in NoBranch known self behind g = refl
    same_entries_in (Branch b more) known self behind g =
        same_entries_first b known self (turned behind (lay_in me entry known self behind g more)) ∙
        same_entries_in more known self behind g

    same_entries_first : (b : Statements) (known : List Known) (self : Bool) (g : Gathered) →
        (branch_laid me entry self known b g).work.entries ≡ g.work.entries
    same_entries_first (Says m rest) known self g =
        joined_entries self m (record { work = lay me entry known g.work rest; drafts = g.drafts }) ∙ same_entries rest known g.work
    same_entries_first Nothing known self g = refl
    same_entries_first (Choice place at bs rest) known self g = refl
    same_entries_first (Rec place name body rest) known self g = refl
    same_entries_first (Continue place name rest) known self g = refl
    same_entries_first (Do place name rest) known self g = refl

-- ---- several protocols

-- in front of what is laid out, a protocol begins
abbrev pub before : Work → Work
before w = record w { next = hops.End }

abbrev pub names : List Titled → List Name
names ts = map (λ (t : Titled). t.name) ts

-- what is laid out of all protocols
abbrev pub raw : Name → List Titled → Work
raw me ts = parts_laid me (number_among ts) ts nothing

abbrev pub positions : Name → List Titled → List Position
positions me ts = state_positions (numbered_parts me 1 ts)

-- the last ones of some protocols
pub data From (ts : List Titled) : List Titled → Type 0 where
  all_of : From ts ts
  rest_of : {t : Titled} {more : List Titled} → From ts (t ∷ more) → From ts more

pub counted_all : (me : Name) (entry : Name → Option ℕ) (xs : List Titled) (n : ℕ) (w : Work) →
    length (parts_laid me entry xs w).cells ≡ length (state_positions (numbered_parts me n xs)) + length w.cells
counted_all me entry [] n w = omega arith
counted_all me entry (t ∷ more) n w =
    let v = parts_laid me entry more w in
    let a = counted me entry t.body [] (before v) n Plain [] in
    let b = counted_all me entry more (n + choices me t.body) w in
    let c = length-append (states_in Plain [] (numbered me n t.body)) (state_positions (numbered_parts me (n + choices me t.body) more)) in
    omega arith

-- what is laid out of the last ones is the first part of what is laid out of all
pub record Reached (me : Name) (ts xs : List Titled) (n : ℕ) : Type 0 where
  pub nums : n + (parts_laid me (number_among ts) xs nothing).choices ≡ suc (raw me ts).choices
  pub front : List Position
  pub all_is : positions me ts ≡ front ++ state_positions (numbered_parts me n xs)
  pub later : List Hop
  pub entries_are : (raw me ts).entries ≡ (parts_laid me (number_among ts) xs nothing).entries ++ later
  pub size : length (parts_laid me (number_among ts) xs nothing).entries ≡ length xs
  pub loops : Keeps (parts_laid me (number_among ts) xs nothing).loops (raw me ts).loops
  pub body : (z : Name) → Contains (names xs) z → body_named z (numbered_parts me 1 ts) ≡ body_named z (numbered_parts me n xs)
  pub number : (z : Name) → Contains (names xs) z → number_among ts z ≡ number_among xs z
  pub distinct : AreDistinct (names xs)

pub as_many : (me : Name) (entry : Name → Option ℕ) (xs : List Titled) (w : Work) → length (parts_laid me entry xs w).entries
    ≡ length xs + length w.entries
as_many me entry [] w = omega arith
as_many me entry (t ∷ more) w =
    let v = parts_laid me entry more w in
    let u = lay me entry [] (before v) t.body in
    let a = length-append u.entries (u.next ∷ []) in
    let b = ap length (same_entries me entry t.body [] (before v)) in
    let c = as_many me entry more w in
    omega arith

-- a name behind a protocol is another one
other_name : (t : Titled) (more : List Titled) → AreDistinct (names (t ∷ more)) → (z : Name) → Contains (names more) z →
    bytes_eq z t.name ≡ false
other_name t more d z c = go (bytes_eq z t.name) refl
  where
    go : (b : Bool) → bytes_eq z t.name ≡ b → b ≡ false
    go true e = absurd (d.0 (subst (Contains (names more)) ((bytes_eq-Decides z t.name).0 e) c))
    go false e = refl

skip_body : (z : Name) (t : Titled) (me : Name) (n : ℕ) (more : List Titled) → bytes_eq z t.name ≡ false →
    body_named z (numbered_parts me n (t ∷ more)) ≡ body_named z (numbered_parts me (n + choices me t.body) more)
skip_body z t me n more e =
    ap (λ b. elim b as (λ (v : Bool). Option Protocol) [
      | true ↦ Some (numbered me n t.body)
      | false ↦ body_named z
          (numbered_parts me (n + choices me t.body) more)
    ]) e

skip_number : (z : Name) (t : Titled) (more : List Titled) → bytes_eq z t.name ≡ false → number_among (t ∷ more) z ≡ number_among more z
skip_number z t more e = ap (λ b. if b then Some (length more) else number_among more z) e

pub next_reached : (me : Name) (ts : List Titled) (t : Titled) (more : List Titled) (protocols : List Name) → Sound protocols [] t.body →
    (n : ℕ) → Reached me ts (t ∷ more) n → Reached me ts more (n + choices me t.body)
next_reached me ts t more protocols h n r =
    let entry : Name → Option ℕ = number_among ts in
    let v = parts_laid me (number_among ts) more nothing in
    let u = lay me (number_among ts) [] (before v) t.body in
    let many = numbers me (number_among ts) protocols t.body [] h [] (before v) in
    record {
      nums = let a = r.nums in omega (arith, a, many);
      front = r.front ++ states_in Plain [] (numbered me n t.body);
      all_is = r.all_is ∙ sym (append_assoc r.front (states_in Plain [] (numbered me n t.body))
          (state_positions (numbered_parts me (n + choices me t.body) more)));
      later = u.next ∷ r.later;
      entries_are = r.entries_are ∙ append_assoc u.entries (u.next ∷ []) r.later ∙ ap (λ es. es ++ u.next ∷ r.later)
          (same_entries me (number_among ts) t.body [] (before v));
      size = as_many me (number_among ts) more nothing ∙ omega arith;
      loops = keeps_more v.loops u.loops (raw me ts).loops (keeps me (number_among ts) [] (before v) t.body) r.loops;
      body = λ z c. r.body z (contains_later t.name (names more) z c) ∙ skip_body z t me n more (other_name t more r.distinct z c);
      number = λ z c. r.number z (contains_later t.name (names more) z c) ∙ skip_number z t more (other_name t more r.distinct z c);
      distinct = r.distinct.1;
    }

pub sound_from : (protocols : List Name) (ts xs : List Titled) → From ts xs → AllSound protocols ts → AllSound protocols xs
sound_from protocols ts xs all_of h = h
sound_from protocols ts xs (rest_of {t} {more} f) h = (sound_from protocols ts (t ∷ more) f h).1

pub reached_all : (me : Name) (ts : List Titled) → AreDistinct (names ts) → Reached me ts ts 1
reached_all me ts d = record {
  nums = omega arith;
  front = [];
  all_is = refl;
  later = [];
  entries_are = sym (append-nil (raw me ts).entries);
  size = as_many me (number_among ts) ts nothing ∙ omega arith;
  loops = keeps_all (raw me ts).loops;
  body = λ z c. refl;
  number = λ z c. refl;
  distinct = d;
}

pub reached : (me : Name) (protocols : List Name) (ts xs : List Titled) → AllSound protocols ts → AreDistinct (names ts) → From ts xs →
    (n : ℕ) × Reached me ts xs n
reached me protocols ts xs h d all_of = (1, reached_all me ts d)
reached me protocols ts xs h d (rest_of {t} {more} f) =
    let r = reached me protocols ts (t ∷ more) h d f in
    (r.0 + choices me t.body, next_reached me ts t more protocols (sound_from protocols ts (t ∷ more) f h).0 r.0 r.1)

-- ---- the first of the last ones

get_at : {A : Type 0} (xs : List A) (y : A) (zs : List A) (d : A) (k : ℕ) → k ≡ length xs → get_or (xs ++ y ∷ zs) k d ≡ y
get_at [] y zs d k e = ap (λ i. get_or (y ∷ zs) i d) e
get_at (x ∷ xs) y zs d k e = ap (λ i. get_or (x ∷ (xs ++ y ∷ zs)) i d) e ∙ get_at xs y zs d (length xs) refl

module _ (me : Name) (ts : List Titled) (t : Titled) (more : List Titled) (n : ℕ) (r : Reached me ts (t ∷ more) n) where
  pub body_here : body_named t.name (numbered_parts me 1 ts) ≡ Some (numbered me n t.body)
  body_here =
      r.body t.name (contains_first t.name (names more))
      ∙ ap (λ b. elim b as (λ (v : Bool). Option Protocol) [
        | true ↦ Some (numbered me n t.body)
        | false ↦ body_named t.name
            (numbered_parts me (n + choices me t.body) more)
      ])
      ((bytes_eq-Decides t.name t.name).1 refl)

  pub number_here : number_among ts t.name ≡ Some (length more)
  number_here =
      r.number t.name (contains_first t.name (names more))
      ∙ ap (λ b. if b then Some (length more) else number_among more t.name) ((bytes_eq-Decides t.name t.name).1 refl)

  -- its entry is where it begins
  pub entry_here : entry_at (length more) (raw me ts).entries
      ≡ (lay me (number_among ts) [] (before (parts_laid me (number_among ts) more nothing)) t.body).next
  entry_here =
      let v = parts_laid me (number_among ts) more nothing in
      let u = lay me (number_among ts) [] (before v) t.body in
      let size : length more ≡ length u.entries = sym (ap length (same_entries me (number_among ts) t.body [] (before v)) ∙
      as_many me (number_among ts) more nothing ∙ omega arith) in
      ap (entry_at (length more)) (r.entries_are ∙ append_assoc u.entries (u.next ∷ []) r.later)
      ∙ get_at u.entries u.next r.later hops.End (length more) size
