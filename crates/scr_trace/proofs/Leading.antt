-- Statements come to the state where they are laid out to begin.
use Rattle.std.proofs.Common.{◌≡◌, ℕ, suc, ◌+◌, ◌-◌, List, [], ◌∷◌, ◌++◌, length, Some, refl, sym, ap, ◌∙◌, subst, inl, inr, ◌⊎◌, ⊎_elim}
use Rattle.std.proofs.Common.{Bool, true, false, ◌&&◌, ◌||◌, if◌then◌else◌, arith, append_assoc}
use Rattle.std.specs.Prelude.{slice_get, Option}
use Rattle.std.specs.Str.{bytes_eq}
use Rattle.std.proofs.lemmas.List.{length-append}
use Rattle.std.proofs.lemmas.Slice.Eq.{bytes_eq-Decides}
use Rattle.mg_text.specs.Call.{Name}
use Rattle.scr_tree.specs.Tree.{Statements, Nothing, Says, Choice, Rec, Continue, Do}
use Rattle.scr_tree.specs.Tree as tree
use Rattle.scr_tree.specs.Meaning.{choices, choices_in, numbered, numbered_in, message_of}
use Rattle.scr_tree.specs.Protocol.{Protocol, Done, Does, ChoiceHere, ChoiceThere, Parts as Protocols}
use Rattle.scr_tree.specs.Steps.{Part, Plain, BodyOf, Left, Position, whole, body_named, again, ends, begins, continues, goes_on}
use Rattle.scr_trace.specs.declared.arrow.Hop.TheVariants as hops
use Rattle.scr_trace.specs.Positions.{states_in, ComesTo, at_state, silently}
use Rattle.scr_trace.specs.inner.Laying.{Work, Known, Gathered, lay, lay_in, opened, chosen, gathering, hop_named, hop_to}
use Rattle.scr_trace.specs.inner.View.{standing_of}
use Rattle.scr_trace.proofs.Parts
use Rattle.scr_trace.proofs.Counting.{counted}
use Rattle.scr_trace.proofs.Rules.{passes, Guards, is_among, Opens, Sound}

-- ---- names and frames

-- what is left doesn't matter to where a rec begins again
pub again_same : (name : Name) (x y : Protocol) (part : Part) (around : Position) → again name (Left x part ∷ around)
    ≡ again name (Left y part ∷ around)
again_same name x y Plain around = refl
again_same name x y (BodyOf other body) around = refl

pub again_past : (name other : Name) (x y body : Protocol) (part : Part) (around : Position) → bytes_eq name other ≡ false →
    again name (Left x (BodyOf other body) ∷ Left y part ∷ around) ≡ again name (Left Done part ∷ around)
again_past name other x y body part around e =
    ap (λ b. elim b as (λ (v : Bool). Option Position) [
      | true ↦ Some (Left body (BodyOf other body) ∷ Left y part ∷ around)
      | false ↦ again name (Left y part ∷ around)
    ]) e
    ∙ again_same name y Done part around

pub again_here : (name : Name) (x body : Protocol) (around : Position) → again name (Left x (BodyOf name body) ∷ around)
    ≡ Some (Left body (BodyOf name body) ∷ around)
again_here name x body around =
    ap (λ b. elim b as (λ (v : Bool). Option Position) [ true ↦ Some (Left body (BodyOf name body) ∷ around) | false ↦ again name around ])
    ((bytes_eq-Decides name name).1 refl)

pub true_or_false : (b : Bool) → (b ≡ true) ⊎ (b ≡ false)
true_or_false true = inl refl
true_or_false false = inr refl

both_true : (a b : Bool) → a ≡ true → b ≡ true → (a && b) ≡ true
both_true true b e f = f
both_true false b e f = cc

pub among_rest : (name other : Name) (names : List Name) → bytes_eq name other ≡ false → is_among name (other ∷ names) ≡ true →
    is_among name names ≡ true
among_rest name other names e h = sym (ap (λ b. b || is_among name names) e) ∙ h

hop_past : (name : Name) (k : Known) (known : List Known) → bytes_eq name k.name ≡ false → hop_named name (k ∷ known) ≡ hop_named name known
hop_past name k known e = ap (λ b. if b then hops.Loop k.number else hop_named name known) e

pub hop_here : (name : Name) (number : ℕ) (known : List Known) → hop_named name (record { name = name; number = number } ∷ known)
    ≡ hops.Loop number
hop_here name number known = ap (λ b. if b then hops.Loop number else hop_named name known) ((bytes_eq-Decides name name).1 refl)

get_front : (front : List Position) (p : Position) (back : List Position) → slice_get (front ++ p ∷ back) (length front) ≡ Some p
get_front [] p back = refl
get_front (q ∷ front) p back = get_front front p back

module _ (parts : Protocols) (me : Name) (entry : Name → Option ℕ) (protocols : List Name) (total : Work) (all : List Position)
    (as_many : length all ≡ length total.cells) where
  -- these states stand in the text, and behind them as many as are laid out in w
  pub record Lies (w : Work) (ps : List Position) : Type 0 where
    pub front : List Position
    pub back : List Position
    pub all_is : all ≡ front ++ (ps ++ back)
    pub behind : length back ≡ length w.cells

  -- those behind the first ones, and the first ones
  pub lies_behind : (w : Work) (ps qs : List Position) → Lies w (ps ++ qs) → Lies w qs
  lies_behind w ps qs h = record {
    front = h.front ++ ps;
    back = h.back;
    all_is = h.all_is ∙ ap (λ l. h.front ++ l) (append_assoc ps qs h.back) ∙ sym (append_assoc h.front ps (qs ++ h.back));
    behind = h.behind;
  }

  pub lies_before : (w v : Work) (ps qs : List Position) → length v.cells ≡ length qs + length w.cells → Lies w (ps ++ qs) → Lies v ps
  lies_before w v ps qs e h = record {
    front = h.front;
    back = qs ++ h.back;
    all_is = h.all_is ∙ ap (λ l. h.front ++ l) (append_assoc ps qs h.back);
    behind = let l = length-append qs h.back in let b = h.behind in omega arith;
  }

  pub lies_rest : (w : Work) (p : Position) (ps : List Position) → Lies w (p ∷ ps) → Lies w ps
  lies_rest w p ps h = lies_behind w (p ∷ []) ps h

  -- the first of them comes to its own number
  pub comes_first : (w : Work) (p : Position) (ps : List Position) (n : ℕ) → Lies w (p ∷ ps) → n ≡ length (p ∷ ps) + length w.cells →
      ComesTo parts all p (standing_of total (hops.State n))
  comes_first w p ps n h e =
      let l : length all ≡ length h.front + suc (length ps + length h.back) =
      ap length h.all_is ∙ length-append h.front (p ∷ ps ++ h.back) ∙ (let m = length-append ps h.back in omega arith) in
      let b = h.behind in
      let k : length h.front ≡ length total.cells - n = omega (arith, as_many) in
      at_state (subst (λ j. slice_get all j ≡ Some p) k (ap (λ l. slice_get l (length h.front)) h.all_is ∙ get_front h.front p
      (ps ++ h.back)))

  -- a `do` of this name comes where it is laid out to lead
  pub record Entered (name : Name) : Type 0 where
    pub body : Protocol
    pub known : body_named name parts ≡ Some body
    pub comes : ComesTo parts all (whole body) (standing_of total (hop_to (entry name)))

  -- `continue` with this name comes where it is laid out to lead
  pub record Back (name : Name) (known : List Known) (part : Part) (around : Position) : Type 0 where
    pub to : Position
    pub there : again name (Left Done part ∷ around) ≡ Some to
    pub comes : ComesTo parts all to (standing_of total (hop_named name known))

  -- the same inside a rec of another name
  pub back_past : (name other : Name) (number : ℕ) (known : List Known) (body rest : Protocol) (part : Part) (around : Position) →
      bytes_eq name other ≡ false →
      Back name known part around → Back name (record { name = other; number = number } ∷ known) (BodyOf other body)
      (Left rest part ∷ around)
  back_past name other number known body rest part around e h = record {
    to = h.to;
    there = again_past name other Done rest body part around e ∙ h.there;
    comes = subst (λ hop. ComesTo parts all h.to (standing_of total hop))
        (sym (hop_past name (record { name = other; number = number }) known e)) h.comes;
  }

  -- the same in a branch
  pub back_in : (name : Name) (known : List Known) (rest : Protocol) (part : Part) (around : Position) → Back name known part around →
      Back name known Plain (Left rest part ∷ around)
  back_in name known rest part around h = record { to = h.to; there = again_same name rest Done part around ∙ h.there; comes = h.comes }

  -- where each `continue` leads that no message guards
  abbrev pub Returns : List Name → Statements → List Known → Part → Position → Type 0
  Returns names t known part around = (name : Name) → is_among name names ≡ true → Guards name t ⊎ Back name known part around

  pub returns_in : (names : List Name) (place : _) (name : Name) (body rest : Statements) (known : List Known) (number : ℕ) (p r : Protocol)
      (part : Part) (around : Position) → Guards name body →
      Returns names (Rec place name body rest) known part around →
      Returns (name ∷ names) body (record { name = name; number = number } ∷ known) (BodyOf name p) (Left r part ∷ around)
  returns_in names place name body rest known number p r part around g h z among =
      ⊎_elim
      (λ e. inl (subst (λ x. Guards x body) (sym ((bytes_eq-Decides z name).0 e)) g))
      (λ e. ⊎_elim (λ (q : Guards z (Rec place name body rest)). inl q.0) (λ b. inr (back_past z name number known p r part around e b))
      (h z (among_rest z name names e among)))
      (true_or_false (bytes_eq z name))

  returns_behind : (names : List Name) (place : _) (name : Name) (body rest : Statements) (known : List Known) (part : Part)
      (around : Position) → passes body ≡ true →
      Returns names (Rec place name body rest) known part around → Returns names rest known part around
  returns_behind names place name body rest known part around e h z among =
      ⊎_elim (λ (q : Guards z (Rec place name body rest)). inl (q.1 e)) (λ b. inr b) (h z among)

  -- a choice comes to its own state
  choice_leads : (self : Bool) (n : ℕ) (part : Part) (around : Position) (bs : tree.Branches) (rest : Statements) (w : Work) (g : Gathered)
      →
      length (chosen self g).cells ≡
      length (states_in part around (if self then ChoiceHere (numbered_in me n bs) (numbered me (n + choices_in me bs) rest) else
      ChoiceThere n (numbered_in me (suc n) bs) (numbered me (suc n + choices_in me bs) rest))) + length w.cells →
      Lies w (states_in part around (if self then ChoiceHere (numbered_in me n bs) (numbered me (n + choices_in me bs) rest) else
      ChoiceThere n (numbered_in me (suc n) bs) (numbered me (suc n + choices_in me bs) rest))) →
      ComesTo parts all (Left (if self then ChoiceHere (numbered_in me n bs) (numbered me (n + choices_in me bs) rest) else ChoiceThere n
      (numbered_in me (suc n) bs) (numbered me (suc n + choices_in me bs) rest)) part ∷ around)
      (standing_of total (chosen self g).next)
  choice_leads true n part around bs rest w g count lies =
      let p : Position = Left (ChoiceHere (numbered_in me n bs) (numbered me (n + choices_in me bs) rest)) part ∷ around in
      subst (λ hop. ComesTo parts all p (standing_of total hop)) (sym (Parts.chosen_next true g))
      (comes_first w p _ (suc (length g.work.cells)) lies (ap length (sym (Parts.chosen_cells true g)) ∙ count))
  choice_leads false n part around bs rest w g count lies =
      let p : Position = Left (ChoiceThere n (numbered_in me (suc n) bs) (numbered me (suc n + choices_in me bs) rest)) part ∷ around in
      subst (λ hop. ComesTo parts all p (standing_of total hop)) (sym (Parts.chosen_next false g))
      (comes_first w p _ (suc (length g.work.cells)) lies (ap length (sym (Parts.chosen_cells false g)) ∙ count))

  -- statements come to where they are laid out to begin
  pub leads : (t : Statements) (names : List Name) → Sound protocols names t → ((z : Name) → Opens z t → Entered z) →
      (known : List Known) (w : Work) (n : ℕ) (part : Part) (around : Position) →
      Lies w (states_in part around (numbered me n t)) → (passes t ≡ true → ComesTo parts all around (standing_of total w.next)) →
      Returns names t known part around →
      ComesTo parts all (Left (numbered me n t) part ∷ around) (standing_of total (lay me entry known w t).next)
  leads Nothing names h enters known w n part around lies follow returns = silently ends (follow refl)
  leads (Says m rest) names h enters known w n part around lies follow returns =
      let v = lay me entry known w rest in
      let c = counted me entry rest known w n part around in
      subst (λ hop. ComesTo parts all (Left (Does (message_of m) (numbered me n rest)) part ∷ around) (standing_of total hop))
      (sym (Parts.said_next m v))
      (comes_first w _ (states_in part around (numbered me n rest)) (suc (length v.cells)) lies (omega (arith, c)))
  leads (Choice place at bs rest) names h enters known w n part around lies follow returns =
      let v = lay me entry known w rest in
      choice_leads (bytes_eq at me) n part around bs rest w (lay_in me entry known (bytes_eq at me) v.next (gathering v) bs)
      (counted me entry (Choice place at bs rest) known w n part around) lies
  leads (Rec place name body rest) names h enters known w n part around lies follow returns =
      let v = lay me entry known w rest in
      let p : Protocol = numbered me n body in
      let r : Protocol = numbered me (n + choices me body) rest in
      let inside : List Known = record { name = name; number = length v.loops } ∷ known in
      let x = lay me entry inside (opened v) body in
      let c = counted me entry rest known w (n + choices me body) part around in
      silently begins
      (subst (λ hop. ComesTo parts all (Left p (BodyOf name p) ∷ Left r part ∷ around) (standing_of total hop))
      (sym (Parts.closed_next (length v.loops) x))
      (leads body (name ∷ names) h.1 (λ z o. enters z (inl o)) inside (opened v) n (BodyOf name p) (Left r part ∷ around)
      (lies_before w (opened v) (states_in (BodyOf name p) (Left r part ∷ around) p) (states_in part around r)
      (ap length (Parts.opened_cells v) ∙ c) lies)
      (λ e. subst (λ hop. ComesTo parts all (Left r part ∷ around) (standing_of total hop)) (sym (Parts.opened_next v))
      (leads rest names h.3 (λ z o. enters z (inr (e, o))) known w (n + choices me body) part around
      (lies_behind w (states_in (BodyOf name p) (Left r part ∷ around) p) (states_in part around r) lies)
      (λ f. follow (both_true (passes body) (passes rest) e f)) (returns_behind names place name body rest known part around e returns)))
      (returns_in names place name body rest known (length v.loops) p r part around h.0 returns)))
  leads (Continue place name rest) names h enters known w n part around lies follow returns =
      ⊎_elim
      (λ (g : bytes_eq name name ≡ false). let e = (bytes_eq-Decides name name).1 refl in cc)
      (λ (b : Back name known part around). silently (continues (again_same name (numbered me n rest) Done part around ∙ b.there)) b.comes)
      (returns name h.0)
  leads (Do place name rest) names h enters known w n part around lies follow returns = let e = enters name refl in silently
      (goes_on e.known) e.comes
