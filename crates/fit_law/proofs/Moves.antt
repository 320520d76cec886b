-- Moves of systems, machines that wait, and where roles of numbers stand.
use Rattle.std.proofs.Common.{◌≡◌, ◌⊎◌, inl, inr, ℕ, zero, suc, ◌<◌, ◌≤◌, leb, Bool, true, false, List, [], ◌∷◌, ◌++◌}
use Rattle.std.proofs.Common.{map, length}
use Rattle.std.proofs.Common.{Option, Some, refl, sym, ap, ◌∙◌, subst, position, arith}
use Rattle.std.specs.Prelude.{◌==◌, if◌then◌else◌, slice_get, Contains, cond}
use Rattle.std.specs.List.{IsDistinct, filter}
use Rattle.std.specs.Str.{bytes_eq}
use Rattle.std.proofs.lemmas.Bool.Decides.{leb_tells}
use Rattle.mg_text.specs.Call.{Name}
use Rattle.mg_text.specs.declared.event.Event.{Event}
use Rattle.mg_text.specs.declared.event.Event.TheVariants as seen
use Rattle.mg_text.specs.declared.event.Sent.{Sent}
use Rattle.scr_tree.specs.declared.syntax.Payload.{Payload}
use Rattle.scr_tree.specs.Protocol.{Take}
use Rattle.scr_tree.specs.Steps.{Act, Moves, Looks, Position}
use Rattle.scr_global.specs.Alone.{Step}
use Rattle.scr_global.specs.Systems.{Parcel, parcel, System, Moved, Reaches, initial, waits_for}
use Rattle.scr_global.specs.Systems as systems
use Rattle.fit_law.specs.Next.{Alike, same, both_send, both_look}
use Rattle.jv_values.specs.Messages.{takes_from, taken}
use Rattle.vm_model.specs.Program.{Program}
use Rattle.vm_model.specs.Messages.{Messages, on_way}
use Rattle.vm_model.specs.Machine.{Machine, Waits}
use Rattle.vm_model.specs.Step.{step}
use Rattle.vm_world_law.specs.declared.role.RoleMain.{RoleMain}
use Rattle.vm_world_law.specs.Doing.{Answer, Looks as LooksAt, Takes, Refuses as RefusesIt, Doing as Doings, Goes, Ends, Sends, Receives}
use Rattle.vm_world_law.specs.Doing.{answers, receives, done, IsDoing}
use Rattle.vm_world_law.specs.World.{taken_from}
use Rattle.vm_world_law.proofs.Doing.{does_one}
use Rattle.vm_world_law.proofs.Lists.{some_is}
use Rattle.vm_world_law.proofs.Ways.{other_is, named_within}

-- ---- systems

-- a move is a step
pub moved_step : {me : Name} {c d : System} {act : Act} → Moved me c act d → (to : Position) × Step (c.at me) act to
moved_step (systems.sends {to = to} step) = (to, step)
moved_step (systems.takes {to = to} step e) = (to, step)
moved_step (systems.looks {to = to} step e) = (to, step)

-- a move that wants a message finds one
pub record Found (c : System) (me peer : Name) (act : Act) : Type 0 where
  pub label : Name
  pub kind : Payload
  pub others : List Parcel
  pub there : c.lists peer me ≡ parcel label kind ∷ others
  pub is : (act ≡ Moves (Take peer label kind)) ⊎ ((n : ℕ) × (act ≡ Looks n peer label))

pub moved_finds : {me peer : Name} {c d : System} {act : Act} → Moved me c act d → waits_for act ≡ Some peer → Found c me peer act
moved_finds (systems.sends step) w = absurd (cc w)
moved_finds {me} {peer} {c} (systems.takes {peer = theirs} {label = label} {kind = kind} {others = others} it e) w =
    let f : theirs ≡ peer = some_is w in
    record {
      label = label;
      kind = kind;
      others = others;
      there = ap (λ q. c.lists q me) (sym f) ∙ e;
      is = inl (ap (λ q. Moves (Take q label kind)) f);
    }
moved_finds {me} {peer} {c} (systems.looks {number = n} {peer = theirs} {label = label} {kind = kind} {others = others} it e) w =
    let f : theirs ≡ peer = some_is w in
    record {
      label = label;
      kind = kind;
      others = others;
      there = ap (λ q. c.lists q me) (sym f) ∙ e;
      is = inr (n, ap (λ q. Looks n q label) f);
    }

pub alike_waits : {a b : Act} {peer : Name} → Alike a b → waits_for a ≡ Some peer → waits_for b ≡ Some peer
alike_waits same w = w
alike_waits both_send w = absurd (cc w)
alike_waits both_look w = w

pub alike_take : {peer label : Name} {kind : Payload} {a b : Act} → a ≡ Moves (Take peer label kind) → Alike a b →
    b ≡ Moves (Take peer label kind)
alike_take e same = e
alike_take e both_send = absurd (cc e)
alike_take e both_look = absurd (cc e)

pub alike_look : {n : ℕ} {peer label : Name} {a b : Act} → a ≡ Looks n peer label → Alike a b → (l : Name) × (b ≡ Looks n peer l)
alike_look {label = label} e same = (label, e)
alike_look e both_send = absurd (cc e)
alike_look {n} {peer} {label} e (both_look {n = m} {p = p} {l = l} {k = k}) =
    let f : m ≡ n = numbers e in
    let g : p ≡ peer = peers e in
    (k, ap (λ x. Looks x p k) f ∙ ap (λ x. Looks n x k) g)
  where
    numbers : {m n : ℕ} {p q l k : Name} → Looks m p l ≡ Looks n q k → m ≡ n
    numbers e = cc

    peers : {m n : ℕ} {p q l k : Name} → Looks m p l ≡ Looks n q k → p ≡ q
    peers e = cc

-- ---- lists

pub map_nothing : {A B : Type 0} (f : A → B) (xs : List A) → map f xs ≡ [] → xs ≡ []
map_nothing f [] e = refl
map_nothing f (x ∷ xs) e = absurd (cc e)

pub heads : {A : Type 0} {x y : A} {xs ys : List A} → x ∷ xs ≡ y ∷ ys → x ≡ y
heads e = cc

pub labels_are : {l k : Name} {a b : Payload} → parcel l a ≡ parcel k b → (l ≡ k) × (a ≡ b)
labels_are e = (ap (λ (x : Parcel). x.label) e, ap (λ (x : Parcel). x.kind) e)

-- as many were taken
pub taken_long : (q : Name) (es : List Event) → length (taken_from q es) ≡ taken q es
taken_long q [] = refl
taken_long q (seen.Print t ∷ es) = taken_long q es
taken_long q (seen.Made o c ∷ es) = taken_long q es
taken_long q (seen.Enter o m ∷ es) = taken_long q es
taken_long q (seen.Leave o a ∷ es) = taken_long q es
taken_long q (seen.Send p l c ∷ es) = taken_long q es
taken_long q (seen.Look p l ∷ es) = taken_long q es
taken_long q (seen.Take p l c ∷ es) = go (bytes_eq q p) refl (taken_long q es)
  where
    long : (b : Bool) → length (taken_from q es) ≡ taken q es →
        length ((if b then record { label = l; payload = c } ∷ [] else []) ++ taken_from q es)
        ≡ length (cond b (seen.Take p l c ∷ filter (takes_from q) es) (filter (takes_from q) es))
    long true h = ap suc h
    long false h = h

    go : (b : Bool) → bytes_eq q p ≡ b → length (taken_from q es) ≡ taken q es →
        length (taken_from q (seen.Take p l c ∷ es)) ≡ taken q (seen.Take p l c ∷ es)
    go b e h =
        ap (λ (x : Bool). length ((if x then record { label = l; payload = c } ∷ [] else []) ++ taken_from q es)) e
        ∙ long b h
        ∙ sym (ap (λ (x : Bool). length (cond x (seen.Take p l c ∷ filter (takes_from q) es) (filter (takes_from q) es))) e)

pub got_behind : {A : Type 0} (xs ys : List A) (x : A) → slice_get (xs ++ ys) (length xs) ≡ Some x → (more : List A) × (ys ≡ x ∷ more)
got_behind [] [] x e = absurd (cc e)
got_behind [] (y ∷ ys) x e = let f : y ≡ x = some_is e in (ys, ap (λ z. z ∷ ys) f)
got_behind (z ∷ xs) ys x e = got_behind xs ys x e

-- ---- a machine that waits

pub record Emptied (q : Messages) (me from : ℕ) : Type 0 where
  pub empty : on_way q from me ≡ []
  pub within : from < length q.roles

pub waits_at : (q : Messages) (me k : ℕ) (d : Doings) → IsDoing q.roles me d → done q me d ≡ Waits k → Emptied q me k
waits_at q me k (Goes m event) right e = absurd (cc e)
waits_at q me k (Ends ending) right e = absurd (cc e)
waits_at q me k (Sends m to peer message) right e = absurd (cc e)
waits_at q me k (Receives from peer a) right e = go (on_way q from me) refl e
  where
    answered : (message : Sent) (more : List Sent) (x : Answer) → answers q me from peer message more x ≡ Waits k → ⊥
    answered message more (LooksAt m) e = cc
    answered message more (Takes m) e = cc
    answered message more RefusesIt e = cc

    go : (list : List Sent) → on_way q from me ≡ list → receives q me from peer a list ≡ Waits k → Emptied q me k
    go [] is e =
        let f : from ≡ k = waits_is e in
        subst (λ x. Emptied q me x) f
        (record { empty = is; within = named_within q.roles peer from (other_is me (position (bytes_eq peer) q.roles) from right).is })
      where
        waits_is : {a b : ℕ} → Waits a ≡ Waits b → a ≡ b
        waits_is e = cc
    go (message ∷ more) is e = absurd (answered message more (a message) e)

pub step_waits : (p : Program) (me : ℕ) (m : Machine) (q : Messages) (k : ℕ) → step p me m q ≡ Waits k → Emptied q me k
step_waits p me m q k e =
    let one = does_one q.roles me p m in
    waits_at q me k one.doing one.right (sym (one.is q refl) ∙ e)

-- ---- choosing where each role stands

abbrev pub Below : (i n : ℕ) → Type 0
Below i n = (leb (suc i) n ≡ true) × (suc i ≤ n) ⊎ (leb (suc i) n ≡ false) × (n < suc i)

module _ (n : ℕ) (W : (i : ℕ) → Position → Type 0) where
  abbrev pub ends_by : ((i : ℕ) → i < n → (end : Position) × W i end) → (i : ℕ) → Below i n → Position
  ends_by f i (inl h) = (f i h.1).0
  ends_by f i (inr h) = []

  pub record Chosen : Type 0 where
    pub ends : ℕ → Position
    pub are : (i : ℕ) → i < n → W i (ends i)

  pub choose : ((i : ℕ) → i < n → (end : Position) × W i end) → Chosen
  choose f = record { ends = λ i. ends_by f i (leb_tells (suc i) n); are = λ i h. go i h (leb_tells (suc i) n) }
    where
      go : (i : ℕ) → i < n → (b : Below i n) → W i (ends_by f i b)
      go i h (inl k) = (f i k.1).1
      go i h (inr k) = absurd (let a = k.1 in omega (arith, a, h))

-- ---- names of roles

pub record MainAt (mains : List RoleMain) (i : ℕ) : Type 0 where
  pub main : RoleMain
  pub at : slice_get mains i ≡ Some main
  pub named : slice_get (map (λ (m : RoleMain). m.role) mains) i ≡ Some main.role

pub main_at : (mains : List RoleMain) (i : ℕ) → i < length (map (λ (m : RoleMain). m.role) mains) → MainAt mains i
main_at [] i h = absurd (omega (arith, h))
main_at (m ∷ mains) zero h = record { main = m; at = refl; named = refl }
main_at (m ∷ mains) (suc i) h =
    let r = main_at mains i (omega (arith, h)) in
    record { main = r.main; at = r.at; named = r.named }

pub name_at : (mains : List RoleMain) (i : ℕ) (main : RoleMain) → slice_get mains i ≡ Some main →
    slice_get (map (λ (m : RoleMain). m.role) mains) i ≡ Some main.role
name_at [] i main e = absurd (cc e)
name_at (m ∷ mains) zero main e = ap (λ (o : Option RoleMain). Rattle.std.specs.Prelude.option_map (λ (x : RoleMain). x.role) o) e
name_at (m ∷ mains) (suc i) main e = name_at mains i main e
