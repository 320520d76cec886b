-- The adder fits: of each condition no element is at fault, and its projections are local protocols that are read.
use Rattle.std.proofs.Common.{◌≡◌, ◌⊎◌, ◌<◌, ℕ, zero, suc, Bool, true, false, Some, None, List, [], ◌∷◌, ◌++◌, codes, refl}
use Rattle.std.proofs.Common.{sym, ap, ◌∙◌, subst, inl, inr, ⊎_elim, arith}
use Rattle.std.specs.Prelude.{Contains, ◌||◌, unwrap_or}
use Rattle.std.specs.List.{list_any}
use Rattle.std.specs.Str.{bytes_eq}
use Rattle.mg_text.specs.Call.{Name}
use Rattle.mg_text.specs.JavaWords.{java_words}
use Rattle.mg_text.specs.declared.place.Place.{Place}
use Rattle.mg_read.specs.Culprit.{Culprit}
use Rattle.mg_read.specs.First.{Judged, behind, FirstOf, clean, later, none, next}
use Rattle.scr_tree.specs.declared.syntax.Direction.{Direction}
use Rattle.scr_tree.specs.declared.syntax.Payload.{Payload}
use Rattle.scr_tree.specs.declared.syntax.Message.{Message}
use Rattle.scr_tree.specs.Tree.{LocalTree, Statements, Nothing, Says}
use Rattle.scr_tree.specs.Spots.{Way, Past}
use Rattle.scr_tree.specs.Control.{Quietly, past}
use Rattle.scr_tree.specs.Actions.{Action, NameClash, actions}
use Rattle.scr_back.specs.Same.{IsSameMessage}
use Rattle.scr_global.specs.Texts.{projected}
use Rattle.scr_global.proofs.Names.{same, is_other, first_in, later_in}
use Rattle.scr_project.specs.Outcome.{projection_of, Outcome, found, Protocol}
use Rattle.jv_tree.specs.Source.{File}
use Rattle.jv_core.specs.Lookup.{class_text, is_main}
use Rattle.jv_core.specs.Tree.{Method}
use Rattle.fit_uses.specs.Uses.{uses_beside_making}
use Rattle.mg_refusal.specs.Refusals.{Refusal}
use Rattle.mg_sources.specs.Reading.{Part}
use Rattle.mg_fits.specs.Conditions.{conditions, Of, HasOther, IsProjection, MakesNone}
use Rattle.mg_fits.specs.Parts.{Headed}
use Rattle.fit_judge.specs.Adder.{AdderFits, client, server, global, of_client, of_server, core, mains, parts, client_main, server_main}

-- ---- lists of which each element is looked at

either_false : (a b : Bool) → (a || b) ≡ false → (a ≡ false) × (b ≡ false)
either_false true b e = let no : ⊥ = cc in absurd no
either_false false b e = (refl, e)

none_before : {X : Type 0} {x : X} → Contains [] x → ⊥
none_before (k, l, e) = omega (arith, l)

-- an element that passes a test isn't among elements none of which passes it
not_among : {X : Type 0} (p : X → Bool) (xs : List X) (x : X) → list_any p xs ≡ false → p x ≡ true → Contains xs x → ⊥
not_among p [] x fails is h = none_before h
not_among p (y ∷ ys) x fails is (zero, l, e) =
    let first : p y ≡ false = (either_false (p y) (list_any p ys) fails).0 in
    let passes : p y ≡ true = ap p e ∙ is in cc
not_among p (y ∷ ys) x fails is (suc k, l, e) =
    not_among p ys x (either_false (p y) (list_any p ys) fails).1 is (k, omega (arith, l), e)

one_of_two : {X : Type 0} (a b x : X) → Contains (a ∷ b ∷ []) x → (a ≡ x) ⊎ (b ≡ x)
one_of_two a b x (zero, l, e) = inl e
one_of_two a b x (suc zero, l, e) = inr e
one_of_two a b x (suc (suc k), l, e) = absurd (omega (arith, l))

abbrev Each : {X : Type 0} → (X → Type 0) → List X → Type 0
Each P [] = Unit {0}
Each P (x ∷ xs) = P x × Each P xs

of_each : {X : Type 0} (P : X → Type 0) (xs : List X) → Each P xs → (x : X) → Contains xs x → P x
of_each P [] all x h = absurd (none_before h)
of_each P (y ∷ ys) all x (zero, l, e) = subst P e all.0
of_each P (y ∷ ys) all x (suc k, l, e) = of_each P ys all.1 x (k, omega (arith, l), e)

no_server : server ≡ client → ⊥
no_server = is_other refl

-- ---- the projections are local protocols that are read

-- an element that can't be at fault
nothing : {C : Type 0} → C → ⊥ → ⊥
nothing c h = h

no_true : false ≡ true → ⊥
no_true e = cc

no_false : true ≡ false → ⊥
no_false e = cc

neither : {C : Type 0} → C → ⊥ ⊎ ⊥ → ⊥
neither c (inl h) = h
neither c (inr h) = h

-- a message stands on the way
not_quiet : (name : Name) (m : Message) (rest : Statements) (way : Way) → Quietly name (Past (Says m rest) ∷ way) → ⊥
not_quiet name m rest way (past t q) = no_true t

-- no branch is empty
full : {A : Type 0} (m n : Message) (rest other : Statements) →
    (A × ((Says m rest ≡ Nothing) ⊎ ((Says n other ≡ Nothing) ⊎ ⊥))) ⊎ ⊥ → ⊥
full m n rest other (inl (a, inl e)) = let no : ⊥ = cc in no
full m n rest other (inl (a, inr (inl e))) = let no : ⊥ = cc in no
full m n rest other (inl (a, inr (inr h))) = h
full m n rest other (inr h) = h

other_key : (a b : Name) → bytes_eq a b ≡ false → Contains (Some a ∷ []) (Some b) → ⊥
other_key a b e (zero, l, f) = is_other e (let g : a ≡ b = cc in g)
other_key a b e (suc k, l, f) = omega (arith, l)

no_java_word : (label : Name) → list_any (λ word. bytes_eq word label) java_words ≡ false → Contains java_words label → ⊥
no_java_word label fails h = not_among (λ word. bytes_eq word label) java_words label fails (same {x = label} refl) h

no_clash : (earlier : List Action) (a : Action) → list_any (λ other. bytes_eq other.call a.call) earlier ≡ false → (c : Culprit) →
    NameClash (earlier, a) c → ⊥
no_clash earlier a fails c h = not_among (λ other. bytes_eq other.call a.call) earlier h.1 fails (same h.3) h.2

-- each call has another name than those before it
abbrev Apart : List Action → List Action → Type 0
Apart earlier [] = Unit {0}
Apart earlier (a ∷ rest) = (list_any (λ other. bytes_eq other.call a.call) earlier ≡ false) × Apart (earlier ++ a ∷ []) rest

no_clashes : (earlier rest : List Action) → Apart earlier rest → Judged NameClash (behind earlier rest) None
no_clashes earlier [] apart = clean
no_clashes earlier (a ∷ rest) apart = later (no_clash earlier a apart.0) (no_clashes (earlier ++ a ∷ []) rest apart.1)

few : (n : ℕ) → n < 10 → 1000 < n → ⊥
few n some many = omega (arith, some, many)

abbrev body_for : Name → Statements
body_for me = unwrap_or (projected me global.body) Nothing

abbrev projection_for : Name → LocalTree
projection_for me = projection_of global me (body_for me)

abbrev actions_for : Name → List Action
actions_for me = actions me 1 (body_for me) ++ []

-- The places of the texts are: the loop, the choice, the first message of the first branch, the second, the end of that branch, and the
-- message of the other branch.
client_is_read : Outcome global client (Protocol (projection_for client))
client_is_read = found refl (
    next (later nothing (later nothing (later nothing (later nothing (later (λ c h. not_quiet _ _ _ _ h.1) (later nothing clean)))))) (
    next (later nothing (later nothing (later nothing (later (λ c h. no_false h.3) (later (λ c h. no_false h.3) (later nothing clean)))))) (
    next (later neither (later (λ c. full _ _ _ _) (later (λ c h. ⊎_elim (λ e. e) (λ t. t.3) h) (later neither (later neither
    (later (λ c h. ⊎_elim (λ e. e) (λ t. t.3) h) clean)))))) (
    next (later nothing (later (λ c h. h.1 (inl (refl, (refl, (refl, tt))))) (later nothing (later nothing (later nothing
    (later nothing clean)))))) (
    next (later nothing (later nothing (later (λ c h. none_before h.1) (later nothing (later nothing
    (later (λ c h. other_key _ _ refl h.1) clean)))))) (
    next (later nothing (later nothing (later (λ c h. h.1 refl) (later nothing (later nothing (later (λ c h. h.1 refl) clean)))))) (
    next (no_clashes [] (actions_for client) (refl, (refl, (refl, tt)))) (
    next (later (λ c h. few 2 (omega arith) h.1) clean) none))))))))

server_is_read : Outcome global server (Protocol (projection_for server))
server_is_read = found refl (
    next (later nothing (later nothing (later nothing (later nothing (later (λ c h. not_quiet _ _ _ _ h.1) (later nothing clean)))))) (
    next (later nothing (later nothing (later nothing (later (λ c h. no_false h.3) (later (λ c h. no_false h.3) (later nothing clean)))))) (
    next (later neither (later (λ c. full _ _ _ _) (later (λ c h. ⊎_elim (λ e. e) (λ t. t.3) h) (later neither (later neither
    (later (λ c h. ⊎_elim (λ e. e) (λ t. t.3) h) clean)))))) (
    next (later nothing (later (λ c h. h.1 (inr ((λ e. no_server (sym e)), client, (refl, refl, (refl, refl, tt))))) (later nothing
    (later nothing (later nothing (later nothing clean)))))) (
    next (later nothing (later nothing (later (λ c h. none_before h.1) (later nothing (later nothing
    (later (λ c h. other_key _ _ refl h.1) clean)))))) (
    next (later nothing (later nothing (later (λ c h. no_java_word _ refl h.2) (later nothing (later nothing
    (later (λ c h. no_java_word _ refl h.2) clean)))))) (
    next (no_clashes [] (actions_for server) (refl, (refl, (refl, (refl, tt))))) (
    next (later (λ c h. few 4 (omega arith) h.1) clean) none))))))))

-- ---- the conditions of fitting

said_alike : {direction : Direction} {peer label : Name} {payload : Payload} {place other : Place} → IsSameMessage
    (record { place = place; direction = direction; peer = peer; label = label; payload = payload })
    (record { place = other; direction = direction; peer = peer; label = label; payload = payload })
said_alike = record { direction = refl; peer = refl; label = refl; payload = refl }

-- the methods `main` of the program
no_main : {A : Type 0} → false ≡ true → A
no_main e = let no : ⊥ = cc in absurd no

mains_are : (method : Method) → Contains core.methods method → is_main method.kind ≡ true →
    (client_main ≡ method) ⊎ (server_main ≡ method)
mains_are = of_each (λ (method : Method). is_main method.kind ≡ true → (client_main ≡ method) ⊎ (server_main ≡ method)) core.methods
    (no_main, (no_main, (no_main, (no_main, (no_main, (no_main, (no_main, ((λ e. inl refl), ((λ e. inr refl), tt)))))))))

other_text : (a b : Name) → bytes_eq a b ≡ false → Some a ≡ Some b → ⊥
other_text a b e f = is_other e (let g : a ≡ b = cc in g)

no_making : {X : Type 0} {x : X} → Some x ≡ None → ⊥
no_making e = cc

other_class : Contains (codes "CMain" ∷ []) (codes "SMain") → ⊥
other_class h = not_among (λ class. bytes_eq class (codes "SMain")) (codes "CMain" ∷ []) (codes "SMain") refl refl h

client_there : Contains (client ∷ server ∷ []) client
client_there = first_in client (server ∷ []) client refl

server_there : Contains (client ∷ server ∷ []) server
server_there = later_in client (server ∷ []) server (first_in server [] server refl)

module _ (client_file server_file : File) where
  abbrev all : List Part
  all = parts client_file server_file

  client_is_projected : IsProjection global all core mains of_client
  client_is_projected = record {
    projection = projection_for client;
    projected = client_is_read;
    same = (refl, (refl, ((said_alike, (said_alike, (refl, tt))), ((said_alike, tt), tt)), tt), tt);
    alone = refl;
  }

  server_is_projected : IsProjection global all core mains of_server
  server_is_projected = record {
    projection = projection_for server;
    projected = server_is_read;
    same = (refl, (refl, ((said_alike, (said_alike, (refl, tt))), ((said_alike, tt), tt)), tt), tt);
    alone = refl;
  }

  no_other_of_client : (headed : Headed) (r : Refusal) → headed.role ≡ client → HasOther global all core mains headed r → ⊥
  no_other_of_client headed r is h = go (one_of_two of_client of_server h.local h.there)
    where
      go : (of_client ≡ h.local) ⊎ (of_server ≡ h.local) → ⊥
      go (inl e) = h.other (subst (IsProjection global all core mains) e client_is_projected)
      go (inr e) = no_server (ap (λ (l : LocalTree). l.me) e ∙ h.of_role ∙ is)

  no_other_of_server : (headed : Headed) (r : Refusal) → headed.role ≡ server → HasOther global all core mains headed r → ⊥
  no_other_of_server headed r is h = go (one_of_two of_client of_server h.local h.there)
    where
      go : (of_client ≡ h.local) ⊎ (of_server ≡ h.local) → ⊥
      go (inl e) = no_server (sym (ap (λ (l : LocalTree). l.me) e ∙ h.of_role ∙ is))
      go (inr e) = h.other (subst (IsProjection global all core mains) e server_is_projected)

  client_makes : (r : Refusal) → MakesNone global all core mains (record { role = client; class = codes "CMain" }) r → ⊥
  client_makes r h = go (mains_are h.method h.is.there h.is.main)
    where
      go : (client_main ≡ h.method) ⊎ (server_main ≡ h.method) → ⊥
      go (inl e) = no_making (ap (λ (m : Method). uses_beside_making 0 m.body) e ∙ h.none 0 refl)
      go (inr e) = other_text _ _ refl (ap (λ (m : Method). class_text core m.class) e ∙ h.is.class)

  server_makes : (r : Refusal) → MakesNone global all core mains (record { role = server; class = codes "SMain" }) r → ⊥
  server_makes r h = go (mains_are h.method h.is.there h.is.main)
    where
      go : (client_main ≡ h.method) ⊎ (server_main ≡ h.method) → ⊥
      go (inl e) = other_text _ _ refl (ap (λ (m : Method). class_text core m.class) e ∙ h.is.class)
      go (inr e) = no_making (ap (λ (m : Method). uses_beside_making 1 m.body) e ∙ h.none 1 refl)

  all_clean : FirstOf (Of global all core mains) conditions None
  all_clean =
      next (later (λ r h. h.0 client_there) (later (λ r h. h.0 server_there) clean)) (
      next (later (λ r h. h.0 client_there) (later (λ r h. h.0 server_there) clean)) (
      next (later (λ r h. none_before h.0) (later (λ r h. other_class h.0) clean)) (
      next (later (λ r h. h.0 client_there) (later (λ r h. h.0 server_there) clean)) (
      next (later (λ r h. no_other_of_client _ r refl h) (later (λ r h. no_other_of_server _ r refl h) clean)) (
      next clean (
      next clean (
      next (later client_makes (later server_makes clean)) none)))))))

pub fits : AdderFits
fits client_file server_file = all_clean client_file server_file
