-- Methods are read where the grammar spells them, and nowhere else.
use Rattle.std.proofs.Common.{◌≡◌, ◌<◌, List, [], ◌∷◌, ◌++◌, length, true, false, Option, Some, None, refl, sym, ap, ◌∙◌, subst}
use Rattle.std.proofs.Common.{append_assoc, inl, inr}
use Rattle.mg_text.specs.declared.place.Place.{Place}
use Rattle.mg_read.specs.Reader.{◌>>=◌}
use Rattle.mg_read.proofs.Steps.{bind_some, some_is, chosen, Takes}
use Rattle.mg_read.proofs.Lists.{IsExact}
use Rattle.ts_tree.specs.declared.parts.TypeName.{TypeName}
use Rattle.ts_parse.specs.declared.token.Mark.TheVariants as marks
use Rattle.ts_parse.specs.declared.written.Naming.{Naming}
use Rattle.ts_parse.specs.declared.written.WrittenBranch.{WrittenBranch}
use Rattle.ts_parse.specs.Tok.{Tok, named, marked}
use Rattle.ts_parse.specs.Written.{WTarget, to_one, by_label, WMethod}
use Rattle.ts_parse.specs.Grammar.{Behind, Listed, type_named, param_named, IsParam, AreParams, IsBranch, IsTarget, IsMethod}
use Rattle.ts_parse.specs.inner.Reading.{mark_at, name_at, is_at, behind_at, listed_at, typed, param_at, params_at, branch_at, answers_at}
use Rattle.ts_parse.specs.inner.Reading.{target_at, head_at, method_at}
use Rattle.ts_parse.proofs.Steps.{Anything, after, mark_is, name_is}
use Rattle.ts_parse.proofs.Lists.{behind_shorter, listed_sound, listed_complete}

-- ---- parameters

typed_is : (o : Option TypeName) (ts : List Tok) (x : TypeName × List Tok) → typed o ts ≡ Some x → (o ≡ Some x.0) × (ts ≡ x.1)
typed_is None ts x e = absurd cc
typed_is (Some t) ts x e =
    let same : (t, ts) ≡ x = some_is (t, ts) x e in
    (ap (λ (y : TypeName × List Tok). Some y.0) same, ap (λ (y : TypeName × List Tok). y.1) same)

typed_again : (o : Option TypeName) (t : TypeName) (ts : List Tok) → o ≡ Some t → typed o ts ≡ Some (t, ts)
typed_again o t ts e = rw e refl

param_sound : (ts : List Tok) (x : TypeName × List Tok) → param_at ts ≡ Some x → Takes (IsParam x.0) ts x.1
unfolding param_at
param_sound ts x e =
    let n = bind_some (name_at ts) (λ n. typed (param_named n.0.text) n.1) x e in
    let t = typed_is (param_named n.0.0.text) n.0.1 x n.2 in
    record {
      front = named n.0.0.place n.0.0.text ∷ [];
      parts = after (name_is ts n.0 n.1) t.1;
      holds = (n.0.0.place, n.0.0.text, refl, t.0);
    }

param_complete : (x : TypeName) (ts rest : List Tok) → Anything rest → IsParam x ts → param_at (ts ++ rest) ≡ Some (x, rest)
unfolding param_at
param_complete x ts rest fine (a, text, e, h) = rw e (typed_again (param_named text) x rest h)

pub param_exact : IsExact param_at IsParam Anything
param_exact = record { sound = param_sound; complete = param_complete }

pub other_param_shorter : (ts : List Tok) (x : TypeName) (us : List Tok) → behind_at marks.Comma param_at ts ≡ Some (x, us) →
    length us < length ts
other_param_shorter = behind_shorter marks.Comma param_at IsParam param_exact

-- a comma comes before each further part
comma_goes : {A : Type 0} (G : A → List Tok → Type 0) (x : A) (ts rest : List Tok) → Behind marks.Comma G x ts →
    is_at marks.Comma (ts ++ rest) ≡ true
comma_goes G x ts rest (a, us, e, h) = rw e refl

-- what is listed is not nothing
are_params : (xs : List TypeName) (ts : List Tok) → Listed marks.Comma IsParam xs ts → AreParams xs ts
are_params [] ts h = absurd h
are_params (x ∷ xs) ts h = h

params_sound : (ts : List Tok) (x : List TypeName × List Tok) → params_at ts ≡ Some x → Takes (AreParams x.0) ts x.1
unfolding params_at
params_sound ts x e =
    elim (chosen (is_at marks.CloseParen ts) (Some ([], ts)) (listed_at marks.Comma (is_at marks.Comma) param_at ts) (Some x) e) [
      | inl t ↦ subst (λ (y : List TypeName × List Tok). Takes (AreParams y.0) ts y.1) (some_is ([], ts) x t.1)
          (record { front = []; parts = refl; holds = refl })
      | inr f ↦
          let l = listed_sound marks.Comma param_at IsParam param_exact (is_at marks.Comma) ts x f.1 in
          record { front = l.front; parts = l.parts; holds = are_params x.0 l.front l.holds }
    ]

-- a list of parameters begins with no parenthesis
params_begin : (x : TypeName) (xs : List TypeName) (ts rest : List Tok) → Listed marks.Comma IsParam (x ∷ xs) ts →
    is_at marks.CloseParen (ts ++ rest) ≡ false
params_begin x xs ts rest (us, vs, e, (a, text, f, g), h) = rw (e, f) refl

params_complete : (xs : List TypeName) (ts rest : List Tok) (a : Place) → AreParams xs ts →
    params_at (ts ++ marked a marks.CloseParen ∷ rest) ≡ Some (xs, marked a marks.CloseParen ∷ rest)
unfolding params_at
params_complete [] ts rest a h = rw h refl
params_complete (x ∷ xs) ts rest a h =
    let begins = params_begin x xs ts (marked a marks.CloseParen ∷ rest) h in
    let reads = listed_complete marks.Comma param_at IsParam param_exact (is_at marks.Comma) (comma_goes IsParam) (x ∷ xs) ts
    (marked a marks.CloseParen ∷ rest) refl h in
    rw (begins, reads) refl

-- ---- where calls lead

branch_sound : (ts : List Tok) (x : WrittenBranch × List Tok) → branch_at ts ≡ Some x → Takes (IsBranch x.0) ts x.1
unfolding branch_at
branch_sound ts x e =
    let l = bind_some (name_at ts) _ x e in
    let c = bind_some (mark_at marks.Colon l.0.1) _ x l.2 in
    let t = bind_some (name_at c.0.1) _ x c.2 in
    subst (λ (y : WrittenBranch × List Tok). Takes (IsBranch y.0) ts y.1) (some_is _ x t.2)
    (record {
      front = named l.0.0.place l.0.0.text ∷ marked c.0.0 marks.Colon ∷ named t.0.0.place t.0.0.text ∷ [];
      parts = after (name_is ts l.0 l.1) (after (mark_is marks.Colon l.0.1 c.0 c.1) (name_is c.0.1 t.0 t.1));
      holds = (c.0.0, refl);
    })

branch_complete : (x : WrittenBranch) (ts rest : List Tok) → Anything rest → IsBranch x ts → branch_at (ts ++ rest) ≡ Some (x, rest)
unfolding branch_at
branch_complete x ts rest fine (a, e) = rw e refl

pub branch_exact : IsExact branch_at IsBranch Anything
branch_exact = record { sound = branch_sound; complete = branch_complete }

pub other_branch_shorter : (ts : List Tok) (x : WrittenBranch) (us : List Tok) → behind_at marks.Comma branch_at ts ≡ Some (x, us) →
    length us < length ts
other_branch_shorter = behind_shorter marks.Comma branch_at IsBranch branch_exact

answers_sound : (ts : List Tok) (x : WTarget × List Tok) → answers_at ts ≡ Some x → Takes (IsTarget x.0) ts x.1
unfolding answers_at
answers_sound ts x e =
    let s = bind_some (mark_at marks.Less ts) _ x e in
    let b = bind_some (listed_at marks.Comma (is_at marks.Comma) branch_at s.0.1) _ x s.2 in
    let d = bind_some (mark_at marks.Greater b.0.1) _ x b.2 in
    let l = listed_sound marks.Comma branch_at IsBranch branch_exact (is_at marks.Comma) s.0.1 b.0 b.1 in
    let end : List Tok = marked d.0.0 marks.Greater ∷ [] in
    let inner : s.0.1 ≡ (l.front ++ end) ++ d.0.1 =
    l.parts ∙ ap (λ (r : List Tok). l.front ++ r) (mark_is marks.Greater b.0.1 d.0 d.1) ∙ sym (append_assoc l.front end d.0.1) in
    subst (λ (y : WTarget × List Tok). Takes (IsTarget y.0) ts y.1) (some_is _ x d.2)
    (record {
      front = marked s.0.0 marks.Less ∷ (l.front ++ end);
      parts = after (mark_is marks.Less ts s.0 s.1) inner;
      holds = (s.0.0, d.0.0, l.front, refl, l.holds);
    })

target_sound : (ts : List Tok) (x : WTarget × List Tok) → target_at ts ≡ Some x → Takes (IsTarget x.0) ts x.1
unfolding target_at
target_sound ts x e =
    elim (chosen (is_at marks.Less ts) (answers_at ts) (name_at ts >>= λ name. Some (to_one name.0, name.1)) (Some x) e) [
      | inl t ↦ answers_sound ts x t.1
      | inr f ↦
          let n = bind_some (name_at ts) (λ name. Some (to_one name.0, name.1)) x f.1 in
          subst (λ (y : WTarget × List Tok). Takes (IsTarget y.0) ts y.1) (some_is _ x n.2)
          (record { front = named n.0.0.place n.0.0.text ∷ []; parts = name_is ts n.0 n.1; holds = refl })
    ]

target_complete : (t : WTarget) (ts rest : List Tok) → IsTarget t ts → target_at (ts ++ rest) ≡ Some (t, rest)
unfolding target_at answers_at
target_complete (to_one n) ts rest e = rw e refl
target_complete (by_label bs) ts rest (a, b, us, e, h) =
    let reads = listed_complete marks.Comma branch_at IsBranch branch_exact (is_at marks.Comma) (comma_goes IsBranch) bs us
    (marked b marks.Greater ∷ rest) refl h in
    rw (e, append_assoc us (marked b marks.Greater ∷ []) rest, reads) refl

-- ---- methods

pub method_sound : (ts : List Tok) (x : WMethod × List Tok) → method_at ts ≡ Some x → Takes (IsMethod x.0) ts x.1
unfolding method_at head_at
method_sound ts x e =
    let h = bind_some (head_at ts) _ x e in
    let t = bind_some (name_at ts) _ h.0 h.1 in
    let n = bind_some (name_at t.0.1) _ h.0 t.2 in
    let o = bind_some (mark_at marks.OpenParen n.0.1) _ h.0 n.2 in
    let same : ((type_named t.0.0.text, n.0.0), o.0.1) ≡ h.0 = some_is ((type_named t.0.0.text, n.0.0), o.0.1) h.0 o.2 in
    let p = bind_some (params_at h.0.1) _ x h.2 in
    let d = bind_some (mark_at marks.CloseParen p.0.1) _ x p.2 in
    let c = bind_some (mark_at marks.Colon d.0.1) _ x d.2 in
    let g = bind_some (target_at c.0.1) _ x c.2 in
    let params = params_sound h.0.1 p.0 p.1 in
    let target = target_sound c.0.1 g.0 g.1 in
    let tail : p.0.1 ≡ (marked d.0.0 marks.CloseParen ∷ marked c.0.0 marks.Colon ∷ target.front) ++ g.0.1 =
    after (mark_is marks.CloseParen p.0.1 d.0 d.1) (after (mark_is marks.Colon d.0.1 c.0 c.1) target.parts) in
    let end : List Tok = marked d.0.0 marks.CloseParen ∷ marked c.0.0 marks.Colon ∷ target.front in
    let inner : h.0.1 ≡ (params.front ++ end) ++ g.0.1 = params.parts ∙ ap (λ (r : List Tok). params.front ++ r) tail ∙
    sym (append_assoc params.front end g.0.1) in
    let front : Naming → List Tok = λ name. named t.0.0.place t.0.0.text ∷ named name.place name.text ∷ marked o.0.0 marks.OpenParen ∷
    (params.front ++ end) in
    let name_same : n.0.0 ≡ h.0.0.1 = ap (λ (y : (TypeName × Naming) × List Tok). y.0.1) same in
    let type_same : type_named t.0.0.text ≡ h.0.0.0 = ap (λ (y : (TypeName × Naming) × List Tok). y.0.0) same in
    let whole : ts ≡ front n.0.0 ++ g.0.1 =
    after (name_is ts t.0 t.1) (after (name_is t.0.1 n.0 n.1) (after (mark_is marks.OpenParen n.0.1 o.0 o.1)
    (ap (λ (y : (TypeName × Naming) × List Tok). y.1) same ∙ inner))) in
    subst (λ (y : WMethod × List Tok). Takes (IsMethod y.0) ts y.1) (some_is _ x g.2)
    (record {
      front = front h.0.0.1;
      parts = subst (λ (y : Naming). ts ≡ front y ++ g.0.1) name_same whole;
      holds = (t.0.0.place, o.0.0, d.0.0, c.0.0, t.0.0.text, params.front, target.front, refl, type_same, params.holds, target.holds);
    })

pub method_complete : (m : WMethod) (ts rest : List Tok) → Anything rest → IsMethod m ts → method_at (ts ++ rest) ≡ Some (m, rest)
unfolding method_at head_at
method_complete m ts rest fine (a, b, c, d, text, us, vs, e, type, p, t) =
    let params = params_complete m.params us (marked d marks.Colon ∷ (vs ++ rest)) c p in
    let target = target_complete m.target vs rest t in
    rw (e, append_assoc us (marked c marks.CloseParen ∷ marked d marks.Colon ∷ vs) rest, params, target)
    (ap (λ (y : TypeName). Some (record { result = y; name = m.name; params = m.params; target = m.target }, rest)) type)
