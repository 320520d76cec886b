-- Looking for the first token that isn't supported, and over modifiers.
use Rattle.std.proofs.Common.{◌≡◌, List, [], ◌∷◌, length, Bool, true, false, Option, Some, None, refl, sym, ap, subst, ◌∙◌, arith}
use Rattle.std.specs.Prelude.{codes}
use Rattle.mg_text.specs.Call.{Name}
use Rattle.mg_read.specs.Culprit.{Culprit, culprit}
use Rattle.mg_read.specs.First.{Judged, clean, here, later}
use Rattle.mg_read.specs.FirstLaws.{IsSingle}
use Rattle.mg_read.proofs.Steps.{some_is, none_is_not}
use Rattle.jv_tree.specs.declared.token.Token.{Token}
use Rattle.jv_tree.specs.Files.{is_kind_among}
use Rattle.jv_grammar.specs.Files.{after_mods, static_mods}
use Rattle.jv_parse.specs.Unsupported.{unsupported_text, IsUnsupported}

-- what the rest answers, the whole does
pub record Sought (rest whole : List Token) : Type 0 where
  pub sought : (r : Option Culprit) → Judged IsUnsupported rest r → Judged IsUnsupported whole r

pub sought_start : (ts : List Token) → Sought ts ts
sought_start ts = record { sought = λ r j. j }

supported : (t : Token) → unsupported_text t.kind ≡ None → (c : Culprit) → IsUnsupported t c → ⊥
supported t e c (text, is, at) = none_is_not text (sym e ∙ is)

pub sought_later : (rest behind : List Token) (t : Token) (whole : List Token) → rest ≡ t ∷ behind → unsupported_text t.kind ≡ None
    → Sought rest whole → Sought behind whole
sought_later rest behind t whole parts e s =
    record { sought = λ r j. s.sought r (subst (λ (ts : List Token). Judged IsUnsupported ts r) (sym parts) (later (supported t e) j)) }

pub sought_here : (rest behind : List Token) (t : Token) (whole : List Token) (text : Name) → rest ≡ t ∷ behind →
    unsupported_text t.kind ≡ Some text
    → Sought rest whole → Judged IsUnsupported whole (Some (culprit t.place text))
sought_here rest behind t whole text parts e s =
    s.sought (Some (culprit t.place text)) (subst (λ (ts : List Token). Judged IsUnsupported ts (Some (culprit t.place text))) (sym parts)
    (here (text, e, refl)))

pub sought_end : (rest whole : List Token) → length rest ≡ 0 → Sought rest whole → Judged IsUnsupported whole None
sought_end [] whole e s = s.sought None clean
sought_end (t ∷ ts) whole e s = absurd (omega arith)

pub single : IsSingle IsUnsupported
single t c d (v, is, at) (w, also, too) =
    let same : v ≡ w = some_is v w (sym is ∙ also) in
    at ∙ ap (culprit t.place) same ∙ sym too

-- ---- modifiers

pub mods_later : (words : List Name) (rest behind : List Token) (t : Token) (total : List Token) → rest ≡ t ∷ behind →
    is_kind_among words t.kind ≡ true
    → after_mods words rest ≡ total → after_mods words behind ≡ total
mods_later words rest behind t total parts goes h =
    let e : after_mods words (t ∷ behind) ≡ after_mods words behind = rw goes refl in
    sym e ∙ ap (after_mods words) (sym parts) ∙ h

pub mods_here : (words : List Name) (rest behind : List Token) (t : Token) (total : List Token) → rest ≡ t ∷ behind →
    is_kind_among words t.kind ≡ false
    → after_mods words rest ≡ total → rest ≡ total
mods_here words rest behind t total parts stops h =
    let e : after_mods words (t ∷ behind) ≡ t ∷ behind = rw stops refl in
    parts ∙ sym e ∙ ap (after_mods words) (sym parts) ∙ h

pub mods_end : (words : List Name) (rest total : List Token) → length rest ≡ 0 → after_mods words rest ≡ total → rest ≡ total
mods_end words [] total e h = h
mods_end words (t ∷ ts) total e h = absurd (omega arith)

pub static_later : (words : List Name) (rest behind : List Token) (t : Token) (total : Bool) → rest ≡ t ∷ behind →
    is_kind_among words t.kind ≡ true
    → is_kind_among (codes "static" ∷ []) t.kind ≡ false → static_mods words rest ≡ total → static_mods words behind ≡ total
static_later words rest behind t total parts goes other h =
    let e : static_mods words (t ∷ behind) ≡ static_mods words behind = rw (goes, other) refl in
    sym e ∙ ap (static_mods words) (sym parts) ∙ h

pub static_here : (words : List Name) (rest behind : List Token) (t : Token) (total : Bool) → rest ≡ t ∷ behind →
    is_kind_among words t.kind ≡ true
    → is_kind_among (codes "static" ∷ []) t.kind ≡ true → static_mods words rest ≡ total → true ≡ total
static_here words rest behind t total parts goes other h =
    let e : static_mods words (t ∷ behind) ≡ true = rw (goes, other) refl in
    sym e ∙ ap (static_mods words) (sym parts) ∙ h

pub static_stops : (words : List Name) (rest behind : List Token) (t : Token) (total : Bool) → rest ≡ t ∷ behind →
    is_kind_among words t.kind ≡ false
    → static_mods words rest ≡ total → false ≡ total
static_stops words rest behind t total parts stops h =
    let e : static_mods words (t ∷ behind) ≡ false = rw stops refl in
    sym e ∙ ap (static_mods words) (sym parts) ∙ h

pub static_end : (words : List Name) (rest : List Token) (total : Bool) → length rest ≡ 0 → static_mods words rest ≡ total → false ≡ total
static_end words [] total e h = h
static_end words (t ∷ ts) total e h = absurd (omega arith)
