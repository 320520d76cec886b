-- A file is of one kind, and spells one part at most.
use Rattle.std.proofs.Common.{arith, ◌≡◌, ℕ, List, [], ◌∷◌, ◌++◌, codes, Option, Some, None, refl, sym, ap, ◌∙◌, subst}
use Rattle.scr_tree.specs.Tree.{LocalTree}
use Rattle.ts_tree.specs.Typestate.{Typestate}
use Rattle.jv_tree.specs.Source.{File}
use Rattle.scr_read.specs.Outcome as of_protocols
use Rattle.ts_read.specs.Outcome as of_typestates
use Rattle.jv_read.specs.Outcome as of_java
use Rattle.scr_read.proofs.Unique as protocols_unique
use Rattle.ts_read.proofs.Unique as states_unique
use Rattle.jv_read.proofs.Unique as classes_unique
use Rattle.mg_sources.specs.Files.{Source, Kind, Scribble, Typestates, Java, suffix_of, IsOf}
use Rattle.mg_refusal.specs.Refusals.{Refusal, AreAlike}
use Rattle.mg_refusal.specs.Order.{InFile}
use Rattle.mg_refusal.proofs.Orders.{same_in, syntax_in}
use Rattle.mg_sources.specs.Reading.{Part, Protocol, States, Classes, Reads, Refuses, IsIn, IsSaidOfProtocol, IsSaidOfTypestate}
use Rattle.mg_sources.specs.Reading.{IsSaidOfJava}
use Rattle.mg_sources.specs.Reading as reading

-- the last of a text
abbrev pub last_of : List ℕ → Option ℕ
last_of [] = None
last_of (c ∷ []) = Some c
last_of (c ∷ d ∷ cs) = last_of (d ∷ cs)

pub last_behind : (front : List ℕ) (c : ℕ) (cs : List ℕ) → last_of (front ++ c ∷ cs) ≡ last_of (c ∷ cs)
last_behind [] c cs = refl
last_behind (a ∷ []) c cs = refl
last_behind (a ∷ b ∷ front) c cs = last_behind (b ∷ front) c cs

-- how the name of a file ends tells of which kind it is
last_is : (kind : Kind) (source : Source) → IsOf kind source → last_of source.name ≡ last_of (suffix_of kind)
last_is Scribble source (front, e) = ap last_of e ∙ last_behind front 46 (codes "scr")
last_is Typestates source (front, e) = ap last_of e ∙ last_behind front 46 (codes "protocol")
last_is Java source (front, e) = ap last_of e ∙ last_behind front 46 (codes "java")

ends_alike : {P : Type 0} (kind other : Kind) (source : Source) → IsOf kind source → IsOf other source →
    (last_of (suffix_of kind) ≡ last_of (suffix_of other) → P) → P
ends_alike kind other source is is' go = go (sym (last_is kind source is) ∙ last_is other source is')

pub differ : {P : Type 0} (x y : ℕ) → ◌≡◌ {A = Option ℕ} (Some x) (Some y) → (x ≡ y → P) → P
differ x y e go = go cc

not_both : (kind other : Kind) (source : Source) → IsOf kind source → IsOf other source → kind ≡ other
not_both Scribble Scribble source is is' = refl
not_both Scribble Typestates source is is' = ends_alike Scribble Typestates source is is'
    (λ e. differ 114 108 e (λ k. absurd (omega (arith, k))))
not_both Scribble Java source is is' = ends_alike Scribble Java source is is' (λ e. differ 114 97 e (λ k. absurd (omega (arith, k))))
not_both Typestates Scribble source is is' = ends_alike Typestates Scribble source is is'
    (λ e. differ 108 114 e (λ k. absurd (omega (arith, k))))
not_both Typestates Typestates source is is' = refl
not_both Typestates Java source is is' = ends_alike Typestates Java source is is' (λ e. differ 108 97 e (λ k. absurd (omega (arith, k))))
not_both Java Scribble source is is' = ends_alike Java Scribble source is is' (λ e. differ 97 114 e (λ k. absurd (omega (arith, k))))
not_both Java Typestates source is is' = ends_alike Java Typestates source is is' (λ e. differ 97 108 e (λ k. absurd (omega (arith, k))))
not_both Java Java source is is' = refl

clash : {P : Type 0} (kind other : Kind) → kind ≡ other → (last_of (suffix_of kind) ≡ last_of (suffix_of other) → P) → P
clash kind other e go = go (ap (λ k. last_of (suffix_of k)) e)

module _ (source : Source) where
  -- what is refused isn't read
  pub excludes : (part : Part) (r : Refusal) → Reads source part → Refuses source r → ⊥
  excludes part fault (reading.protocol {local = local} is o) (reading.protocol answer is' o' said) =
      (subst (λ (a : of_protocols.Answer). InFile source.number (IsSaidOfProtocol (IsIn source) a) fault)
      (protocols_unique.one_outcome source.number source.bytes answer _
      o' o) said).1
  excludes part fault (reading.protocol is o) (reading.states answer is' o' said) =
      ends_alike Scribble Typestates source is is' (λ e. differ 114 108 e (λ k. absurd (omega (arith, k))))
  excludes part fault (reading.protocol is o) (reading.classes answer is' o' said) =
      ends_alike Scribble Java source is is' (λ e. differ 114 97 e (λ k. absurd (omega (arith, k))))
  excludes part fault (reading.states is o) (reading.protocol answer is' o' said) =
      ends_alike Typestates Scribble source is is' (λ e. differ 108 114 e (λ k. absurd (omega (arith, k))))
  excludes part fault (reading.states is o) (reading.states answer is' o' said) =
      (subst (λ (a : of_typestates.Answer). InFile source.number (IsSaidOfTypestate (IsIn source) a) fault)
      (states_unique.one_outcome source.number source.bytes answer _
      o' o) said).1
  excludes part fault (reading.states is o) (reading.classes answer is' o' said) =
      ends_alike Typestates Java source is is' (λ e. differ 108 97 e (λ k. absurd (omega (arith, k))))
  excludes part fault (reading.classes is o) (reading.protocol answer is' o' said) =
      ends_alike Java Scribble source is is' (λ e. differ 97 114 e (λ k. absurd (omega (arith, k))))
  excludes part fault (reading.classes is o) (reading.states answer is' o' said) =
      ends_alike Java Typestates source is is' (λ e. differ 97 108 e (λ k. absurd (omega (arith, k))))
  excludes part fault (reading.classes is o) (reading.classes answer is' o' said) =
      (subst (λ (a : of_java.Answer). InFile source.number (IsSaidOfJava (IsIn source) a) fault)
      (classes_unique.one_outcome source.number source.bytes answer _ o' o) said).1

  -- a local protocol is neither a typestate nor classes
  pub no_states : (typestate : Typestate) → IsOf Scribble source → Reads source (States typestate) → ⊥
  no_states typestate is (reading.states is' o) = ends_alike Scribble Typestates source is is'
      (λ e. differ 114 108 e (λ k. absurd (omega (arith, k))))

  pub no_classes : (file : File) → IsOf Scribble source → Reads source (Classes file) → ⊥
  no_classes file is (reading.classes is' o) = ends_alike Scribble Java source is is'
      (λ e. differ 114 97 e (λ k. absurd (omega (arith, k))))

  same_protocol : (l k : LocalTree) → of_protocols.Protocol l ≡ of_protocols.Protocol k → Protocol l ≡ Protocol k
  same_protocol l k e = cc

  same_states : (l k : Typestate) → of_typestates.Read l ≡ of_typestates.Read k → States l ≡ States k
  same_states l k e = cc

  same_classes : (l k : File) → of_java.Read l ≡ of_java.Read k → Classes l ≡ Classes k
  same_classes l k e = cc

  -- a file spells one part
  pub one_part : (part other : Part) → Reads source part → Reads source other → part ≡ other
  one_part part other (reading.protocol {local = l} is o) (reading.protocol {local = k} is' o') =
      same_protocol l k (protocols_unique.one_outcome source.number source.bytes _ _ o o')
  one_part part other (reading.protocol is o) (reading.states is' o') = ends_alike Scribble Typestates source is is'
      (λ e. differ 114 108 e (λ k. absurd (omega (arith, k))))
  one_part part other (reading.protocol is o) (reading.classes is' o') = ends_alike Scribble Java source is is'
      (λ e. differ 114 97 e (λ k. absurd (omega (arith, k))))
  one_part part other (reading.states is o) (reading.protocol is' o') = ends_alike Typestates Scribble source is is'
      (λ e. differ 108 114 e (λ k. absurd (omega (arith, k))))
  one_part part other (reading.states {typestate = t} is o) (reading.states {typestate = u} is' o') =
      same_states t u (states_unique.one_outcome source.number source.bytes _ _ o o')
  one_part part other (reading.states is o) (reading.classes is' o') = ends_alike Typestates Java source is is'
      (λ e. differ 108 97 e (λ k. absurd (omega (arith, k))))
  one_part part other (reading.classes is o) (reading.protocol is' o') = ends_alike Java Scribble source is is'
      (λ e. differ 97 114 e (λ k. absurd (omega (arith, k))))
  one_part part other (reading.classes is o) (reading.states is' o') = ends_alike Java Typestates source is is'
      (λ e. differ 97 108 e (λ k. absurd (omega (arith, k))))
  one_part part other (reading.classes {file = f} is o) (reading.classes {file = g} is' o') =
      same_classes f g (classes_unique.one_outcome source.number source.bytes _ _ o o')

  -- two refusals are one, but for the place of Syntax
  said_protocol : (answer : of_protocols.Answer) (f g : Refusal) → InFile source.number (IsSaidOfProtocol (IsIn source) answer) f →
      InFile source.number (IsSaidOfProtocol (IsIn source) answer) g → AreAlike f g
  said_protocol (of_protocols.Protocol local) f g (s, h, e) told = absurd h
  said_protocol of_protocols.Syntax f g (s, (p, within, h), e) (t, (q, within', k), d) = syntax_in source.number f g s t p q h k e d
  said_protocol (of_protocols.TooLarge place) f g (s, h, e) (t, k, d) = same_in source.number f g s t (h ∙ sym k) e d
  said_protocol (of_protocols.BadByte place) f g (s, h, e) (t, k, d) = same_in source.number f g s t (h ∙ sym k) e d
  said_protocol (of_protocols.Unsupported place word) f g (s, h, e) (t, k, d) = same_in source.number f g s t (h ∙ sym k) e d
  said_protocol (of_protocols.Refused condition place name) f g (s, h, e) (t, k, d) = same_in source.number f g s t (h ∙ sym k) e d

  said_states : (answer : of_typestates.Answer) (f g : Refusal) → InFile source.number (IsSaidOfTypestate (IsIn source) answer) f →
      InFile source.number (IsSaidOfTypestate (IsIn source) answer) g → AreAlike f g
  said_states (of_typestates.Read typestate) f g (s, h, e) told = absurd h
  said_states of_typestates.Syntax f g (s, (p, within, h), e) (t, (q, within', k), d) = syntax_in source.number f g s t p q h k e d
  said_states (of_typestates.TooLarge place) f g (s, h, e) (t, k, d) = same_in source.number f g s t (h ∙ sym k) e d
  said_states (of_typestates.BadByte place) f g (s, h, e) (t, k, d) = same_in source.number f g s t (h ∙ sym k) e d
  said_states (of_typestates.Refused condition place name) f g (s, h, e) (t, k, d) = same_in source.number f g s t (h ∙ sym k) e d

  said_classes : (answer : of_java.Answer) (f g : Refusal) → InFile source.number (IsSaidOfJava (IsIn source) answer) f →
      InFile source.number (IsSaidOfJava (IsIn source) answer) g → AreAlike f g
  said_classes (of_java.Read file) f g (s, h, e) told = absurd h
  said_classes of_java.Syntax f g (s, (p, within, h), e) (t, (q, within', k), d) = syntax_in source.number f g s t p q h k e d
  said_classes (of_java.TooLarge place) f g (s, h, e) (t, k, d) = same_in source.number f g s t (h ∙ sym k) e d
  said_classes (of_java.BadByte place) f g (s, h, e) (t, k, d) = same_in source.number f g s t (h ∙ sym k) e d
  said_classes (of_java.OpenComment place) f g (s, h, e) (t, k, d) = same_in source.number f g s t (h ∙ sym k) e d
  said_classes (of_java.OpenText place) f g (s, h, e) (t, k, d) = same_in source.number f g s t (h ∙ sym k) e d
  said_classes (of_java.BadEscape place) f g (s, h, e) (t, k, d) = same_in source.number f g s t (h ∙ sym k) e d
  said_classes (of_java.BadNumber place) f g (s, h, e) (t, k, d) = same_in source.number f g s t (h ∙ sym k) e d
  said_classes (of_java.Unsupported place text) f g (s, h, e) (t, k, d) = same_in source.number f g s t (h ∙ sym k) e d

  pub alike : (f g : Refusal) → Refuses source f → Refuses source g → AreAlike f g
  alike f g (reading.protocol a is o said) (reading.protocol b is' o' told) =
      said_protocol b f g (subst (λ (x : of_protocols.Answer). InFile source.number (IsSaidOfProtocol (IsIn source) x) f)
      (protocols_unique.one_outcome source.number source.bytes a b o o') said) told
  alike f g (reading.protocol a is o said) (reading.states b is' o' told) =
      ends_alike Scribble Typestates source is is' (λ e. differ 114 108 e (λ k. absurd (omega (arith, k))))
  alike f g (reading.protocol a is o said) (reading.classes b is' o' told) =
      ends_alike Scribble Java source is is' (λ e. differ 114 97 e (λ k. absurd (omega (arith, k))))
  alike f g (reading.states a is o said) (reading.protocol b is' o' told) =
      ends_alike Typestates Scribble source is is' (λ e. differ 108 114 e (λ k. absurd (omega (arith, k))))
  alike f g (reading.states a is o said) (reading.states b is' o' told) =
      said_states b f g (subst (λ (x : of_typestates.Answer). InFile source.number (IsSaidOfTypestate (IsIn source) x) f)
      (states_unique.one_outcome source.number source.bytes a b o o') said) told
  alike f g (reading.states a is o said) (reading.classes b is' o' told) =
      ends_alike Typestates Java source is is' (λ e. differ 108 97 e (λ k. absurd (omega (arith, k))))
  alike f g (reading.classes a is o said) (reading.protocol b is' o' told) =
      ends_alike Java Scribble source is is' (λ e. differ 97 114 e (λ k. absurd (omega (arith, k))))
  alike f g (reading.classes a is o said) (reading.states b is' o' told) =
      ends_alike Java Typestates source is is' (λ e. differ 97 108 e (λ k. absurd (omega (arith, k))))
  alike f g (reading.classes a is o said) (reading.classes b is' o' told) =
      said_classes b f g (subst (λ (x : of_java.Answer). InFile source.number (IsSaidOfJava (IsIn source) x) f)
      (classes_unique.one_outcome source.number source.bytes a b
      o o') said) told
