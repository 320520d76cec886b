-- The names of a package, as they are written.
use Rattle.std.proofs.Common.{◌≡◌, ℕ, List, [], ◌∷◌, ◌++◌, Bool, true, false, ◌&&◌, length, refl, sym, ap, ◌∙◌, subst, arith, eqb}
use Rattle.std.specs.List.{AllByRecursion, list_all, join_with_byte}
use Rattle.std.proofs.lemmas.List.{append-nil}
use Rattle.std.proofs.lemmas.List.Splits.{join_with_byte-slice_split, length-slice_split}
use Rattle.mg_text.specs.Call.{Name}
use Rattle.mg_read.specs.Passes.{AllPasses, StartsWith}
use Rattle.jv_tree.specs.declared.token.Sign.TheVariants as signs
use Rattle.jv_tree.specs.Tokens.{is_name}
use Rattle.jv_tree.specs.Files.{AreMoreSteps, IsPath}
use Rattle.jv_lex.specs.Letters.{is_word_start, is_word_byte}
use Rattle.jv_back.proofs.Told.{NoWord, Told, nothing, convert, mark_then, word_then, IsNamed, named}
use Rattle.jv_back.proofs.Parts.{on}
use Rattle.api_package.specs.Package.{begins_word, is_java_name, steps_of, IsPackage}

both : (a b : Bool) → (a && b) ≡ true → (a ≡ true) × (b ≡ true)
both true b e = (refl, e)
both false b e = absurd cc

all_pass : (p : ℕ → Bool) (bytes : List ℕ) → list_all p bytes ≡ true → AllPasses p bytes
all_pass p [] e = tt
all_pass p (c ∷ cs) e = let h = both (p c) (list_all p cs) e in (h.0, all_pass p cs h.1)

starts : (name : Name) → begins_word name ≡ true → StartsWith is_word_start name
starts [] e = absurd cc
starts (c ∷ cs) e = e

-- a name of Java is written as a word
java_named : (name : Name) → is_java_name name ≡ true → IsNamed name
java_named name e =
    let h = both (begins_word name) _ e in
    let k = both (list_all is_word_byte name) (is_name name) h.1 in
    record { name = k.1; starts = starts name h.0; bytes = all_pass is_word_byte name k.0 }

all_named : (names : List Name) → list_all is_java_name names ≡ true → AllByRecursion IsNamed names
all_named [] e = tt
all_named (n ∷ ns) e = let h = both (is_java_name n) (list_all is_java_name ns) e in (java_named n h.0, all_named ns h.1)

-- the names behind the first, each behind a dot
abbrev dotted : List Name → List ℕ
dotted [] = []
dotted (n ∷ ns) = 46 ∷ (n ++ dotted ns)

joined : (n : Name) (ns : List Name) → join_with_byte 46 (n ∷ ns) ≡ n ++ dotted ns
joined n [] = sym (append-nil n)
joined n (m ∷ ms) = ap (λ (z : List ℕ). n ++ 46 ∷ z) (joined m ms)

dots_follow : (ns : List Name) (bytes : List ℕ) → NoWord bytes → NoWord (dotted ns ++ bytes)
dots_follow [] bytes h = h
dots_follow (n ∷ ns) bytes h = refl

more_steps : (ns : List Name) → AllByRecursion IsNamed ns → Told NoWord (AreMoreSteps ns) (dotted ns)
more_steps [] w = nothing
more_steps (n ∷ ns) w =
    convert (λ ts (a, t1, e1, (b, t2, e2, are)). (w.0.name, a, b, t2, e1 ∙ on e2, are))
    (mark_then signs.Dot refl (λ c. refl) (word_then n (named n w.0) (dots_follow ns) (more_steps ns w.1)))

path_of : (names : List Name) → (length names ≡ 0 → ⊥) → AllByRecursion IsNamed names → Told NoWord IsPath (join_with_byte 46 names)
path_of [] some w = absurd (some refl)
path_of (n ∷ ns) some w =
    subst (Told NoWord IsPath) (sym (joined n ns))
    (convert (λ ts (a, us, e, are). (n, ns, w.0.name, a, us, e, are)) (word_then n (named n w.0) (dots_follow ns) (more_steps ns w.1)))

-- a word that names a package is a path
pub path_told : (word : Name) → IsPackage word → Told NoWord IsPath word
path_told word is =
    subst (Told NoWord IsPath) (join_with_byte-slice_split 46 word)
    (path_of (steps_of word) (λ none. omega (arith, none, length-slice_split (λ b. eqb b 46) word)) (all_named (steps_of word) is))
